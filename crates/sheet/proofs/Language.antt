-- Reading one part after another: where the whole stops, from where its parts do.
use Rattle.std.proofs.Common.{◌≡◌, ℕ, List, [], ◌∷◌, ◌++◌, sym, refl, ap, ◌∙◌, append_assoc}
use mathlib.Core.List.{append_cancel_left}
use Rattle.sheet.specs.Language.{Texts, Just, Then, Stops, StopsAt, Distinct}

-- one text stands for one text
pub just_distinct : (w : List ℕ) → Distinct (Just w)
just_distinct w a b y z p q e = p ∙ sym q

pub then_distinct : (L K : Texts) → Distinct L → Distinct K → Distinct (Then L K)
then_distinct L K dl dk a b y z p q e =
    let joined : p.first ++ (p.second ++ y) ≡ q.first ++ (q.second ++ z) = sym (append_assoc p.first p.second y) ∙ (sym (ap (λ t. t ++ y) p.cut) ∙ (e ∙ (ap (λ t. t ++ z) q.cut ∙ append_assoc q.first q.second z))) in
    let same : p.first ≡ q.first = dl p.first q.first (p.second ++ y) (q.second ++ z) p.of_first q.of_first joined in
    let rest : p.second ++ y ≡ q.second ++ z = append_cancel_left q.first (p.second ++ y) (q.second ++ z) (sym (ap (λ t. t ++ (p.second ++ y)) same) ∙ joined) in
    p.cut ∙ (ap (λ t. t ++ p.second) same ∙ (ap (λ t. q.first ++ t) (dk p.second q.second y z p.of_second q.of_second rest) ∙ sym q.cut))

-- sets with the same texts stop alike
pub stops_alike : (L K : Texts) → ((t : List ℕ) → K t → L t) → (fit at : List ℕ) → Stops L fit at → Stops K fit at
stops_alike L K into fit [] s = λ t more k e. s t more (into t k) e
stops_alike L K into fit (x ∷ at) s = λ t more after k e. s t more after (into t k) e

pub stops_at_alike : (L K : Texts) → ((t : List ℕ) → L t → K t) → ((t : List ℕ) → K t → L t) → (line at : List ℕ) → StopsAt L line at → StopsAt K line at
stops_at_alike L K out into line at s = record {
  fit = s.fit;
  cut = s.cut;
  rest = s.rest;
  begins = out (s.fit ++ s.rest) s.begins;
  stops = stops_alike L K into s.fit at s.stops;
}

-- Where the first part stops, the whole stops.
pub stops_first : (L K : Texts) (fit at : List ℕ) → Stops L fit at → Stops (Then L K) fit at
stops_first L K fit [] s = λ t more p e.
    s p.first (p.second ++ more) p.of_first (sym (append_assoc p.first p.second more) ∙ (sym (ap (λ u. u ++ more) p.cut) ∙ e))
stops_first L K fit (x ∷ at) s = λ t more after p e.
    s p.first (p.second ++ more) after p.of_first (sym (append_assoc p.first p.second more) ∙ (sym (ap (λ u. u ++ more) p.cut) ∙ e))

pub stops_at_in_first : (L K : Texts) (k : List ℕ) → K k → (line at : List ℕ) → StopsAt L line at → StopsAt (Then L K) line at
stops_at_in_first L K k some line at s = record {
  fit = s.fit;
  cut = s.cut;
  rest = s.rest ++ k;
  begins = record { first = s.fit ++ s.rest; second = k; cut = sym (append_assoc s.fit s.rest k); of_first = s.begins; of_second = some };
  stops = stops_first L K s.fit at s.stops;
}

-- Where the first part is read and the second stops, the whole stops.
pub stops_second : (L K : Texts) → Distinct L → (a fit at : List ℕ) → L a → Stops K fit at → Stops (Then L K) (a ++ fit) at
stops_second L K d a fit [] l s = λ t more p e.
    let joined : p.first ++ (p.second ++ more) ≡ a ++ fit = sym (append_assoc p.first p.second more) ∙ (sym (ap (λ u. u ++ more) p.cut) ∙ e) in
    let same : p.first ≡ a = d p.first a (p.second ++ more) fit p.of_first l joined in
    s p.second more p.of_second (append_cancel_left a (p.second ++ more) fit (sym (ap (λ u. u ++ (p.second ++ more)) same) ∙ joined))
stops_second L K d a fit (x ∷ at) l s = λ t more after p e.
    let joined : p.first ++ (p.second ++ more) ≡ a ++ (fit ++ (x ∷ after)) = sym (append_assoc p.first p.second more) ∙ (sym (ap (λ u. u ++ more) p.cut) ∙ (e ∙ append_assoc a fit (x ∷ after))) in
    let same : p.first ≡ a = d p.first a (p.second ++ more) (fit ++ (x ∷ after)) p.of_first l joined in
    s p.second more after p.of_second (append_cancel_left a (p.second ++ more) (fit ++ (x ∷ after)) (sym (ap (λ u. u ++ (p.second ++ more)) same) ∙ joined))

pub stops_at_in_second : (L K : Texts) → Distinct L → (line a rest at : List ℕ) → line ≡ a ++ rest → L a → StopsAt K rest at → StopsAt (Then L K) line at
stops_at_in_second L K d line a rest at e l s = record {
  fit = a ++ s.fit;
  cut = e ∙ (ap (λ u. a ++ u) s.cut ∙ sym (append_assoc a s.fit at));
  rest = s.rest;
  begins = record { first = a; second = s.fit ++ s.rest; cut = append_assoc a s.fit s.rest; of_first = l; of_second = s.begins };
  stops = stops_second L K d a s.fit at l s.stops;
}

-- a text of K behind a fixed beginning
abbrev pub Behind : List ℕ → Texts → Texts
Behind a K t = (k : List ℕ) × (t ≡ a ++ k) × K k

then_behind : (a : List ℕ) (K : Texts) (t : List ℕ) → Then (Just a) K t → Behind a K t
then_behind a K t p = (p.second, p.cut ∙ ap (λ u. u ++ p.second) p.of_first, p.of_second)

behind_then : (a : List ℕ) (K : Texts) (t : List ℕ) → Behind a K t → Then (Just a) K t
behind_then a K t p = record { first = a; second = p.0; cut = p.1; of_first = refl; of_second = p.2 }

-- the beginning is read and what comes behind it stops
pub behind_stops : (a : List ℕ) (K : Texts) (line rest at : List ℕ) → line ≡ a ++ rest → StopsAt K rest at → StopsAt (Behind a K) line at
behind_stops a K line rest at e s =
    stops_at_alike (Then (Just a) K) (Behind a K) (then_behind a K) (behind_then a K) line at (stops_at_in_second (Just a) K (just_distinct a) line a rest at e refl s)

-- reading stops inside the beginning
pub beginning_stops : (a : List ℕ) (K : Texts) (k : List ℕ) → K k → (line at : List ℕ) → StopsAt (Just a) line at → StopsAt (Behind a K) line at
beginning_stops a K k some line at s =
    stops_at_alike (Then (Just a) K) (Behind a K) (then_behind a K) (behind_then a K) line at (stops_at_in_first (Just a) K k some line at s)

pub behind_distinct : (a : List ℕ) (K : Texts) → Distinct K → Distinct (Behind a K)
behind_distinct a K d s t y z p q e = then_distinct (Just a) K (just_distinct a) d s t y z (behind_then a K s p) (behind_then a K t q) e
