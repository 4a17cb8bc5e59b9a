-- Where a line stops fitting any form, from where its reading stopped.
use Rattle.std.proofs.Common.{◌≡◌, ℕ, ◌+◌, ◌-◌, ◌<◌, List, [], ◌∷◌, ◌++◌, length, take, drop, sym, refl, ap, ◌∙◌, subst, append_assoc, append-nil, arith, length-append, take-append-drop}
use mathlib.Core.List.{append_cancel_left}
use Rattle.std.proofs.lemmas.List.{take-append-le, take_at}
use Rattle.sheet.specs.declared.form.LinkForm.{LinkForm}
use Rattle.sheet.specs.Form.{Typed, text, WrittenFor, FitsSome, StopsFitting}
use Rattle.sheet.specs.Language.{Stops, StopsAt}
use Rattle.sheet.specs.Reading.{SomeOf, FormText}
use Rattle.sheet.proofs.Forms.{Taken, form_distinct}

-- no form's text goes on with the next octet
abbrev NoneAhead : List ℕ → List ℕ → Type 0
NoneAhead fit [] = Unit {0}
NoneAhead fit (x ∷ at) = (g : LinkForm) → Typed g → (z : List ℕ) → text g ≡ fit ++ (x ∷ z) → ⊥

here_fits_none : (fit at : List ℕ) → NoneAhead fit at → length fit < length (fit ++ at) → FitsSome (take (length fit + 1) (fit ++ at)) → ⊥
here_fits_none fit [] none h s = omega (arith, length-append fit [])
here_fits_none fit (x ∷ at) none h s =
    let one : length (fit ++ (x ∷ [])) ≡ length fit + 1 = length-append fit (x ∷ []) in
    let front : take (length fit + 1) (fit ++ (x ∷ at)) ≡ fit ++ (x ∷ []) = ap (take (length fit + 1)) (sym (append_assoc fit (x ∷ []) at)) ∙ take_at (fit ++ (x ∷ [])) at (length fit + 1) one in
    none s.form s.typed s.rest (s.begins ∙ (ap (λ u. u ++ s.rest) front ∙ append_assoc fit (x ∷ []) s.rest))

before_fits : (fit at rest : List ℕ) (f : LinkForm) → Typed f → text f ≡ fit ++ rest → (i : ℕ) → i < length fit → FitsSome (take (i + 1) (fit ++ at))
before_fits fit at rest f typed e i h = record {
  form = f;
  typed = typed;
  rest = drop (i + 1) fit ++ rest;
  begins = e ∙ (ap (λ u. u ++ rest) (sym (take-append-drop (i + 1) fit)) ∙ (append_assoc (take (i + 1) fit) (drop (i + 1) fit) rest ∙ ap (λ u. u ++ (drop (i + 1) fit ++ rest)) (sym (take-append-le (i + 1) fit at (omega arith)))));
}

-- the line is `fit` and then `at`; some form's text begins with `fit`, none goes on as the line does, and none is the line
stops_fitting : (line fit at rest : List ℕ) (f : LinkForm) → line ≡ fit ++ at → Typed f → text f ≡ fit ++ rest → NoneAhead fit at → ((g : LinkForm) → WrittenFor line g → ⊥)
    → StopsFitting line (length line - length at)
stops_fitting line fit at rest f e typed begins none unwritten =
    let long : length line ≡ length fit + length at = ap length e ∙ length-append fit at in
    let place : length fit ≡ length line - length at = omega arith in
    let P : ℕ → Type 0 = StopsFitting line in
    let Q : List ℕ → Type 0 = λ l. ((i : ℕ) → i < length fit → FitsSome (take (i + 1) l)) × (length fit < length l → FitsSome (take (length fit + 1) l) → ⊥) in
    let q : Q line = subst Q (sym e) (before_fits fit at rest f typed begins, here_fits_none fit at none) in
    subst P place (record { within = omega arith; before = q.0; here = q.1; unwritten = unwritten })

-- reading a form stopped
pub stopped_misfit : (line at : List ℕ) → StopsAt (SomeOf FormText) line at → StopsFitting line (length line - length at)
stopped_misfit line at s =
    stops_fitting line s.fit at s.rest s.begins.0 s.cut s.begins.1.0 (sym s.begins.1.1) (ahead at s.stops) (λ g w. whole at s.cut s.stops g w)
  where
    ahead : (u : List ℕ) → Stops (SomeOf FormText) s.fit u → NoneAhead s.fit u
    ahead [] st = tt
    ahead (x ∷ u) st = λ g typed z e. st (text g) [] z (g, (typed, refl)) (append-nil (text g) ∙ e)

    whole : (u : List ℕ) → line ≡ s.fit ++ u → Stops (SomeOf FormText) s.fit u → (g : LinkForm) → WrittenFor line g → ⊥
    whole [] e st g w = st (text g) [] (g, (w.typed, refl)) (append-nil (text g) ∙ (sym w.same ∙ (e ∙ append-nil s.fit)))
    whole (x ∷ u) e st g w = st (text g) [] u (g, (w.typed, refl)) (append-nil (text g) ∙ (sym w.same ∙ e))

-- a form was read, and the line goes on
pub longer_misfit : (line rest : List ℕ) (f : LinkForm) → Taken FormText f line rest → (length rest ≡ 0 → ⊥) → StopsFitting line (length line - length rest)
longer_misfit line rest f p more =
    let e : line ≡ text f ++ rest = p.2 ∙ ap (λ u. u ++ rest) p.1.1 in
    stops_fitting line (text f) rest [] f e p.1.0 (sym (append-nil (text f))) (ahead rest)
    (λ g w. longer g w.typed rest (λ n. more (ap length n)) (sym w.same ∙ e))
  where
    longer : (g : LinkForm) → Typed g → (z : List ℕ) → (z ≡ [] → ⊥) → text g ≡ text f ++ z → ⊥
    longer g typed z some e =
        let same : text g ≡ text f = form_distinct (text g) (text f) [] z (g, (typed, refl)) (f, (p.1.0, refl)) (append-nil (text g) ∙ e) in
        some (append_cancel_left (text f) z [] (sym e ∙ (same ∙ sym (append-nil (text f)))))

    ahead : (u : List ℕ) → NoneAhead (text f) u
    ahead [] = tt
    ahead (x ∷ u) = λ g typed z e. longer g typed (x ∷ z) (λ n. let c : ◌≡◌ {A = ℕ} 0 1 = cc in omega arith) e

-- a form was read, and the line is at its end
pub exact_written : (line rest : List ℕ) (f : LinkForm) → Taken FormText f line rest → length rest ≡ 0 → WrittenFor line f
exact_written line [] f p none = record { typed = p.1.0; same = p.2 ∙ (append-nil p.0 ∙ p.1.1) }
exact_written line (x ∷ rest) f p none = absurd (omega arith)
