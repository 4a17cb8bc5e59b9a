-- Where two words differ, as pairs of a locator and a weight: their power sums are the words' syndromes added. Hence the distance.
use Rattle.std.specs.Prelude.{◌≡◌, ℕ, suc, ◌+◌, ◌<◌, ◌≤◌, cond, List, [], ◌∷◌, length, ◌==◌, ◌≢◌, refl}
use Rattle.std.proofs.Common.{ap, ap₂, sym, ◌∙◌, subst, inl, inr, le_refl, suc-ne-zero, arith}
use Rattle.std.proofs.Math.Nat.{suc_inj}
use Rattle.std.specs.List.{AllByRecursion}
use Rattle.std.proofs.ByRecursion.{All-from_get_or, All-weaker}
use Rattle.std.proofs.lemmas.Bool.{cond_both, cases_lt, eqb-true, eqb-false}
use Rattle.octets.specs.Octets.{Octets, altered, differs}
use Rattle.octets.specs.Words.{word_length}
use Rattle.octets.proofs.Counting.{count_zero}
use Rattle.octets.proofs.Octets.{altered_cons, equal_from_altered}
use Rattle.rs16.specs.Field.{◌⊕◌, ◌⊗◌, IsOctet, pow}
use Rattle.rs16.specs.DualBasis.{element}
use Rattle.rs16.specs.Codewords.{value, root, syndrome, Codeword}
use Rattle.rs16.specs.Mending.{locator}
use Rattle.rs16.specs.Arithmetic.{interchange}
use Rattle.rs16.specs.DualBasisLemmas.{element_octet, same_octet}
use Rattle.rs16.specs.Locators.{locator_distinct, locator_octet, weight, weight_octet, weight_not_zero, weight_zero, weight_in_syndrome}
use Rattle.rs16.specs.PolynomialsLemmas.{add_self, add-mul, zero-mul, octet_add, power_sum, Distinct, places, vandermonde}

-- a test for equal numbers, by its two ways
pub by_eq : {X : Type 0} (a b : ℕ) (x y : X) (P : X → Type 0) → (a ≡ b → P x) → ((a ≢ b) → P y) → P (cond (a == b) x y)
by_eq a b x y P f g = cond_both (a == b) x y P (λ e. f (eqb-true a b e)) (λ e. g (eqb-false a b e))

-- what sets two octets apart, at power k: the locator there, and the weight of the difference
abbrev pub gap : ℕ → ℕ → ℕ → ℕ × ℕ
gap k x y = (locator k, weight k (element x ⊕ element y))

-- what sets two words apart, octet by octet
unfoldable pub gaps : List ℕ → List ℕ → List (ℕ × ℕ)
gaps [] b = []
gaps (x ∷ a) [] = []
gaps (x ∷ a) (y ∷ b) = gap (length a) x y ∷ gaps a b

-- the same, only where they differ
unfoldable pub alterations : List ℕ → List ℕ → List (ℕ × ℕ)
alterations [] b = []
alterations (x ∷ a) [] = []
alterations (x ∷ a) (y ∷ b) = cond (x == y) (alterations a b) (gap (length a) x y ∷ alterations a b)

pub gaps_sum : (a b : List ℕ) (m : ℕ) → length a ≡ length b → power_sum (gaps a b) m ≡ syndrome a m ⊕ syndrome b m
unfolding gaps syndrome value power_sum
gaps_sum [] [] m h = refl
gaps_sum [] (y ∷ b) m h = absurd (suc-ne-zero (length b) (sym h))
gaps_sum (x ∷ a) [] m h = absurd (suc-ne-zero (length a) h)
gaps_sum (x ∷ a) (y ∷ b) m h =
    ap₂ ◌⊕◌
    (sym (weight_in_syndrome (length a) (element x ⊕ element y) m) ∙ add-mul (element x) (element y) (pow (root m) (length a))
    ∙ ap (λ n. element x ⊗ pow (root m) (length a) ⊕ element y ⊗ pow (root m) n) (suc_inj h))
    (gaps_sum a b m (suc_inj h))
    ∙ interchange (element x ⊗ pow (root m) (length a)) (element y ⊗ pow (root m) (length b)) (value a (root m)) (value b (root m))

gap_zero : (k x y : ℕ) → x ≡ y → weight k (element x ⊕ element y) ≡ 0
gap_zero k x y e = ap (λ z. weight k (element z ⊕ element y)) e ∙ ap (weight k) (add_self (element y)) ∙ weight_zero k

-- octets that are equal add nothing to a power sum
pub alterations_sum : (a b : List ℕ) (m : ℕ) → power_sum (alterations a b) m ≡ power_sum (gaps a b) m
unfolding gaps alterations power_sum
alterations_sum [] b m = refl
alterations_sum (x ∷ a) [] m = refl
alterations_sum (x ∷ a) (y ∷ b) m =
    by_eq x y (alterations a b) (gap (length a) x y ∷ alterations a b)
    (λ ts. power_sum ts m ≡ weight (length a) (element x ⊕ element y) ⊗ pow (locator (length a)) m ⊕ power_sum (gaps a b) m)
    (λ e. alterations_sum a b m ∙ sym (ap (λ z. z ⊗ pow (locator (length a)) m ⊕ power_sum (gaps a b) m) (gap_zero (length a) x y e)
    ∙ ap (λ z. z ⊕ power_sum (gaps a b) m) (zero-mul (pow (locator (length a)) m))))
    (λ n. ap (λ z. weight (length a) (element x ⊕ element y) ⊗ pow (locator (length a)) m ⊕ z) (alterations_sum a b m))

-- there are as many as places that differ
pub alterations_length : (a b : List ℕ) → length a ≡ length b → length (alterations a b) ≡ altered (length a) a b
unfolding alterations
alterations_length [] [] h = sym (count_zero (differs [] []))
alterations_length [] (y ∷ b) h = absurd (suc-ne-zero (length b) (sym h))
alterations_length (x ∷ a) [] h = absurd (suc-ne-zero (length a) h)
alterations_length (x ∷ a) (y ∷ b) h =
    let rest : length (alterations a b) ≡ altered (length a) a b = alterations_length a b (suc_inj h) in
    cond_both (x == y) 0 1 (λ n. length (cond (x == y) (alterations a b) (gap (length a) x y ∷ alterations a b)) ≡ n + altered (length a) a b)
    (λ e. rw e (omega arith)) (λ e. rw e (omega arith))
    ∙ sym (altered_cons (length a) x y a b)

-- each is a locator of a power below n
abbrev pub Under : ℕ → List ℕ → Type 0
Under n xs = AllByRecursion (λ y. (k : ℕ) × (k < n) × (y ≡ locator k)) xs

pub under_more : (n : ℕ) (xs : List ℕ) → Under n xs → Under (suc n) xs
under_more n [] h = tt
under_more n (x ∷ xs) h = ((h.0.0, omega arith, h.0.2), under_more n xs h.1)

pub under_octets : (n : ℕ) (xs : List ℕ) → Under n xs → AllByRecursion IsOctet xs
under_octets n [] h = tt
under_octets n (x ∷ xs) h = (subst IsOctet (sym h.0.2) (locator_octet h.0.0), under_octets n xs h.1)

pub under_apart : (n : ℕ) → n < 255 → (xs : List ℕ) → Under n xs → AllByRecursion (λ y. ¬ (y ≡ locator n)) xs
under_apart n l [] h = tt
under_apart n l (x ∷ xs) h =
    let k : ℕ = h.0.0 in
    let low : k < n = h.0.1 in
    ((λ e. let same : k ≡ n = locator_distinct k n (omega arith) l (sym h.0.2 ∙ e) in omega arith), under_apart n l xs h.1)

alterations_under : (a b : List ℕ) → Under (length a) (places (alterations a b))
unfolding alterations
alterations_under [] b = tt
alterations_under (x ∷ a) [] = tt
alterations_under (x ∷ a) (y ∷ b) =
    by_eq x y (alterations a b) (gap (length a) x y ∷ alterations a b) (λ ts. Under (suc (length a)) (places ts))
    (λ e. under_more (length a) (places (alterations a b)) (alterations_under a b))
    (λ n. ((length a, le_refl (suc (length a)), refl), under_more (length a) (places (alterations a b)) (alterations_under a b)))

pub alterations_octets : (a b : List ℕ) → AllByRecursion IsOctet (places (alterations a b))
alterations_octets a b = under_octets (length a) (places (alterations a b)) (alterations_under a b)

pub alterations_distinct : (a b : List ℕ) → length a ≤ 255 → Distinct (places (alterations a b))
unfolding alterations
alterations_distinct [] b l = tt
alterations_distinct (x ∷ a) [] l = tt
alterations_distinct (x ∷ a) (y ∷ b) l =
    let short : length a ≤ 255 = omega arith in
    by_eq x y (alterations a b) (gap (length a) x y ∷ alterations a b) (λ ts. Distinct (places ts))
    (λ e. alterations_distinct a b short)
    (λ n. (under_apart (length a) l (places (alterations a b)) (alterations_under a b), alterations_distinct a b short))

-- a weight other than 0
abbrev pub Weighty : ℕ × ℕ → Type 0
Weighty t = IsOctet t.1 × ¬ (t.1 ≡ 0)

pub alterations_weighty : (a b : List ℕ) → AllByRecursion IsOctet a → AllByRecursion IsOctet b → AllByRecursion Weighty (alterations a b)
unfolding alterations
alterations_weighty [] b ha hb = tt
alterations_weighty (x ∷ a) [] ha hb = tt
alterations_weighty (x ∷ a) (y ∷ b) ha hb =
    by_eq x y (alterations a b) (gap (length a) x y ∷ alterations a b) (λ ts. AllByRecursion Weighty ts)
    (λ e. alterations_weighty a b ha.1 hb.1)
    (λ n. (
      (
        weight_octet (length a) (element x ⊕ element y),
        weight_not_zero (length a) (element x ⊕ element y) (octet_add (element x) (element y) (element_octet x) (element_octet y))
            (λ e. n (same_octet x y ha.0 hb.0 e)),
      ),
      alterations_weighty a b ha.1 hb.1,
    ))

-- ---- distance

pub all_octets : (n : ℕ) (xs : List ℕ) → Octets n xs → AllByRecursion IsOctet xs
all_octets n xs h = All-from_get_or IsOctet xs 0 (λ j l. h.octet j (omega (arith, h.size)))

none_left : (ts : List (ℕ × ℕ)) → AllByRecursion Weighty ts → AllByRecursion (λ t. t.1 ≡ 0) ts → length ts ≡ 0
none_left [] h z = refl
none_left (t ∷ ts) h z = absurd (h.0.1 z.0)

-- codewords that differ in at most 32 places are one
pub near_codewords : (a b : List ℕ) → Codeword a → Codeword b → altered word_length a b ≤ 32 → a ≡ b
near_codewords a b ca cb h =
    let la : length a ≡ word_length = ca.octets.size in
    let lb : length b ≡ word_length = cb.octets.size in
    let ts : List (ℕ × ℕ) = alterations a b in
    let ws : AllByRecursion Weighty (alterations a b) = alterations_weighty a b (all_octets word_length a ca.octets) (all_octets word_length b cb.octets) in
    let count : length (alterations a b) ≡ altered word_length a b = alterations_length a b (la ∙ sym lb) ∙ ap (λ n. altered n a b) la in
    equal_from_altered word_length a b la lb
    (sym count ∙ none_left (alterations a b) ws
    (vandermonde (alterations a b) (All-weaker Weighty (λ t. IsOctet t.1) (λ t w. w.0) (alterations a b) ws)
    (alterations_octets a b) (alterations_distinct a b (omega arith))
    (λ m l. let low : m < 32 = omega arith in
    alterations_sum a b m ∙ gaps_sum a b m (la ∙ sym lb) ∙ ap₂ ◌⊕◌ (ca.zeros m low) (cb.zeros m low))))

pub distance_33 : (a b : List ℕ) → Codeword a → Codeword b → (a ≢ b) → 33 ≤ altered word_length a b
distance_33 a b ca cb n = elim (cases_lt (altered word_length a b) 33) [
  | inl near ↦ absurd (n (near_codewords a b ca cb (omega arith)))
  | inr far ↦ far
]
