-- The steps of the loop that multiplies the locator polynomial together, and of the one that makes the evaluator polynomial.
use Rattle.std.proofs.Common.{◌≡◌, ℕ, zero, suc, ◌+◌, ◌<◌, ◌≤◌, Bool, true, false, List, [], ◌∷◌, length, get_or, drop, replicate, sym, refl, ap, ◌∙◌, subst, ap₂, inl, inr, add-one, arith, lit<}
use Rattle.std.proofs.lemmas.List.{ext_get_or, get_or_past, length-drop}
use Rattle.std.proofs.lemmas.Bool.{cases_lt}
use Rattle.octets.specs.Words.{word_length, max_reach}
use Rattle.rs16.specs.Field.{◌⊕◌, ◌⊗◌}
use Rattle.rs16.specs.Mending.{locator, chosen, evaluator}
use Rattle.rs16.specs.Polynomials.{apply, mul_linear, from_roots}
use Rattle.rs16.proofs.Chosen.{chosen_none, chosen_yes, chosen_no, chosen_grows}
use Rattle.rs16.specs.PolynomialsLemmas.{length_roots, mul-zero, zero-add}
use Rattle.rs16.specs.Remainders.{get_or_zeros}
use Rattle.rs16.proofs.Quotients.{Alike, evaluator_at, evaluator_length, mul_linear_first, mul_linear_at}

-- ---- the locator polynomial

one_alike : Alike (1 ∷ replicate 16 0) (1 ∷ [])
one_alike zero = refl
one_alike (suc k) = get_or_zeros 16 k

from_none : from_roots [] ≡ 1 ∷ []
unfolding from_roots
from_none = refl

from_more : (x : ℕ) (xs : List ℕ) → from_roots (x ∷ xs) ≡ mul_linear x (from_roots xs)
unfolding from_roots
from_more x xs = refl

pub product_none : (test : ℕ → Bool) → Alike (1 ∷ replicate 16 0) (from_roots (chosen test 0))
product_none test = subst (Alike (1 ∷ replicate 16 0)) (sym (ap from_roots (chosen_none test) ∙ from_none)) one_alike

-- r is p times z + x
abbrev pub Times : List ℕ → ℕ → List ℕ → Type 0
Times p x r = (k : ℕ) → k < 17 → get_or r k 0 ≡ get_or (0 ∷ p) k 0 ⊕ x ⊗ get_or p k 0

-- one factor more, where there is room
times_alike : (p q r : List ℕ) (x : ℕ) → length p ≡ 17 → length r ≡ 17 → length q ≤ 16 → Alike p q → Times p x r → Alike r (mul_linear x q)
times_alike p q r x lp lr lq alike times zero = times 0 (lit< tt) ∙ zero-add (x ⊗ get_or p 0 0) ∙ ap (λ z. x ⊗ z) (alike 0) ∙ sym (mul_linear_first x q)
times_alike p q r x lp lr lq alike times (suc k) = elim (cases_lt k 16) [
  | inl lt ↦
      times (suc k) (omega arith) ∙ ap₂ (λ a b. a ⊕ x ⊗ b) (alike k) (alike (suc k)) ∙ sym (mul_linear_at x q k)
  | inr ge ↦
      get_or_past r (suc k) 0 (omega arith)
      ∙ sym (mul_linear_at x q k ∙ ap₂ (λ a b. a ⊕ x ⊗ b) (get_or_past q k 0 (omega arith)) (get_or_past q (suc k) 0 (omega arith)) ∙ mul-zero x)
]

pub product_more : (test : ℕ → Bool) (k : ℕ) (p r : List ℕ) (x : ℕ) → k < 255 → length (chosen test word_length) ≤ max_reach → test k ≡ true → x ≡ locator k
    → length p ≡ 17 → length r ≡ 17 → Alike p (from_roots (chosen test k)) → Times p x r → Alike r (from_roots (chosen test (k + 1)))
product_more test k p r x lk few there is lp lr alike times =
    let zs : List ℕ = chosen test k in
    let next : chosen test (k + 1) ≡ locator k ∷ chosen test k = chosen_yes test k there in
    let room : length (from_roots (chosen test k)) ≤ 16 =
    omega (arith, length_roots (chosen test k), ap length next, chosen_grows test (k + 1) 255 (omega arith)) in
    subst (Alike r) (ap (λ z. mul_linear z (from_roots zs)) is ∙ sym (from_more (locator k) zs) ∙ ap from_roots (sym next))
    (times_alike p (from_roots zs) r x lp lr room alike times)

pub product_same : (test : ℕ → Bool) (k : ℕ) (p : List ℕ) → test k ≡ false → Alike p (from_roots (chosen test k)) → Alike p (from_roots (chosen test (k + 1)))
product_same test k p gone alike = subst (λ zs. Alike p (from_roots zs)) (sym (chosen_no test k gone)) alike

-- ---- the evaluator polynomial

drop_one_more : (p : List ℕ) (j : ℕ) → drop j (drop 1 p) ≡ drop (j + 1) p
drop_one_more p j = sym (ap (λ n. drop n p) (add-one j) ∙ cut p j)
  where
    cut : (p : List ℕ) (j : ℕ) → drop (suc j) p ≡ drop j (drop 1 p)
    cut [] zero = refl
    cut [] (suc j) = refl
    cut (c ∷ p) j = refl

pub evaluator_all : (p s o : List ℕ) → length p ≡ 17 → length o ≡ 16
    → ((j : ℕ) → j < 16 → get_or o j 0 ≡ apply (drop (j + 1) p) (λ m. get_or s m 0)) → o ≡ evaluator (drop 1 p) s
evaluator_all p s o lp lo h =
    let rest : length (drop 1 p) ≡ 16 = omega (arith, length-drop 1 p) in
    ext_get_or 0 o (evaluator (drop 1 p) s) (lo ∙ sym (evaluator_length (drop 1 p) s ∙ rest)) (λ j l.
    h j (omega arith)
    ∙ ap (λ q. apply q (λ m. get_or s m 0)) (sym (drop_one_more p j))
    ∙ sym (evaluator_at (drop 1 p) s j (omega arith)))
