-- A polynomial divided by one of its linear factors: what the evaluator polynomial gives, and that a product's roots are simple.
use Rattle.std.proofs.Common.{◌≡◌, ℕ, zero, suc, ◌+◌, ◌<◌, List, [], ◌∷◌, length, get_or, drop, sym, refl, ap, ◌∙◌, subst, ap₂, inl, inr, arith}
use Rattle.std.specs.List.{AllByRecursion}
use Rattle.std.proofs.lemmas.List.{get_or-drop}
use Rattle.rs16.specs.Field.{◌⊕◌, ◌⊗◌, IsOctet}
use Rattle.rs16.specs.Polynomials.{eval, apply, carry, mul_linear, from_roots, horner, slope}
use Rattle.rs16.specs.Mending.{evaluator}
use Rattle.rs16.specs.Locators.{mul_not_zero}
use Rattle.rs16.specs.PolynomialsLemmas.{ring, Member, Distinct, add_assoc, add_self, add-zero, mul-zero, zero-mul, octet_add, octet_mul, octet_zero, octet_one, octet_eval, octets_horner, eval_carry, at_root, off_roots, apart, difference}

-- ---- the evaluator polynomial

regroup : (c x e s a b : ℕ) → c ⊗ s ⊕ (a ⊕ x ⊗ b) ≡ ((c ⊕ x ⊗ e) ⊗ s ⊕ a) ⊕ x ⊗ (e ⊗ s ⊕ b)
regroup c x e s a b = simp ring

-- a polynomial is what it becomes divided by z + x, times z + x
apply_horner : (x c : ℕ) (p : List ℕ) (S : ℕ → ℕ) → apply (c ∷ p) S ≡ apply (horner x (c ∷ p)) S ⊕ x ⊗ apply (horner x p) S
unfolding apply horner eval
apply_horner x c [] S = simp ring
apply_horner x c (d ∷ p) S =
    ap (λ z. c ⊗ S 0 ⊕ z) (apply_horner x d p (λ m. S (suc m)))
    ∙ regroup c x (eval (d ∷ p) x) (S 0) (apply (horner x (d ∷ p)) (λ m. S (suc m))) (apply (horner x p) (λ m. S (suc m)))

twice : (a b : ℕ) → (a ⊕ b) ⊕ b ≡ a
twice a b = add_assoc a b b ∙ ap (λ z. a ⊕ z) (add_self b) ∙ add-zero a

apply_none : (x : ℕ) (S : ℕ → ℕ) → apply (horner x []) S ≡ 0
unfolding apply horner
apply_none x S = refl

-- the evaluator's value at x is what p divided by z + x gives on the syndromes
pub evaluator_value : (p s : List ℕ) (x : ℕ) → eval (evaluator p s) x ≡ apply (horner x p) (λ m. get_or s m 0)
unfolding evaluator eval
evaluator_value [] s x = sym (apply_none x (λ m. get_or s m 0))
evaluator_value (c ∷ p) s x =
    let S : ℕ → ℕ = λ m. get_or s m 0 in
    ap (λ z. apply (c ∷ p) S ⊕ x ⊗ z) (evaluator_value p s x)
    ∙ ap (λ z. z ⊕ x ⊗ apply (horner x p) S) (apply_horner x c p S)
    ∙ twice (apply (horner x (c ∷ p)) S) (x ⊗ apply (horner x p) S)

pub evaluator_at : (p s : List ℕ) (j : ℕ) → j < length p → get_or (evaluator p s) j 0 ≡ apply (drop j p) (λ m. get_or s m 0)
unfolding evaluator
evaluator_at [] s j l = absurd (let none : j < 0 = l in omega arith)
evaluator_at (c ∷ p) s zero l = refl
evaluator_at (c ∷ p) s (suc j) l = evaluator_at p s j (let more : suc j < suc (length p) = l in omega arith)

pub evaluator_length : (p s : List ℕ) → length (evaluator p s) ≡ length p
unfolding evaluator
evaluator_length [] s = refl
evaluator_length (c ∷ p) s = ap suc (evaluator_length p s)

-- ---- a product's roots are simple

expand : (d e x y z p h : ℕ)
    → (d ⊕ z ⊗ e ⊕ x ⊗ (e ⊕ (x ⊕ z) ⊗ p)) ⊕ y ⊗ ((y ⊕ z) ⊗ h ⊕ (e ⊕ x ⊗ p)) ≡ (y ⊕ z) ⊗ (e ⊕ x ⊗ p ⊕ y ⊗ h) ⊕ (d ⊕ x ⊗ (e ⊕ x ⊗ p))
expand d e x y z p h = simp ring

-- d + (t + z) p, divided by t + x
horner_carry : (x z d : ℕ) (p : List ℕ) (y : ℕ) → eval (horner x (carry z d p)) y ≡ (y ⊕ z) ⊗ eval (horner x p) y ⊕ eval (d ∷ p) x
unfolding carry horner eval
horner_carry x z d [] y = simp ring
horner_carry x z d (e ∷ p) y =
    ap₂ (λ a b. (d ⊕ z ⊗ e ⊕ x ⊗ a) ⊕ y ⊗ b) (eval_carry z e p x) (horner_carry x z e p y)
    ∙ expand d e x y z (eval p x) (eval (horner x p) y)

no_slope : (z x : ℕ) → eval (horner x []) x ≡ (x ⊕ z) ⊗ eval (horner x []) x ⊕ eval [] x
unfolding horner eval
no_slope z x = sym (ap (λ a. a ⊕ 0) (mul-zero (x ⊕ z)))

slope_mul : (z : ℕ) (p : List ℕ) (x : ℕ) → slope (mul_linear z p) x ≡ (x ⊕ z) ⊗ slope p x ⊕ eval p x
unfolding mul_linear carry
slope_mul z [] x = no_slope z x
slope_mul z (d ∷ p) x = horner_carry x z d p x

octets_carry : (x c : ℕ) (p : List ℕ) → IsOctet c → AllByRecursion IsOctet p → AllByRecursion IsOctet (carry x c p)
unfolding carry
octets_carry x c [] hc hp = (hc, tt)
octets_carry x c (d ∷ p) hc hp = (octet_add c (x ⊗ d) hc (octet_mul x d), octets_carry x d p hp.0 hp.1)

pub octets_from_roots : (zs : List ℕ) → AllByRecursion IsOctet (from_roots zs)
unfolding from_roots mul_linear
octets_from_roots [] = (octet_one, tt)
octets_from_roots (z ∷ zs) = octets_carry z 0 (from_roots zs) octet_zero (octets_from_roots zs)

all_drop_one : (p : List ℕ) → AllByRecursion IsOctet p → AllByRecursion IsOctet (drop 1 p)
all_drop_one [] h = tt
all_drop_one (c ∷ p) h = h.1

pub octet_slope : (p : List ℕ) (x : ℕ) → AllByRecursion IsOctet p → IsOctet (slope p x)
octet_slope p x h = octet_eval (horner x (drop 1 p)) x (octets_horner x (drop 1 p) (all_drop_one p h))

not_this : (x z : ℕ) (zs : List ℕ) → AllByRecursion (λ y. ¬ (y ≡ z)) zs → Member x zs → ¬ (x ≡ z)
not_this x z [] h m e = m
not_this x z (y ∷ zs) h (inl s) e = h.0 (sym s ∙ e)
not_this x z (y ∷ zs) h (inr m) e = not_this x z zs h.1 m e

pub simple_root : (zs : List ℕ) (x : ℕ) → IsOctet x → AllByRecursion IsOctet zs → Distinct zs → Member x zs → ¬ (slope (from_roots zs) x ≡ 0)
unfolding from_roots
simple_root [] x hx hz d m e = m
simple_root (z ∷ zs) x hx hz d (inl same) e =
    off_roots zs x hx hz.1 (subst (λ v. AllByRecursion (λ y. ¬ (v ≡ y)) zs) (sym same) (apart z zs d.0))
    (sym (ap (λ v. v ⊗ slope (from_roots zs) x ⊕ eval (from_roots zs) x) (ap (λ v. v ⊕ z) same ∙ add_self z)
    ∙ ap (λ v. v ⊕ eval (from_roots zs) x) (zero-mul (slope (from_roots zs) x)))
    ∙ sym (slope_mul z (from_roots zs) x) ∙ e)
simple_root (z ∷ zs) x hx hz d (inr m) e =
    mul_not_zero (x ⊕ z) (slope (from_roots zs) x) (octet_add x z hx hz.0) (octet_slope (from_roots zs) x (octets_from_roots zs))
    (λ q. not_this x z zs d.0 m (difference x z q))
    (simple_root zs x hx hz.1 d.1 m)
    (sym (add-zero ((x ⊕ z) ⊗ slope (from_roots zs) x)) ∙ ap (λ v. (x ⊕ z) ⊗ slope (from_roots zs) x ⊕ v) (sym (at_root zs x m))
    ∙ sym (slope_mul z (from_roots zs) x) ∙ e)

-- ---- coefficients with zeros behind them

-- one polynomial, with zeros behind the one or the other
abbrev pub Alike : List ℕ → List ℕ → Type 0
Alike p q = (k : ℕ) → get_or p k 0 ≡ get_or q k 0

pub eval_alike : (p q : List ℕ) (x : ℕ) → Alike p q → eval p x ≡ eval q x
unfolding eval
eval_alike [] [] x h = refl
eval_alike [] (d ∷ q) x h = sym (ap₂ (λ a b. a ⊕ x ⊗ b) (sym (h 0)) (sym (eval_alike [] q x (λ k. h (suc k)))) ∙ mul-zero x)
eval_alike (c ∷ p) [] x h = ap₂ (λ a b. a ⊕ x ⊗ b) (h 0) (eval_alike p [] x (λ k. h (suc k))) ∙ mul-zero x
eval_alike (c ∷ p) (d ∷ q) x h = ap₂ (λ a b. a ⊕ x ⊗ b) (h 0) (eval_alike p q x (λ k. h (suc k)))

alike_drop : (p q : List ℕ) (n : ℕ) → Alike p q → Alike (drop n p) (drop n q)
alike_drop p q n h k = get_or-drop n p k 0 ∙ h (n + k) ∙ sym (get_or-drop n q k 0)

horner_at : (x : ℕ) (p : List ℕ) (k : ℕ) → get_or (horner x p) k 0 ≡ eval (drop k p) x
unfolding horner eval
horner_at x [] zero = refl
horner_at x [] (suc k) = refl
horner_at x (c ∷ p) zero = refl
horner_at x (c ∷ p) (suc k) = horner_at x p k

pub slope_alike : (p q : List ℕ) (x : ℕ) → Alike p q → slope p x ≡ slope q x
slope_alike p q x h =
    eval_alike (horner x (drop 1 p)) (horner x (drop 1 q)) x (λ k.
    horner_at x (drop 1 p) k
    ∙ eval_alike (drop k (drop 1 p)) (drop k (drop 1 q)) x (alike_drop (drop 1 p) (drop 1 q) k (alike_drop p q 1 h))
    ∙ sym (horner_at x (drop 1 q) k))

-- ---- the product, coefficient by coefficient

carry_at : (x c : ℕ) (p : List ℕ) (k : ℕ) → get_or (carry x c p) (suc k) 0 ≡ get_or p k 0 ⊕ x ⊗ get_or p (suc k) 0
unfolding carry
carry_at x c [] k = sym (mul-zero x)
carry_at x c (d ∷ []) zero = sym (ap (λ z. d ⊕ z) (mul-zero x) ∙ add-zero d)
carry_at x c (d ∷ (e ∷ p)) zero = refl
carry_at x c (d ∷ p) (suc k) = carry_at x d p k

pub mul_linear_first : (x : ℕ) (p : List ℕ) → get_or (mul_linear x p) 0 0 ≡ x ⊗ get_or p 0 0
unfolding mul_linear carry
mul_linear_first x [] = sym (mul-zero x)
mul_linear_first x (d ∷ p) = refl

pub mul_linear_at : (x : ℕ) (p : List ℕ) (k : ℕ) → get_or (mul_linear x p) (suc k) 0 ≡ get_or p k 0 ⊕ x ⊗ get_or p (suc k) 0
unfolding mul_linear
mul_linear_at x p k = carry_at x 0 p k
