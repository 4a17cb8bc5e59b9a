-- Polynomials over the field, as lists of coefficients, lowest first; sequences S as functions of the place; power sums.
use Rattle.std.specs.Prelude.{◌≡◌, ℕ, zero, suc, ◌+◌, ◌<◌, ◌≤◌, ◌⊎◌, List, [], ◌∷◌, map, length, refl}
use Rattle.std.proofs.Common.{ap, ap₂, sym, ◌∙◌, subst, inl, inr, suc-le-suc, le_of_suc-le-suc, not-suc-le-zero, zero-lt-suc, le_trans, suc-add, zero-add as zero-plus, arith, lit<}
use Rattle.std.proofs.Math.Path.{fun_ext}
use Rattle.std.proofs.Math.Nat.{le-suc}
use Rattle.std.specs.Int.Bits.{xor_assoc, xor_self}
use Rattle.std.proofs.lemmas.Nat.{xor_comm, xor_lt}
use Rattle.std.specs.List.{AllByRecursion}
use Rattle.rs16.specs.Field.{◌⊕◌, ◌⊗◌, IsOctet, pow}
use Rattle.rs16.specs.Polynomials.{eval, apply, carry, mul_linear, from_roots, horner}
use Rattle.rs16.specs.Arithmetic.{mul_one as m1, mul_lt, mul_assoc as ma, mul_comm as mc, mul_add_right as md, no_divisors as divisors}

-- ---- words

-- the sum of E times p(X), over the pairs (X, E)
unfoldable pub weighed : List (ℕ × ℕ) → List ℕ → ℕ
weighed [] p = 0
weighed (t ∷ ts) p = t.1 ⊗ eval p t.0 ⊕ weighed ts p

-- the sum of E times X^m, over the pairs (X, E)
unfoldable pub power_sum : List (ℕ × ℕ) → ℕ → ℕ
power_sum [] m = 0
power_sum (t ∷ ts) m = t.1 ⊗ pow t.0 m ⊕ power_sum ts m

module _ {A : Type 0} where
  -- y stands in the list
  abbrev pub Member : A → List A → Type 0
  Member y [] = ⊥
  Member y (x ∷ xs) = (y ≡ x) ⊎ Member y xs

  -- no two of the list are equal
  abbrev pub Distinct : List A → Type 0
  Distinct [] = Unit
  Distinct (x ∷ xs) = AllByRecursion (λ y. ¬ (y ≡ x)) xs × Distinct xs

-- ---- the field's laws, under the names that `ring` sorts by

pub add_assoc : (a b c : ℕ) → (a ⊕ b) ⊕ c ≡ a ⊕ (b ⊕ c)
add_assoc = xor_assoc

pub add_comm : (a b : ℕ) → a ⊕ b ≡ b ⊕ a
add_comm = xor_comm

pub zero-add : (a : ℕ) → 0 ⊕ a ≡ a
zero-add a = refl

pub add_self : (a : ℕ) → a ⊕ a ≡ 0
add_self = xor_self

pub mul_assoc : (a b c : ℕ) → (a ⊗ b) ⊗ c ≡ a ⊗ (b ⊗ c)
mul_assoc = ma

pub mul_comm : (a b : ℕ) → a ⊗ b ≡ b ⊗ a
mul_comm = mc

pub mul_add : (a b c : ℕ) → a ⊗ (b ⊕ c) ≡ a ⊗ b ⊕ a ⊗ c
mul_add = md

pub mul_one : (a : ℕ) → IsOctet a → a ⊗ 1 ≡ a
mul_one = m1

pub octet_zero : IsOctet 0
octet_zero = lit< tt

pub octet_one : IsOctet 1
octet_one = lit< tt

pub octet_add : (a b : ℕ) → IsOctet a → IsOctet b → IsOctet (a ⊕ b)
octet_add a b h l = xor_lt 8 a b h l

pub octet_mul : (a b : ℕ) → IsOctet (a ⊗ b)
octet_mul = mul_lt

pub one_not_zero : ¬ (◌≡◌ {A = ℕ} 1 0)
one_not_zero e = omega arith

pub no_divisors : (a b : ℕ) → IsOctet a → IsOctet b → ¬ (a ≡ 0) → a ⊗ b ≡ 0 → b ≡ 0
no_divisors zero b ha hb n e = absurd (n refl)
no_divisors (suc a) b ha hb n e = divisors a b ha hb e

pub add-zero : (a : ℕ) → a ⊕ 0 ≡ a
add-zero a = add_comm a 0 ∙ zero-add a

pub add_left_comm : (a b c : ℕ) → a ⊕ (b ⊕ c) ≡ b ⊕ (a ⊕ c)
add_left_comm a b c = sym (add_assoc a b c) ∙ ap (λ x. x ⊕ c) (add_comm a b) ∙ add_assoc b a c

pub add_self_left : (a b : ℕ) → a ⊕ (a ⊕ b) ≡ b
add_self_left a b = sym (add_assoc a a b) ∙ ap (λ x. x ⊕ b) (add_self a) ∙ zero-add b

pub mul_left_comm : (a b c : ℕ) → a ⊗ (b ⊗ c) ≡ b ⊗ (a ⊗ c)
mul_left_comm a b c = sym (mul_assoc a b c) ∙ ap (λ x. x ⊗ c) (mul_comm a b) ∙ mul_assoc b a c

pub add-mul : (a b c : ℕ) → (a ⊕ b) ⊗ c ≡ a ⊗ c ⊕ b ⊗ c
add-mul a b c = mul_comm (a ⊕ b) c ∙ mul_add c a b ∙ ap₂ ◌⊕◌ (mul_comm c a) (mul_comm c b)

pub mul-zero : (a : ℕ) → a ⊗ 0 ≡ 0
mul-zero a = ap (λ x. a ⊗ x) (sym (add_self 0)) ∙ mul_add a 0 0 ∙ add_self (a ⊗ 0)

pub zero-mul : (a : ℕ) → 0 ⊗ a ≡ 0
zero-mul a = mul_comm 0 a ∙ mul-zero a

pub ruleset ring = (add_assoc, add_comm, add_left_comm, add_self, add_self_left, zero-add, add-zero, mul_assoc, mul_comm, mul_left_comm, mul_add, add-mul, mul-zero, zero-mul)

-- ---- the functional
pub apply_zero : (p : List ℕ) → apply p (λ m. 0) ≡ 0
unfolding apply
apply_zero [] = refl
apply_zero (c ∷ p) = rw (apply_zero p) (simp ring)

pub apply_add : (p : List ℕ) (S R : ℕ → ℕ) → apply p (λ m. S m ⊕ R m) ≡ apply p S ⊕ apply p R
unfolding apply
apply_add [] S R = sym (add_self 0)
apply_add (c ∷ p) S R = rw (apply_add p (λ m. S (suc m)) (λ m. R (suc m))) (simp ring)

product_one : (a b : ℕ) → a ⊗ (b ⊗ 1) ≡ a ⊗ b
product_one a b = sym (mul_assoc a b 1) ∙ mul_one (a ⊗ b) (octet_mul a b)

-- Σ p_m E X^m = E p(X)
pub apply_powers : (p : List ℕ) (x e : ℕ) → apply p (λ m. e ⊗ pow x m) ≡ e ⊗ eval p x
unfolding apply eval pow
apply_powers [] x e = sym (mul-zero e)
apply_powers (c ∷ p) x e =
    ap₂ ◌⊕◌ (product_one c e)
    (ap (apply p) (fun_ext (λ m. sym (mul_assoc e x (pow x m)))) ∙ apply_powers p x (e ⊗ x))
    ∙ simp ring

-- L_S(p) = Σ E_j p(X_j)
pub apply_sum : (ts : List (ℕ × ℕ)) (p : List ℕ) → apply p (power_sum ts) ≡ weighed ts p
unfolding weighed power_sum
apply_sum [] p = apply_zero p
apply_sum (t ∷ ts) p =
    apply_add p (λ m. t.1 ⊗ pow t.0 m) (power_sum ts) ∙ ap₂ ◌⊕◌ (apply_powers p t.0 t.1) (apply_sum ts p)

-- ---- a linear factor
pub eval_carry : (x c : ℕ) (p : List ℕ) (y : ℕ) → eval (carry x c p) y ≡ c ⊕ (y ⊕ x) ⊗ eval p y
unfolding carry eval
eval_carry x c [] y = simp ring
eval_carry x c (d ∷ p) y = rw (eval_carry x d p y) (simp ring)

pub eval_mul_linear : (x : ℕ) (p : List ℕ) (y : ℕ) → eval (mul_linear x p) y ≡ (y ⊕ x) ⊗ eval p y
unfolding mul_linear
eval_mul_linear x p y = eval_carry x 0 p y ∙ zero-add ((y ⊕ x) ⊗ eval p y)

-- ---- a product of linear factors
pub at_root : (xs : List ℕ) (y : ℕ) → Member y xs → eval (from_roots xs) y ≡ 0
unfolding from_roots
at_root [] y m = absurd m
at_root (x ∷ xs) y (inl e) = eval_mul_linear x (from_roots xs) y ∙ rw e (simp ring)
at_root (x ∷ xs) y (inr m) = eval_mul_linear x (from_roots xs) y ∙ rw (at_root xs y m) (simp ring)

pub difference : (a b : ℕ) → a ⊕ b ≡ 0 → a ≡ b
difference a b e = sym (add-zero a) ∙ ap (λ x. a ⊕ x) (sym (add_self b)) ∙ sym (add_assoc a b b) ∙ rw e (zero-add b)

pub octet_eval : (p : List ℕ) (y : ℕ) → AllByRecursion IsOctet p → IsOctet (eval p y)
unfolding eval
octet_eval [] y h = octet_zero
octet_eval (c ∷ p) y h = octet_add c (y ⊗ eval p y) h.0 (octet_mul y (eval p y))

-- a value of the product is an element, whatever its roots are
pub octet_roots : (xs : List ℕ) (y : ℕ) → IsOctet (eval (from_roots xs) y)
unfolding from_roots eval
octet_roots [] y = octet_add 1 (y ⊗ 0) octet_one (octet_mul y 0)
octet_roots (x ∷ xs) y =
    subst IsOctet (sym (eval_mul_linear x (from_roots xs) y)) (octet_mul (y ⊕ x) (eval (from_roots xs) y))

pub off_roots : (xs : List ℕ) (y : ℕ) → IsOctet y → AllByRecursion IsOctet xs → AllByRecursion (λ x. ¬ (y ≡ x)) xs → ¬ (eval (from_roots xs) y ≡ 0)
unfolding from_roots eval
off_roots [] y hy hx n e = one_not_zero (sym (add-zero 1) ∙ ap (λ z. 1 ⊕ z) (sym (mul-zero y)) ∙ e)
off_roots (x ∷ xs) y hy hx n e =
    off_roots xs y hy hx.1 n.1
    (no_divisors (y ⊕ x) (eval (from_roots xs) y) (octet_add y x hy hx.0) (octet_roots xs y)
    (λ z. n.0 (difference y x z))
    (sym (eval_mul_linear x (from_roots xs) y) ∙ e))

-- ---- division by z + x
divide_more : (x : ℕ) (p : List ℕ) (y : ℕ) → y ⊗ eval p y ≡ (y ⊕ x) ⊗ eval (horner x p) y ⊕ x ⊗ eval p x
unfolding horner eval
divide_more x [] y = simp ring
divide_more x (d ∷ p) y = mul_add y d (y ⊗ eval p y) ∙ rw (divide_more x p y) (simp ring)

pub divide : (x c : ℕ) (p : List ℕ) (y : ℕ) → eval (c ∷ p) y ≡ (y ⊕ x) ⊗ eval (horner x p) y ⊕ eval (c ∷ p) x
unfolding eval
divide x c p y =
    ap (λ z. c ⊕ z) (divide_more x p y) ∙ add_left_comm c ((y ⊕ x) ⊗ eval (horner x p) y) (x ⊗ eval p x)

-- ---- few roots
eval_zeros : (p : List ℕ) (y : ℕ) → AllByRecursion (λ c. c ≡ 0) p → eval p y ≡ 0
unfolding eval
eval_zeros [] y h = refl
eval_zeros (c ∷ p) y h = ap₂ (λ a b. a ⊕ y ⊗ b) h.0 (eval_zeros p y h.1) ∙ simp ring

lowest : (x c : ℕ) (p : List ℕ) → AllByRecursion (λ c. c ≡ 0) p → eval (c ∷ p) x ≡ 0 → c ≡ 0
unfolding eval
lowest x c p r e = sym (add-zero c) ∙ ap (λ z. c ⊕ z) (sym (mul-zero x) ∙ ap (λ z. x ⊗ z) (sym (eval_zeros p x r))) ∙ e

horner_zeros : (x : ℕ) (p : List ℕ) → AllByRecursion (λ c. c ≡ 0) (horner x p) → AllByRecursion (λ c. c ≡ 0) p
unfolding horner
horner_zeros x [] h = tt
horner_zeros x (c ∷ p) h =
    let rest : AllByRecursion (λ c. c ≡ 0) p = horner_zeros x p h.1 in
    (lowest x c p rest h.0, rest)

pub length_horner : (x : ℕ) (p : List ℕ) → length (horner x p) ≡ length p
unfolding horner
length_horner x [] = refl
length_horner x (c ∷ p) = ap suc (length_horner x p)

pub octets_horner : (x : ℕ) (p : List ℕ) → AllByRecursion IsOctet p → AllByRecursion IsOctet (horner x p)
unfolding horner
octets_horner x [] h = tt
octets_horner x (c ∷ p) h = (octet_eval (c ∷ p) x h, octets_horner x p h.1)

-- the other roots of p are roots of the quotient
pub other_root : (r c : ℕ) (p : List ℕ) (s : ℕ) → IsOctet r → IsOctet s → AllByRecursion IsOctet p → ¬ (s ≡ r) → eval (c ∷ p) r ≡ 0 → eval (c ∷ p) s ≡ 0
    → eval (horner r p) s ≡ 0
other_root r c p s hr hs hp n er es =
    no_divisors (s ⊕ r) (eval (horner r p) s) (octet_add s r hs hr) (octet_eval (horner r p) s (octets_horner r p hp))
    (λ z. n (difference s r z))
    (sym (add-zero ((s ⊕ r) ⊗ eval (horner r p) s)) ∙ ap (λ z. (s ⊕ r) ⊗ eval (horner r p) s ⊕ z) (sym er)
    ∙ sym (divide r c p s) ∙ es)

other_roots : (r c : ℕ) (p : List ℕ) (rs : List ℕ) → IsOctet r → AllByRecursion IsOctet rs → AllByRecursion IsOctet p → AllByRecursion (λ s. ¬ (s ≡ r)) rs → eval (c ∷ p) r ≡ 0
    → AllByRecursion (λ s. eval (c ∷ p) s ≡ 0) rs → AllByRecursion (λ s. eval (horner r p) s ≡ 0) rs
other_roots r c p [] hr hs hp n er es = tt
other_roots r c p (s ∷ rs) hr hs hp n er es =
    (other_root r c p s hr hs.0 hp n.0 er es.0, other_roots r c p rs hr hs.1 hp n.1 er es.1)

-- ℕ polynomial with as many distinct roots as coefficients is zero.
pub few_roots : (rs p : List ℕ) → AllByRecursion IsOctet rs → AllByRecursion IsOctet p → Distinct rs → AllByRecursion (λ r. eval p r ≡ 0) rs → length p ≤ length rs → AllByRecursion (λ c. c ≡ 0) p
few_roots rs [] hr hp d e l = tt
few_roots [] (c ∷ p) hr hp d e l = absurd (not-suc-le-zero l)
few_roots (r ∷ rs) (c ∷ p) hr hp d e l =
    let q : AllByRecursion (λ c. c ≡ 0) (horner r p) =
    few_roots rs (horner r p) hr.1 (octets_horner r p hp.1) d.1
    (other_roots r c p rs hr.0 hr.1 hp.1 d.0 e.0 e.1)
    (subst (λ n. n ≤ length rs) (sym (length_horner r p)) (le_of_suc-le-suc l)) in
    let rest : AllByRecursion (λ c. c ≡ 0) p = horner_zeros r p q in
    (lowest r c p rest e.0, rest)

-- ---- Vandermonde: distinct places with zero power sums have zero weights
abbrev pub places : List (ℕ × ℕ) → List ℕ
places ts = map (λ t. t.0) ts

pub apply_vanish : (p : List ℕ) (S : ℕ → ℕ) → ((m : ℕ) → m < length p → S m ≡ 0) → apply p S ≡ 0
unfolding apply
apply_vanish [] S h = refl
apply_vanish (c ∷ p) S h =
    ap₂ (λ a b. c ⊗ a ⊕ b) (h 0 (zero-lt-suc (length p))) (apply_vanish p (λ m. S (suc m)) (λ m l. h (suc m) (suc-le-suc l)))
    ∙ simp ring

length_carry : (x c : ℕ) (p : List ℕ) → length (carry x c p) ≡ suc (length p)
unfolding carry
length_carry x c [] = refl
length_carry x c (d ∷ p) = ap suc (length_carry x d p)

pub length_roots : (xs : List ℕ) → length (from_roots xs) ≡ suc (length xs)
unfolding from_roots mul_linear
length_roots [] = refl
length_roots (x ∷ xs) = length_carry x 0 (from_roots xs) ∙ ap suc (length_roots xs)

-- p vanishes at each place of ts
pub weighed_zero : (ts : List (ℕ × ℕ)) (p : List ℕ) → AllByRecursion (λ x. eval p x ≡ 0) (places ts) → weighed ts p ≡ 0
unfolding weighed
weighed_zero [] p h = refl
weighed_zero (t ∷ ts) p h = ap₂ (λ a b. t.1 ⊗ a ⊕ b) h.0 (weighed_zero ts p h.1) ∙ simp ring

pub all_roots : (xs ys : List ℕ) → ((y : ℕ) → Member y xs → Member y ys) → AllByRecursion (λ x. eval (from_roots ys) x ≡ 0) xs
all_roots [] ys s = tt
all_roots (x ∷ xs) ys s = (at_root ys x (s x (inl refl)), all_roots xs ys (λ y m. s y (inr m)))

-- the weight of the first place is 0
first_weight : (t : ℕ × ℕ) (ts : List (ℕ × ℕ)) → IsOctet t.0 → IsOctet t.1 → AllByRecursion IsOctet (places ts) → AllByRecursion (λ x. ¬ (t.0 ≡ x)) (places ts)
    → weighed (t ∷ ts) (from_roots (places ts)) ≡ 0 → t.1 ≡ 0
unfolding weighed
first_weight t ts hx he hs n w =
    no_divisors (eval (from_roots (places ts)) t.0) t.1 (octet_roots (places ts) t.0) he
    (off_roots (places ts) t.0 hx hs n)
    (mul_comm (eval (from_roots (places ts)) t.0) t.1 ∙ sym (add-zero (t.1 ⊗ eval (from_roots (places ts)) t.0))
    ∙ ap (λ z. t.1 ⊗ eval (from_roots (places ts)) t.0 ⊕ z)
    (sym (weighed_zero ts (from_roots (places ts)) (all_roots (places ts) (places ts) (λ y m. m))))
    ∙ w)

pub length_places : (ts : List (ℕ × ℕ)) → length (places ts) ≡ length ts
length_places [] = refl
length_places (t ∷ ts) = ap suc (length_places ts)

pub apart : (x : ℕ) (xs : List ℕ) → AllByRecursion (λ y. ¬ (y ≡ x)) xs → AllByRecursion (λ y. ¬ (x ≡ y)) xs
apart x [] h = tt
apart x (y ∷ xs) h = ((λ e. h.0 (sym e)), apart x xs h.1)

pub drop_first : (t : ℕ × ℕ) (ts : List (ℕ × ℕ)) (m : ℕ) → t.1 ≡ 0 → power_sum (t ∷ ts) m ≡ 0 → power_sum ts m ≡ 0
unfolding power_sum
drop_first t ts m e h =
    sym (zero-add (power_sum ts m)) ∙ ap (λ z. z ⊕ power_sum ts m) (sym (zero-mul (pow t.0 m)) ∙ ap (λ z. z ⊗ pow t.0 m) (sym e)) ∙ h

pub vandermonde : (ts : List (ℕ × ℕ)) → AllByRecursion (λ t. IsOctet t.1) ts → AllByRecursion IsOctet (places ts) → Distinct (places ts)
    → ((m : ℕ) → m < length ts → power_sum ts m ≡ 0) → AllByRecursion (λ t. t.1 ≡ 0) ts
vandermonde [] he hx d s = tt
vandermonde (t ∷ ts) he hx d s =
    let size : length (from_roots (places ts)) ≡ suc (length ts) = length_roots (places ts) ∙ ap suc (length_places ts) in
    let first : t.1 ≡ 0 =
    first_weight t ts hx.0 he.0 hx.1 (apart t.0 (places ts) d.0)
    (sym (apply_sum (t ∷ ts) (from_roots (places ts)))
    ∙ apply_vanish (from_roots (places ts)) (power_sum (t ∷ ts)) (λ m l. s m (subst (λ n. m < n) size l))) in
    (first, vandermonde ts he.1 hx.1 d.1 (λ m l. drop_first t ts m first (s m (le_trans l (le-suc (length ts))))))

-- ---- powers, shifted sums
pub octet_pow : (x : ℕ) (m : ℕ) → IsOctet (pow x m)
unfolding pow
octet_pow x zero = octet_one
octet_pow x (suc m) = octet_mul x (pow x m)

pub one-mul : (a : ℕ) → IsOctet a → 1 ⊗ a ≡ a
one-mul a h = mul_comm 1 a ∙ mul_one a h

pub pow_add : (x : ℕ) (i m : ℕ) → pow x (i + m) ≡ pow x i ⊗ pow x m
unfolding pow
pow_add x zero m = ap (pow x) (zero-plus m) ∙ sym (one-mul (pow x m) (octet_pow x m))
pow_add x (suc i) m = ap (pow x) (suc-add i m) ∙ ap (λ z. x ⊗ z) (pow_add x i m) ∙ sym (mul_assoc x (pow x i) (pow x m))

pub pow_mul : (x y : ℕ) (i : ℕ) → pow (x ⊗ y) i ≡ pow x i ⊗ pow y i
unfolding pow
pow_mul x y zero = sym (mul_one 1 octet_one)
pow_mul x y (suc i) = ap (λ z. x ⊗ y ⊗ z) (pow_mul x y i) ∙ simp ring

abbrev pub through : List ℕ → List (ℕ × ℕ) → List (ℕ × ℕ)
through p ts = map (λ t. (t.0, t.1 ⊗ eval p t.0)) ts

shift_one : (p : List ℕ) (x e : ℕ) (i : ℕ) → apply p (λ m. e ⊗ pow x (i + m)) ≡ e ⊗ eval p x ⊗ pow x i
shift_one p x e i =
    ap (apply p) (fun_ext (λ m. ap (λ z. e ⊗ z) (pow_add x i m) ∙ sym (mul_assoc e (pow x i) (pow x m))))
    ∙ apply_powers p x (e ⊗ pow x i) ∙ simp ring

-- L of the sequence from place i on is a power sum too, with the weights E_j p(X_j)
pub apply_shifted : (p : List ℕ) (ts : List (ℕ × ℕ)) (i : ℕ) → apply p (λ m. power_sum ts (i + m)) ≡ power_sum (through p ts) i
unfolding power_sum
apply_shifted p [] i = apply_zero p
apply_shifted p (t ∷ ts) i =
    apply_add p (λ m. t.1 ⊗ pow t.0 (i + m)) (λ m. power_sum ts (i + m))
    ∙ ap₂ ◌⊕◌ (shift_one p t.0 t.1 i) (apply_shifted p ts i)

places_through : (p : List ℕ) (ts : List (ℕ × ℕ)) → places (through p ts) ≡ places ts
places_through p [] = refl
places_through p (t ∷ ts) = ap (λ xs. t.0 ∷ xs) (places_through p ts)

length_through : (p : List ℕ) (ts : List (ℕ × ℕ)) → length (through p ts) ≡ length ts
length_through p [] = refl
length_through p (t ∷ ts) = ap suc (length_through p ts)

octets_through : (p : List ℕ) (ts : List (ℕ × ℕ)) → AllByRecursion (λ t. IsOctet t.1) (through p ts)
octets_through p [] = tt
octets_through p (t ∷ ts) = (octet_mul t.1 (eval p t.0), octets_through p ts)

cancelled : (p : List ℕ) (ts : List (ℕ × ℕ)) → AllByRecursion IsOctet p → AllByRecursion (λ t. IsOctet t.1 × ¬ (t.1 ≡ 0)) ts
    → AllByRecursion (λ t. t.1 ≡ 0) (through p ts) → AllByRecursion (λ t. eval p t.0 ≡ 0) ts
cancelled p [] hp he z = tt
cancelled p (t ∷ ts) hp he z =
    (no_divisors t.1 (eval p t.0) he.0.0 (octet_eval p t.0 hp) he.0.1 z.0, cancelled p ts hp he.1 z.1)

-- ℕ polynomial that gives 0 on as many windows of the sequence as there are places vanishes at each place.
pub locates : (p : List ℕ) (ts : List (ℕ × ℕ)) → AllByRecursion IsOctet p → AllByRecursion (λ t. IsOctet t.1 × ¬ (t.1 ≡ 0)) ts → AllByRecursion IsOctet (places ts) → Distinct (places ts)
    → ((i : ℕ) → i < length ts → apply p (λ m. power_sum ts (i + m)) ≡ 0) → AllByRecursion (λ t. eval p t.0 ≡ 0) ts
locates p ts hp he hx d s =
    cancelled p ts hp he
    (vandermonde (through p ts) (octets_through p ts)
    (subst (AllByRecursion IsOctet) (sym (places_through p ts)) hx) (subst Distinct (sym (places_through p ts)) d)
    (λ i l. sym (apply_shifted p ts i) ∙ s i (subst (λ n. i < n) (length_through p ts) l)))
