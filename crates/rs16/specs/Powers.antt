-- The powers of α: α^255 is 1, and α^0 to α^254 are all octets but 0, each once. The tables of powers and logarithms.
use Rattle.std.specs.Prelude.{◌≡◌, ℕ, zero, suc, ◌+◌, ◌*◌, ◌/◌, ◌%◌, ◌<◌, true, false, not, T, List, [], ◌∷◌, ◌==◌, nat_eq, nat_lt, slice_index, refl}
use Rattle.std.proofs.Common.{ap, sym, ◌∙◌, subst, not-suc-le-zero, le_of_suc-le-suc, zero-add, suc-add, add-suc, add-zero as plus-zero, T_not, eqb→eq, ltb→lt, lit<, arith}
use Rattle.rs16.specs.Field.{times_alpha, mul_digits, mul, pow, alpha}
use Rattle.rs16.specs.Below.{all, below}
use Rattle.rs16.specs.Arithmetic.{times_alpha_octet, mul_comm, mul_assoc, mul_one}

-- α^i, by doubling
unfoldable pub exp : ℕ → ℕ
exp zero = 1
exp (suc i) = times_alpha (exp i)

-- the powers from x on, n of them
unfoldable pub powers : ℕ → ℕ → List ℕ
powers zero x = []
powers (suc n) x = x ∷ powers n (times_alpha x)

-- the first place of x in a list
unfoldable pub place : ℕ → List ℕ → ℕ
place x [] = 0
place x (y ∷ ys) = elim (x == y) [ true ↦ 0 | false ↦ suc (place x ys) ]

unfoldable pub table : List ℕ
table = powers 255 1

-- the power of α that x is
unfoldable pub log : ℕ → ℕ
log x = place x table

exp_255 : exp 255 ≡ 1
unfolding exp times_alpha
exp_255 = refl

log_test : T (all (λ i. nat_eq (exp (log (suc i))) (suc i)) 255)
unfolding powers exp times_alpha all log place table
log_test = tt

pub exp_log : (a : ℕ) → suc a < 256 → exp (log (suc a)) ≡ suc a
exp_log a h = eqb→eq _ _ (below (λ i. nat_eq (exp (log (suc i))) (suc i)) 255 log_test a (le_of_suc-le-suc h))

log_exp_test : T (all (λ i. nat_eq (log (exp i)) i) 255)
unfolding powers exp times_alpha all log place table
log_exp_test = tt

pub log_exp : (i : ℕ) → i < 255 → log (exp i) ≡ i
log_exp i h = eqb→eq _ _ (below (λ i. nat_eq (log (exp i)) i) 255 log_exp_test i h)

pub exp_distinct : (i j : ℕ) → i < 255 → j < 255 → exp i ≡ exp j → i ≡ j
exp_distinct i j h l e = sym (log_exp i h) ∙ ap log e ∙ log_exp j l

-- α times b is the product by 2
pub times_alpha_is : (b : ℕ) → b < 256 → times_alpha b ≡ mul 2 b
times_alpha_is b h = eqb→eq _ _ (below (λ x. nat_eq (times_alpha x) (mul 2 x)) 256 (unfold mul mul_digits times_alpha all in tt) b h)

pub exp_lt : (i : ℕ) → exp i < 256
unfolding exp
exp_lt zero = lit< tt
exp_lt (suc i) = times_alpha_octet (exp i)

pub exp_add : (i j : ℕ) → exp (i + j) ≡ mul (exp i) (exp j)
unfolding exp
exp_add zero j = ap exp (zero-add j) ∙ sym (mul_comm 1 (exp j) ∙ mul_one (exp j) (exp_lt j))
exp_add (suc i) j =
    ap exp (suc-add i j) ∙ times_alpha_is (exp (i + j)) (exp_lt (i + j)) ∙ ap (mul 2) (exp_add i j)
    ∙ sym (mul_assoc 2 (exp i) (exp j)) ∙ ap (λ x. mul x (exp j)) (sym (times_alpha_is (exp i) (exp_lt i)))

pub exp_not_zero : (i : ℕ) → i < 255 → ¬ (exp i ≡ 0)
exp_not_zero i h e = T_not (exp i == 0) (below (λ i. not (exp i == 0)) 255 (unfold exp times_alpha all in tt) i h) (subst (λ x. T (x == 0)) (sym e) tt)

-- ---- round after 255 powers

pub exp_period : (n : ℕ) → exp (n + 255) ≡ exp n
exp_period n = exp_add n 255 ∙ ap (mul (exp n)) exp_255 ∙ mul_one (exp n) (exp_lt n)

exp_turns : (q r : ℕ) → exp (r + q * 255) ≡ exp r
exp_turns zero r = ap exp (omega arith)
exp_turns (suc q) r = ap exp (omega arith) ∙ exp_period (r + q * 255) ∙ exp_turns q r

pub exp_mod : (n : ℕ) → exp (n % 255) ≡ exp n
exp_mod n = sym (exp_turns (n / 255) (n % 255)) ∙ ap exp (omega arith)

-- ---- the table of logarithms

-- the logarithms of a and the n - 1 numbers behind it; the table has 0 before those of 1 to 255
abbrev pub logs : ℕ → ℕ → List ℕ
logs a zero = []
logs a (suc n) = log a ∷ logs (suc a) n

logs_test : T (all (λ i. nat_eq (slice_index (0 ∷ logs 1 255) (suc i)) (log (suc i))) 255)
unfolding powers times_alpha all log place table
logs_test = tt

pub logs_at : (a : ℕ) → suc a < 256 → slice_index (0 ∷ logs 1 255) (suc a) ≡ log (suc a)
logs_at a h = eqb→eq _ _ (below (λ i. nat_eq (slice_index (0 ∷ logs 1 255) (suc i)) (log (suc i))) 255 logs_test a (le_of_suc-le-suc h))

pub log_lt : (a : ℕ) → suc a < 256 → log (suc a) < 255
log_lt a h = ltb→lt _ _ (below (λ i. nat_lt (log (suc i)) 255) 255 (unfold powers times_alpha all log place table in tt) a (le_of_suc-le-suc h))

pub logs_right : (a : ℕ) → 0 < a → a < 256 → (slice_index (0 ∷ logs 1 255) a ≡ log a) × (slice_index (0 ∷ logs 1 255) a < 255)
logs_right zero p h = absurd (not-suc-le-zero p)
logs_right (suc a) p h = (logs_at a h, subst (λ n. n < 255) (sym (logs_at a h)) (log_lt a h))

-- ---- the table of powers

powers_at : (n j i : ℕ) → i < n → slice_index (powers n (exp j)) i ≡ exp (j + i)
unfolding powers exp
powers_at zero j i l = absurd (not-suc-le-zero l)
powers_at (suc n) j zero l = ap exp (sym (plus-zero j))
powers_at (suc n) j (suc i) l = powers_at n (suc j) i (le_of_suc-le-suc l) ∙ ap exp (suc-add j i ∙ sym (add-suc j i))

pub table_510 : (i : ℕ) → i < 510 → slice_index (powers 510 1) i ≡ exp i
unfolding exp
table_510 i l = powers_at 510 0 i l ∙ ap exp (zero-add i)

-- ---- powers of α by the definition

pub pow_exp : (i : ℕ) → pow alpha i ≡ exp i
unfolding pow exp
pow_exp zero = refl
pow_exp (suc i) = ap (mul 2) (pow_exp i) ∙ sym (times_alpha_is (exp i) (exp_lt i))

pub log_power : (a : ℕ) → 0 < a → a < 256 → pow alpha (log a) ≡ a
log_power zero p h = absurd (not-suc-le-zero p)
log_power (suc a) p h = pow_exp (log (suc a)) ∙ exp_log a h
