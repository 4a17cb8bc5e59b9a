-- The locator of an octet, α^11 to its power in the word's polynomial, and the weight that makes a syndrome a power sum.
use Rattle.std.specs.Prelude.{◌≡◌, ℕ, zero, suc, ◌+◌, ◌*◌, ◌%◌, ◌<◌, nat_eq, refl}
use Rattle.std.proofs.Common.{ap, sym, ◌∙◌, mul-suc, mul-zero as times_zero, mul_assoc as times-assoc, mul_comm as times-comm, add_comm as plus_comm, arith, eqb→eq}
use Rattle.rs16.specs.Field.{◌⊗◌, IsOctet, pow, alpha}
use Rattle.rs16.specs.Codewords.{root}
use Rattle.rs16.specs.Mending.{locator}
use Rattle.rs16.specs.Below.{all, below}
use Rattle.rs16.specs.Powers.{exp, exp_distinct, exp_mod, exp_not_zero, pow_exp}
use Rattle.rs16.specs.PolynomialsLemmas.{mul_assoc, no_divisors, octet_mul, octet_pow, pow_add, zero-mul, one_not_zero}

pub pow_pow : (x a b : ℕ) → pow (pow x a) b ≡ pow x (a * b)
unfolding pow
pow_pow x a zero = ap (pow x) (sym (times_zero a))
pow_pow x a (suc b) = ap (λ z. pow x a ⊗ z) (pow_pow x a b) ∙ sym (pow_add x a (a * b)) ∙ ap (pow x) (plus_comm a (a * b) ∙ sym (mul-suc a b))

locator_is : (k : ℕ) → pow (pow alpha 11) k ≡ locator k
unfolding locator
locator_is k = refl

pub locator_exp : (k : ℕ) → locator k ≡ exp ((11 * k) % 255)
unfolding locator
locator_exp k = pow_pow alpha 11 k ∙ pow_exp (11 * k) ∙ sym (exp_mod (11 * k))

below_255 : (n : ℕ) → n % 255 < 255
below_255 n = omega arith

-- 116 times 11 is 1 modulo 255
back : (k : ℕ) → k < 255 → (116 * ((11 * k) % 255)) % 255 ≡ k
back k h = eqb→eq _ _ (below (λ x. nat_eq ((116 * ((11 * x) % 255)) % 255) x) 255 (unfold all in tt) k h)

pub locator_distinct : (i j : ℕ) → i < 255 → j < 255 → locator i ≡ locator j → i ≡ j
locator_distinct i j hi hj e =
    let same : (11 * i) % 255 ≡ (11 * j) % 255 =
    exp_distinct ((11 * i) % 255) ((11 * j) % 255) (below_255 (11 * i)) (below_255 (11 * j)) (sym (locator_exp i) ∙ e ∙ locator_exp j) in
    sym (back i hi) ∙ ap (λ z. (116 * z) % 255) same ∙ back j hj

pub locator_octet : (k : ℕ) → IsOctet (locator k)
unfolding locator
locator_octet k = octet_pow (pow alpha 11) k

pub locator_not_zero : (k : ℕ) → ¬ (locator k ≡ 0)
locator_not_zero k e = exp_not_zero ((11 * k) % 255) (below_255 (11 * k)) (sym (locator_exp k) ∙ e)

pub mul_not_zero : (a b : ℕ) → IsOctet a → IsOctet b → ¬ (a ≡ 0) → ¬ (b ≡ 0) → ¬ (a ⊗ b ≡ 0)
mul_not_zero a b ha hb na nb e = nb (no_divisors a b ha hb na e)

pub pow_not_zero : (x m : ℕ) → IsOctet x → ¬ (x ≡ 0) → ¬ (pow x m ≡ 0)
unfolding pow
pow_not_zero x zero h n = one_not_zero
pow_not_zero x (suc m) h n = mul_not_zero x (pow x m) h (octet_pow x m) n (pow_not_zero x m h n)

-- the weight of an element at power k
unfoldable pub weight : ℕ → ℕ → ℕ
weight k e = e ⊗ pow (locator k) 112

pub weight_octet : (k e : ℕ) → IsOctet (weight k e)
unfolding weight
weight_octet k e = octet_mul e (pow (locator k) 112)

pub weight_not_zero : (k e : ℕ) → IsOctet e → ¬ (e ≡ 0) → ¬ (weight k e ≡ 0)
unfolding weight
weight_not_zero k e h n =
    mul_not_zero e (pow (locator k) 112) h (octet_pow (locator k) 112) n (pow_not_zero (locator k) 112 (locator_octet k) (locator_not_zero k))

pub weight_zero : (k : ℕ) → weight k 0 ≡ 0
unfolding weight
weight_zero k = zero-mul (pow (locator k) 112)

-- what an element at power k adds to syndrome m is its weight times its locator to the power m
pub weight_in_syndrome : (k e m : ℕ) → e ⊗ pow (root m) k ≡ weight k e ⊗ pow (locator k) m
unfolding weight
weight_in_syndrome k e m =
    ap (λ z. e ⊗ z)
    (pow_pow alpha (11 * (112 + m)) k ∙ ap (pow alpha) (times-assoc 11 (112 + m) k ∙ ap (λ z. 11 * z) (times-comm (112 + m) k))
    ∙ sym (pow_pow alpha 11 (k * (112 + m))) ∙ sym (pow_pow (pow alpha 11) k (112 + m))
    ∙ ap (λ x. pow x (112 + m)) (locator_is k) ∙ pow_add (locator k) 112 m)
    ∙ sym (mul_assoc e (pow (locator k) 112) (pow (locator k) m))

-- root m, as a power with a small exponent
pub root_exp : (m : ℕ) → exp ((11 * (112 + m)) % 255) ≡ root m
root_exp m = exp_mod (11 * (112 + m)) ∙ sym (pow_exp (11 * (112 + m)))

pub root_power : (m : ℕ) → pow alpha ((11 * (112 + m)) % 255) ≡ root m
root_power m = pow_exp ((11 * (112 + m)) % 255) ∙ root_exp m

-- a locator, and its lift, as powers with small exponents
pub locator_power : (k : ℕ) → pow alpha ((11 * k) % 255) ≡ locator k
locator_power k = pow_exp ((11 * k) % 255) ∙ sym (locator_exp k)

pub lift_power : (k : ℕ) → pow alpha ((1232 * k) % 255) ≡ pow (locator k) 112
unfolding locator
lift_power k =
    pow_exp ((1232 * k) % 255) ∙ exp_mod (1232 * k) ∙ sym (pow_exp (1232 * k))
    ∙ ap (pow alpha) (let turn : 1232 * k ≡ (11 * k) * 112 = omega arith in turn)
    ∙ sym (pow_pow alpha (11 * k) 112) ∙ ap (λ x. pow x 112) (sym (pow_pow alpha 11 k))
