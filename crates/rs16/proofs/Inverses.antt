-- The inverse of an element other than 0, and how a logarithm gives it.
use Rattle.std.proofs.Common.{◌≡◌, ℕ, zero, suc, ◌+◌, ◌-◌, ◌<◌, sym, refl, ap, ◌∙◌, arith}
use Rattle.rs16.specs.Field.{◌⊗◌, IsOctet, mul, mul_digits, times_alpha, squares, inv, pow, alpha}
use Rattle.rs16.specs.Arithmetic.{inv_octet, mul_inv}
use Rattle.rs16.specs.PolynomialsLemmas.{mul_assoc, mul_comm, mul_one, octet_pow, one-mul, pow_add}
use Rattle.rs16.specs.Powers.{exp_period, exp, pow_exp}

pub inverse : (a : ℕ) → IsOctet a → ¬ (a ≡ 0) → a ⊗ inv a ≡ 1
inverse zero h n = absurd (n refl)
inverse (suc a) h n = mul_inv a h

pub inverse_none : 0 ≡ inv 0
unfolding inv squares mul mul_digits times_alpha
inverse_none = refl

exp_none : exp 0 ≡ 1
unfolding exp
exp_none = refl

-- α to the power 255 is 1
round : pow alpha 255 ≡ 1
round = pow_exp 255 ∙ exp_period 0 ∙ exp_none

pub inverse_power : (a l : ℕ) → IsOctet a → ¬ (a ≡ 0) → l < 255 → pow alpha l ≡ a → pow alpha (255 - l) ≡ inv a
inverse_power a l ha na low is =
    let r : ℕ = pow alpha (255 - l) in
    let whole : a ⊗ pow alpha (255 - l) ≡ 1 =
    ap (λ z. z ⊗ r) (sym is) ∙ sym (pow_add alpha l (255 - l)) ∙ ap (pow alpha) (let e : l + (255 - l) ≡ 255 = omega arith in e) ∙ round in
    sym (mul_one r (octet_pow alpha (255 - l))) ∙ ap (λ z. r ⊗ z) (sym (inverse a ha na))
    ∙ sym (mul_assoc r a (inv a)) ∙ ap (λ z. z ⊗ inv a) (mul_comm r a ∙ whole) ∙ one-mul (inv a) (inv_octet a)
