use Rattle.std.proofs.Common.{◌≡◌, ℕ, ◌⊎◌, sym, ap, ◌∙◌, ap₂, inl, inr}
use Rattle.rs16.specs.Field.{mul, alpha}
use Rattle.rs16.specs.PolynomialsLemmas.{mul-zero, zero-mul, pow_add}
use Rattle.rs16.proofs.field.product.Goals as goal

either_zero : (a b : ℕ) → (a ≡ 0) ⊎ ((a ≡ 0 → ⊥) × (b ≡ 0)) → 0 ≡ mul a b
either_zero a b (inl e) = sym (ap (λ x. mul x b) e ∙ zero-mul b)
either_zero a b (inr e) = sym (ap (mul a) e.1 ∙ mul-zero a)

pub returns-then-b-eq0 : goal.returns-then-b-eq0
returns-then-b-eq0 c = either_zero c.args.a c.args.b c.if-b-eq0.either

pub returns-else-b-eq0 : goal.returns-else-b-eq0
returns-else-b-eq0 c =
    c.power.ensures ∙ pow_add alpha c.logarithm-i.result c.logarithm-j.result
    ∙ ap₂ mul c.logarithm-i.ensures.power c.logarithm-j.ensures.power
