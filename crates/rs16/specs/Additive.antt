-- Two additive functions that agree at the powers 1, 2, 4, .. of k digits agree at every number of k digits.
use Rattle.std.specs.Prelude.{◌≡◌, ℕ, zero, suc, ◌*◌, ◌/◌, ◌%◌, ◌^◌, ◌<◌}
use Rattle.std.proofs.Common.{ap, ap₂, sym, ◌∙◌, subst, not-suc-le-zero, le_of_suc-le-suc, one-mul, zero-mul, mod-lt, le_refl, le_trans, one-add, pow_pos}
use Rattle.std.proofs.Math.Nat.{le-suc}
use Rattle.std.proofs.Math.Arith.{lt-one}
use Rattle.std.proofs.Math.Pow.{split}
use Rattle.std.specs.Int.Bits.{bit_xor, xor_shifted, xor_self}
use Rattle.std.proofs.lemmas.Nat.{shr_below}

abbrev pub Additive : (ℕ → ℕ) → Type 0
Additive f = (a b : ℕ) → f (bit_xor a b) ≡ bit_xor (f a) (f b)

pub at_zero : (f : ℕ → ℕ) → Additive f → f 0 ≡ 0
at_zero f h = ap f (sym (xor_self 1)) ∙ h 1 1 ∙ xor_self (f 1)

pub not_digit {ℓ} : {A : Type ℓ} {x : ℕ} → suc (suc x) < 2 → A
not_digit h = absurd (not-suc-le-zero (le_of_suc-le-suc (le_of_suc-le-suc h)))

module _ (f g : ℕ → ℕ) (hf : Additive f) (hg : Additive g) where
  top : (q p : ℕ) → q < 2 → f p ≡ g p → f (q * p) ≡ g (q * p)
  top zero p h e = rw zero-mul (at_zero f hf ∙ sym (at_zero g hg))
  top (suc zero) p h e = rw one-mul e
  top (suc (suc q)) p h e = not_digit h

  pub agree : (k : ℕ) → ((i : ℕ) → i < k → f (2 ^ i) ≡ g (2 ^ i)) → (a : ℕ) → a < 2 ^ k → f a ≡ g a
  agree zero b a h = rw (lt-one h) (at_zero f hf ∙ sym (at_zero g hg))
  agree (suc k) b a h =
      let low : a % 2 ^ k < 2 ^ k = mod-lt a (pow_pos k) in
      let cut : bit_xor (a / 2 ^ k * 2 ^ k) (a % 2 ^ k) ≡ a = xor_shifted (a / 2 ^ k) k (a % 2 ^ k) low ∙ split a k in
      let bit : a / 2 ^ k < 2 = shr_below a 1 k (subst (λ n. a < 2 ^ n) (sym (one-add k)) h) in
      ap f (sym cut) ∙ hf (a / 2 ^ k * 2 ^ k) (a % 2 ^ k)
      ∙ ap₂ bit_xor (top (a / 2 ^ k) (2 ^ k) bit (b k (le_refl (suc k))))
      (agree k (λ i l. b i (le_trans l (le-suc k))) (a % 2 ^ k) low)
      ∙ sym (hg (a / 2 ^ k * 2 ^ k) (a % 2 ^ k)) ∙ ap g cut
