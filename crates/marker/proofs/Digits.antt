-- The ones of a number's digits.
use Rattle.std.proofs.Common.{◌≡◌, ℕ, zero, suc, ◌/◌, ◌<◌, ◌≤◌, sym, refl, ap, ◌∙◌, arith}
use lib.Bits.{bit_xor, xor_assoc, xor_self, xor_zero_l, xor_zero_r}
use lib.Count.{ones, ones_step}
use Rattle.std.proofs.lemmas.Nat.{ones-le, xor_lt}

-- two octets differ in at most eight digits
pub ones_xor : (x y : ℕ) → x < 256 → y < 256 → ones (bit_xor x y) ≤ 8
ones_xor x y h k = ones-le 8 (bit_xor x y) (xor_lt 8 x y h k)

-- a number with no ones is 0
pub no_ones : (most n : ℕ) → n ≤ most → ones n ≡ 0 → n ≡ 0
no_ones zero n h e = omega arith
no_ones (suc most) zero h e = refl
no_ones (suc most) (suc n) h e =
    let s = ones_step (suc n) in
    let half : suc n / 2 ≡ 0 = no_ones most (suc n / 2) (omega arith) (omega arith) in
    omega arith

-- numbers that differ in no digit are equal
pub same_from_xor : (x y : ℕ) → ones (bit_xor x y) ≡ 0 → x ≡ y
same_from_xor x y e =
    let none : bit_xor x y ≡ 0 = no_ones (bit_xor x y) (bit_xor x y) (omega arith) e in
    sym (xor_zero_r x) ∙ ap (bit_xor x) (sym none) ∙ sym (xor_assoc x x y) ∙ ap (λ (n : ℕ). bit_xor n y) (xor_self x) ∙ xor_zero_l y
