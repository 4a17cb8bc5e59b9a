-- The randomizer's sequence comes round after 255 octets.
use Rattle.std.specs.Prelude.{◌≡◌, ℕ, zero, suc, ◌+◌, ◌*◌, ◌/◌, ◌%◌, ◌<◌, List, [], ◌∷◌, slice_index, refl}
use Rattle.std.proofs.Common.{ap, sym, ◌∙◌, mod-eq_of_lt, suc-add, add-zero, mod-lt, div-add-mod', not-suc-le-zero, le_of_suc-le-suc, arith, lit<}
use Rattle.std.proofs.Math.Numerals.{towards_suc}
use Rattle.mapping.specs.Randomizer.{digit, sequence}

-- eight digits in a row
pub record Window : Type 0 where
  pub a : ℕ
  pub b : ℕ
  pub c : ℕ
  pub d : ℕ
  pub e : ℕ
  pub f : ℕ
  pub g : ℕ
  pub h : ℕ

unfoldable pub shift : Window → Window
shift w = record { a = w.b; b = w.c; c = w.d; d = w.e; e = w.f; f = w.g; g = w.h; h = (w.h + w.f + w.d + w.a) % 2 }

unfoldable pub ones : Window
ones = record { a = 1; b = 1; c = 1; d = 1; e = 1; f = 1; g = 1; h = 1 }

window : ℕ → Window
window zero = ones
window (suc n) = shift (window n)

digits : ℕ → Window
digits n = record {
  a = digit n;
  b = digit (suc n);
  c = digit (suc (suc n));
  d = digit (suc (suc (suc n)));
  e = digit (suc (suc (suc (suc n))));
  f = digit (suc (suc (suc (suc (suc n)))));
  g = digit (suc (suc (suc (suc (suc (suc n))))));
  h = digit (suc (suc (suc (suc (suc (suc (suc n)))))));
}

window_is : (n : ℕ) → window n ≡ digits n
unfolding window digits digit shift ones
window_is zero = refl
window_is (suc n) = ap shift (window_is n)

window_round : window 255 ≡ window 0
unfolding window shift ones
window_round = refl

window_period : (n : ℕ) → window (n + 255) ≡ window n
unfolding window
window_period zero = window_round
window_period (suc n) = ap window (suc-add n 255) ∙ ap shift (window_period n)

digit_period : (n : ℕ) → digit (n + 255) ≡ digit n
unfolding digits
digit_period n = let e : digits (n + 255) ≡ digits n = sym (window_is (n + 255)) ∙ window_period n ∙ window_is n in ap (λ (w : Window). w.a) e

digit_turns : (q n : ℕ) → digit (n + q * 255) ≡ digit n
digit_turns zero n = ap digit (omega arith)
digit_turns (suc q) n = ap digit (let e : n + suc q * 255 ≡ n + q * 255 + 255 = omega arith in e) ∙ digit_period (n + q * 255) ∙ digit_turns q n

-- digit i of octet p
digit_mod : (p i : ℕ) → digit (8 * p + i) ≡ digit (8 * (p % 255) + i)
digit_mod p i =
    let e : 8 * p + i ≡ 8 * (p % 255) + i + (8 * (p / 255)) * 255 = omega (arith, div-add-mod' p 255) in
    ap digit e ∙ digit_turns (8 * (p / 255)) (8 * (p % 255) + i)

pub sequence_mod : (p : ℕ) → sequence p ≡ sequence (p % 255)
unfolding sequence
sequence_mod p =
    let z : digit (8 * p) ≡ digit (8 * (p % 255)) = ap digit (sym (add-zero (8 * p))) ∙ digit_mod p 0 ∙ ap digit (add-zero (8 * (p % 255))) in
    rw (z, digit_mod p 1, digit_mod p 2, digit_mod p 3, digit_mod p 4, digit_mod p 5, digit_mod p 6, digit_mod p 7)

unfoldable pub octet : Window → ℕ
octet w = w.a * 128 + w.b * 64 + w.c * 32 + w.d * 16 + w.e * 8 + w.f * 4 + w.g * 2 + w.h

sequence_is : (p : ℕ) → sequence p ≡ octet (window (8 * p))
unfolding sequence octet digits
sequence_is p = rw (window_is (8 * p)) (simp towards_suc)

-- n octets from a window on
unfoldable pub octets : ℕ → Window → List ℕ
octets zero w = []
octets (suc n) w = octet w ∷ octets n (shift (shift (shift (shift (shift (shift (shift (shift w))))))))

octets_at : (n m i : ℕ) → i < n → slice_index (octets n (window m)) i ≡ octet (window (m + 8 * i))
unfolding octets window
octets_at zero m i h = absurd (not-suc-le-zero h)
octets_at (suc n) m zero h = ap (λ x. octet (window x)) (let e : m ≡ m + 8 * 0 = omega arith in e)
octets_at (suc n) m (suc i) h =
    octets_at n (suc (suc (suc (suc (suc (suc (suc (suc m)))))))) i (le_of_suc-le-suc h)
    ∙ ap (λ x. octet (window x)) (let e : suc (suc (suc (suc (suc (suc (suc (suc m))))))) + 8 * i ≡ m + 8 * suc i = omega arith in e)

-- so a table of 255 octets holds them all
pub table_at : (p : ℕ) → slice_index (octets 255 ones) (p % 255) ≡ sequence p
unfolding window
table_at p =
    octets_at 255 0 (p % 255) (mod-lt p (lit< tt))
    ∙ ap (λ x. octet (window x)) (let e : 0 + 8 * (p % 255) ≡ 8 * (p % 255) = omega arith in e)
    ∙ sym (sequence_is (p % 255)) ∙ sym (sequence_mod p)

pub round_at : (i : ℕ) → i < 255 → slice_index (octets 255 ones) i ≡ sequence i
round_at i h = ap (λ j. slice_index (octets 255 ones) j) (sym (mod-eq_of_lt h)) ∙ table_at i

digit_lt : (n : ℕ) → digit n < 2
unfolding digit
digit_lt zero = lit< tt
digit_lt (suc zero) = lit< tt
digit_lt (suc (suc zero)) = lit< tt
digit_lt (suc (suc (suc zero))) = lit< tt
digit_lt (suc (suc (suc (suc zero)))) = lit< tt
digit_lt (suc (suc (suc (suc (suc zero))))) = lit< tt
digit_lt (suc (suc (suc (suc (suc (suc zero)))))) = lit< tt
digit_lt (suc (suc (suc (suc (suc (suc (suc zero))))))) = lit< tt
digit_lt (suc (suc (suc (suc (suc (suc (suc (suc m)))))))) = mod-lt _ (lit< tt)

pub sequence_lt : (p : ℕ) → sequence p < 256
unfolding sequence
sequence_lt p =
    let q = 8 * p in
    omega (arith, digit_lt q, digit_lt (q + 1), digit_lt (q + 2), digit_lt (q + 3), digit_lt (q + 4), digit_lt (q + 5), digit_lt (q + 6), digit_lt (q + 7))
