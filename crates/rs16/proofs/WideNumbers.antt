-- Octets of a wide number: what a move by eight digits and a sum modulo 2 make of them.
use Rattle.std.proofs.Common.{◌≡◌, ℕ, zero, suc, ◌+◌, ◌*◌, ◌/◌, ◌%◌, ◌^◌, ◌<◌, ◌≤◌, List, [], ◌∷◌, ◌++◌, map, get_or, sym, ap, ◌∙◌, ap₂, inl, inr, refl, add-one, add-zero, zero-add, arith, w64}
use Rattle.std.specs.Int.{to_le_bytes}
use lib.Bits.{bit_xor, bit_or, bit_and}
use Rattle.std.specs.List.{range_with_len}
use Rattle.std.proofs.lemmas.List.FromFn.{length-map-range_with_len, get_or-map-range_with_len}
use Rattle.std.proofs.lemmas.List.{ext_get_or, get_or_past}
use Rattle.std.proofs.lemmas.Bool.{cases_lt}
use Rattle.std.proofs.lemmas.Nat.{xor_shr, xor_mod, shr-shr, shr_split, or_shifted, shl_whole, mod_below, and_mask, shr_le}
use Rattle.octets.specs.Counting.{tabulate}
use Rattle.rs16.specs.Division.{generator, multiple, divide_step}
use Rattle.rs16.specs.Rows.{octet_at, packed, multiples}
use Rattle.rs16.specs.DualBasis.{element}
use Rattle.rs16.specs.Field.{◌⊗◌}
use Rattle.rs16.specs.DualBasisLemmas.{line_octet_octet}
use Rattle.rs16.specs.Remainders.{divide_step_length}
use Rattle.rs16.proofs.Steps.{divide_step_at}

-- the octets of a sum modulo 2
pub octet_xor : (x y k : ℕ) → octet_at (bit_xor x y) k ≡ bit_xor (octet_at x k) (octet_at y k)
octet_xor x y k = ap (λ n. n % 256) (xor_shr x y (8 * k)) ∙ xor_mod (x / 2 ^ (8 * k)) (y / 2 ^ (8 * k)) 8

-- the octets of a number that lost its first
pub octet_shifted : (x k : ℕ) → octet_at (x / 256) k ≡ octet_at x (k + 1)
octet_shifted x k =
    let up : 8 + 8 * k ≡ 8 * (k + 1) = omega arith in
    ap (λ n. n % 256) (shr-shr x 8 (8 * k) ∙ ap (λ e. x / 2 ^ e) up)

-- the octets of a packed list
abbrev Small : List ℕ → Type 0
Small [] = Unit {0}
Small (x ∷ xs) = (x < 256) × Small xs

pub octet_packed : (xs : List ℕ) (k : ℕ) → Small xs → octet_at (packed xs) k ≡ get_or xs k 0
octet_packed [] k h = let none : 0 / 2 ^ (8 * k) ≡ 0 = omega (arith, shr_le 0 (8 * k)) in ap (λ n. n % 256) none
octet_packed (x ∷ xs) zero h = let small : x < 256 = h.0 in omega arith
octet_packed (x ∷ xs) (suc k) h =
    let small : x < 256 = h.0 in
    let rest : (x + 256 * packed xs) / 256 ≡ packed xs = omega arith in
    ap (octet_at (x + 256 * packed xs)) (sym (add-one k)) ∙ sym (octet_shifted (x + 256 * packed xs) k) ∙ ap (λ n. octet_at n k) rest ∙ octet_packed xs k h.1

-- numbers of 64 digits side by side, added modulo 2
pub xor_join : (x X y Y : ℕ) → x < 2 ^ 64 → y < 2 ^ 64 → bit_xor (x + 2 ^ 64 * X) (y + 2 ^ 64 * Y) ≡ bit_xor x y + 2 ^ 64 * bit_xor X Y
xor_join x X y Y hx hy =
    let n : ℕ = bit_xor (x + 2 ^ 64 * X) (y + 2 ^ 64 * Y) in
    let high-x : (x + 2 ^ 64 * X) / 2 ^ 64 ≡ X = omega arith in
    let high-y : (y + 2 ^ 64 * Y) / 2 ^ 64 ≡ Y = omega arith in
    let low_x : (x + 2 ^ 64 * X) % 2 ^ 64 ≡ x = omega arith in
    let low-y : (y + 2 ^ 64 * Y) % 2 ^ 64 ≡ y = omega arith in
    let high : n / 2 ^ 64 ≡ bit_xor X Y = xor_shr (x + 2 ^ 64 * X) (y + 2 ^ 64 * Y) 64 ∙ ap₂ bit_xor high-x high-y in
    let low : n % 2 ^ 64 ≡ bit_xor x y = xor_mod (x + 2 ^ 64 * X) (y + 2 ^ 64 * Y) 64 ∙ ap₂ bit_xor low_x low-y in
    omega (arith, shr_split n 64, high, low)

-- a number without its first octet, and with the first octet of the next behind it
pub moved : (a b : ℕ) → a < 2 ^ 64 → bit_or (bit_and b 255 * 2 ^ 56 % 2 ^ 64) (a / 2 ^ 8) ≡ b % 256 * 2 ^ 56 + a / 2 ^ 8
moved a b ha =
    let small : b % 256 < 256 = mod_below b 256 (omega arith) in
    let rest : a / 2 ^ 8 < 2 ^ 56 = omega arith in
    ap (λ n. bit_or (n * 2 ^ 56 % 2 ^ 64) (a / 2 ^ 8)) (and_mask b 8) ∙ ap (λ n. bit_or n (a / 2 ^ 8)) (shl_whole (b % 256) 8 56 64 small (omega arith)) ∙ or_shifted (b % 256) 56 (a / 2 ^ 8) rest

-- four numbers of 64 digits, moved by an octet together
pub wide_shifted : (a b c d : ℕ)
    → (b % 256 * 2 ^ 56 + a / 256) + 2 ^ 64 * ((c % 256 * 2 ^ 56 + b / 256) + 2 ^ 64 * ((d % 256 * 2 ^ 56 + c / 256) + 2 ^ 64 * (d / 256)))
    ≡ (a + 2 ^ 64 * (b + 2 ^ 64 * (c + 2 ^ 64 * d))) / 256
wide_shifted a b c d = omega arith

-- ---- the division on wide numbers

-- the octets of a number of 32 octets, listed; behind the last there is nothing
listed : (n k : ℕ) → n < 2 ^ 256 → k ≤ 32 → get_or (tabulate 32 (octet_at n)) k 0 ≡ octet_at n k
listed n k h l = elim (cases_lt k 32) [
  | inl low ↦ get_or-map-range_with_len (octet_at n) 0 32 k k 0 low (omega arith)
  | inr high ↦
      let last : k ≡ 32 = omega arith in
      let none : n / 2 ^ 256 ≡ 0 = omega arith in
      get_or_past (tabulate 32 (octet_at n)) k 0 (omega (arith, length-map-range_with_len (octet_at n) 0 32)) ∙ sym (ap (octet_at n) last ∙ ap (λ m. m % 256) none)
]

small_list : (f : ℕ → ℕ) → ((k : ℕ) → f k < 256) → (a n : ℕ) → Small (map f (range_with_len a n))
small_list f h a zero = tt
small_list f h a (suc n) = (h a, small_list f h (a + 1) n)

small_multiples : (f : ℕ) → Small (multiples f)
unfolding multiples
small_multiples f = small_list (λ k. multiple f (get_or generator k 0)) (λ k. line_octet_octet (element f ⊗ get_or generator k 0)) 0 32

-- a wide number moved by an octet, plus the multiples of the octet that leads, is the next remainder
pub wide_divided : (o n next : ℕ) → n < 2 ^ 256 → next ≡ bit_xor (n / 256) (packed (multiples (bit_xor (octet_at n 0) o)))
    → tabulate 32 (octet_at next) ≡ divide_step o (tabulate 32 (octet_at n))
unfolding multiples
wide_divided o n next h is =
    let r : List ℕ = tabulate 32 (octet_at n) in
    let f : ℕ = bit_xor (octet_at n 0) o in
    ext_get_or 0 (tabulate 32 (octet_at next)) (divide_step o r) (length-map-range_with_len (octet_at next) 0 32 ∙ sym (divide_step_length o r)) (λ k lk.
    let low : k < 32 = omega (arith, length-map-range_with_len (octet_at next) 0 32) in
    get_or-map-range_with_len (octet_at next) 0 32 k k 0 low (omega arith)
    ∙ ap (λ m. octet_at m k) is
    ∙ octet_xor (n / 256) (packed (multiples f)) k
    ∙ ap₂ bit_xor (octet_shifted n k ∙ sym (listed n (k + 1) h (omega arith)))
    (octet_packed (multiples f) k (small_multiples f) ∙ get_or-map-range_with_len (λ j. multiple f (get_or generator j 0)) 0 32 k k 0 low (omega arith)
    ∙ ap (λ x. multiple (bit_xor x o) (get_or generator k 0)) (sym (listed n 0 h (omega arith))))
    ∙ sym (divide_step_at o r k low))

-- ---- the octets of four numbers, one behind the other

-- octets of the low number
low_octet : (a X k : ℕ) → k < 8 → octet_at a k ≡ octet_at (a + 2 ^ 64 * X) k
low_octet a X zero h = omega arith
low_octet a X (suc zero) h = omega arith
low_octet a X (suc (suc zero)) h = omega arith
low_octet a X (suc (suc (suc zero))) h = omega arith
low_octet a X (suc (suc (suc (suc zero)))) h = omega arith
low_octet a X (suc (suc (suc (suc (suc zero))))) h = omega arith
low_octet a X (suc (suc (suc (suc (suc (suc zero)))))) h = omega arith
low_octet a X (suc (suc (suc (suc (suc (suc (suc zero))))))) h = omega arith
low_octet a X (suc (suc (suc (suc (suc (suc (suc (suc k)))))))) h = absurd (omega arith)

-- octets of what is above it
high_octet : (a X k : ℕ) → a < 2 ^ 64 → octet_at X k ≡ octet_at (a + 2 ^ 64 * X) (8 + k)
high_octet a X k h =
    let above : (a + 2 ^ 64 * X) / 2 ^ 64 ≡ X = omega arith in
    let up : 64 + 8 * k ≡ 8 * (8 + k) = omega arith in
    ap (λ n. octet_at n k) (sym above) ∙ ap (λ n. n % 256) (shr-shr (a + 2 ^ 64 * X) 64 (8 * k) ∙ ap (λ e. (a + 2 ^ 64 * X) / 2 ^ e) up)

-- a list made place by place, from another place on
moved_list : (f g : ℕ → ℕ) (n i j : ℕ) → ((k : ℕ) → k < n → f (i + k) ≡ g (j + k)) → map f (range_with_len i n) ≡ map g (range_with_len j n)
moved_list f g zero i j h = refl
moved_list f g (suc n) i j h =
    ap₂ (λ x xs. x ∷ xs) (ap f (sym (add-zero i)) ∙ h 0 (omega arith) ∙ ap g (add-zero j))
    (moved_list f g n (i + 1) (j + 1) (λ k l.
    let fi : (i + 1) + k ≡ i + (k + 1) = omega arith in
    let gj : j + (k + 1) ≡ (j + 1) + k = omega arith in
    ap f fi ∙ h (k + 1) (omega arith) ∙ ap g gj))

pub joined_octets : (a b c d : ℕ) → a < 2 ^ 64 → b < 2 ^ 64 → c < 2 ^ 64
    → tabulate 8 (octet_at a) ++ (tabulate 8 (octet_at b) ++ (tabulate 8 (octet_at c) ++ tabulate 8 (octet_at d)))
    ≡ tabulate 32 (octet_at (a + 2 ^ 64 * (b + 2 ^ 64 * (c + 2 ^ 64 * d))))
joined_octets a b c d ha hb hc =
    let X : ℕ = b + 2 ^ 64 * (c + 2 ^ 64 * d) in
    let Y : ℕ = c + 2 ^ 64 * d in
    let n : ℕ = a + 2 ^ 64 * (b + 2 ^ 64 * (c + 2 ^ 64 * d)) in
    let f : ℕ → ℕ = octet_at n in
    ap₂ ◌++◌ (moved_list (octet_at a) f 8 0 0 (λ k l. ap (octet_at a) (zero-add k) ∙ low_octet a X k l ∙ ap f (sym (zero-add k))))
    (ap₂ ◌++◌ (moved_list (octet_at b) f 8 0 8 (λ k l. ap (octet_at b) (zero-add k) ∙ low_octet b Y k l ∙ high_octet a X k ha))
    (ap₂ ◌++◌ (moved_list (octet_at c) f 8 0 16 (λ k l. ap (octet_at c) (zero-add k) ∙ low_octet c d k l ∙ high_octet b Y k hb ∙ high_octet a X (8 + k) ha ∙ ap f (let e : 8 + (8 + k) ≡ 16 + k = omega arith in e)))
    (moved_list (octet_at d) f 8 0 24 (λ k l. ap (octet_at d) (zero-add k) ∙ high_octet c d k hc ∙ high_octet b Y (8 + k) hb ∙ high_octet a X (8 + (8 + k)) ha ∙ ap f (let e : 8 + (8 + (8 + k)) ≡ 24 + k = omega arith in e)))))

-- the octets of one of them, as `to_le_bytes` lists them
pub le_octets : (n : ℕ) → to_le_bytes w64 n ≡ tabulate 8 (octet_at n)
le_octets n = ap (λ first. first ∷ map (octet_at n) (range_with_len 1 7)) (let same : n % 256 ≡ n / 1 % 256 = omega arith in same)
