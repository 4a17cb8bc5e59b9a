-- From a line place to the next: what stays, what goes on by one, what begins again.
use Rattle.std.proofs.Common.{◌≡◌, ℕ, ◌+◌, ◌-◌, ◌*◌, ◌/◌, ◌%◌, ◌<◌, ◌≤◌, sym, ap, ◌∙◌, ap₂, inl, inr, le_refl, div-add-mod', arith}
use Rattle.std.proofs.lemmas.Nat.{div-mul-add, mod-mul-add, mod_below, mul-le, mul-add-lt}
use Rattle.std.proofs.lemmas.Bool.{cases_lt}
use Rattle.settings.proofs.Ranges.{ranges, divisor_le}
use Rattle.settings.specs.declared.Settings.{Settings}
use Rattle.settings.specs.Lengths.{row_length, block_length}
use Rattle.mapping.specs.Interleaver.{columns, stepped_source, interleaved_source, step_of}
use Rattle.mapping.specs.Walk.{At}
use Rattle.mapping.specs.declared.interleaver.Interleaver.{Interleaver}
use Rattle.mapping.specs.declared.walk.Walk.{Walk}
use Rattle.mapping.specs.Laws.{interleaved_source_is}
use Rattle.mapping.specs.Bounds.{cut_of}
use Rattle.mapping.specs.InterleaverLemmas.{columns_fill, columns_pos}

-- counting up by turns of n: within a turn
pub next_in_turn : (x n : ℕ) → x % n + 1 < n → ((x + 1) % n ≡ x % n + 1) × ((x + 1) / n ≡ x / n)
next_in_turn x n h =
    let e : x + 1 ≡ x / n * n + (x % n + 1) = omega (arith, div-add-mod' x n) in
    (ap (λ y. y % n) e ∙ mod-mul-add (x / n) n (x % n + 1) h, ap (λ y. y / n) e ∙ div-mul-add (x / n) n (x % n + 1) h)

-- and on to the next turn
pub next_turn : (x n : ℕ) → x % n + 1 ≡ n → ((x + 1) % n ≡ 0) × ((x + 1) / n ≡ x / n + 1)
next_turn x n h =
    let some : 0 < n = omega arith in
    let e : x + 1 ≡ (x / n + 1) * n + 0 = omega (arith, div-add-mod' x n) in
    (ap (λ y. y % n) e ∙ mod-mul-add (x / n + 1) n 0 some, ap (λ y. y / n) e ∙ div-mul-add (x / n + 1) n 0 some)

-- remainders that add up within a turn
sum_in_turn : (x y n : ℕ) → x % n + y % n < n → (x + y) % n ≡ x % n + y % n
sum_in_turn x y n h =
    let e : x + y ≡ (x / n + y / n) * n + (x % n + y % n) = omega (arith, div-add-mod' x n, div-add-mod' y n) in
    ap (λ z. z % n) e ∙ mod-mul-add (x / n + y / n) n (x % n + y % n) h

-- and past its end
sum_past_turn : (x y n : ℕ) → 0 < n → n ≤ x % n + y % n → (x + y) % n ≡ x % n + y % n - n
sum_past_turn x y n some h =
    let e : x + y ≡ (x / n + y / n + 1) * n + (x % n + y % n - n) = omega (arith, div-add-mod' x n, div-add-mod' y n) in
    ap (λ z. z % n) e ∙ mod-mul-add (x / n + y / n + 1) n (x % n + y % n - n) (omega (arith, mod_below x n some, mod_below y n some))

-- of multiples, the factors are in the same order
lt_factors : (a b k : ℕ) → a * k < b * k → a < b
lt_factors a b k h = elim (cases_lt a b) [ inl l ↦ l | inr g ↦ absurd (omega (arith, mul-le b k a k g (le_refl k))) ]

le_factors : (a b k : ℕ) → 0 < k → a * k ≤ b * k → a ≤ b
le_factors a b k some h = elim (cases_lt b a) [ inl l ↦ absurd (omega (arith, mul-le (b + 1) k a k (omega arith) (le_refl k))) | inr g ↦ g ]

times_less : (a b c k : ℕ) → c ≤ a + b → (a + b - c) * k + c * k ≡ a * k + b * k
times_less a b c k h = let e : a + b - c + c ≡ a + b = omega arith in omega (arith, ap (λ n. n * k) e)

pub symbol_le_row : (s : Settings) (k R : ℕ) → k ≡ s.symbol → R ≡ row_length s → k ≤ R
symbol_le_row s k R ek eR = omega (arith, divisor_le (row_length s) s.symbol (omega (arith, (ranges s).depth_low)) (ranges s).symbol_whole)

-- a column begins within the row
pub column_lt : (s : Settings) (k R x : ℕ) → k ≡ s.symbol → R ≡ row_length s → x % (R / k) * k < R
column_lt s k R x ek eR =
    let C = columns s.depth s.symbol in
    let low : x % C < C = mod_below x C (columns_pos s.depth s.rows s.symbol 0 (cut_of s)) in
    rw (ek, eR) (omega (arith, mul-add-lt (x % C) s.symbol 0 C low (ranges s).symbol_low, columns_fill s.depth s.rows s.symbol 0 (cut_of s)))

-- a row begins within the block
pub base_lt : (s : Settings) (n R B x : ℕ) → n ≡ s.rows → R ≡ row_length s → B ≡ block_length s → x % n * R < B
base_lt s n R B x en eR eB =
    rw (en, eR, eB) (omega (arith, mul-add-lt (x % s.rows) (row_length s) 0 s.rows (mod_below x s.rows (ranges s).rows_low) (omega (arith, (ranges s).depth_low))))

-- where line place p lies
pub record Spot (s : Settings) (step p octet base first offset : ℕ) : Type 0 where
  pub octet_is : octet ≡ p % s.symbol
  pub base_is : base ≡ p / s.symbol % s.rows * row_length s
  pub first_is : first ≡ p / s.symbol / s.rows % columns s.depth s.symbol * s.symbol
  pub offset_is : offset ≡ (p / s.symbol / s.rows + p / s.symbol % s.rows * step) % columns s.depth s.symbol * s.symbol

module _ (s : Settings) (step p octet base first offset : ℕ) (here : Spot s step p octet base first offset) where
  fill : columns s.depth s.symbol * s.symbol ≡ row_length s
  fill = columns_fill s.depth s.rows s.symbol 0 (cut_of s)

  -- on to the next octet of a symbol
  pub to_octet : octet + 1 < s.symbol → Spot s step (p + 1) (octet + 1) base first offset
  to_octet more =
      let n = next_in_turn p s.symbol (omega (arith, here.octet_is)) in
      record {
        octet_is = omega (arith, here.octet_is, n.0);
        base_is = rw n.1 here.base_is;
        first_is = rw n.1 here.first_is;
        offset_is = rw n.1 here.offset_is;
      }

  -- or, behind a symbol's last octet, to the next symbol
  next_symbol : s.symbol ≤ octet + 1 → ((p + 1) % s.symbol ≡ 0) × ((p + 1) / s.symbol ≡ p / s.symbol + 1)
  next_symbol last = next_turn p s.symbol (omega (arith, here.octet_is, mod_below p s.symbol (ranges s).symbol_low))

  -- which is in the next row
  next_row : base + row_length s < block_length s
      → ((p / s.symbol + 1) % s.rows ≡ p / s.symbol % s.rows + 1) × ((p / s.symbol + 1) / s.rows ≡ p / s.symbol / s.rows)
  next_row more =
      next_in_turn (p / s.symbol) s.rows
      (lt_factors (p / s.symbol % s.rows + 1) s.rows (row_length s) (omega (arith, here.base_is)))

  -- or, behind the last row, in the first
  next_round : block_length s ≤ base + row_length s
      → ((p / s.symbol + 1) % s.rows ≡ 0) × ((p / s.symbol + 1) / s.rows ≡ p / s.symbol / s.rows + 1)
  next_round last =
      let low = mod_below (p / s.symbol) s.rows (ranges s).rows_low in
      let high = le_factors s.rows (p / s.symbol % s.rows + 1) (row_length s) (omega (arith, (ranges s).depth_low)) (omega (arith, here.base_is)) in
      next_turn (p / s.symbol) s.rows (omega arith)

  -- the row behind is read `step` columns further on
  stepped_on : p / s.symbol / s.rows + (p / s.symbol % s.rows + 1) * step ≡ p / s.symbol / s.rows + p / s.symbol % s.rows * step + step
  stepped_on = omega arith

  -- on to the next row, which is read further on
  pub to_row : (shift : ℕ) → shift ≡ step % columns s.depth s.symbol * s.symbol
      → s.symbol ≤ octet + 1 → base + row_length s < block_length s → offset + shift < row_length s
      → Spot s step (p + 1) 0 (base + row_length s) first (offset + shift)
  to_row shift Shift-is last more near =
      let y = next_symbol last in
      let r = next_row more in
      let C = columns s.depth s.symbol in
      let x = p / s.symbol / s.rows + p / s.symbol % s.rows * step in
      let sum = sum_in_turn x step C (lt_factors (x % C + step % C) C s.symbol (omega (arith, here.offset_is, fill))) in
      record {
        octet_is = sym y.0;
        base_is = rw (y.1, r.0) (omega (arith, here.base_is));
        first_is = rw (y.1, r.1) here.first_is;
        offset_is = rw (y.1, r.0, r.1, stepped_on, sum) (omega (arith, here.offset_is));
      }

  -- or round the row's end
  pub to_row_round : (shift : ℕ) → shift ≡ step % columns s.depth s.symbol * s.symbol
      → s.symbol ≤ octet + 1 → base + row_length s < block_length s → row_length s ≤ offset + shift
      → Spot s step (p + 1) 0 (base + row_length s) first (offset + shift - row_length s)
  to_row_round shift Shift-is last more far =
      let y = next_symbol last in
      let r = next_row more in
      let C = columns s.depth s.symbol in
      let x = p / s.symbol / s.rows + p / s.symbol % s.rows * step in
      let high : C ≤ x % C + step % C = le_factors C (x % C + step % C) s.symbol (ranges s).symbol_low (omega (arith, here.offset_is, fill)) in
      let sum = sum_past_turn x step C (columns_pos s.depth s.rows s.symbol 0 (cut_of s)) high in
      let less : (x % C + step % C - C) * s.symbol + C * s.symbol ≡ x % C * s.symbol + step % C * s.symbol =
      times_less (x % C) (step % C) C s.symbol high in
      record {
        octet_is = sym y.0;
        base_is = rw (y.1, r.0) (omega (arith, here.base_is));
        first_is = rw (y.1, r.1) here.first_is;
        offset_is = rw (y.1, r.0, r.1, stepped_on, sum) (omega (arith, here.offset_is, fill, less));
      }

  -- row 0 is read where the turn of the rows begins
  row_0 : (a : ℕ) → a + 0 * step ≡ a
  row_0 a = omega arith

  -- on to the first row, one column further on
  pub to_round : s.symbol ≤ octet + 1 → block_length s ≤ base + row_length s → first + s.symbol < row_length s
      → Spot s step (p + 1) 0 0 (first + s.symbol) (first + s.symbol)
  to_round last end near =
      let y = next_symbol last in
      let r = next_round end in
      let C = columns s.depth s.symbol in
      let a = p / s.symbol / s.rows in
      let n = next_in_turn a C (lt_factors (a % C + 1) C s.symbol (omega (arith, here.first_is, fill))) in
      record {
        octet_is = sym y.0;
        base_is = rw (y.1, r.0) (omega arith);
        first_is = rw (y.1, r.1, n.0) (omega (arith, here.first_is));
        offset_is = rw (y.1, r.0, r.1, row_0 (a + 1), n.0) (omega (arith, here.first_is));
      }

  -- or to the block's begin
  pub to_begin : s.symbol ≤ octet + 1 → block_length s ≤ base + row_length s → row_length s ≤ first + s.symbol
      → Spot s step (p + 1) 0 0 0 0
  to_begin last end far =
      let y = next_symbol last in
      let r = next_round end in
      let C = columns s.depth s.symbol in
      let a = p / s.symbol / s.rows in
      let low = mod_below a C (columns_pos s.depth s.rows s.symbol 0 (cut_of s)) in
      let high = le_factors C (a % C + 1) s.symbol (ranges s).symbol_low (omega (arith, here.first_is, fill)) in
      let n = next_turn a C (omega arith) in
      record {
        octet_is = sym y.0;
        base_is = rw (y.1, r.0) (omega arith);
        first_is = rw (y.1, r.1, n.0) (omega arith);
        offset_is = rw (y.1, r.0, r.1, row_0 (a + 1), n.0) (omega arith);
      }

-- the spot of a walk
pub spot_of : (s : Settings) (step p : ℕ) (w : Walk) → At s step p w → Spot s step p w.octet w.base w.first w.offset
spot_of s step p w at = record { octet_is = at.octet_is; base_is = at.base_is; first_is = at.first_is; offset_is = at.offset_is }

-- a walk with the same lengths stands at a line place if its spot does
pub walk_at : (s : Settings) (step p q : ℕ) (w v : Walk) → At s step p w → v.symbol ≡ w.symbol → v.row_length ≡ w.row_length → v.block ≡ w.block
    → v.shift ≡ w.shift → Spot s step q v.octet v.base v.first v.offset → At s step q v
walk_at s step p q w v at symbol row_length block shift n = record {
  symbol_is = symbol ∙ at.symbol_is;
  row_length_is = row_length ∙ at.row_length_is;
  block_is = block ∙ at.block_is;
  shift_is = shift ∙ at.shift_is;
  octet_is = n.octet_is;
  base_is = n.base_is;
  first_is = n.first_is;
  offset_is = n.offset_is;
}

-- a walk with a step stands where the line place comes from
pub stepped_place_is : (s : Settings) (step p : ℕ) (w : Walk) → At s step p w → w.base + w.offset + w.octet ≡ stepped_source s.depth s.rows s.symbol step p
unfolding stepped_source
stepped_place_is s step p w at = ap₂ (λ a b. a + b) (ap₂ (λ a b. a + b) at.base_is at.offset_is) at.octet_is

-- and so does one of an interleaver, at a place of the block
pub place_is : (s : Settings) (i : Interleaver) (p : ℕ) (w : Walk) → p < block_length s → At s (step_of i) p w
    → w.base + w.offset + w.octet ≡ interleaved_source s i p
place_is s i p w h at = stepped_place_is s (step_of i) p w at ∙ sym (interleaved_source_is s i p h)
