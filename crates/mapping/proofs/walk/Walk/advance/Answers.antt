use Rattle.std.proofs.Common.{◌≡◌, refl, ℕ, ◌+◌, ◌-◌, ◌<◌, ◌≤◌, sym, subst, arith}
use Rattle.settings.specs.Lengths.{row_length, block_length}
use Rattle.mapping.proofs.Walking.{Spot, spot_of, walk_at, to_octet, to_row, to_row_round, to_round, to_begin}
use Rattle.mapping.proofs.walk.Walk.advance.Goals as goal
use Rattle.mapping.proofs.walk.Walk.advance.Goals.{then-next-self, else-next-self, then-next-self-2, else-next-self-2}

pub returns-then-self : goal.returns-then-self
returns-then-self c s step p at =
    let w = c.args.self.now in
    let n = to_octet s step p w.octet w.base w.first w.offset (spot_of s step p w at) (omega (arith, at.symbol_is)) in
    walk_at s step p (p + 1) w _ at refl refl refl refl n

pub returns-then-self-2 : goal.returns-then-self-2
returns-then-self-2 c s step p at =
    let w = c.args.self.now in
    let here = spot_of s step p w at in
    let last : s.symbol ≤ w.octet + 1 = omega (arith, at.symbol_is) in
    let more : w.base + row_length s < block_length s = omega (arith, at.row_length_is, at.block_is) in
    let On : ℕ → Type 0 = λ offset. Spot s step (p + 1) 0 (w.base + row_length s) w.first offset in
    let n : On c.if-next-self.self = elim c.if-next-self.branch [
      | then-next-self v ↦
          let near : w.offset + w.shift < row_length s = omega (arith, at.row_length_is) in
          subst On (sym v.self-is) (to_row s step p w.octet w.base w.first w.offset here w.shift at.shift_is last more near)
      | else-next-self v ↦
          let far : row_length s ≤ w.offset + w.shift = omega (arith, at.row_length_is) in
          let is : w.offset + w.shift - row_length s ≡ c.if-next-self.self = omega (arith, at.row_length_is) in
          subst On is (to_row_round s step p w.octet w.base w.first w.offset here w.shift at.shift_is last more far)
    ] in
    let Wide : ℕ → Type 0 = λ R. Spot s step (p + 1) 0 (w.base + R) w.first c.if-next-self.self in
    walk_at s step p (p + 1) w _ at refl refl refl refl (subst Wide (sym at.row_length_is) n)

pub returns : goal.returns
returns c s step p at =
    let w = c.args.self.now in
    let here = spot_of s step p w at in
    let last : s.symbol ≤ w.octet + 1 = omega (arith, at.symbol_is) in
    let end : block_length s ≤ w.base + row_length s = omega (arith, at.row_length_is, at.block_is) in
    let On : ℕ → Type 0 = λ first. Spot s step (p + 1) 0 0 first first in
    let n : On c.if-next-self-2.first = elim c.if-next-self-2.branch [
      | then-next-self-2 v ↦
          let near : w.first + s.symbol < row_length s = omega (arith, at.row_length_is, at.symbol_is) in
          let is : w.first + s.symbol ≡ c.if-next-self-2.first = omega (arith, at.symbol_is) in
          subst On is (to_round s step p w.octet w.base w.first w.offset here last end near)
      | else-next-self-2 v ↦
          let far : row_length s ≤ w.first + s.symbol = omega (arith, at.row_length_is, at.symbol_is) in
          subst On (sym v.first-is) (to_begin s step p w.octet w.base w.first w.offset here last end far)
    ] in
    walk_at s step p (p + 1) w _ at refl refl refl refl n
