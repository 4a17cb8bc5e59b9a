use Rattle.std.proofs.Common.{◌≡◌, ℕ, ◌+◌, ◌*◌, ◌/◌, ◌%◌, ◌<◌, sym, ap, arith}
use Rattle.std.proofs.lemmas.Nat.{mod_below}
use Rattle.settings.proofs.Ranges.{ranges, row_length_high, block_length_high}
use Rattle.mapping.specs.Bounds.{step_of_high, stepped_column_fits}
use Rattle.mapping.specs.Interleaver.{step_of}
use Rattle.mapping.proofs.Walking.{symbol_le_row, column_lt, base_lt}
use Rattle.mapping.proofs.walk.Walk.along.Goals as goal
use Rattle.mapping.proofs.walk.Walk.along.Goals.{in-Block, in-Stepped}

pub overflow_add-shift : goal.overflow_add-shift
overflow_add-shift c =
    let m = c.args.mapping.now in
    let is : c.in-Stepped.step ≡ step_of m.interleaver = sym (ap step_of c.in-Stepped.is) in
    simp (c.symbol-symbol.ensures, c.rows-rows.ensures, is)
    (omega (arith, stepped_column_fits m.settings (step_of m.interleaver) c.args.p (step_of_high m.interleaver m.allowed) c.requires))

pub overflow_mul-shift-in-Stepped-2 : goal.overflow_mul-shift-in-Stepped-2
overflow_mul-shift-in-Stepped-2 c =
    let x = c.args.p / c.symbol-symbol.result in
    omega (arith, column_lt c.args.mapping.now.settings _ _ (x / c.rows-rows.result + x % c.rows-rows.result * c.in-Stepped.step) c.symbol-symbol.ensures c.row_length-row_length.ensures, c.row_length-row_length.type_inv)

pub invariant_of-result : goal.invariant_of-result
invariant_of-result c =
    let s = c.args.mapping.now.settings in
    let R : ℕ = c.row_length-row_length.result in
    let low : (x : ℕ) → x % (R / c.symbol-symbol.result) * c.symbol-symbol.result < R =
    λ x. column_lt s _ _ x c.symbol-symbol.ensures c.row_length-row_length.ensures in
    let turns : (c.match-mapping.shift.0 < R) × (c.match-mapping.shift.1 < R) =
    elim c.match-mapping.branch [
      | in-Block w ↦ rw (w.shift-is) (omega (arith, low 0), low _)
      | in-Stepped w ↦ rw (w.shift-is) (low _, low _)
    ] in
    record {
      symbol_small = symbol_le_row s _ _ c.symbol-symbol.ensures c.row_length-row_length.ensures;
      row_small = omega (arith, row_length_high s, c.row_length-row_length.ensures);
      block_small = omega (arith, block_length_high s, c.block_length.ensures);
      shift_low = turns.0;
      octet_low = mod_below _ _ (omega (arith, (ranges s).symbol_low, c.symbol-symbol.ensures));
      base_low = base_lt s _ _ _ _ c.rows-rows.ensures c.row_length-row_length.ensures c.block_length.ensures;
      first_low = low _;
      offset_low = turns.1;
    }
