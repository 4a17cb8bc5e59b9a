-- Lengths of a block on the line.
use Rattle.std.proofs.Common.{◌≡◌, ℕ, zero, suc, ◌*◌, ◌<◌, ◌≤◌, sym, ap, ◌∙◌, mul_assoc, mul_comm, arith}
use Rattle.std.proofs.lemmas.Nat.{mul-le}
use Rattle.settings.specs.declared.Settings.{Settings}
use Rattle.settings.specs.Lengths.{row_length, block_length, subframes, subframe_data, period}
use Rattle.settings.proofs.Ranges.{ranges, subframes_fill, period_high}
use Rattle.link.specs.Line.{line_length}

factor_some : (a b : ℕ) → 0 < a * b → 0 < a
factor_some zero b h = omega arith
factor_some (suc a) b h = omega arith

module _ (s : Settings) where
  pub subframes_some : 0 < subframes s
  subframes_some = factor_some (subframes s) s.subframe_rows (omega (arith, subframes_fill s, (ranges s).rows_low))

  pub subframes_high : subframes s ≤ 4096
  subframes_high =
      omega (arith, subframes_fill s, (ranges s).rows_high, mul-le (subframes s) 1 (subframes s) s.subframe_rows (omega arith) (ranges s).subframe_rows_low)

  pub subframe_data_some : 0 < subframe_data s
  subframe_data_some =
      omega (arith, mul-le 1 1 (row_length s) s.subframe_rows (omega (arith, (ranges s).depth_low)) (ranges s).subframe_rows_low)

  pub line_some : 0 < line_length s
  line_some = omega (arith, mul-le 1 1 (subframes s) (period s) subframes_some (omega arith))

  pub line_high : line_length s ≤ 34225549312
  line_high = mul-le (subframes s) (period s) 4096 8355847 subframes_high (period_high s)

  -- the data of the subframes is that of the block
  pub data_fills : subframes s * subframe_data s ≡ block_length s
  data_fills =
      ap (λ (n : ℕ). subframes s * n) (mul_comm (row_length s) s.subframe_rows)
      ∙ sym (mul_assoc (subframes s) s.subframe_rows (row_length s))
      ∙ ap (λ (n : ℕ). n * row_length s) (subframes_fill s)
      ∙ mul_comm s.rows (row_length s)
