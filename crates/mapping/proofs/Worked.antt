-- The figures, worked out.
use Rattle.std.proofs.Common.{sym, refl, zero-mul, arith}
use native.Mathlib.Nat.{zero-div, zero-mod}
use Rattle.octets.specs.Counting.{sum}
use Rattle.mapping.specs.Interleaver.{block_source, stepped_source, symbol_fade}
use Rattle.mapping.specs.Figures.{Figures}
use Rattle.mapping.specs.Digits.{octets, octet, shift, ones, table_at}

pub figures : Figures
unfolding sum block_source stepped_source symbol_fade octets octet shift ones
figures = record {
  block_5 = refl;
  block_10 = refl;
  stepped_5 = refl;
  stepped_505 = refl;
  fade_of_symbol_5 = refl;
  fade_of_symbol_17 = refl;
  fade_of_the_largest_block = refl;
  fade_of_no_reach = λ depth rows symbol. rw (zero-mul depth, zero-div symbol, zero-mod symbol) (omega arith);
  too_many = refl;
  sequence_0 = sym (table_at 0);
  sequence_1 = sym (table_at 1);
  sequence_2 = sym (table_at 2);
  sequence_3 = sym (table_at 3);
  sequence_4 = sym (table_at 4);
}
