-- The bench values, worked out.
use Rattle.std.proofs.Common.{ℕ, ◌*◌, replicate, refl, subst, arith}
use lib.ListN.{length-replicate}
use Rattle.std.proofs.lemmas.List.{take-replicate}
use Rattle.std.proofs.lemmas.Nat.{mul-le}
use Rattle.octets.specs.Words.{word_length}
use Rattle.marker.proofs.Markers as markers
use Rattle.mapping.proofs.Worked as mappings
use Rattle.rs16.specs.Field.{mul, mul_digits, times_alpha}
use Rattle.rs16.specs.DualBasis.{line_octet, combine}
use Rattle.rs16.specs.Codewords.{rs16, Codeword}
use Rattle.rs16.specs.Remainders.{lawful}
use Rattle.rs16.proofs.Theorems.{zero_word, word_of_zeros}
use Rattle.link.specs.Frames.{EncodedFrame, frame_length}
use Rattle.link.proofs.OneRow.{one_row}
use Rattle.promise.specs.Bench.{BenchValues}

zero_row : (depth : ℕ) → EncodedFrame depth rs16 (replicate (frame_length depth rs16) 0) (replicate (word_length * depth) 0)
zero_row depth = record {
  size = length-replicate {A = ℕ} (word_length * depth) 0;
  begins = take-replicate (frame_length depth rs16) (word_length * depth) 0 (mul-le 223 depth word_length depth (omega arith) (omega arith));
  words = λ w low. subst Codeword (word_of_zeros depth w (word_length * depth)) zero_word;
}

pub bench_values : BenchValues
unfolding mul mul_digits times_alpha line_octet combine
bench_values =
    let m = mappings.figures in
    record {
      product = refl;
      line_octet_of_3 = refl;
      sequence_begins = rw (m.sequence_0, m.sequence_1, m.sequence_2, m.sequence_3, m.sequence_4);
      count_1 = rw (markers.figures).count_1;
      count_4095 = rw (markers.figures).count_4095;
      block_5 = m.block_5;
      block_10 = m.block_10;
      stepped_5 = m.stepped_5;
      stepped_505 = m.stepped_505;
      fade_of_symbol_5 = m.fade_of_symbol_5;
      fade_of_symbol_17 = m.fade_of_symbol_17;
      fade_of_the_largest_block = m.fade_of_the_largest_block;
      fade_of_no_reach = m.fade_of_no_reach;
      zero_frame = zero_row;
      only_zeros = λ depth row some h. one_row depth rs16 lawful some (replicate (frame_length depth rs16) 0) row (replicate (word_length * depth) 0) h (zero_row depth);
    }
