-- The field's laws and the bench values, as the public theorems state them.
use Rattle.std.proofs.Common.{◌≡◌, ℕ, zero, suc, ◌*◌, ◌<◌, List, length, replicate, sym, refl, ◌∙◌, arith}
use Rattle.std.proofs.lemmas.List.{length-replicate, take-replicate}
use Rattle.octets.specs.Words.{word_length, word_place, word_of}
use Rattle.octets.proofs.Words.{row_from_words, word_from_places}
use Rattle.rs16.specs.Bench.{OfZeroFrame, BenchValues}
use Rattle.rs16.specs.Codewords.{root, syndrome, Codeword}
use Rattle.rs16.specs.DualBasis.{combine, line_octet}
use Rattle.rs16.specs.Field.{◌⊗◌, IsOctet, mul, mul_digits, times_alpha, pow, inv, alpha, FieldLaws}
use Rattle.rs16.specs.Arithmetic.{inv_octet, mul_inv}
use Rattle.rs16.specs.Powers.{log, exp_distinct, log_lt, log_power, pow_exp}
use Rattle.rs16.specs.PolynomialsLemmas.{add_assoc, add_comm, add-zero, add_self, octet_add, octet_mul, mul_assoc, mul_comm, mul_one, mul_add}
use Rattle.rs16.specs.Remainders.{get_or_zeros, one_codeword, value_zeros}

inverse : (a : ℕ) → IsOctet a → (a ≡ 0 → ⊥) → (b : ℕ) × IsOctet b × (a ⊗ b ≡ 1)
inverse zero h n = absurd (n refl)
inverse (suc a) h n = (inv (suc a), inv_octet (suc a), mul_inv a h)

power_of_alpha : (a : ℕ) → IsOctet a → (a ≡ 0 → ⊥) → (n : ℕ) × (n < 255) × (pow alpha n ≡ a)
power_of_alpha zero h n = absurd (n refl)
power_of_alpha (suc a) h n = (log (suc a), log_lt a h, log_power (suc a) (omega arith) h)

pub field_lawful : FieldLaws
field_lawful = record {
  sum_octet = octet_add;
  sum_assoc = add_assoc;
  sum_comm = add_comm;
  sum_zero = add-zero;
  sum_self = add_self;
  product_octet = octet_mul;
  product_assoc = mul_assoc;
  product_comm = mul_comm;
  product_one = mul_one;
  product_sum = mul_add;
  inverse = inverse;
  power_of_alpha = power_of_alpha;
  powers_apart = λ i j hi hj e. exp_distinct i j hi hj (sym (pow_exp i) ∙ e ∙ pow_exp j);
}

-- ---- zeros

pub zero_word : Codeword (replicate word_length 0)
unfolding syndrome
zero_word = record {
  octets = record { size = length-replicate {A = ℕ} word_length 0; octet = λ j l. rw (get_or_zeros word_length j) (omega arith) };
  zeros = λ m l. value_zeros word_length (root m);
}

pub word_of_zeros : (depth w n : ℕ) → replicate word_length 0 ≡ word_of depth w (replicate n 0)
word_of_zeros depth w n =
    word_from_places depth w (replicate n 0) (replicate word_length 0) (length-replicate {A = ℕ} word_length 0)
    (λ j l. get_or_zeros word_length j ∙ sym (get_or_zeros n (word_place depth w j)))

zero_row : (depth : ℕ) (row : List ℕ) → 0 < depth → length row ≡ word_length * depth → OfZeroFrame depth row → row ≡ replicate (word_length * depth) 0
zero_row depth row some size zero_frame =
    row_from_words depth row (replicate (word_length * depth) 0) some size (length-replicate {A = ℕ} (word_length * depth) 0)
    (λ w l.
    one_codeword (word_of depth w row) (replicate word_length 0) (zero_frame w l).0 zero_word
    ((zero_frame w l).1 ∙ sym (take-replicate 223 word_length 0 (omega arith)))
    ∙ word_of_zeros depth w (word_length * depth))

pub bench_values : BenchValues
unfolding mul mul_digits times_alpha line_octet combine
bench_values = record { product = refl; line_octet_of_3 = refl; zero_row = zero_row }
