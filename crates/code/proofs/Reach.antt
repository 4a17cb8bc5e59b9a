-- At most one codeword lies within reach of a word.
use Rattle.std.proofs.Common.{◌≡◌, ℕ, ◌*◌, ◌≤◌, List, ap, ◌∙◌, inl, inr, arith}
use Rattle.std.proofs.lemmas.Bool.{cases_eq}
use Rattle.octets.specs.Octets.{altered}
use Rattle.octets.specs.Words.{word_length}
use Rattle.octets.proofs.Octets.{altered_comm, altered_self, altered_triangle, equal_from_altered}
use Rattle.code.specs.Meaning.{CodeMeaning, CodeLaws, Reached}

-- codewords that differ in no more than twice as many places as the reach are one
pub near_codewords : (code : CodeMeaning) → CodeLaws code → (a b : List ℕ) → code.Codeword a → code.Codeword b
    → altered word_length a b ≤ 2 * code.reach → a ≡ b
near_codewords code laws a b ca cb near = elim (cases_eq (altered word_length a b) 0) [
  | inl none ↦ equal_from_altered word_length a b (laws.octets a ca).size (laws.octets b cb).size none
  | inr some ↦
      let far = laws.apart a b ca cb (λ e. some (ap (λ z. altered word_length z b) e ∙ altered_self word_length b)) in
      absurd (omega arith)
]

pub one_reached : (code : CodeMeaning) → CodeLaws code → (word a b : List ℕ) → Reached code word a → Reached code word b → a ≡ b
one_reached code laws word a b ra rb =
    near_codewords code laws a b ra.is_codeword rb.is_codeword
    (omega (arith, altered_triangle word_length a word b, altered_comm word_length a word, ra.near, rb.near))
