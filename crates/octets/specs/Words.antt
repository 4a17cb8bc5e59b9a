-- Words of 255 octets, `depth` of them woven into a row: octet j of word w is row octet j * depth + w.
use Rattle.std.specs.Prelude.{◌≡◌, ℕ, ◌+◌, ◌*◌, ◌%◌, Bool, false, List, length, ◌==◌, slice_index}
use Rattle.octets.specs.Counting.{tabulate}

-- the octets of a word
abbrev pub word_length : ℕ
word_length = 255

-- the most octets of a word that any code puts right
abbrev pub max_reach : ℕ
max_reach = 16

abbrev pub word_place : ℕ → ℕ → ℕ → ℕ
word_place depth w j = j * depth + w

-- word w of a row
unfoldable pub word_of : ℕ → ℕ → List ℕ → List ℕ
word_of depth w row = tabulate word_length (λ j. slice_index row (word_place depth w j))

-- whether row octet q is one of word w
abbrev pub of_word : ℕ → ℕ → ℕ → Bool
of_word depth w q = q % depth == w

-- Two rows are alike but for word w.
pub record KeepsOthers (depth w : ℕ) (before after : List ℕ) : Type 0 where
  pub size : length after ≡ length before
  pub others : (q : ℕ) → of_word depth w q ≡ false → slice_index after q ≡ slice_index before q
