-- A row mended word by word: what its words become, the octets altered, and the first word that is not mended.
use Rattle.std.specs.Prelude.{◌≡◌, ℕ, ◌*◌, ◌<◌, ◌⊎◌, List, length, Ok, Err, Result}
use Rattle.octets.specs.Octets.{altered}
use Rattle.octets.specs.Words.{word_length, word_of}
use Rattle.code.specs.Meaning.{CodeMeaning, Reached}
use Rattle.code.specs.Calls.{Beyond}
use Rattle.code.specs.declared.fault.MendFault.TheVariants.{Reach}
use Rattle.link.specs.declared.mending.RowFault.{RowFault}

-- What becomes of a word: the codeword within reach, or, where none is, the word as it was.
abbrev pub WordAfter : CodeMeaning → List ℕ → List ℕ → Type 0
WordAfter code before after = Reached code before after ⊎ (Beyond code before × (after ≡ before))

-- The first n words of a row are mended.
abbrev pub FirstMended : CodeMeaning → ℕ → ℕ → List ℕ → List ℕ → Type 0
FirstMended code depth n before after = (w : ℕ) → w < n → Reached code (word_of depth w before) (word_of depth w after)

-- Of the first n words each is mended, or the first that no codeword is within reach of is named.
abbrev pub Verdict : CodeMeaning → ℕ → ℕ → List ℕ → List ℕ → Result Unit RowFault → Type 0
Verdict code depth n before after (Ok _) = FirstMended code depth n before after
Verdict code depth n before after (Err row) =
    (row.word < n) × (row.fault ≡ Reach) × Beyond code (word_of depth row.word before) × FirstMended code depth row.word before after

-- A row mended: each word by itself, so that a word that is not mended stops none behind it. Every octet of a row is one of a word, so this
-- says what each octet of the row is. `count` is the number of octets that are not as they were.
pub record MendedRow (depth : ℕ) (code : CodeMeaning) (before after : List ℕ) (count : ℕ) (valid : Result Unit RowFault) : Type 0 where
  pub size : length after ≡ word_length * depth
  pub words : (w : ℕ) → w < depth → WordAfter code (word_of depth w before) (word_of depth w after)
  pub counted : count ≡ altered (word_length * depth) before after
  pub verdict : Verdict code depth depth before after valid
