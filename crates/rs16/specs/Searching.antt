-- What the search for a word's altered octets answers.
use Rattle.std.specs.Prelude.{ℕ, List, Some, None, Option}
use Rattle.code.specs.Calls.{Beyond}
use Rattle.code.specs.Meaning.{Reached}
use Rattle.rs16.specs.Codewords.{rs16}
use Rattle.rs16.specs.Mending.{corrected, Corrects}
use Rattle.rs16.specs.declared.corrections.Correction.{Correction}

-- the corrections that make the word the codeword within reach, or that there is none
abbrev pub Searches : List ℕ → Option (List Correction) → Type 0
Searches word (Some found) = Corrects word found × Reached rs16 word (corrected found word)
Searches word None = Beyond rs16 word
