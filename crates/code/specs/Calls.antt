-- What the calls on a word of a row answer, and what the row holds after them.
use Rattle.std.specs.Prelude.{◌≡◌, ℕ, List, take, Some, None, Ok, Err, Result}
use Rattle.octets.specs.Octets.{altered}
use Rattle.octets.specs.Words.{word_length, word_of, KeepsOthers}
use Rattle.code.specs.Meaning.{CodeMeaning, Reached}
use Rattle.code.specs.Refusal.{shape_refusal}
use Rattle.code.specs.declared.fault.ShapeFault.{ShapeFault}
use Rattle.code.specs.declared.fault.MendFault.{MendFault}
use Rattle.code.specs.declared.fault.MendFault.TheVariants.{Shape, Reach}

-- The checks of a word's place pass, or the first that fails is answered.
abbrev pub Checks : ℕ → ℕ → List ℕ → Result Unit ShapeFault → Type 0
Checks depth word row (Ok _) = shape_refusal depth word row ≡ None
Checks depth word row (Err fault) = shape_refusal depth word row ≡ Some fault

-- The word is a codeword with the information octets that it had, and nothing else of the row is changed.
pub record Encoded (code : CodeMeaning) (depth word : ℕ) (before after : List ℕ) : Type 0 where
  pub is_codeword : code.Codeword (word_of depth word after)
  pub information : take code.information (word_of depth word after) ≡ take code.information (word_of depth word before)
  pub keeps : KeepsOthers depth word before after

-- encode: the word is made a codeword by its octets behind the information; refused, the row is as it was
abbrev pub Encodes : CodeMeaning → ℕ → ℕ → List ℕ → Result Unit ShapeFault → List ℕ → Type 0
Encodes code depth word before (Ok _) after = (shape_refusal depth word before ≡ None) × Encoded code depth word before after
Encodes code depth word before (Err fault) after = (shape_refusal depth word before ≡ Some fault) × (after ≡ before)

-- The word is a codeword within reach of what it was, `count` octets from it, and nothing else of the row is changed.
pub record Mended (code : CodeMeaning) (depth word count : ℕ) (before after : List ℕ) : Type 0 where
  pub reached : Reached code (word_of depth word before) (word_of depth word after)
  pub counted : count ≡ altered word_length (word_of depth word before) (word_of depth word after)
  pub keeps : KeepsOthers depth word before after

-- No codeword lies within reach of the word.
abbrev pub Beyond : CodeMeaning → List ℕ → Type 0
Beyond code word = (codeword : List ℕ) → Reached code word codeword → ⊥

-- mend: the word is replaced by the codeword within reach, and the octets altered are counted; refused, the row is as it was
abbrev pub Mends : CodeMeaning → ℕ → ℕ → List ℕ → Result ℕ MendFault → List ℕ → Type 0
Mends code depth word before (Ok count) after = (shape_refusal depth word before ≡ None) × Mended code depth word count before after
Mends code depth word before (Err (Shape fault)) after = (shape_refusal depth word before ≡ Some fault) × (after ≡ before)
Mends code depth word before (Err Reach) after = (shape_refusal depth word before ≡ None) × Beyond code (word_of depth word before) × (after ≡ before)
