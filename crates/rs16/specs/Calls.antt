-- What the calls for a word's syndromes answer.
use Rattle.std.specs.Prelude.{◌≡◌, ℕ, List, replicate, Some, None, Option, Ok, Err, Result}
use Rattle.octets.specs.Counting.{tabulate}
use Rattle.octets.specs.Words.{word_of}
use Rattle.code.specs.Refusal.{shape_refusal, shape_number}
use Rattle.code.specs.declared.fault.ShapeFault.{ShapeFault}
use Rattle.rs16.specs.Codewords.{syndrome}

-- 0 beside the word's thirty-two syndromes, or a refusal's number beside zeros
abbrev pub SyndromesGiven : Option ShapeFault → List ℕ → ℕ → List ℕ → Type 0
SyndromesGiven None word number syndromes = (number ≡ 0) × (syndromes ≡ tabulate 32 (syndrome word))
SyndromesGiven (Some fault) word number syndromes = (number ≡ shape_number fault) × (syndromes ≡ replicate 32 0)

-- the word's thirty-two syndromes, or the first check of its place that fails
abbrev pub SyndromesFound : ℕ → ℕ → List ℕ → Result (List ℕ) ShapeFault → Type 0
SyndromesFound depth word row (Ok syndromes) =
    (shape_refusal depth word row ≡ None) × (syndromes ≡ tabulate 32 (syndrome (word_of depth word row)))
SyndromesFound depth word row (Err fault) = shape_refusal depth word row ≡ Some fault
