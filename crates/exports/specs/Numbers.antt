-- Answers as plain numbers.
use Rattle.std.specs.Prelude.{◌≡◌, ℕ, ◌+◌, List, Ok, Err, Result}
use Rattle.code.specs.Calls.{Encodes, Mends}
use Rattle.code.specs.Refusal.{shape_number, mend_number}
use Rattle.code.specs.declared.fault.ShapeFault.{ShapeFault}
use Rattle.code.specs.declared.fault.MendFault.{MendFault}
use Rattle.rs16.specs.Codewords.{rs16}

-- 0, or the refusal's number
abbrev pub encode_number : Result Unit ShapeFault → ℕ
encode_number (Ok _) = 0
encode_number (Err fault) = shape_number fault

-- what encode does, with its answer as a number
pub record EncodesByNumber (depth word : ℕ) (before : List ℕ) (number : ℕ) (after : List ℕ) : Type 0 where
  pub answer : Result Unit ShapeFault
  pub encodes : Encodes rs16 depth word before answer after
  pub told : number ≡ encode_number answer

-- the octets altered, or 100 and the refusal's number
abbrev pub mend_answer : Result ℕ MendFault → ℕ
mend_answer (Ok altered) = altered
mend_answer (Err fault) = 100 + mend_number fault

-- what mend does, with its answer as a number
pub record MendsByNumber (depth word : ℕ) (before : List ℕ) (number : ℕ) (after : List ℕ) : Type 0 where
  pub answer : Result ℕ MendFault
  pub mends : Mends rs16 depth word before answer after
  pub told : number ≡ mend_answer answer
