-- When a call on a word of a row is refused, and by which number.
use Rattle.std.specs.Prelude.{ℕ, ◌*◌, Bool, cond, ◌&&◌, List, length, Some, None, Option, ◌==◌, nat_lt}
use Rattle.octets.specs.Words.{word_length}
use Rattle.settings.specs.Allowed.{depth_is_allowed}
use Rattle.code.specs.declared.fault.ShapeFault.{ShapeFault}
use Rattle.code.specs.declared.fault.ShapeFault.TheVariants.{Depth, Row}
use Rattle.code.specs.declared.fault.MendFault.{MendFault}
use Rattle.code.specs.declared.fault.MendFault.TheVariants.{Shape, Reach}

-- the number of each refusal of a word's place
abbrev pub shape_number : ShapeFault → ℕ
shape_number Depth = 1
shape_number Row = 8

-- the number of each refusal to mend
abbrev pub mend_number : MendFault → ℕ
mend_number (Shape fault) = shape_number fault
mend_number Reach = 9

-- a row of 255 × depth octets, and a word below depth
abbrev pub row_fits : ℕ → ℕ → List ℕ → Bool
row_fits depth word row = length row == word_length * depth && nat_lt word depth

-- the first check that fails
abbrev pub shape_refusal : ℕ → ℕ → List ℕ → Option ShapeFault
shape_refusal depth word row = cond (depth_is_allowed depth) (cond (row_fits depth word row) None (Some Row)) (Some Depth)
