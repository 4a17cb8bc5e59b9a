-- Why a mapping refuses, and by which number.
use Rattle.std.specs.Prelude.{ℕ, Bool, true, ◌&&◌, nat_le}
use Rattle.mapping.specs.declared.fault.MappingFault.{MappingFault}
use Rattle.mapping.specs.declared.fault.MappingFault.TheVariants.{Step, Place, Reach, Memory}
use Rattle.mapping.specs.declared.interleaver.Interleaver.{Interleaver}
use Rattle.mapping.specs.declared.interleaver.Interleaver.TheVariants.{Block, Stepped}

-- A step not allowed is 6; a place not below the block's end and a reach above the largest are 7; a memory not of the block's length is 11.
abbrev pub number : MappingFault → ℕ
number Step = 6
number Place = 7
number Reach = 7
number Memory = 11

-- a step is 1 to 255
abbrev pub step_is_allowed : ℕ → Bool
step_is_allowed step = nat_le 1 step && nat_le step 255

-- a step, if there is one, that is allowed
abbrev pub interleaver_is_allowed : Interleaver → Bool
interleaver_is_allowed Block = true
interleaver_is_allowed (Stepped step) = step_is_allowed step
