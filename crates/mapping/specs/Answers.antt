-- What the calls of a mapping answer.
use Rattle.std.specs.Prelude.{ℕ, cond, Ok, Err, Result, nat_le, nat_lt}
use Rattle.octets.specs.Words.{max_reach}
use Rattle.mapping.specs.Meaning.{MappingMeaning, block_size}
use Rattle.mapping.specs.declared.fault.MappingFault.{MappingFault}
use Rattle.mapping.specs.declared.fault.MappingFault.TheVariants.{Place, Reach}

-- a value told for the places below the block's end
abbrev pub place_answer : MappingMeaning → (ℕ → ℕ) → ℕ → Result ℕ MappingFault
place_answer m f p = cond (nat_lt p (block_size m)) (Ok (f p)) (Err Place)

-- the memory place that line place p comes from
abbrev pub source_answer : MappingMeaning → ℕ → Result ℕ MappingFault
source_answer m p = place_answer m m.source p

-- what is added at line place p, modulo 2
abbrev pub mask_answer : MappingMeaning → ℕ → Result ℕ MappingFault
mask_answer m p = place_answer m m.mask p

-- the fade for a reach, which is not above the largest
abbrev pub fade_answer : MappingMeaning → ℕ → Result ℕ MappingFault
fade_answer m t = cond (nat_le t max_reach) (Ok (m.fade t)) (Err Reach)
