-- Where the calls of the ends are refused, and by which number.
use Rattle.std.specs.Prelude.{ℕ, Bool, cond, ◌&&◌, List, length, Some, None, Option, ◌==◌, nat_lt}
use Rattle.settings.specs.declared.Settings.{Settings}
use Rattle.settings.specs.Lengths.{block_length}
use Rattle.code.specs.Meaning.{CodeMeaning}
use Rattle.mapping.specs.Meaning.{MappingMeaning}
use Rattle.link.specs.Frames.{frame_length}
use Rattle.link.specs.declared.fault.MakingFault.{MakingFault}
use Rattle.link.specs.declared.fault.MakingFault.TheVariants.{Mapping}
use Rattle.link.specs.declared.fault.PutFault as put-fault
use Rattle.link.specs.declared.fault.PutFault.{PutFault}
use Rattle.link.specs.declared.fault.DrawFault as draw-fault
use Rattle.link.specs.declared.fault.DrawFault.{DrawFault}

-- an end made with a mapping for another depth or other rows
abbrev pub making_number : MakingFault → ℕ
making_number Mapping = 10

-- the number of each refusal of put
abbrev pub put_number : PutFault → ℕ
put_number put-fault.TheVariants.Memory = 11
put_number put-fault.TheVariants.Frame = 12
put_number put-fault.TheVariants.Full = 13

-- the number of each refusal of draw
abbrev pub draw_number : DrawFault → ℕ
draw_number draw-fault.TheVariants.Memory = 11
draw_number draw-fault.TheVariants.Unfilled = 14

-- The mapping is made for the depth and the rows of the settings.
abbrev pub mapping_fits : Settings → MappingMeaning → Bool
mapping_fits s m = m.depth == s.depth && m.rows == s.rows

-- The memory has B octets.
abbrev pub memory_fits : Settings → List ℕ → Bool
memory_fits s memory = length memory == block_length s

-- The memory has B octets in the eyes of the mapping too. The type of an end keeps that its mapping fits the settings, so of an end this says
-- no more than `memory_fits`.
abbrev pub block_fits : Settings → MappingMeaning → List ℕ → Bool
block_fits s m memory = memory_fits s memory && mapping_fits s m

-- put, where `put` frames of the block are in the memory: the first check that fails
abbrev pub put_refusal : Settings → CodeMeaning → ℕ → List ℕ → List ℕ → Option PutFault
put_refusal s code put memory frame =
    cond (memory_fits s memory) (
    cond (length frame == frame_length s.depth code) (
    cond (nat_lt put s.rows) None (Some put-fault.TheVariants.Full)
    ) (Some put-fault.TheVariants.Frame)
    ) (Some put-fault.TheVariants.Memory)

-- draw, likewise
abbrev pub draw_refusal : Settings → ℕ → List ℕ → Option DrawFault
draw_refusal s put memory =
    cond (memory_fits s memory) (
    cond (nat_lt put s.rows) (Some draw-fault.TheVariants.Unfilled) None
    ) (Some draw-fault.TheVariants.Memory)

-- draw, of any sender and any mapping: where the mapping does not fit, no memory is one of B octets for it. A sender's
-- type keeps that its mapping fits, so of a sender this is `draw_refusal`.
abbrev pub draw_refusal_by : Settings → MappingMeaning → ℕ → List ℕ → Option DrawFault
draw_refusal_by s m put memory = cond (mapping_fits s m) (draw_refusal s put memory) (Some draw-fault.TheVariants.Memory)
