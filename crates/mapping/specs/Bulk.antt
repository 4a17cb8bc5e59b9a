-- What the calls write that take a whole stretch of the line.
use Rattle.std.specs.Prelude.{◌≡◌, ℕ, ◌+◌, ◌-◌, ◌<◌, ◌≤◌, min, cond, ◌⊎◌, List, length, Some, None, Ok, Err, Option, Result, ◌==◌, bit_xor, nat_lt, slice_index}
use Rattle.mapping.specs.Meaning.{MappingMeaning, block_size}
use Rattle.mapping.specs.declared.fault.MappingFault.{MappingFault}
use Rattle.mapping.specs.declared.fault.MappingFault.TheVariants.{Place, Memory}

-- A stretch that does not begin below the block's end is refused first, then a memory that has not as many octets as the block.
abbrev pub block_refusal : ℕ → ℕ → ℕ → Option MappingFault
block_refusal block octets start =
    cond (nat_lt start block) (
    cond (octets == block) None (Some Memory)
    ) (Some Place)

-- the same of a mapping's block
abbrev pub stretch_refusal : MappingMeaning → ℕ → ℕ → Option MappingFault
stretch_refusal m octets start = block_refusal (block_size m) octets start

-- how many octets a stretch takes: those that there is room for, or until the block ends
abbrev pub stretch : MappingMeaning → ℕ → ℕ → ℕ
stretch m start room = min room (block_size m - start)

-- the length of a stretch of a block of so many octets, or its refusal
abbrev pub BlockAnswer : ℕ → ℕ → ℕ → ℕ → Result ℕ MappingFault → Type 0
BlockAnswer block octets start room (Ok taken) = (block_refusal block octets start ≡ None) × (taken ≡ min room (block - start))
BlockAnswer block octets start room (Err e) = block_refusal block octets start ≡ Some e

-- the same of a mapping
abbrev pub StretchAnswer : MappingMeaning → ℕ → ℕ → ℕ → Result ℕ MappingFault → Type 0
StretchAnswer m = BlockAnswer (block_size m)

-- data octet p of the line
abbrev pub line_octet : MappingMeaning → List ℕ → ℕ → ℕ
line_octet m memory p = bit_xor (slice_index memory (m.source p)) (m.mask p)

-- `taken` line octets from `start` on are written to the front of the output, and the rest of it is kept.
pub record LineWritten (m : MappingMeaning) (memory : List ℕ) (start taken : ℕ) (before after : List ℕ) : Type 0 where
  pub taken_is : taken ≡ stretch m start (length before)
  pub size : length after ≡ length before
  pub written : (i : ℕ) → i < taken → slice_index after i ≡ line_octet m memory (start + i)
  pub kept : (i : ℕ) → taken ≤ i → slice_index after i ≡ slice_index before i

-- Line octets from `start` on are written, or the refusal leaves the output as it was.
abbrev pub WriteAnswer : MappingMeaning → List ℕ → ℕ → List ℕ → List ℕ → Result ℕ MappingFault → Type 0
WriteAnswer m memory start before after (Ok taken) = (stretch_refusal m (length memory) start ≡ None) × LineWritten m memory start taken before after
WriteAnswer m memory start before after (Err e) = (stretch_refusal m (length memory) start ≡ Some e) × (after ≡ before)

-- The first `taken` octets of the line, each plus its mask, are put to the sources of the places from `start` on. The sources of all
-- other places are kept. Every memory place is the source of one line place, so this says what each octet of the memory is.
pub record LineStored (m : MappingMeaning) (line : List ℕ) (start taken : ℕ) (before after : List ℕ) : Type 0 where
  pub taken_is : taken ≡ stretch m start (length line)
  pub size : length after ≡ length before
  pub stored : (i : ℕ) → i < taken → slice_index after (m.source (start + i)) ≡ bit_xor (slice_index line i) (m.mask (start + i))
  pub kept : (p : ℕ) → p < block_size m → (p < start) ⊎ (start + taken ≤ p) → slice_index after (m.source p) ≡ slice_index before (m.source p)

-- Line octets from `start` on are stored, or the refusal leaves the memory as it was.
abbrev pub StoreAnswer : MappingMeaning → List ℕ → ℕ → List ℕ → List ℕ → Result ℕ MappingFault → Type 0
StoreAnswer m line start before after (Ok taken) = (stretch_refusal m (length before) start ≡ None) × LineStored m line start taken before after
StoreAnswer m line start before after (Err e) = (stretch_refusal m (length before) start ≡ Some e) × (after ≡ before)
