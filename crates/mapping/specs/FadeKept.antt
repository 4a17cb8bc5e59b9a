-- What the fade is for: a block altered only in `fade t` line places in a row has at most t altered octets in each word.
use Rattle.std.specs.Prelude.{◌≡◌, ℕ, ◌+◌, ◌*◌, ◌<◌, ◌≤◌, ◌⊎◌, List, take, drop, Ok, Err, Result, slice_index}
use Rattle.octets.specs.Octets.{altered}
use Rattle.octets.specs.Words.{word_length, word_of, max_reach}
use Rattle.mapping.specs.Meaning.{MappingMeaning, block_size}
use Rattle.mapping.specs.declared.fault.MappingFault.{MappingFault}
use Rattle.mapping.specs.declared.fault.MappingFault.TheVariants.{Reach}

-- row r of a block's memory
abbrev pub row_of : ℕ → ℕ → List ℕ → List ℕ
row_of depth r memory = take (word_length * depth) (drop (r * (word_length * depth)) memory)

-- word w of row r of a block's memory
abbrev pub memory_word : ℕ → ℕ → ℕ → List ℕ → List ℕ
memory_word depth r w memory = word_of depth w (row_of depth r memory)

-- what came by the line places outside of the n from `start` on is as sent
abbrev pub AlteredWithin : MappingMeaning → List ℕ → List ℕ → ℕ → ℕ → Type 0
AlteredWithin m sent got start n =
    (p : ℕ) → p < block_size m → (p < start) ⊎ (start + n ≤ p) → slice_index got (m.source p) ≡ slice_index sent (m.source p)

-- a fade of n line places, wherever it begins, alters at most t octets of any word
abbrev pub FadeKept : MappingMeaning → ℕ → ℕ → Type 0
FadeKept m t n =
    (start : ℕ) (sent got : List ℕ) → AlteredWithin m sent got start n
    → (r w : ℕ) → r < m.rows → w < m.depth
    → altered word_length (memory_word m.depth r w sent) (memory_word m.depth r w got) ≤ t

-- the fade for a reach, which is ridden through, or the refusal of a reach above the largest
abbrev pub RiddenFade : MappingMeaning → ℕ → Result ℕ MappingFault → Type 0
RiddenFade m t (Ok n) = (t ≤ max_reach) × (n ≡ m.fade t) × FadeKept m t n
RiddenFade m t (Err e) = (max_reach < t) × (e ≡ Reach)
