-- The randomizer: an octet sequence, restarted at each block, that is added to the mask.
use Rattle.std.specs.Prelude.{◌≡◌, ℕ, zero, suc, ◌+◌, ◌*◌, ◌%◌, ◌<◌, List, length, bit_xor, slice_index}
use Rattle.mapping.specs.Meaning.{MappingMeaning}

-- Digits 0 to 7 are 1, and digit m + 8 is the sum modulo 2 of the digits m + 7, m + 5, m + 3 and m.
unfoldable pub digit : ℕ → ℕ
digit zero = 1
digit (suc zero) = 1
digit (suc (suc zero)) = 1
digit (suc (suc (suc zero))) = 1
digit (suc (suc (suc (suc zero)))) = 1
digit (suc (suc (suc (suc (suc zero))))) = 1
digit (suc (suc (suc (suc (suc (suc zero)))))) = 1
digit (suc (suc (suc (suc (suc (suc (suc zero))))))) = 1
digit (suc (suc (suc (suc (suc (suc (suc (suc m)))))))) =
    (digit (suc (suc (suc (suc (suc (suc (suc m))))))) + digit (suc (suc (suc (suc (suc m))))) + digit (suc (suc (suc m))) + digit m) % 2

-- Octet p is the digits 8 * p to 8 * p + 7, the most significant first.
unfoldable pub sequence : ℕ → ℕ
sequence p =
    digit (8 * p) * 128 + digit (8 * p + 1) * 64 + digit (8 * p + 2) * 32 + digit (8 * p + 3) * 16
    + digit (8 * p + 4) * 8 + digit (8 * p + 5) * 4 + digit (8 * p + 6) * 2 + digit (8 * p + 7)

-- A layer over any mapping: sources and fade stay, and octet p of the sequence is added to the mask of p, modulo 2.
abbrev pub randomized : MappingMeaning → MappingMeaning
randomized m = record {
  depth = m.depth;
  rows = m.rows;
  source = m.source;
  mask = λ p. bit_xor (m.mask p) (sequence p);
  fade = m.fade;
}

-- The sequence from octet `start` on is added to all octets.
pub record SequenceAdded (start : ℕ) (before after : List ℕ) : Type 0 where
  pub size : length after ≡ length before
  pub added : (i : ℕ) → i < length before → slice_index after i ≡ bit_xor (slice_index before i) (sequence (start + i))
