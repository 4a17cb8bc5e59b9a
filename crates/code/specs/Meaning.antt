-- What a code is: its meaning, and the laws that each meaning keeps.
use Rattle.std.specs.Prelude.{◌≡◌, ℕ, ◌+◌, ◌*◌, ◌<◌, ◌≤◌, List, take, ◌≢◌, ◌↔◌}
use Rattle.octets.specs.Octets.{Octets, altered}
use Rattle.octets.specs.Words.{word_length, max_reach}

-- The meaning of a code: the first `information` octets of a word are free, and up to `reach` altered octets are put right.
pub record CodeMeaning : Type 1 where
  pub information : ℕ
  pub reach : ℕ
  pub Codeword : List ℕ → Type 0

-- Two meanings say the same: as many information octets, the same reach, and the same codewords.
pub record SameMeaning (a b : CodeMeaning) : Type 0 where
  pub information : a.information ≡ b.information
  pub reach : a.reach ≡ b.reach
  pub codewords : (word : List ℕ) → a.Codeword word ↔ b.Codeword word

-- These octets begin one codeword, and no other.
pub record BeginOne (code : CodeMeaning) (octets : List ℕ) : Type 0 where
  pub codeword : List ℕ
  pub is_codeword : code.Codeword codeword
  pub begins : take code.information codeword ≡ octets
  pub only : (other : List ℕ) → code.Codeword other → take code.information other ≡ octets → other ≡ codeword

-- What every code keeps.
pub record CodeLaws (code : CodeMeaning) : Type 0 where
  pub some_information : 0 < code.information
  pub information_fits : code.information ≤ word_length
  pub reach_bounded : code.reach ≤ max_reach
  -- a codeword is 255 octets
  pub octets : (word : List ℕ) → code.Codeword word → Octets word_length word
  -- two codewords that are not one differ in more than twice as many places as the reach
  pub apart : (a b : List ℕ) → code.Codeword a → code.Codeword b → (a ≢ b) → 2 * code.reach + 1 ≤ altered word_length a b
  -- whatever the information octets are, they begin just one codeword
  pub begins : (octets : List ℕ) → Octets code.information octets → BeginOne code octets

-- A codeword lies within reach of a word.
pub record Reached (code : CodeMeaning) (word codeword : List ℕ) : Type 0 where
  pub is_codeword : code.Codeword codeword
  pub near : altered word_length word codeword ≤ code.reach
