-- Meaning: the code rs16. Words are 255 line octets.
use Rattle.std.specs.Prelude.{◌≡◌, ℕ, ◌+◌, ◌*◌, ◌<◌, List, [], ◌∷◌, length}
use Rattle.octets.specs.Octets.{Octets}
use Rattle.octets.specs.Words.{word_length}
use Rattle.code.specs.Meaning.{CodeMeaning}
use Rattle.rs16.specs.Field.{◌⊕◌, ◌⊗◌, pow, alpha}
use Rattle.rs16.specs.DualBasis.{element}

-- the value at x of a word's polynomial: the last octet is the coefficient of power 0, so octet j of 255 is that of power 254 - j
unfoldable pub value : List ℕ → ℕ → ℕ
value [] x = 0
value (octet ∷ rest) x = element octet ⊗ pow x (length rest) ⊕ value rest x

-- root m, of 0 to 31: α to the power 11 × i, i from 112 to 143
abbrev pub root : ℕ → ℕ
root m = pow alpha (11 * (112 + m))

-- the word's value at root m
unfoldable pub syndrome : List ℕ → ℕ → ℕ
syndrome word m = value word (root m)

-- A word is a codeword when all its syndromes are 0.
pub record Codeword (word : List ℕ) : Type 0 where
  pub octets : Octets word_length word
  pub zeros : (m : ℕ) → m < 32 → syndrome word m ≡ 0

-- 223 octets of information, 32 check octets, and up to 16 altered octets put right
abbrev pub rs16 : CodeMeaning
rs16 = record { information = 223; reach = 16; Codeword = Codeword }
