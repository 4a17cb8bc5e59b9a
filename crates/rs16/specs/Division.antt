-- Method: division by the code's generator, on line octets. What is left of a word shows whether it is a codeword.
use Rattle.std.specs.Prelude.{ℕ, List, [], ◌∷◌, take, drop, replicate, slice_index_or}
use Rattle.rs16.specs.Field.{◌⊕◌, ◌⊗◌}
use Rattle.rs16.specs.DualBasis.{line_octet, element}

-- The generator is 1 at power 32 and has these coefficients, elements, at powers 31, 30, .., 0. Its roots are the roots of the code.
unfoldable pub generator : List ℕ
generator =
    91 ∷ 127 ∷ 86 ∷ 16 ∷ 30 ∷ 13 ∷ 235 ∷ 97 ∷ 165 ∷ 8 ∷ 42 ∷ 54 ∷ 86 ∷ 171 ∷ 32 ∷ 113 ∷
    32 ∷ 171 ∷ 86 ∷ 54 ∷ 42 ∷ 8 ∷ 165 ∷ 97 ∷ 235 ∷ 13 ∷ 30 ∷ 16 ∷ 86 ∷ 127 ∷ 91 ∷ 1 ∷ []

-- a line octet times an element, as a line octet
abbrev pub multiple : ℕ → ℕ → ℕ
multiple octet c = line_octet (element octet ⊗ c)

-- a list of line octets, with zeros behind it, plus a line octet times each of the coefficients
unfoldable pub plus_multiple : ℕ → List ℕ → List ℕ → List ℕ
plus_multiple f [] r = []
plus_multiple f (c ∷ g) r = (slice_index_or r 0 0 ⊕ multiple f c) ∷ plus_multiple f g (drop 1 r)

-- one step of the division: the remainder after one more octet
unfoldable pub divide_step : ℕ → List ℕ → List ℕ
divide_step octet r = plus_multiple (slice_index_or r 0 0 ⊕ octet) generator (drop 1 r)

-- the remainder after each of the octets, from a remainder on
unfoldable pub remainder : List ℕ → List ℕ → List ℕ
remainder r [] = r
remainder r (octet ∷ rest) = remainder (divide_step octet r) rest

-- the check octets of 223 information octets: the remainder of these, moved up by 32 powers
unfoldable pub checks : List ℕ → List ℕ
checks information = remainder (replicate 32 0) information

-- two lists of line octets added, place by place, as long as the first
unfoldable pub plus : List ℕ → List ℕ → List ℕ
plus [] b = []
plus (x ∷ a) b = (x ⊕ slice_index_or b 0 0) ∷ plus a (drop 1 b)

-- the remainder of a whole word: the check octets that it should have, plus those that it has
unfoldable pub residue : List ℕ → List ℕ
residue word = plus (checks (take 223 word)) (drop 223 word)
