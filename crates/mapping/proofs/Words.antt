-- Where the octets of a word of a block's memory lie.
use Rattle.std.proofs.Common.{◌≡◌, ℕ, ◌+◌, ◌*◌, ◌/◌, ◌<◌, true, sym, refl, ap, ◌∙◌, mul_comm, arith}
use Rattle.std.proofs.lemmas.Nat.{div-mul-add, mod-mul-add, mul-add-lt}
use Rattle.std.proofs.lemmas.Bool.{eq-eqb}
use Rattle.octets.specs.Words.{word_length, word_place}
use Rattle.mapping.specs.Meaning.{of_row_word}

-- the memory place of octet j of word w of row r
abbrev pub octet_place : ℕ → ℕ → ℕ → ℕ → ℕ
octet_place depth r w j = r * (word_length * depth) + word_place depth w j

pub word_place_lt : (depth w j : ℕ) → w < depth → j < word_length → word_place depth w j < word_length * depth
word_place_lt depth w j hw hj = omega (arith, mul-add-lt j depth w 255 hj hw, mul_comm depth 255)

pub octet_place_lt : (depth rows r w j : ℕ) → r < rows → w < depth → j < word_length → octet_place depth r w j < word_length * depth * rows
octet_place_lt depth rows r w j hr hw hj = mul-add-lt r (255 * depth) (word_place depth w j) rows hr (word_place_lt depth w j hw hj)

-- it is an octet of that word
pub octet_place_of : (depth r w j : ℕ) → w < depth → j < word_length → of_row_word depth r w (octet_place depth r w j) ≡ true
octet_place_of depth r w j hw hj =
    let low = word_place_lt depth w j hw hj in
    let row = div-mul-add r (255 * depth) (word_place depth w j) low in
    let octet = mod-mul-add r (255 * depth) (word_place depth w j) low in
    rw (row, octet, mod-mul-add j depth w hw, eq-eqb r r refl, eq-eqb w w refl) refl

-- two octets of a word lie at two places
pub octet_place_once : (depth r w i j : ℕ) → w < depth → octet_place depth r w i ≡ octet_place depth r w j → i ≡ j
octet_place_once depth r w i j hw e =
    let f : word_place depth w i ≡ word_place depth w j = omega arith in
    sym (div-mul-add i depth w hw) ∙ ap (λ n. n / depth) f ∙ div-mul-add j depth w hw
