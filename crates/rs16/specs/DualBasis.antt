-- Meaning: the octet that stands on the line for a field element, in the dual basis.
use Rattle.std.specs.Prelude.{ℕ, ◌*◌, ◌/◌, ◌%◌, ◌^◌, List, [], ◌∷◌, length, bit_xor}

-- the sum modulo 2 of the octets in a list, one for each digit of a that is 1, most significant first
unfoldable pub combine : List ℕ → ℕ → ℕ
combine [] a = 0
combine (b ∷ bs) a = bit_xor (a / 2 ^ length bs % 2 * b) (combine bs a)

-- the line octets of the elements 80, 40, .., 01 (hexadecimal)
abbrev pub line_basis : List ℕ
line_basis = 0x8D ∷ 0xEF ∷ 0xEC ∷ 0x86 ∷ 0xFA ∷ 0x99 ∷ 0xAF ∷ 0x7B ∷ []

-- the line octet of an element
unfoldable pub line_octet : ℕ → ℕ
line_octet a = combine line_basis a

-- the elements of the line octets 80, 40, .., 01 (hexadecimal)
abbrev pub element_basis : List ℕ
element_basis = 0xC5 ∷ 0x42 ∷ 0x2E ∷ 0xFD ∷ 0xF0 ∷ 0x79 ∷ 0xAC ∷ 0xCC ∷ []

-- the element of a line octet: the public calls on both show that this inverts `line_octet`
unfoldable pub element : ℕ → ℕ
element octet = combine element_basis octet
