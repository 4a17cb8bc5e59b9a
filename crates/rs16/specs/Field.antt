-- Meaning: the field of 256 elements. An element is an octet, whose digit of value 2^i stands for α to the power i.
use Rattle.std.specs.Prelude.{◌≡◌, ℕ, zero, suc, ◌*◌, ◌/◌, ◌%◌, ◌<◌, ◌≢◌, bit_xor}

infixl 60 ◌⊕◌
infixl 70 ◌⊗◌
-- a number that is an octet, and so an element
abbrev pub IsOctet : ℕ → Type 0
IsOctet a = a < 256

-- the sum of two elements, digit by digit modulo 2
abbrev pub ◌⊕◌ : ℕ → ℕ → ℕ
◌⊕◌ = bit_xor

-- α times an element: each digit goes one place up, and one that comes to power 8 becomes those of 87, since 187 (hexadecimal) counts as 0
unfoldable pub times_alpha : ℕ → ℕ
times_alpha b = bit_xor (b * 2 % 256) (b / 128 % 2 * 0x87)

-- the sum of b times α to the power i, over each i below n whose digit of a is 1
unfoldable pub mul_digits : ℕ → ℕ → ℕ → ℕ
mul_digits zero a b = 0
mul_digits (suc n) a b = bit_xor (a % 2 * b) (mul_digits n (a / 2) (times_alpha b))

-- the product of two elements; of numbers past 255 it takes the last eight digits
unfoldable pub mul : ℕ → ℕ → ℕ
mul a b = mul_digits 8 (a % 256) (b % 256)

-- the product, as an operator
abbrev pub ◌⊗◌ : ℕ → ℕ → ℕ
◌⊗◌ = mul

-- x to the power n
unfoldable pub pow : ℕ → ℕ → ℕ
pow x zero = 1
pow x (suc n) = x ⊗ pow x n

-- x times x^2 times x^4 times .., n factors
unfoldable pub squares : ℕ → ℕ → ℕ
squares zero x = 1
squares (suc n) x = mul x (squares n (mul x x))

-- a^254, the inverse of an element other than 0, as a^2 times a^4 times .. times a^128; of 0 it is 0
unfoldable pub inv : ℕ → ℕ
inv a = squares 7 (mul a a)

-- α
abbrev pub alpha : ℕ
alpha = 2

-- What makes this a field, in which the powers of α are all elements but 0.
pub record FieldLaws : Type 0 where
  pub sum_octet : (a b : ℕ) → IsOctet a → IsOctet b → IsOctet (a ⊕ b)
  pub sum_assoc : (a b c : ℕ) → (a ⊕ b) ⊕ c ≡ a ⊕ (b ⊕ c)
  pub sum_comm : (a b : ℕ) → a ⊕ b ≡ b ⊕ a
  pub sum_zero : (a : ℕ) → a ⊕ 0 ≡ a
  pub sum_self : (a : ℕ) → a ⊕ a ≡ 0
  pub product_octet : (a b : ℕ) → IsOctet (a ⊗ b)
  pub product_assoc : (a b c : ℕ) → (a ⊗ b) ⊗ c ≡ a ⊗ (b ⊗ c)
  pub product_comm : (a b : ℕ) → a ⊗ b ≡ b ⊗ a
  pub product_one : (a : ℕ) → IsOctet a → a ⊗ 1 ≡ a
  pub product_sum : (a b c : ℕ) → a ⊗ (b ⊕ c) ≡ a ⊗ b ⊕ a ⊗ c
  pub inverse : (a : ℕ) → IsOctet a → (a ≢ 0) → (b : ℕ) × IsOctet b × (a ⊗ b ≡ 1)
  pub power_of_alpha : (a : ℕ) → IsOctet a → (a ≢ 0) → (n : ℕ) × (n < 255) × (pow alpha n ≡ a)
  pub powers_apart : (i j : ℕ) → i < 255 → j < 255 → pow alpha i ≡ pow alpha j → i ≡ j
