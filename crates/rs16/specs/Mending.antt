-- Method: how a word is mended. Octets go by their power: octet j of a word has power 254 - j.
use Rattle.std.specs.Prelude.{◌≡◌, ℕ, zero, suc, ◌+◌, ◌<◌, ◌≤◌, Bool, cond, List, [], ◌∷◌, length, get_or, ◌==◌, slice_index, slice_set}
use Rattle.std.specs.List.{All, AllByRecursion, AllPairs, fold}
use Rattle.octets.specs.Words.{word_length}
use Rattle.rs16.specs.Field.{◌⊕◌, ◌⊗◌, IsOctet, pow, alpha, inv}
use Rattle.rs16.specs.DualBasis.{line_octet}
use Rattle.rs16.specs.Polynomials.{eval, apply, slope}
use Rattle.rs16.specs.declared.corrections.Correction.{Correction}

-- the locator of the octet at power k
unfoldable pub locator : ℕ → ℕ
locator k = pow (pow alpha 11) k

-- ---- a polynomial that is 0 at the locator of each altered octet

-- p gives 0 on the first h windows of the syndromes s: window g is s_g, s_{g+1}, ..
abbrev pub Cleared : List ℕ → List ℕ → ℕ → Type 0
Cleared s p h = (g : ℕ) → g < h → apply p (λ m. slice_index s (g + m)) ≡ 0

-- A polynomial other than 0, of degree t at most, that gives 0 on the first t windows.
pub record Solution (t : ℕ) (p s : List ℕ) : Type 0 where
  pub size : length p ≡ t + 1
  pub octets : AllByRecursion IsOctet p
  pub other : ¬ (AllByRecursion (λ c. c ≡ 0) p)
  pub solves : Cleared s p t

-- A row of t + 1 coefficients whose last other than 0 is a 1 at place n.
pub record Monic (t n : ℕ) (r : List ℕ) : Type 0 where
  pub size : length r ≡ t + 1
  pub octets : (k : ℕ) → IsOctet (slice_index r k)
  pub top : get_or r n 0 ≡ 1
  pub above : (k : ℕ) → n < k → slice_index r k ≡ 0

-- ---- what is added to the octets

-- v holds the values of p at the locators, by power
abbrev pub Values : List ℕ → List ℕ → Type 0
Values p v = (length v ≡ word_length) × ((k : ℕ) → k < word_length → slice_index v k ≡ eval p (locator k))

-- whether the value at power k is 0
abbrev pub zero_at : List ℕ → ℕ → Bool
zero_at values k = slice_index values k == 0

-- the locators of the powers below n that pass a test, the highest power first
unfoldable pub chosen : (ℕ → Bool) → ℕ → List ℕ
chosen test zero = []
chosen test (suc k) = cond (test k) (locator k ∷ chosen test k) (chosen test k)

-- the evaluator polynomial of a polynomial's coefficients behind the lowest, and of the syndromes: coefficient j is the
-- sum of each p_{j+1+m} times s_m
unfoldable pub evaluator : List ℕ → List ℕ → List ℕ
evaluator [] s = []
evaluator (c ∷ p) s = apply (c ∷ p) (λ m. slice_index s m) ∷ evaluator p s

-- what is added to the octet at power k: p is the locator polynomial, o the evaluator
unfoldable pub change : List ℕ → List ℕ → ℕ → ℕ
change p o k = line_octet (eval o (locator k) ⊗ inv (slope p (locator k) ⊗ pow (locator k) 112))

-- the word with the change at each power that passes a test
unfoldable pub changed : (ℕ → Bool) → List ℕ → List ℕ → List ℕ → List ℕ
changed test p o [] = []
changed test p o (x ∷ w) = cond (test (length w)) (x ⊕ change p o (length w)) x ∷ changed test p o w

-- ---- corrections

-- the word with the corrections made
abbrev pub corrected : List Correction → List ℕ → List ℕ
corrected corrections word = fold (λ octets c. slice_set octets c.place c.octet) word corrections

-- Corrections of a word: at most 32, places rising, each once, each with an octet other than the one that arrived.
pub record Corrects (word : List ℕ) (corrections : List Correction) : Type 0 where
  pub few : length corrections ≤ 32
  pub inside : All (λ c. c.place < word_length) corrections
  pub rising : AllPairs (λ c d. c.place < d.place) corrections
  pub other : All (λ c. ¬ (c.octet ≡ slice_index word c.place)) corrections
