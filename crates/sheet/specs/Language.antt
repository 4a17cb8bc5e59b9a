-- Reading one part of a text after another: sets of texts, and what it is to read or to stop at one. It serves the proofs of the reader.
use Rattle.std.specs.Prelude.{◌≡◌, ℕ, List, [], ◌∷◌, ◌++◌, ◌≢◌}

-- A set of texts.
abbrev pub Texts : Type 1
Texts = List ℕ → Type 0

-- just this text
abbrev pub Just : List ℕ → Texts
Just w t = t ≡ w

-- a text of L and then one of K
pub record Then (L K : Texts) (t : List ℕ) : Type 0 where
  pub first : List ℕ
  pub second : List ℕ
  pub cut : t ≡ first ++ second
  pub of_first : L first
  pub of_second : K second

-- No text of L goes on as `at` does after `fit`: none is that, or that and more, or a front of it.
abbrev pub Stops : Texts → List ℕ → List ℕ → Type 0
Stops L fit [] = (t more : List ℕ) → L t → t ++ more ≢ fit
Stops L fit (x ∷ at) = (t more after : List ℕ) → L t → t ++ more ≢ fit ++ (x ∷ after)

-- Reading a text of L from the line stops at `at`: what comes before it begins a text of L, and with the octet there nothing does.
pub record StopsAt (L : Texts) (line at : List ℕ) : Type 0 where
  pub fit : List ℕ
  pub cut : line ≡ fit ++ at
  pub rest : List ℕ
  pub begins : L (fit ++ rest)
  pub stops : Stops L fit at

-- No text of L begins with another.
abbrev pub Distinct : Texts → Type 0
Distinct L = (a b y z : List ℕ) → L a → L b → a ++ y ≡ b ++ z → a ≡ b
