-- Method: polynomials over the field, as lists of coefficients, lowest first.
use Rattle.std.specs.Prelude.{ℕ, suc, List, [], ◌∷◌, drop}
use Rattle.rs16.specs.Field.{◌⊕◌, ◌⊗◌}

-- the value at x
unfoldable pub eval : List ℕ → ℕ → ℕ
eval [] x = 0
eval (c ∷ p) x = c ⊕ x ⊗ eval p x

-- the sum of each coefficient p_m times S_m
unfoldable pub apply : List ℕ → (ℕ → ℕ) → ℕ
apply [] S = 0
apply (c ∷ p) S = c ⊗ S 0 ⊕ apply p (λ m. S (suc m))

-- c + (z + x) p
unfoldable pub carry : ℕ → ℕ → List ℕ → List ℕ
carry x c [] = c ∷ []
carry x c (d ∷ p) = (c ⊕ x ⊗ d) ∷ carry x d p

-- (z + x) p
unfoldable pub mul_linear : ℕ → List ℕ → List ℕ
mul_linear x p = carry x 0 p

-- the product of z + x, over each x
unfoldable pub from_roots : List ℕ → List ℕ
from_roots [] = 1 ∷ []
from_roots (x ∷ xs) = mul_linear x (from_roots xs)

-- The values at x of p and of what is left of it as its lowest coefficients go: of the coefficients behind the lowest,
-- what p becomes when it is divided by z + x.
unfoldable pub horner : ℕ → List ℕ → List ℕ
horner x [] = []
horner x (c ∷ p) = eval (c ∷ p) x ∷ horner x p

-- the value at x of p divided by z + x: where x is a root of p, it is 0 just for a root that p has more than once
abbrev pub slope : List ℕ → ℕ → ℕ
slope p x = eval (horner x (drop 1 p)) x
