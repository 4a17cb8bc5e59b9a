-- A rule for every number below n, by one computed test.
use Rattle.std.proofs.Common.{subst, sym, inl, inr, not-suc-le-zero, eq-or-lt_of_le, le_of_suc-le-suc}
use Rattle.std.specs.Prelude.{ℕ, zero, suc, ◌<◌, Bool, true, false, T}

abbrev pub both : Bool → Bool → Bool
both true b = b
both false b = false

pub both_left : (a b : Bool) → T (both a b) → T a
both_left true b t = tt
both_left false b t = t

pub both_right : (a b : Bool) → T (both a b) → T b
both_right true b t = t
both_right false b t = absurd t

unfoldable pub all : (ℕ → Bool) → ℕ → Bool
all f zero = true
all f (suc n) = both (f n) (all f n)

pub below : (f : ℕ → Bool) (n : ℕ) → T (all f n) → (k : ℕ) → k < n → T (f k)
unfolding all
below f zero t k h = absurd (not-suc-le-zero h)
below f (suc n) t k h = elim (eq-or-lt_of_le (le_of_suc-le-suc h)) [
  | inl e ↦ subst (λ (m : ℕ). T (f m)) (sym e) (both_left (f n) (all f n) t)
  | inr l ↦ below f n (both_right (f n) (all f n) t) k l
]

pub below₂ : (f : ℕ → ℕ → Bool) (n m : ℕ) → T (all (λ a. all (f a) m) n) → (j k : ℕ) → j < n → k < m → T (f j k)
below₂ f n m t j k h l = below (f j) m (below (λ a. all (f a) m) n t j h) k l
