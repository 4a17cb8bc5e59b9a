-- How the code notes a record: a place is found, and the record put there.
use Rattle.std.specs.Prelude.{◌≡◌, ℕ, ◌+◌, ◌-◌, ◌≤◌, List, [], ◌∷◌, ◌++◌, length, take, drop, Some, None, Option}
use Rattle.std.specs.declared.cmp.Ordering.TheVariants.{Less, Equal, Greater}
use Rattle.std.specs.declared.cmp.Ordering.{Ordering}

-- the place of x in a list, counted from n: the first that x is above, or None where an equal record comes first
abbrev pub place : {X : Type 0} → (X → X → Ordering) → ℕ → X → List X → Option ℕ
place cmp n x [] = Some n
place cmp n x (y ∷ ys) = elim (cmp x y) [ Less ↦ place cmp (n + 1) x ys | Equal ↦ None | Greater ↦ Some n ]

-- a place, if there is one, is at most n
abbrev pub Within : Option ℕ → ℕ → Type 0
Within None n = Unit {0}
Within (Some i) n = i ≤ n

-- x put at i, with what stood from there on moved by one, and the last gone
abbrev pub put : {X : Type 0} → List X → ℕ → X → List X
put xs i x = take i xs ++ (x ∷ take (length xs - 1 - i) (drop i xs))

-- the list xs stands in the slots: in the first `used`, and the slots behind it hold what they held before
pub record Stands {X : Type 0} (xs before after : List X) (used : ℕ) : Type 0 where
  pub count : used ≡ length xs
  pub front : after ≡ xs ++ drop (length xs) before
