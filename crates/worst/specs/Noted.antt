-- The list once a record is noted, under any order.
use Rattle.std.specs.Prelude.{ℕ, List, [], ◌∷◌, take}
use Rattle.std.specs.declared.cmp.Ordering.TheVariants.{Less, Equal, Greater}
use Rattle.std.specs.declared.cmp.Ordering.{Ordering}

-- a list, greatest first, with x in its place: before the first record that x is above; where an equal one comes first, the list as it is
abbrev pub placed : {X : Type 0} → (X → X → Ordering) → X → List X → List X
placed cmp x [] = x ∷ []
placed cmp x (y ∷ ys) = elim (cmp x y) [ Less ↦ y ∷ placed cmp x ys | Equal ↦ y ∷ ys | Greater ↦ x ∷ y ∷ ys ]

-- the list once x is noted: x in its place, and of that no more than the slots take, so that the last goes where they are full
abbrev pub noted : {X : Type 0} → (X → X → Ordering) → ℕ → X → List X → List X
noted cmp slots x xs = take slots (placed cmp x xs)
