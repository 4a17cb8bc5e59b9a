-- What a list must be to hold the worst of all that was noted, under any order.
use Rattle.std.specs.Prelude.{◌≡◌, ℕ, ◌≤◌, ◌⊎◌, List, [], ◌∷◌, length}
use Rattle.std.specs.declared.cmp.Ordering.TheVariants.{Equal, Greater}
use Rattle.std.specs.declared.cmp.Ordering.{Ordering}
use Rattle.std.specs.List.{ContainsAt, AllByRecursion}

-- each record is above all that stand after it; so none stands there twice
abbrev pub Descending : {X : Type 0} → (X → X → Ordering) → List X → Type 0
Descending cmp [] = Unit {0}
Descending cmp (y ∷ ys) = AllByRecursion (λ z. cmp y z ≡ Greater) ys × Descending cmp ys

-- an equal of x stands in the list
abbrev pub Holds : {X : Type 0} → (X → X → Ordering) → List X → X → Type 0
Holds cmp [] x = ⊥
Holds cmp (y ∷ ys) x = (cmp x y ≡ Equal) ⊎ Holds cmp ys x

-- no slot is left, and each record of the list is above x
abbrev pub Outdone : {X : Type 0} → (X → X → Ordering) → ℕ → List X → X → Type 0
Outdone cmp slots ys x = (length ys ≡ slots) × AllByRecursion (λ y. cmp y x ≡ Greater) ys

-- ys are the worst of the records xs, as many as the slots take: greatest first, each once, each one of xs; of xs only the outdone are missing
pub record WorstOf {X : Type 0} (cmp : X → X → Ordering) (slots : ℕ) (xs ys : List X) : Type 0 where
  pub within : length ys ≤ slots
  pub descending : Descending cmp ys
  pub among : AllByRecursion (ContainsAt xs) ys
  pub missing : AllByRecursion (λ x. Holds cmp ys x ⊎ Outdone cmp slots ys x) xs

-- the two lists have the same records, in whatever order and however often
abbrev pub Alike : {X : Type 0} → List X → List X → Type 0
Alike xs xs' = AllByRecursion (ContainsAt xs') xs × AllByRecursion (ContainsAt xs) xs'

-- of the same records, in whatever order and however often, there is one worst list
abbrev pub OneWorst : {X : Type 0} → (X → X → Ordering) → Type 0
OneWorst {X} cmp = (slots : ℕ) (xs xs' ys zs : List X) → Alike xs xs' → WorstOf cmp slots xs ys → WorstOf cmp slots xs' zs → ys ≡ zs
