-- The records of a worst list, and what noting a record makes of it.
use Rattle.std.specs.Prelude.{◌≡◌, List, ◌∷◌, ◌++◌, length, take, drop}
use Rattle.std.specs.declared.cmp.Ordering.{Ordering}
use Rattle.worst.specs.Noted.{noted}
use Rattle.worst.specs.Worst.{WorstOf}
use Rattle.worst.specs.declared.WorstList.{WorstList}

-- what the slots hold, all of them
abbrev pub slots_of : {X : Type 0} → WorstList X → List X
slots_of w = w.slots.now

-- the records: what the first `used` slots hold
abbrev pub records_of : {X : Type 0} → WorstList X → List X
records_of w = take w.used (slots_of w)

-- x is noted: the records are what `noted` gives for so many slots, and the slots behind them hold what they held
pub record Notes {X : Type 0} (cmp : X → X → Ordering) (x : X) (before after : WorstList X) : Type 0 where
  pub records_are : records_of after ≡ noted cmp (length (slots_of before)) x (records_of before)
  pub slots_are : slots_of after ≡ records_of after ++ drop (length (records_of after)) (slots_of before)

-- whatever records xs the list held the worst of, it holds the worst of these and x
abbrev pub KeepsWorst : {X : Type 0} → (X → X → Ordering) → X → WorstList X → WorstList X → Type 0
KeepsWorst {X} cmp x before after =
    (xs : List X) → WorstOf cmp (length (slots_of before)) xs (records_of before) → WorstOf cmp (length (slots_of after)) (x ∷ xs) (records_of after)
