-- What `note` does under the order of a record's type it does under that order in numbers.
use Rattle.std.proofs.Common.{◌≡◌, length, Ordering, subst}
use Rattle.worst.specs.List.{slots_of, Notes, KeepsWorst}
use Rattle.worst.specs.declared.WorstList.{WorstList}
use Rattle.watch.specs.Watched.{NotedInPlace}

pub noted_by : {X : Type 0} (R S : X → X → Ordering) → R ≡ S → (x : X) (before after : WorstList X) → Notes R x before after → KeepsWorst R x before after
    → length (slots_of after) ≡ length (slots_of before) → after.slots.ghost_name ≡ before.slots.ghost_name → NotedInPlace S x before after
noted_by R S e x before after told worst size lent = record {
  told = subst (λ Q. Notes Q x before after) e told;
  worst = subst (λ Q. KeepsWorst Q x before after) e worst;
  size = size;
  lent = lent;
}
