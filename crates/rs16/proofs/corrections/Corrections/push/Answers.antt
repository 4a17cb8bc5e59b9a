use Rattle.std.proofs.Common.{◌≡◌, ℕ, ◌+◌, ◌-◌, ◌<◌, List, length, drop, sym, ap, ◌∙◌, subst, arith}
use Rattle.std.specs.Prelude.{replicate}
use Rattle.std.proofs.lemmas.List.{drop-set-lt, drop-replicate, length-set, drop-drop}
use Rattle.rs16.specs.declared.corrections.Correction.{Correction}
use Rattle.rs16.specs.Slots.{AreSlots, unused, used_count}
use Rattle.rs16.proofs.corrections.Corrections.push.Goals as goal

pub invariant_of-self : goal.invariant_of-self
invariant_of-self c =
    let slots : List Correction = c.self.inside.slots in
    let n : ℕ = c.self.inside.count in
    let are : AreSlots slots n = c.self.invariant in
    let room : n < 32 = subst (λ k. k < 32) (ap length (sym c.self.view_is) ∙ used_count slots n are) c.requires in
    let rest : drop (n + 1) slots ≡ replicate (32 - (n + 1)) unused =
    sym (drop-drop 1 n slots) ∙ ap (drop 1) are.rest ∙ drop-replicate 1 (32 - n) unused ∙ ap (λ k. replicate k unused) (omega arith) in
    record {
      size = length-set slots n c.args.correction ∙ are.size;
      few = omega (arith, room);
      rest = drop-set-lt (n + 1) slots n c.args.correction (omega arith) ∙ rest;
    }
