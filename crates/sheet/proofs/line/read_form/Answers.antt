use Rattle.std.proofs.Common.{◌==◌, sym, ap, ◌∙◌}
use Rattle.std.proofs.lemmas.Bool.{true≢false}
use Rattle.sheet.proofs.Misfits.{longer_misfit, stopped_misfit}
use Rattle.sheet.proofs.line.read_form.Goals as goal
use Rattle.sheet.proofs.line.read_form.Goals.{in_default-via-in-Some+else-is_empty, in_default-via-in_default}

pub returns-in_default : goal.returns-in_default
returns-in_default c = elim c.in_default.branch [
  | in_default-via-in-Some+else-is_empty w ↦ longer_misfit _ _ w.in-Some.form w.in-Some.ensures (λ none. true≢false (sym (w.if-is_empty.ensures ∙ ap (λ n. n == 0) none)))
  | in_default-via-in_default w ↦ stopped_misfit _ _ w.in_default.ensures
]
