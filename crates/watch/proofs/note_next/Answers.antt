use Rattle.worst.proofs.Orders.{rows_derived}
use Rattle.watch.proofs.Noting.{noted_by}
use Rattle.watch.proofs.note_next.Goals as goal

pub returns : goal.returns
returns c = let e = c.note.ensures in noted_by _ _ rows_derived _ _ _ e.told e.worst e.size e.lent
