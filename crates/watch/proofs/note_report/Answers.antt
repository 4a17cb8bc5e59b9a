use Rattle.worst.proofs.Orders.{markers_derived}
use Rattle.watch.proofs.Noting.{noted_by}
use Rattle.watch.proofs.note_report.Goals as goal

pub returns-in-Some : goal.returns-in-Some
returns-in-Some c =
    let e = c.note.ensures in rw c.in-Some.is (noted_by _ _ markers_derived _ _ _ e.told e.worst e.size e.lent)
