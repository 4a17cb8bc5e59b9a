-- What a worst list holds once an answer of the receiver is noted.
use Rattle.std.specs.Prelude.{◌≡◌, length, Some, None, Option}
use Rattle.std.specs.declared.cmp.Ordering.{Ordering}
use Rattle.link.specs.declared.reception.NextAnswer.{NextAnswer}
use Rattle.link.specs.declared.report.Report.{Report}
use Rattle.worst.specs.List.{slots_of, Notes, KeepsWorst}
use Rattle.worst.specs.Order.{row_order, marker_order}
use Rattle.worst.specs.declared.WorstList.{WorstList}
use Rattle.worst.specs.declared.kinds.MarkerRecord.{MarkerRecord}
use Rattle.worst.specs.declared.kinds.RowRecord.{RowRecord}

-- the marker that a report is of: its wrong digits, then its count
abbrev pub marker_of : Report → MarkerRecord
marker_of report = record { digits = report.digits; count = report.count }

-- the row that next answered: its altered octets, then its number
abbrev pub row_of : NextAnswer → RowRecord
row_of answer = record { octets = answer.altered; row = answer.row }

-- x is noted, in the slots that the list had
pub record NotedInPlace {X : Type 0} (cmp : X → X → Ordering) (x : X) (before after : WorstList X) : Type 0 where
  pub told : Notes cmp x before after
  pub worst : KeepsWorst cmp x before after
  pub size : length (slots_of after) ≡ length (slots_of before)
  pub lent : after.slots.ghost_name ≡ before.slots.ghost_name

-- The marker of the report is noted; where there is no report, the list is as it was.
abbrev pub MarkerNoted : Option Report → WorstList MarkerRecord → WorstList MarkerRecord → Type 0
MarkerNoted (Some report) before after = NotedInPlace marker_order (marker_of report) before after
MarkerNoted None before after = after ≡ before

-- The row that next answered is noted.
abbrev pub RowNoted : NextAnswer → WorstList RowRecord → WorstList RowRecord → Type 0
RowNoted answer before after = NotedInPlace row_order (row_of answer) before after
