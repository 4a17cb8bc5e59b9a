use Rattle.worst.specs.Order.{row_order, marker_order}
use Rattle.worst.proofs.Orders.{rows_total, markers_total}
use Rattle.worst.proofs.OneList.{one_worst}
use Rattle.worst.proofs.theorems.lists_agree.Goals as goal

pub returns : goal.returns
returns c = record { rows = one_worst row_order rows_total; markers = one_worst marker_order markers_total }
