use Rattle.sheet.proofs.Numbers.{no_number, number_unclosed}
use Rattle.sheet.proofs.reader.Reader.closed_number.Goals as goal

pub returns-in_err-number : goal.returns-in_err-number
returns-in_err-number c = rw (c.from_residual.ensures, c.in_err-number.ensures.0) (no_number _ c.in_err-number.ensures.1)

pub returns-in_err-close : goal.returns-in_err-close
returns-in_err-close c = rw c.from_residual-in_err-close.ensures (number_unclosed _ _ _ _ c.in_ok-number.ensures c.in_err-close.ensures)
