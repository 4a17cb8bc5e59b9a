use Rattle.sheet.proofs.Parts.{code_begins, code_name_stops, code_bracket_stops}
use Rattle.sheet.proofs.reader.Reader.code_field.Goals as goal

pub returns-in_err-word : goal.returns-in_err-word
returns-in_err-word c = rw c.from_residual.ensures (code_begins _ _ c.in_err-word.ensures)

pub returns-in_err-code : goal.returns-in_err-code
returns-in_err-code c = rw c.from_residual-in_err-code.ensures (code_name_stops _ _ _ c.in_ok-word.ensures c.in_err-code.ensures)

pub returns-in_err-close : goal.returns-in_err-close
returns-in_err-close c =
    let name = c.in_ok-code.ensures in
    rw c.from_residual-in_err-close.ensures (code_bracket_stops _ _ _ _ name.0 c.in_ok-code.code c.in_ok-word.ensures name.1 name.2 c.in_err-close.ensures)
