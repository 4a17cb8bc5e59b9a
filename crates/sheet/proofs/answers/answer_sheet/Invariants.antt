use Rattle.std.proofs.Common.{take, string_bytes}
use Rattle.sheet.specs.Answers.{sheet_limit}
use Rattle.sheet.proofs.Lines.{Completes}
use Rattle.sheet.proofs.answers.answer_sheet.Given as goal

-- what answers the lines that are left completes the answers
abbrev pub invariant-loop-line : goal.invariant-loop-line
invariant-loop-line l = Completes (take sheet_limit l.sheet) l.line-iterator.rest.now (string_bytes l.answers)
