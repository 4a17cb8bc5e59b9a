use Rattle.std.proofs.Common.{arith}
use Rattle.std.proofs.lemmas.List.{nil_from_length}
use Rattle.sheet.proofs.Literal.{ends_inside, other_inside}
use Rattle.sheet.proofs.reader.Reader.word.Goals as goal

pub returns-in_err-octet : goal.returns-in_err-octet
returns-in_err-octet c =
    rw c.from_residual.ensures (ends_inside _ _ _ c.loop-letter.letter-index (omega arith) c.loop-letter.invariant (nil_from_length _ c.in_err-octet.ensures.cases))

pub returns-then-octet-letter : goal.returns-then-octet-letter
returns-then-octet-letter c =
    other_inside _ _ _ c.loop-letter.letter-index _ _ (omega arith) c.loop-letter.invariant c.in_ok-octet.ensures.cases.0 c.if-octet-letter.true
