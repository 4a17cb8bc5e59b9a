use Rattle.link.proofs.RowMending.{MendedUpTo}
use Rattle.link.proofs.mending.mend_row.Given as goal

abbrev pub invariant-loop-word : goal.invariant-loop-word
invariant-loop-word g l = MendedUpTo l.settings.depth (g.C.Code.meaning l.code) l.initial.row l.word l.row l.altered l.valid
