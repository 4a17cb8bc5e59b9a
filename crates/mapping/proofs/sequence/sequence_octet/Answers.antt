use Rattle.std.proofs.Common.{sym, ◌∙◌}
use Rattle.mapping.specs.Digits.{sequence_mod}
use Rattle.mapping.proofs.sequence.sequence_octet.Goals as goal

pub returns : goal.returns
returns c = c.octet_of_round.ensures ∙ sym (sequence_mod c.args.p)
