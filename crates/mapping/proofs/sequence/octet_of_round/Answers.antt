use Rattle.mapping.specs.Digits.{octets, octet, shift, ones, round_at}
use Rattle.mapping.proofs.sequence.octet_of_round.Goals as goal

pub returns : goal.returns
unfolding octets octet shift ones
returns c = round_at c.args.turn c.requires
