use Rattle.std.proofs.Common.{refl}
use Rattle.worst.proofs.Places.{put_by_turn}
use Rattle.worst.proofs.insertion.put_in.Goals as goal

pub returns : goal.returns
returns g c = put_by_turn c.args.list.now c.args.i c.args.«record» _ _ c.requires refl c.rotate_right.ensures.after
