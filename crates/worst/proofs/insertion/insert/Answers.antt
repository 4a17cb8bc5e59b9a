use Rattle.std.proofs.Common.{refl, arith, length-take}
use Rattle.worst.proofs.Placing.{stands_none, stands_room, stands_full, stands_past}
use Rattle.worst.proofs.insertion.insert.Goals as goal
use Rattle.worst.proofs.insertion.insert.Goals.{then-n-slots, else-n-slots}

pub returns-in_default : goal.returns-in_default
returns-in_default g c = stands_none g.T.Ord.cmp c.args.slots.now c.args.«record» c.args.n c.requires c.args.n refl c.in_default.ensures.told

pub returns-then-i-m : goal.returns-then-i-m
returns-then-i-m g c =
    let w = simp length-take at c.in-Some.ensures.within in
    elim c.if-n-slots.branch [
      | then-n-slots v ↦ stands_room g.T.Ord.cmp c.args.slots.now c.args.«record» c.args.n c.requires c.in-Some.i c.args.n c.if-n-slots.m
          _ _ refl c.in-Some.ensures.told (omega arith) (omega arith) (omega arith) c.put_in.ensures refl
      | else-n-slots v ↦ stands_full g.T.Ord.cmp c.args.slots.now c.args.«record» c.args.n c.requires c.in-Some.i c.args.n c.if-n-slots.m
          _ _ refl c.in-Some.ensures.told (omega arith) (omega arith) (omega arith) c.put_in.ensures refl
    ]

pub returns-else-i-m : goal.returns-else-i-m
returns-else-i-m g c =
    let w = simp length-take at c.in-Some.ensures.within in
    elim c.if-n-slots.branch [
      | then-n-slots v ↦ absurd (omega arith)
      | else-n-slots v ↦ stands_past g.T.Ord.cmp c.args.slots.now c.args.«record» c.args.n c.requires c.in-Some.i c.args.n c.if-n-slots.m
          refl c.in-Some.ensures.told (omega arith) (omega arith) (omega arith)
    ]
