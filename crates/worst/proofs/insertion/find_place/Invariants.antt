use Rattle.std.proofs.Common.{◌≡◌, drop}
use Rattle.worst.specs.Place.{place}
use Rattle.worst.proofs.insertion.find_place.Given as goal

-- the records left have the place that all have
abbrev pub invariant-loop-i : goal.invariant-loop-i
invariant-loop-i g l = place g.T.Ord.cmp l.i l.«record» (drop l.i l.list) ≡ place g.T.Ord.cmp 0 l.«record» l.list
