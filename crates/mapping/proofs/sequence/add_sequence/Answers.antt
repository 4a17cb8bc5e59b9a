use Rattle.std.proofs.Common.{◌≡◌, ◌+◌, ◌-◌, arith}
use Rattle.mapping.proofs.Randomizing.{added_join}
use Rattle.mapping.proofs.sequence.add_sequence.Goals as goal

pub loop-at-preserved : goal.loop-at-preserved
loop-at-preserved c =
    let at = c.loop-at.at in
    let end = c.min-end.result in
    let turn = c.loop-at.invariant.3 c.loop-at-test.true in
    let low = c.loop-at.invariant.2 in
    let is : at + (end - at) ≡ end = omega (arith, c.min-end.ensures, low) in
    let joined = added_join c.args.start at c.loop-at.turn (end - at) c.args.octets.now c.loop-at.octets c.add_run.new.octets
    turn (omega (arith, c.min-end.ensures)) c.loop-at.invariant.0 c.add_run.ensures in (
      rw is at joined,
      omega (arith, c.min-end.ensures),
      omega arith,
      λ more. omega (arith, c.min-end.ensures, turn, low, more),
    )
