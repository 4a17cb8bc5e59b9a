use Rattle.std.proofs.Common.{rules}
use Rattle.std.proofs.lemmas.List.{length_push}
use Rattle.std.proofs.lemmas.Slice.Zip.{zip_turn}
use Rattle.octets.proofs.Counting.{sum_zero}
use Rattle.marker.proofs.Differences.{one_octet_more}
use Rattle.marker.proofs.compare.digits_apart.Goals as goal

pub loop-x-init : goal.loop-x-init
loop-x-init c = search (rules, sum_zero)

pub loop-x-preserved : goal.loop-x-preserved
loop-x-preserved c =
    let xs = c.args.a.now in
    let ys = c.args.b.now in
    let seen = c.loop-x.yielded in
    let turn =
    zip_turn xs ys seen c.into_iter-x-iterator.result c.loop-x.x-iterator c.next.new.self _ (search rules) (search rules) c.loop-x.yielded_by _ c.in-Some.is
    c.next.ensures.steps
    in
    rw (length_push seen (c.in-Some.x, c.in-Some.y))
    (one_octet_more xs ys _ _ _ _ (turn.2 0) (turn.3 0) (rw (turn.2 0) (c.fits-a _)) (rw (turn.3 0) (c.fits-b _)) c.loop-x.invariant)
