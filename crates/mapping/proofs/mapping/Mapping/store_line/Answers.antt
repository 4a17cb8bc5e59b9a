use Rattle.std.proofs.Common.{◌+◌, ap₂, arith}
use Rattle.std.proofs.Common.{get_or}
use lib.Bits.{bit_xor}
use Rattle.std.proofs.lemmas.List.{get_or-take, length-take}
use Rattle.mapping.proofs.Stretching.{told, full_of, stored_more}
use Rattle.mapping.proofs.mapping.Mapping.store_line.Goals as goal

pub loop-i-preserved : goal.loop-i-preserved
loop-i-preserved g c =
    let m = g.Self.Mapping.meaning c.args.self.now in
    let p = c.args.start + c.loop-i.i in
    let full = full_of m _ c.args.start _ _ c.depth.ensures c.rows.ensures c.in_ok-taken.ensures.0 in
    let q = told m m.source p c.in_ok-q.q c.source.result c.in_ok-q.was c.source.ensures in
    let mask = told m m.mask p c.in_ok-mask.mask c.mask.result c.in_ok-mask.was c.mask.ensures in
    let octet = get_or-take c.in_ok-taken.taken c.args.line.now c.loop-i.i 0 (omega (arith, length-take c.in_ok-taken.taken c.args.line.now)) in
    stored_more m (g.met.Self.Mapping.lawful c.args.self.now) (λ j. bit_xor (get_or c.args.line.now j 0) (m.mask (c.args.start + j))) c.args.start c.args.memory.now c.loop-i.memory c.loop-i.i c.in_ok-q.q _
    c.loop-i.invariant full q.0 q.1 (ap₂ (λ a b. bit_xor a b) octet mask.1)
