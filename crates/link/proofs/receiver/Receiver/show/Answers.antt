use Rattle.std.proofs.Common.{◌+◌, ◌<◌, ◌≤◌, length, arith, rules}
use Rattle.std.proofs.lemmas.Nat.{mul-le}
use Rattle.link.proofs.ReceiverTables.{answered_some}
use Rattle.link.proofs.receiver.Receiver.show.Goals as goal

pub slice_bounds-result-end : goal.slice_bounds-result-end
slice_bounds-result-end g c =
    let s = c.args.self.now.line.settings in
    let n = c.args.self.now.state.answered in
    let some : 0 < n = answered_some c.args.self.now.state.after_next n c.args.self.now.next_fits c.if-not-self.false in
    let few = (g.met.C.Code.lawful c.args.self.now.code).information_fits in
    let within : c.row_start-start.result + c.frame_length-size.result ≤ length c.args.memory.now =
    omega (arith, c.row_start-start.ensures.ends, c.frame_length-size.ensures, mul-le (g.C.Code.meaning c.args.self.now.code).information s.depth 255 s.depth few (omega arith)) in
    search rules
