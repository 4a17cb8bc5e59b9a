use Rattle.std.proofs.Common.{sym, refl, arith}
use Rattle.link.proofs.FeedLoop.{fed_whole, fed_to_stop, fed_on}
use Rattle.link.proofs.line.Line.feed.Goals as goal

pub returns-then-is_some : goal.returns-then-is_some
returns-then-is_some g c =
    fed_to_stop c.args.self.now.settings (g.M.Mapping.meaning c.args.self.now.mapping) c.args.start c.args.memory.now c.args.input.now
    c.loop-before.before c.loop-before.mode c.loop-before.memory c.loop-before.invariant
    _ c.hear-after.result.0 c.hear-after.result.1 c.hear-after.new.memory (omega arith) refl c.hear-after.ensures (sym c.if-is_some.ensures)

pub loop-before-preserved : goal.loop-before-preserved
loop-before-preserved g c =
    fed_on c.args.self.now.settings (g.M.Mapping.meaning c.args.self.now.mapping) c.args.start c.args.memory.now c.args.input.now
    c.loop-before.before c.loop-before.mode c.loop-before.memory c.loop-before.invariant
    _ c.hear-after.result.0 c.hear-after.result.1 c.hear-after.new.memory (omega arith) refl c.hear-after.ensures (sym c.if-is_some.ensures)

pub returns : goal.returns
returns g c =
    fed_whole c.args.self.now.settings (g.M.Mapping.meaning c.args.self.now.mapping) c.args.start c.args.memory.now c.args.input.now
    c.loop-before.before c.loop-before.mode c.loop-before.memory c.loop-before.invariant (omega arith)
