use Rattle.link.proofs.FeedLoop.{FedUpTo}
use Rattle.link.proofs.line.Line.feed.Given as goal

abbrev pub invariant-loop-before : goal.invariant-loop-before
invariant-loop-before g l = FedUpTo l.self.settings (g.M.Mapping.meaning l.self.mapping) l.initial.mode l.initial.memory l.input l.before l.mode l.memory
