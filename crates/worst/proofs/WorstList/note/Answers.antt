use Rattle.worst.proofs.Placing.{stands_records}
use Rattle.worst.proofs.WorstSteps.{worst_records}
use Rattle.worst.proofs.WorstList.note.Goals as goal

pub returns-clause-worst : goal.returns-clause-worst
returns-clause-worst g c = λ xs.
    let before = c.args.self.now in
    worst_records g.met.T.Ord.total c.args.«record» xs before.slots.now c.insert-self.new.slots before.used c.insert-self.result c.insert-self.auto.slots
    (stands_records _ _ _ _ c.insert-self.ensures).0
