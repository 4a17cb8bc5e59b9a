use Rattle.std.proofs.Common.{◌≡◌, ℕ, subst, arith, rules}
use Rattle.rs16.proofs.Woven.{Stored, stored_more, stored_all}
use Rattle.rs16.proofs.weaving.Woven.store_checks.Goals as goal

pub loop-k-preserved : goal.loop-k-preserved
loop-k-preserved c =
    stored_more c.args.self.depth c.args.self.word c.args.self.among c.args.checks c.args.row.now c.loop-k.k c.loop-k.row c.loop-k-test.true
    c.requires c.loop-k.invariant

pub returns-clause-word : goal.returns-clause-word
returns-clause-word c =
    let d : ℕ = c.args.self.depth in
    let w : ℕ = c.args.self.word in
    let end : c.loop-k.k ≡ 32 = omega arith in
    stored_all d w c.args.self.among c.args.checks c.args.row.now c.loop-k.row (search rules)
    (subst (λ k. Stored d w k c.args.checks c.args.row.now c.loop-k.row) end c.loop-k.invariant)
