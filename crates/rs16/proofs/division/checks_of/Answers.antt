use Rattle.std.proofs.Common.{◌≡◌, ℕ, ◌+◌, List, drop, sym, ap, ◌∙◌, arith}
use Rattle.rs16.specs.Division.{remainder, checks}
use Rattle.octets.specs.Counting.{tabulate}
use Rattle.rs16.specs.Rows.{octet_at, octets_of, wide}
use Rattle.rs16.proofs.Steps.{remainder_more, remainder_all}
use Rattle.rs16.proofs.division.checks_of.Goals as goal

pub loop-octet-init : goal.loop-octet-init
unfolding octets_of
loop-octet-init c =
    let none : wide c.default-r.result ≡ 0 = omega (arith, c.default-r.ensures) in
    ap (λ n. remainder (tabulate 32 (octet_at n)) c.args.information.now) none

pub loop-octet-preserved : goal.loop-octet-preserved
loop-octet-preserved c =
    let w : List ℕ = c.args.information.now in
    let i : ℕ = c.loop-octet.octet-index in
    ap (λ (r : List ℕ). remainder r (drop (i + 1) w)) c.divided-r.ensures ∙ remainder_more (octets_of c.loop-octet.r) w i (omega arith) ∙ c.loop-octet.invariant

pub returns : goal.returns
unfolding checks
returns c =
    c.octets.ensures ∙ sym (remainder_all (octets_of c.loop-octet.r) c.args.information.now c.loop-octet.octet-index (omega arith)) ∙ c.loop-octet.invariant
