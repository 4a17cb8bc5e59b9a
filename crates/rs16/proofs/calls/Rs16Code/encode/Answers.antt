use Rattle.std.proofs.Common.{ℕ, ◌<◌, List, slice_index, take, ap, ◌∙◌, rules}
use Rattle.std.proofs.Math.Path.{subst₂}
use Rattle.code.specs.Calls.{Encoded}
use Rattle.rs16.specs.Codewords.{rs16}
use Rattle.rs16.specs.Division.{checks}
use Rattle.rs16.proofs.Completed.{encoded}
use Rattle.rs16.proofs.calls.Rs16Code.encode.Goals as goal

pub returns : goal.returns
returns c =
    let woven = c.in_ok-woven.woven in
    let before : List ℕ = c.args.row.now in
    let after : List ℕ = c.store_checks.new.row in
    let octets : (place : ℕ) → slice_index before place < 256 = search rules in
    let made : Encoded rs16 woven.depth woven.word before after =
    encoded woven.depth woven.word before after c.checks_of-checks.result octets
    (c.checks_of-checks.ensures ∙ ap (λ w. checks (take 223 w)) c.gathered-octets.ensures)
    c.store_checks.ensures.word c.store_checks.ensures.others in (
      c.in_ok-woven.ensures.passed,
      subst₂ (λ d w. Encoded rs16 d w before after) c.in_ok-woven.ensures.same_depth c.in_ok-woven.ensures.same_word made,
    )
