use Rattle.std.proofs.Common.{rules}
use Rattle.rs16.specs.Codewords.{root, value}
use Rattle.rs16.proofs.Made.{tabulated}
use Rattle.rs16.proofs.calls.syndromes_from.Goals as goal

pub returns : goal.returns
returns c =
    tabulated _ (λ m. value c.args.residue.now (root m)) _ c.from_fn.result 32 (λ i y q l called. search rules) c.from_fn.ensures.items
