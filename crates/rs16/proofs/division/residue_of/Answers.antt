use Rattle.std.proofs.Common.{ℕ, ◌+◌, List, get_or, slice_index, ap, ◌∙◌, rules}
use Rattle.rs16.specs.Field.{◌⊕◌}
use Rattle.rs16.proofs.Made.{made_at}
use Rattle.rs16.proofs.Residues.{residue_all}
use Rattle.rs16.proofs.division.residue_of.Goals as goal

pub returns : goal.returns
returns c =
    let w : List ℕ = c.args.word.now in
    residue_all w c.from_fn.result c.from_fn.ensures.items.long (λ j l.
    made_at _ (λ k. slice_index c.checks_of-checks.result k ⊕ slice_index c.args.word.now (223 + k)) _ c.from_fn.result 32 0
    (λ i y q l called. search rules) c.from_fn.ensures.items j l
    ∙ ap (λ r. get_or r j 0 ⊕ get_or w (223 + j) 0) c.checks_of-checks.ensures)
