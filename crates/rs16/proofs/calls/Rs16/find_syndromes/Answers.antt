use Rattle.std.proofs.Common.{ℕ, List, ap, ap₂, ◌∙◌}
use Rattle.octets.specs.Counting.{tabulate}
use Rattle.octets.specs.Words.{word_of}
use Rattle.octets.proofs.Words.{word_size}
use Rattle.rs16.specs.Codewords.{root, syndrome, value}
use Rattle.rs16.specs.Division.{residue}
use Rattle.rs16.proofs.Residues.{residue_syndromes}
use Rattle.rs16.proofs.calls.Rs16.find_syndromes.Goals as goal

pub returns : goal.returns
returns c =
    let woven = c.in_ok-checked.field-0 in
    let row : List ℕ = c.args.row.now in (
      c.in_ok-checked.ensures.passed,
      c.syndromes_from.ensures
          ∙ ap (λ r. tabulate 32 (λ m. value r (root m))) (c.residue_of.ensures ∙ ap residue c.gathered-octets.ensures)
          ∙ residue_syndromes (word_of woven.depth woven.word row) (word_size woven.depth woven.word row)
          ∙ ap₂ (λ d w. tabulate 32 (syndrome (word_of d w row))) c.in_ok-checked.ensures.same_depth c.in_ok-checked.ensures.same_word,
    )
