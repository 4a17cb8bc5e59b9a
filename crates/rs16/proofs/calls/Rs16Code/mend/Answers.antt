use Rattle.std.proofs.Common.{ℕ, List, length, sym, ap, ◌∙◌, subst}
use Rattle.std.proofs.Math.Path.{subst₂}
use Rattle.code.specs.Calls.{Mended}
use Rattle.code.specs.Meaning.{Reached}
use Rattle.octets.specs.Words.{word_of}
use Rattle.rs16.specs.Codewords.{rs16}
use Rattle.rs16.specs.Mending.{corrected, Corrects}
use Rattle.rs16.specs.Searching.{Searches}
use Rattle.rs16.specs.declared.corrections.Correction.{Correction}
use Rattle.rs16.proofs.Completed.{mended}
use Rattle.rs16.proofs.calls.Rs16Code.mend.Goals as goal

pub returns : goal.returns
returns c =
    let woven = c.in_ok-woven.woven in
    let before : List ℕ = c.args.row.now in
    let after : List ℕ = c.store_corrections.new.row in
    let word : List ℕ = c.gathered.result in
    let found : List Correction = c.in_ok-corrections.corrections in
    let searched : Corrects word found × Reached rs16 word (corrected found word) =
    subst (Searches word) c.in_ok-corrections.ensures.ok_part c.search_word.ensures in
    let made : Mended rs16 woven.depth woven.word (length found) before after =
    mended woven.depth woven.word before after word found c.gathered.ensures searched.0 searched.1
    (c.store_corrections.ensures.word ∙ ap (λ cs. corrected cs (word_of woven.depth woven.word before)) c.deref.ensures)
    c.store_corrections.ensures.others in (
      c.in_ok-woven.ensures.passed,
      subst (λ n. Mended rs16 c.args.depth c.args.word n before after) (sym c.len.ensures)
          (subst₂ (λ d w. Mended rs16 d w (length found) before after) c.in_ok-woven.ensures.same_depth c.in_ok-woven.ensures.same_word made),
    )
