use Rattle.std.proofs.Common.{◌≡◌, ℕ, ◌<◌, ◌≤◌, Bool, true, false, List, length, get_or, drop, Some, None, sym, refl, ap, ◌∙◌, subst, arith, rules}
use Rattle.std.specs.Bool.{then_some}
use Rattle.octets.specs.Octets.{Octets, altered}
use Rattle.octets.specs.Words.{word_length}
use Rattle.code.specs.Meaning.{Reached}
use Rattle.rs16.specs.Codewords.{rs16}
use Rattle.rs16.specs.Division.{residue}
use Rattle.rs16.specs.Mending.{zero_at, evaluator, changed, corrected, Corrects}
use Rattle.rs16.specs.Searching.{Searches}
use Rattle.rs16.proofs.Mending.{SyndromesOf}
use Rattle.rs16.specs.declared.corrections.Correction.{Correction}
use Rattle.rs16.proofs.Chosen.{few_zeros}
use Rattle.rs16.proofs.Correcting.{counted, no_corrections}
use Rattle.rs16.proofs.Deciding.{Nought, syndromes_of, clean, good, bad}
use Rattle.rs16.proofs.searching.search_word.Goals as goal

decided : (w : List ℕ) (passes : Bool) (found : List Correction) → (passes ≡ true → Searches w (Some found)) → (passes ≡ false → Searches w None)
    → Searches w (then_some passes found)
decided w true found there gone = there refl
decided w false found there gone = gone refl

pub returns-then-all_zero : goal.returns-then-all_zero
returns-then-all_zero c =
    let w : List ℕ = c.args.word in
    let size : length w ≡ word_length = search rules in
    let low : (j : ℕ) → get_or w j 0 < 256 = search rules in
    subst (λ found. Corrects w found × Reached rs16 w (corrected found w)) (sym c.new.ensures)
    (no_corrections w, clean w (record { size = size; octet = λ j l. low j }) (subst Nought c.residue_of-residue.ensures (c.all_zero.ensures.0 c.if-all_zero.true)))

pub locator_polynomial-locator-requires : goal.locator_polynomial-locator-requires
locator_polynomial-locator-requires c =
    few_zeros 16 c.solution.result c.values_of-values.result c.syndromes_from-syndromes.result c.solution.ensures c.values_of-values.ensures

pub corrections_at-corrections-requires : goal.corrections_at-corrections-requires
corrections_at-corrections-requires c =
    few_zeros 16 c.solution.result c.values_of-values.result c.syndromes_from-syndromes.result c.solution.ensures c.values_of-values.ensures

pub returns : goal.returns
returns c =
    let w : List ℕ = c.args.word in
    let q : List ℕ = c.solution.result in
    let v : List ℕ = c.values_of-values.result in
    let p : List ℕ = c.locator_polynomial-locator.result in
    let s : List ℕ = c.syndromes_from-syndromes.result in
    let found : List Correction = c.corrections_at-corrections.result in
    let right = c.corrections_at-corrections.ensures.right in
    let new : List ℕ = corrected found w in
    let size : length w ≡ word_length = search rules in
    let low : (j : ℕ) → get_or w j 0 < 256 = search rules in
    let octets : Octets word_length w = record { size = size; octet = λ j l. low j } in
    let psize : length p ≡ 17 = search rules in
    let few : length found ≤ 16 = c.corrections_at-corrections.ensures.few in
    let given : SyndromesOf w s =
    syndromes_of w c.residue_of-residue.result s size c.residue_of-residue.ensures c.syndromes_from-syndromes.ensures in
    let made : new ≡ changed (zero_at v) p (evaluator (drop 1 p) s) w =
    c.corrections_at-corrections.ensures.made ∙ ap (λ o. changed (zero_at v) p o w) c.evaluator_polynomial-evaluator.ensures in
    let checked : c.residue_of.result ≡ residue new =
    c.residue_of.ensures ∙ ap residue (c.corrected_word-codeword.ensures ∙ ap (λ cs. corrected cs w) c.deref.ensures) in
    let near : altered word_length w new ≤ 16 = omega (arith, counted w found size right) in
    subst (Searches w) (sym c.then_some.ensures)
    (decided w c.all_zero-2.result c.corrections_at-corrections.result
    (λ e. (
      right,
      good w q v p s new octets given c.solution.ensures c.values_of-values.ensures (omega arith) c.locator_polynomial-locator.ensures made near
          (subst Nought checked (c.all_zero-2.ensures.0 e)),
    ))
    (λ e.
    bad w q v p s new octets given c.solution.ensures c.values_of-values.ensures (omega arith) c.locator_polynomial-locator.ensures made
    (λ z. let yes = c.all_zero-2.ensures.1 (subst Nought (sym checked) z) in absurd (cc))))
