use Rattle.std.proofs.Common.{◌≡◌, ℕ, ◌+◌, ◌-◌, ◌<◌, true, false, List, length, get_or, sym, refl, ◌∙◌, subst, arith, rules}
use Rattle.std.proofs.lemmas.Bool.{eq-eqb, ne_eqb}
use Rattle.rs16.specs.Field.{◌⊕◌}
use Rattle.rs16.specs.Mending.{zero_at}
use Rattle.rs16.specs.declared.corrections.Correction.{Correction}
use Rattle.rs16.proofs.Correcting.{Finding, finding_kept, finding_put, finding_all, kept_untested, kept_unchanged}
use Rattle.rs16.proofs.searching.corrections_at.Goals as goal
use Rattle.rs16.proofs.searching.corrections_at.Goals.{then-values-place-eq0+then-change-ne0, then-values-place-eq0+else-change-ne0, else-values-place-eq0}

pub loop-place-preserved : goal.loop-place-preserved
loop-place-preserved c =
    let v : List ℕ = c.args.values.now in
    let p : List ℕ = c.args.p.now in
    let o : List ℕ = c.args.o.now in
    let w : List ℕ = c.args.word.now in
    let j : ℕ = c.loop-place.place in
    let cs : List Correction = c.loop-place.corrections in
    let size : length w ≡ 255 = search rules in
    let low : j < 255 = omega arith in
    let h : Finding (zero_at v) p o w j cs = c.loop-place.invariant in
    elim c.if-values-place-eq0.branch [
      | then-values-place-eq0+then-change-ne0 way ↦
          let here : zero_at v (254 - j) ≡ true = eq-eqb (get_or v (254 - j) 0) 0 way.if-values-place-eq0.true in
          let x : ℕ = way.change_at-change.result in
          let it : Correction = record { place = j; octet = get_or w j 0 ⊕ x } in
          subst (λ ds. Finding (zero_at v) p o w (j + 1) ds) (sym (way.corrections-is ∙ way.push.ensures))
          (finding_put (zero_at v) p o w size j cs low h here it x refl way.change_at-change.ensures way.if-change-ne0.true refl)
      | then-values-place-eq0+else-change-ne0 way ↦
          let here : zero_at v (254 - j) ≡ true = eq-eqb (get_or v (254 - j) 0) 0 way.if-values-place-eq0.true in
          subst (λ found. Finding (zero_at v) p o w (j + 1) found) (sym way.corrections-is)
          (finding_kept (zero_at v) p o w size j cs low h
          (kept_unchanged (zero_at v) p o w size j cs low h here (sym way.change_at-change.ensures ∙ way.if-change-ne0.false)))
      | else-values-place-eq0 way ↦
          let gone : zero_at v (254 - j) ≡ false = ne_eqb (get_or v (254 - j) 0) 0 way.if-values-place-eq0.false in
          subst (λ found. Finding (zero_at v) p o w (j + 1) found) (sym way.corrections-is)
          (finding_kept (zero_at v) p o w size j cs low h (kept_untested (zero_at v) p o w size j cs low h gone))
    ]

pub returns-clause-made : goal.returns-clause-made
returns-clause-made c =
    let size : length c.args.word.now ≡ 255 = search rules in
    let end : c.loop-place.place ≡ 255 = omega arith in
    finding_all (zero_at c.args.values.now) c.args.p.now c.args.o.now c.args.word.now c.loop-place.place c.loop-place.corrections size end c.loop-place.invariant
