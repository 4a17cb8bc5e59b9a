use Rattle.std.proofs.Common.{◌≡◌, ℕ, ◌+◌, List, length, get_or, sym, subst, arith, rules}
use Rattle.std.proofs.lemmas.Bool.{eq-eqb, ne_eqb}
use Rattle.rs16.specs.Mending.{zero_at, chosen}
use Rattle.rs16.specs.Polynomials.{from_roots}
use Rattle.rs16.proofs.Products.{product_none, product_more, product_same}
use Rattle.rs16.proofs.Quotients.{Alike}
use Rattle.rs16.proofs.places.locator_polynomial.Goals as goal
use Rattle.rs16.proofs.places.locator_polynomial.Goals.{then-value-eq0, else-value-eq0}

pub loop-k-init : goal.loop-k-init
loop-k-init c = (search rules, product_none (zero_at c.args.values.now))

pub loop-k-preserved : goal.loop-k-preserved
loop-k-preserved c =
    let v : List ℕ = c.args.values.now in
    let k : ℕ = c.loop-k.k in
    let p : List ℕ = c.loop-k.p in
    elim c.if-value-eq0.branch [
      | then-value-eq0 w ↦
          let r : List ℕ = w.times_linear-p.result in
          let size : length r ≡ 17 = search rules in
          subst (λ (z : List ℕ). (length z ≡ 17) × Alike z (from_roots (chosen (zero_at v) (k + 1)))) (sym w.p-is) (
            size,
            product_more (zero_at v) k p r w.locator_at.result (omega arith) c.requires (eq-eqb (get_or v k 0) 0 w.if-value-eq0.true) w.locator_at.ensures
                c.loop-k.invariant.0 size c.loop-k.invariant.1 w.times_linear-p.ensures,
          )
      | else-value-eq0 w ↦
          subst (λ (z : List ℕ). (length z ≡ 17) × Alike z (from_roots (chosen (zero_at v) (k + 1)))) (sym w.p-is)
          (c.loop-k.invariant.0, product_same (zero_at v) k p (ne_eqb (get_or v k 0) 0 w.if-value-eq0.false) c.loop-k.invariant.1)
    ]
