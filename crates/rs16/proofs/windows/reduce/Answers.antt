use Rattle.std.proofs.Common.{◌≡◌, ℕ, ◌+◌, List, length, slice_index, IfSome, sym, ◌∙◌, subst, arith, rules}
use Rattle.rs16.specs.Elimination.{Pivot}
use Rattle.rs16.specs.Mending.{Monic, Cleared}
use Rattle.rs16.specs.Polynomials.{apply}
use Rattle.rs16.proofs.Elimination.{taken_off, cleared_more, on_window}
use Rattle.rs16.proofs.windows.reduce.Goals as goal
use Rattle.rs16.proofs.windows.reduce.Goals.{then-value-ne0+in-Some, else-value-ne0}

pub returns-in_default : goal.returns-in_default
returns-in_default c =
    let size : length c.args.s.now ≡ 32 = search rules in
    record {
      monic = c.loop-window.invariant.1;
      bound = omega arith;
      cleared = c.loop-window.invariant.2;
      free = c.in_default.is;
      value = c.applied-value.ensures ∙ on_window 16 c.args.n c.loop-window.row c.args.s.now c.loop-window.window size c.loop-window.invariant.1;
      octet = c.applied-value.type_inv;
      other = c.if-value-ne0.true;
    }

pub loop-window-preserved : goal.loop-window-preserved
loop-window-preserved c =
    let s : List ℕ = c.args.s.now in
    let n : ℕ = c.args.n in
    let h : ℕ = c.loop-window.window in
    let r : List ℕ = c.loop-window.row in
    let size : length s ≡ 32 = search rules in
    let value : c.applied-value.result ≡ apply r (λ m. slice_index s (h + m)) =
    c.applied-value.ensures ∙ on_window 16 n r s h size c.loop-window.invariant.1 in
    elim c.if-value-ne0.branch [
      | then-value-ne0+in-Some w ↦
          let a : List ℕ = w.combined-row.result in
          let la : length a ≡ 17 = search rules in
          let q : List ℕ = w.in-Some.pivot in
          let pivot : Pivot 16 s n h q = subst (λ o. IfSome o (Pivot 16 s n h)) w.in-Some.is (c.requires.pivots h (omega arith)) in
          let got : Monic 16 n a × Cleared s a (h + 1) =
          taken_off 16 s a r q n h c.applied-value.result c.applied-value.type_inv (omega arith) la
          c.loop-window.invariant.1 c.loop-window.invariant.2 pivot value w.combined-row.ensures in
          subst (λ (z : List ℕ). (length z ≡ 17) × Monic 16 n z × Cleared s z (h + 1)) (sym w.row-is) (la, got.0, got.1)
      | else-value-ne0 w ↦
          subst (λ (z : List ℕ). (length z ≡ 17) × Monic 16 n z × Cleared s z (h + 1)) (sym w.row-is)
          (c.loop-window.invariant.0, c.loop-window.invariant.1, cleared_more s r h c.loop-window.invariant.2 (sym value ∙ w.if-value-ne0.false))
    ]
