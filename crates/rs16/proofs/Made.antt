-- Arrays made by `array::from_fn`, of a closure that leaves what it captured as it was and gives h of each index.
use Rattle.std.proofs.Common.{◌≡◌, ℕ, zero, suc, ◌+◌, ◌<◌, ◌≤◌, List, get_or, sym, ◌∙◌, subst, inl, inr, arith}
use Rattle.std.proofs.lemmas.Bool.{cases_eq}
use Rattle.std.proofs.lemmas.List.FromFn.{fill_by_all}
use Rattle.std.specs.Array.{IsFromFnResult, IsFromFnResultFrom}
use Rattle.std.specs.Fn.{Called}
use Rattle.octets.specs.Counting.{tabulate}
use denote.Param.Members.{Mut}

module _ {F B : Type 0} (g : Mut F (ℕ × Unit {0}) B) (h : ℕ → B) (f : F) (ys : List B) (n : ℕ) (d : B)
    (gives : (i : ℕ) (y : B) (q : F) → i < n → Called g f (i, tt) y q → (q ≡ f) × (y ≡ h i)) where
  from : (m i : ℕ) → i + m ≤ n → IsFromFnResultFrom g f ys i m → (k : ℕ) → i ≤ k → k < i + m → get_or ys k d ≡ h k
  from zero i l e k low high = absurd (omega arith)
  from (suc m) i l (q, y, at, called, rest) k low high =
      let same = gives i y q (omega arith) called in
      elim (cases_eq k i) [
        | inl here ↦ subst (λ j. get_or ys j d ≡ h j) (sym here) (at.1 d ∙ same.1)
        | inr later ↦ from m (i + 1) (omega arith) (subst (λ p. IsFromFnResultFrom g p ys (i + 1) m) same.0 rest) k (omega arith) (omega arith)
      ]

  pub made_at : IsFromFnResult g f ys n → (k : ℕ) → k < n → get_or ys k d ≡ h k
  made_at made k l = from n 0 (omega arith) made.each k (omega arith) (omega arith)

-- the same, of the whole array
pub tabulated : {F : Type 0} (g : Mut F (ℕ × Unit {0}) ℕ) (h : ℕ → ℕ) (f : F) (ys : List ℕ) (n : ℕ)
    → ((i : ℕ) (y : ℕ) (q : F) → i < n → Called g f (i, tt) y q → (q ≡ f) × (y ≡ h i)) → IsFromFnResult g f ys n → ys ≡ tabulate n h
tabulated g h f ys n gives made = fill_by_all h ys n 0 made.long (λ k l. made_at g h f ys n 0 gives made k l)
