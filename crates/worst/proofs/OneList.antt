-- Under a total order the worst list of given records is one.
use Rattle.std.proofs.Common.{◌≡◌, ℕ, zero, suc, ◌≤◌, ◌⊎◌, List, [], ◌∷◌, length, Ordering, Less, Equal, Greater, refl, ap, ◌∙◌, inl, inr, ⊎_elim, arith}
use Rattle.std.proofs.ByRecursion.{All-weaker, all-has}
use Rattle.std.specs.List.{ContainsAt, AllByRecursion}
use Rattle.std.specs.Cmp.{IsTotalOrder}
use Rattle.worst.specs.Order.{TotalOrder}
use Rattle.worst.specs.Worst.{Descending, Holds, Outdone, OneWorst}
use Rattle.worst.proofs.Orders.{lawful}
use Rattle.worst.proofs.WorstSteps.{above_held, below_turned, above_turned, equal_itself, above_passed_on}

module _ {X : Type 0} (cmp : X → X → Ordering) (t : TotalOrder cmp) where
  -- the order as std has it
  abbrev as_total : IsTotalOrder cmp
  as_total = lawful cmp t

  -- none is above itself
  not_above_itself : (x : X) → cmp x x ≡ Greater → ⊥
  not_above_itself x p =
      let e : cmp x x ≡ Equal = equal_itself as_total x in
      let z : ◌≡◌ {A = ℕ} 0 1 = cc in
      omega arith

  -- a record found in the list or outdone by it
  abbrev Known : ℕ → List X → X → Type 0
  Known n zs x = Holds cmp zs x ⊎ Outdone cmp n zs x

  -- a list's first record is not above the first of a list that knows it
  not_above : (n : ℕ) (y z : X) (zs : List X) → Descending cmp (z ∷ zs) → Known n (z ∷ zs) y → cmp y z ≡ Greater → ⊥
  not_above n y z zs d k p =
      ⊎_elim
      (λ h.
      ⊎_elim (λ e. let w : ◌≡◌ {A = ℕ} 0 1 = cc in omega arith)
      (λ i. not_above_itself y (above_passed_on as_total y z y p (above_held as_total z y zs d.0 i))) h)
      (λ out. not_above_itself y (above_passed_on as_total y z y p out.1.0)) k

  -- what stands behind the first record is known by the rest of a list with the same first
  known_rest : (n : ℕ) (z x : X) (zs : List X) → cmp z x ≡ Greater → Known (suc n) (z ∷ zs) x → Known n zs x
  known_rest n z x zs p k =
      ⊎_elim
      (λ h.
      ⊎_elim (λ e. let q : cmp x z ≡ Less = above_turned as_total z x p in let w : ◌≡◌ {A = ℕ} 0 1 = cc in absurd (omega arith)) (λ i. inl i) h)
      (λ out. inr (omega (arith, out.0), out.1.1)) k

  all_known : (n : ℕ) (z : X) (zs ys : List X) → AllByRecursion (λ x. cmp z x ≡ Greater) ys → AllByRecursion (Known (suc n) (z ∷ zs)) ys → AllByRecursion (Known n zs) ys
  all_known n z zs [] b k = tt
  all_known n z zs (y ∷ ys) b k = (known_rest n z y zs b.0 k.0, all_known n z zs ys b.1 k.1)

  pub same_by_known : (n : ℕ) (ys zs : List X) → length ys ≤ n → length zs ≤ n → Descending cmp ys → Descending cmp zs
      → AllByRecursion (Known n zs) ys → AllByRecursion (Known n ys) zs → ys ≡ zs
  same_by_known n [] [] ly lz dy dz ky kz = refl
  same_by_known n [] (z ∷ zs) ly lz dy dz ky kz = ⊎_elim (λ h. absurd h) (λ out. absurd (omega (arith, out.0))) kz.0
  same_by_known n (y ∷ ys) [] ly lz dy dz ky kz = ⊎_elim (λ h. absurd h) (λ out. absurd (omega (arith, out.0))) ky.0
  same_by_known zero (y ∷ ys) (z ∷ zs) ly lz dy dz ky kz = absurd (omega arith)
  same_by_known (suc n) (y ∷ ys) (z ∷ zs) ly lz dy dz ky kz =
      (elim (cmp y z) as (λ q. cmp y z ≡ q → y ∷ ys ≡ z ∷ zs) [
        | Less ↦ λ p. absurd (not_above (suc n) z y ys dy kz.0 (below_turned as_total y z p))
        | Equal ↦ λ p.
            let e : y ≡ z = t.same y z p in
            let zs-below : AllByRecursion (λ x. cmp y x ≡ Greater) zs = rw e dz.0 in
            let ys-below : AllByRecursion (λ x. cmp z x ≡ Greater) ys = rw (← e) dy.0 in
            let rest : ys ≡ zs =
            same_by_known n ys zs (omega arith) (omega arith) dy.1 dz.1 (all_known n z zs ys ys-below ky.1) (all_known n y ys zs zs-below kz.1)
            in
            ap (λ w. w ∷ ys) e ∙ ap (λ w. z ∷ w) rest
        | Greater ↦ λ p. absurd (not_above (suc n) y z zs dz ky.0 p)
      ]) refl

  pub one_worst : OneWorst cmp
  one_worst n xs xs' ys zs alike g h =
      same_by_known n ys zs g.within h.within g.descending h.descending
      (All-weaker (ContainsAt xs) (Known n zs) (λ y i. all-has (Known n zs) xs' y h.missing (all-has (ContainsAt xs') xs y alike.0 i)) ys g.among)
      (All-weaker (ContainsAt xs') (Known n ys) (λ z i. all-has (Known n ys) xs z g.missing (all-has (ContainsAt xs) xs' z alike.1 i)) zs h.among)
