-- Noting a record keeps a list the worst of all that was noted.
use Rattle.std.proofs.Common.{◌≡◌, ℕ, zero, suc, ◌⊎◌, List, [], ◌∷◌, length, take, Ordering, Less, Equal, Greater, refl, ap, ◌∙◌, inl, inr, ⊎_elim, arith}
use Rattle.std.proofs.lemmas.List.{length-take}
use Rattle.std.proofs.ByRecursion.{All-weaker, All-take, has_append_left, has_append_right, has_push}
use Rattle.std.specs.List.{ContainsAt, AllByRecursion}
use Rattle.std.specs.Cmp.{IsTotalOrder}
use Rattle.std.specs.Ordering.{ordering_reverse}
use Rattle.worst.specs.Noted.{placed, noted}
use Rattle.worst.specs.Worst.{Descending, Holds, Outdone, WorstOf}
use Rattle.worst.proofs.Places.{placed_by}

pub worst_of_none : {X : Type 0} (cmp : X → X → Ordering) (n : ℕ) → WorstOf cmp n [] []
worst_of_none cmp n = record { within = omega arith; descending = tt; among = tt; missing = tt }

module _ {X : Type 0} {R : X → X → Ordering} (o : IsTotalOrder R) where
  pub equal_itself : (x : X) → R x x ≡ Equal
  equal_itself x = (elim (R x x) as (λ q. q ≡ ordering_reverse q → q ≡ Equal) [ Less ↦ λ p. cc | Equal ↦ λ p. refl | Greater ↦ λ p. cc ]) (o.antisymm x x)

  pub below_turned : (x y : X) → R x y ≡ Less → R y x ≡ Greater
  below_turned x y p = o.antisymm y x ∙ ap ordering_reverse p

  pub above_turned : (x y : X) → R x y ≡ Greater → R y x ≡ Less
  above_turned x y p = o.antisymm y x ∙ ap ordering_reverse p

  pub above_passed_on : (x y z : X) → R x y ≡ Greater → R y z ≡ Greater → R x z ≡ Greater
  above_passed_on x y z p q = below_turned z x (o.trans z y x (above_turned y z q) (above_turned x y p))

  -- what is above an equal of w is above w
  above_equal : (y z w : X) → R y z ≡ Greater → R w z ≡ Equal → R y w ≡ Greater
  above_equal y z w p e = below_turned w y (o.congr w z y e ∙ above_turned y z p)

  pub all_placed : (P : X → Type 0) (x : X) (ys : List X) → P x → AllByRecursion P ys → AllByRecursion P (placed R x ys)
  all_placed P x [] p a = (p, tt)
  all_placed P x (y ∷ ys) p a =
      elim (R x y) as (λ q. AllByRecursion P (placed_by R x y ys q))
      [ Less ↦ (a.0, all_placed P x ys p a.1) | Equal ↦ a | Greater ↦ (p, a) ]

  pub placed_descends : (x : X) (ys : List X) → Descending R ys → Descending R (placed R x ys)
  placed_descends x [] d = (tt, tt)
  placed_descends x (y ∷ ys) d =
      (elim (R x y) as (λ q. R x y ≡ q → Descending R (placed_by R x y ys q)) [
        | Less ↦ λ p. (all_placed (λ z. R y z ≡ Greater) x ys (below_turned x y p) d.0, placed_descends x ys d.1)
        | Equal ↦ λ p. d
        | Greater ↦ λ p. ((p, All-weaker (λ z. R y z ≡ Greater) (λ z. R x z ≡ Greater) (λ z h. above_passed_on x y z p h) ys d.0), d)
      ]) refl

  pub take_descends : (n : ℕ) (ys : List X) → Descending R ys → Descending R (take n ys)
  take_descends zero ys d = tt
  take_descends (suc n) [] d = tt
  take_descends (suc n) (y ∷ ys) d = (All-take (λ z. R y z ≡ Greater) n ys d.0, take_descends n ys d.1)

  pub placed_holds : (x : X) (ys : List X) → Holds R (placed R x ys) x
  placed_holds x [] = inl (equal_itself x)
  placed_holds x (y ∷ ys) =
      (elim (R x y) as (λ q. R x y ≡ q → Holds R (placed_by R x y ys q) x)
      [ Less ↦ λ p. inr (placed_holds x ys) | Equal ↦ λ p. inl p | Greater ↦ λ p. inl (equal_itself x) ]) refl

  pub placed_keeps : (x w : X) (ys : List X) → Holds R ys w → Holds R (placed R x ys) w
  placed_keeps x w [] h = absurd h
  placed_keeps x w (y ∷ ys) h =
      elim (R x y) as (λ q. Holds R (placed_by R x y ys q) w)
      [ Less ↦ ⊎_elim (λ e. inl e) (λ k. inr (placed_keeps x w ys k)) h | Equal ↦ h | Greater ↦ inr h ]

  pub above_held : (y w : X) (ys : List X) → AllByRecursion (λ z. R y z ≡ Greater) ys → Holds R ys w → R y w ≡ Greater
  above_held y w [] a h = absurd h
  above_held y w (z ∷ ys) a h = ⊎_elim (λ e. above_equal y z w a.0 e) (λ k. above_held y w ys a.1 k) h

  -- what a cut takes from a list that descends is outdone by what it leaves
  pub take_holds : (w : X) (n : ℕ) (ys : List X) → Descending R ys → Holds R ys w
      → Holds R (take n ys) w ⊎ Outdone R n (take n ys) w
  take_holds w zero ys d h = inr (refl, tt)
  take_holds w (suc n) [] d h = absurd h
  take_holds w (suc n) (y ∷ ys) d h =
      ⊎_elim (λ e. inl (inl e))
      (λ k. ⊎_elim (λ i. inl (inr i)) (λ out. inr (ap suc out.0, (above_held y w ys d.0 k, out.1))) (take_holds w n ys d.1 k)) h

  -- what a full list outdoes it outdoes once another record is noted
  pub noted_outdoes : (x w : X) (n : ℕ) (ys : List X) → Outdone R n ys w → Outdone R n (noted R n x ys) w
  noted_outdoes x w zero ys out = (refl, tt)
  noted_outdoes x w (suc n) [] out = absurd (omega (arith, out.0))
  noted_outdoes x w (suc n) (y ∷ ys) out =
      let l : length ys ≡ n = omega (arith, out.0) in
      (elim (R x y) as (λ q. R x y ≡ q → Outdone R (suc n) (take (suc n) (placed_by R x y ys q)) w) [
        | Less ↦ λ p. let r = noted_outdoes x w n ys (l, out.1.1) in (ap suc r.0, (out.1.0, r.1))
        | Equal ↦ λ p. (ap suc (length-take n ys ∙ omega arith), (out.1.0, All-take (λ z. R z w ≡ Greater) n ys out.1.1))
        | Greater ↦ λ p.
            (ap suc (length-take n (y ∷ ys) ∙ omega arith), (above_passed_on x y w p out.1.0, All-take (λ z. R z w ≡ Greater) n (y ∷ ys) out.1))
      ]) refl

  pub worst_noted : (n : ℕ) (x : X) (xs ys : List X) → WorstOf R n xs ys → WorstOf R n (x ∷ xs) (noted R n x ys)
  worst_noted n x xs ys g =
      let d : Descending R (placed R x ys) = placed_descends x ys g.descending in
      record {
        within = simp length-take (omega arith);
        descending = take_descends n (placed R x ys) d;
        among =
            All-take (ContainsAt (x ∷ xs)) n (placed R x ys)
            (all_placed (ContainsAt (x ∷ xs)) x ys (has_append_left (x ∷ []) xs x (has_push [] x))
            (All-weaker (ContainsAt xs) (ContainsAt (x ∷ xs)) (λ z h. has_append_right (x ∷ []) xs z h) ys g.among));
        missing = (
          take_holds x n (placed R x ys) d (placed_holds x ys),
          All-weaker (λ w. Holds R ys w ⊎ Outdone R n ys w)
              (λ w. Holds R (noted R n x ys) w ⊎ Outdone R n (noted R n x ys) w)
              (λ w. ⊎_elim (λ h. take_holds w n (placed R x ys) d (placed_keeps x w ys h)) (λ out. inr (noted_outdoes x w n ys out))) xs g.missing,
        );
      }

  -- the same of slots
  pub worst_records : (x : X) (xs before after : List X) (used used' : ℕ) → length after ≡ length before
      → take used' after ≡ noted R (length before) x (take used before)
      → WorstOf R (length before) xs (take used before) → WorstOf R (length after) (x ∷ xs) (take used' after)
  worst_records x xs before after used used' l e g = rw (l, e) (worst_noted (length before) x xs (take used before) g)
