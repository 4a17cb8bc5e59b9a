-- The place that a search from the front finds, and the list with a record put there.
use Rattle.std.proofs.Common.{◌≡◌, ℕ, suc, ◌+◌, ◌-◌, ◌<◌, List, [], ◌∷◌, ◌++◌, length, get_or, take, drop, set, Some, None, Option, Ordering, Less, Equal, Greater, refl, ap, ◌∙◌, arith}
use borrow.Rule.Slice.PartMut.{put_mid}
use Rattle.std.proofs.lemmas.List.{take-take, drop_more, drop_all, set_at, length-take-le, length-drop, length-take, append-nil}
use Rattle.worst.specs.Noted.{placed}
use Rattle.worst.specs.Place.{place, put}

module _ {X : Type 0} (cmp : X → X → Ordering) where
  -- the place, by the answer at the first record
  abbrev pub onward : ℕ → X → List X → Ordering → Option ℕ
  onward n x ys o = elim o [ Less ↦ place cmp (n + 1) x ys | Equal ↦ None | Greater ↦ Some n ]

  -- the list, by the answer at the first record
  abbrev pub placed_by : X → X → List X → Ordering → List X
  placed_by x y ys o = elim o [ Less ↦ y ∷ placed cmp x ys | Equal ↦ y ∷ ys | Greater ↦ x ∷ y ∷ ys ]

  -- with no place, the list is as it was
  pub placed_none : (n : ℕ) (x : X) (ys : List X) → place cmp n x ys ≡ None → placed cmp x ys ≡ ys
  placed_none n x [] e = grind arith
  placed_none n x (y ∷ ys) e =
      (elim (cmp x y) as (λ o. (onward n x ys o ≡ None) → placed_by x y ys o ≡ y ∷ ys)
      [ Less ↦ λ q. ap (λ t. y ∷ t) (placed_none (n + 1) x ys q) | Equal ↦ λ q. refl | Greater ↦ λ q. grind arith ]) e

  -- with a place, the record stands there
  pub placed_some : (n k : ℕ) (x : X) (ys : List X) → place cmp n x ys ≡ Some k
      → (j : ℕ) × (k ≡ n + j) × (placed cmp x ys ≡ take j ys ++ (x ∷ drop j ys))
  placed_some n k x [] e = (0, grind arith, refl)
  placed_some n k x (y ∷ ys) e =
      (elim (cmp x y) as (λ o. (onward n x ys o ≡ Some k) → (j : ℕ) × (k ≡ n + j) × (placed_by x y ys o ≡ take j (y ∷ ys) ++ (x ∷ drop j (y ∷ ys)))) [
        | Less ↦ λ q. let r = placed_some (n + 1) k x ys q in (suc r.0, omega (arith, r.1), ap (λ t. y ∷ t) r.2)
        | Equal ↦ λ q. let z : ◌≡◌ {A = ℕ} 0 1 = grind arith in (0, omega arith, absurd (omega arith))
        | Greater ↦ λ q. (0, grind arith, refl)
      ]) e

-- a turn of the part from i on, and a store at i
pub put_by_turn : {X : Type 0} (s : List X) (i : ℕ) (x : X) (zs ys : List X) → i < length s → zs ≡ take (length s - i) (drop i s)
    → ys ≡ drop (length zs - 1) zs ++ take (length zs - 1) zs → set (put_mid i (length s - i) s ys) i x ≡ put s i x
put_by_turn s i x zs ys h ez ey =
    let l : length zs ≡ length s - i = ap length ez ∙ simp (length-take, length-drop) (omega arith) in
    let k : length zs - 1 ≡ length s - 1 - i = omega arith in
    let one : drop (length zs - 1) zs ≡ get_or zs (length zs - 1) x ∷ [] =
    drop_more zs (length zs - 1) x (omega arith) ∙ ap (λ t. get_or zs (length zs - 1) x ∷ t) (drop_all (length zs - 1 + 1) zs (omega arith))
    in
    let e : ys ≡ get_or zs (length zs - 1) x ∷ take (length zs - 1) zs = ey ∙ ap (λ t. t ++ take (length zs - 1) zs) one in
    let post : drop (length s - i) (drop i s) ≡ [] = drop_all (length s - i) (drop i s) (simp length-drop (omega arith)) in
    let mid : take (length zs - 1) zs ≡ take (length s - 1 - i) (drop i s) =
    ap (λ t. take (length zs - 1) t) ez ∙ take-take (length zs - 1) (length s - i) (drop i s) (omega arith) ∙ ap (λ t. take t (drop i s)) k
    in
    ap (λ t. set (put_mid i (length s - i) s t) i x) e
    ∙ set_at (take i s) (get_or zs (length zs - 1) x) (take (length zs - 1) zs ++ drop (length s - i) (drop i s)) x i (length-take-le i s (omega arith))
    ∙ ap (λ t. take i s ++ (x ∷ (take (length zs - 1) zs ++ t))) post
    ∙ ap (λ t. take i s ++ (x ∷ t)) (append-nil (take (length zs - 1) zs) ∙ mid)
