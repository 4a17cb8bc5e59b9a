-- What the slots hold once a record is noted: no place, room, full slots, and past full slots.
use Rattle.std.proofs.Common.{◌≡◌, ℕ, ◌+◌, ◌<◌, ◌≤◌, List, ◌∷◌, ◌++◌, length, take, drop, Some, None, Ordering, sym, ap, ◌∙◌, arith, rules}
use Rattle.std.proofs.lemmas.List.{places, same_lists, take_all, length-take, take-append-drop, take_at}
use Rattle.worst.specs.Noted.{noted, placed}
use Rattle.worst.specs.Place.{place, put, Stands}
use Rattle.worst.proofs.Places.{placed_none, placed_some}

module _ {X : Type 0} (s : List X) (x : X) (n : ℕ) (h : n ≤ length s) where
  -- room is left
  pub room_put : (i : ℕ) → i ≤ n → n < length s → put (take (n + 1) s) i x ≡ take (length s) (take i (take n s) ++ (x ∷ drop i (take n s)))
  room_put i hi hn = same_lists _ _ (search (rules, places)) (λ k d l. grind (arith, places))

  -- the last goes
  pub full_put : (i : ℕ) → i < n → n ≡ length s → put (take n s) i x ≡ take (length s) (take i (take n s) ++ (x ∷ drop i (take n s)))
  full_put i hi hn = same_lists _ _ (search (rules, places)) (λ k d l. grind (arith, places))

  -- the record itself goes
  pub past_put : n ≡ length s → take n s ≡ take (length s) (take n (take n s) ++ (x ∷ drop n (take n s)))
  past_put hn = same_lists _ _ (search (rules, places)) (λ k d l. grind (arith, places))

-- a list of m records at the front of the slots stands in them
pub stands_at : {X : Type 0} (xs ys before after : List X) (m : ℕ) → ys ≡ xs → length ys ≡ m → after ≡ ys ++ drop m before → Stands xs before after m
stands_at xs ys before after m e l a =
    let k : m ≡ length xs = sym l ∙ ap length e in
    record { count = k; front = a ∙ ap (λ t. t ++ drop m before) e ∙ ap (λ t. xs ++ drop t before) k }

module _ {X : Type 0} (cmp : X → X → Ordering) (s : List X) (x : X) (n : ℕ) (h : n ≤ length s) where
  pub stands_none : (k : ℕ) → k ≡ n → None ≡ place cmp 0 x (take k s) → Stands (noted cmp (length s) x (take n s)) s s n
  stands_none k e p =
      let q : place cmp 0 x (take n s) ≡ None = rw (← e) (sym p) in
      stands_at _ (take n s) s s n
      (sym (ap (λ t. take (length s) t) (placed_none cmp 0 x (take n s) q) ∙ take_all (length s) (take n s) (simp length-take (omega arith))))
      (simp length-take (omega arith)) (sym (take-append-drop n s))

  -- the list with the record in it, at the place that was found
  pub placed_at : (i k : ℕ) → k ≡ n → Some i ≡ place cmp 0 x (take k s) → placed cmp x (take n s) ≡ take i (take n s) ++ (x ∷ drop i (take n s))
  placed_at i k e p =
      let q : place cmp 0 x (take n s) ≡ Some i = rw (← e) (sym p) in
      let r = placed_some cmp 0 i x (take n s) q in
      let j : i ≡ r.0 = omega (arith, r.1) in
      rw j r.2

  pub stands_room : (i k m : ℕ) (ys after : List X) → k ≡ n → Some i ≡ place cmp 0 x (take k s) → i ≤ n → n < length s → m ≡ n + 1
      → ys ≡ put (take m s) i x → after ≡ ys ++ drop m s → Stands (noted cmp (length s) x (take n s)) s after m
  stands_room i k m ys after e p hi hn em ey ea =
      let y1 : ys ≡ put (take (n + 1) s) i x = rw (← em) ey in
      stands_at _ ys s after m (y1 ∙ room_put s x n h i hi hn ∙ ap (λ t. take (length s) t) (sym (placed_at i k e p)))
      (ap length y1 ∙ search (rules, places)) ea

  pub stands_full : (i k m : ℕ) (ys after : List X) → k ≡ n → Some i ≡ place cmp 0 x (take k s) → i < n → n ≡ length s → m ≡ n
      → ys ≡ put (take m s) i x → after ≡ ys ++ drop m s → Stands (noted cmp (length s) x (take n s)) s after m
  stands_full i k m ys after e p hi hn em ey ea =
      let y1 : ys ≡ put (take n s) i x = rw (← em) ey in
      stands_at _ ys s after m (y1 ∙ full_put s x n h i hi hn ∙ ap (λ t. take (length s) t) (sym (placed_at i k e p)))
      (ap length y1 ∙ search (rules, places)) ea

  pub stands_past : (i k m : ℕ) → k ≡ n → Some i ≡ place cmp 0 x (take k s) → i ≡ n → n ≡ length s → m ≡ n → Stands (noted cmp (length s) x (take n s)) s s m
  stands_past i k m e p hi hn em =
      let a : placed cmp x (take n s) ≡ take n (take n s) ++ (x ∷ drop n (take n s)) = rw hi at (placed_at i k e p) in
      rw em (stands_at _ (take n s) s s n (past_put s x n h hn ∙ ap (λ t. take (length s) t) (sym a)) (simp length-take (omega arith)) (sym (take-append-drop n s)))

-- the first `used` slots are the list that stands there
pub stands_records : {X : Type 0} (xs before after : List X) (used : ℕ) → Stands xs before after used
    → (take used after ≡ xs) × (after ≡ take used after ++ drop (length (take used after)) before)
stands_records xs before after used h =
    let e : take used after ≡ xs = ap (λ t. take used t) h.front ∙ take_at xs _ used (sym h.count) in
    (e, h.front ∙ ap (λ t. t ++ drop (length t) before) (sym e))
