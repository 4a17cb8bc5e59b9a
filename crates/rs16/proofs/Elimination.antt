-- The elimination's steps, for any bound t: rows of t + 1 coefficients, and windows of the syndromes.
use Rattle.std.proofs.Common.{◌≡◌, ℕ, zero, suc, ◌+◌, ◌-◌, ◌<◌, ◌≤◌, cond, List, [], ◌∷◌, length, get_or, set, replicate, take, drop, Some, None, Option, IfSome, is_some, count_by, sym, refl, ap, ◌∙◌, subst, ap₂, inl, inr, suc-le-suc, zero-lt-suc, suc-ne-zero, arith}
use mathlib.Core.Path.{fun_ext}
use native.Mathlib.Nat.{suc_inj}
use Rattle.std.specs.List.{AllByRecursion}
use Rattle.std.proofs.lemmas.List.{get_or_past, get_or-drop, get_or-replicate, get_or-set_same, get_or-set_other, length-set, length-drop, length-replicate, take_all}
use Rattle.std.proofs.lemmas.Option.{IfSome_then}
use Rattle.std.proofs.lemmas.List.Sums.{sum_by-set}
use Rattle.std.proofs.lemmas.Bool.{cases_lt, cases_eq}
use Rattle.rs16.specs.Field.{◌⊕◌, ◌⊗◌, IsOctet, inv}
use Rattle.rs16.specs.Polynomials.{apply}
use Rattle.rs16.specs.Elimination.{Pivot, Pivots, pivot_at}
use Rattle.rs16.specs.Mending.{Cleared, Monic, Solution}
use Rattle.rs16.proofs.Inverses.{inverse}
use Rattle.rs16.specs.PolynomialsLemmas.{ring, add_self, mul_assoc, mul_comm, mul_add, mul-zero, mul_one, octet_add, octet_mul, octet_zero, octet_one, zero-mul}

pub apply_scaled : (a r : List ℕ) (f : ℕ) (S : ℕ → ℕ) → length a ≡ length r
    → ((k : ℕ) → k < length a → get_or a k 0 ≡ f ⊗ get_or r k 0) → apply a S ≡ f ⊗ apply r S
unfolding apply
apply_scaled [] [] f S l h = sym (mul-zero f)
apply_scaled [] (x ∷ r) f S l h = absurd (suc-ne-zero (length r) (sym l))
apply_scaled (x ∷ a) [] f S l h = absurd (suc-ne-zero (length a) l)
apply_scaled (x ∷ a) (y ∷ r) f S l h =
    ap₂ (λ z t. z ⊗ S 0 ⊕ t) (h 0 (zero-lt-suc (length a))) (apply_scaled a r f (λ m. S (suc m)) (suc_inj l) (λ k lk. h (suc k) (suc-le-suc lk)))
    ∙ ap (λ z. z ⊕ f ⊗ apply r (λ m. S (suc m))) (mul_assoc f y (S 0)) ∙ sym (mul_add f (y ⊗ S 0) (apply r (λ m. S (suc m))))

regroup : (x y f s p q : ℕ) → (x ⊕ f ⊗ y) ⊗ s ⊕ (p ⊕ f ⊗ q) ≡ x ⊗ s ⊕ p ⊕ f ⊗ (y ⊗ s ⊕ q)
regroup x y f s p q = simp ring

pub apply_combined : (a r q : List ℕ) (f : ℕ) (S : ℕ → ℕ) → length a ≡ length r → length a ≡ length q
    → ((k : ℕ) → k < length a → get_or a k 0 ≡ get_or r k 0 ⊕ f ⊗ get_or q k 0) → apply a S ≡ apply r S ⊕ f ⊗ apply q S
unfolding apply
apply_combined [] [] [] f S l m h = sym (mul-zero f)
apply_combined [] [] (y ∷ q) f S l m h = absurd (suc-ne-zero (length q) (sym m))
apply_combined [] (x ∷ r) q f S l m h = absurd (suc-ne-zero (length r) (sym l))
apply_combined (z ∷ a) [] q f S l m h = absurd (suc-ne-zero (length a) l)
apply_combined (z ∷ a) (x ∷ r) [] f S l m h = absurd (suc-ne-zero (length a) m)
apply_combined (z ∷ a) (x ∷ r) (y ∷ q) f S l m h =
    ap₂ (λ u t. u ⊗ S 0 ⊕ t) (h 0 (zero-lt-suc (length a)))
    (apply_combined a r q f (λ m. S (suc m)) (suc_inj l) (suc_inj m) (λ k lk. h (suc k) (suc-le-suc lk)))
    ∙ regroup x y f (S 0) (apply r (λ m. S (suc m))) (apply q (λ m. S (suc m)))

-- coefficients that are 0 from place n on add nothing, and a window is what the syndromes hold from its place on
apply_zeros : (p : List ℕ) (S : ℕ → ℕ) → ((k : ℕ) → get_or p k 0 ≡ 0) → apply p S ≡ 0
unfolding apply
apply_zeros [] S h = refl
apply_zeros (c ∷ p) S h = ap₂ (λ a b. a ⊗ S 0 ⊕ b) (h 0) (apply_zeros p (λ m. S (suc m)) (λ k. h (suc k))) ∙ ap (λ z. z ⊕ 0) (zero-mul (S 0))

apply_front : (p : List ℕ) (n : ℕ) (S : ℕ → ℕ) → ((k : ℕ) → n ≤ k → get_or p k 0 ≡ 0) → apply (take n p) S ≡ apply p S
unfolding apply
apply_front p zero S h = sym (apply_zeros p S (λ k. h k (omega arith)))
apply_front [] (suc n) S h = refl
apply_front (c ∷ p) (suc n) S h = ap (λ z. c ⊗ S 0 ⊕ z) (apply_front p n (λ m. S (suc m)) (λ k l. h (suc k) (suc-le-suc l)))

pub on_window : (t n : ℕ) (p s : List ℕ) (g : ℕ) → length s ≡ 32 → Monic t n p
    → apply (take (n + 1) p) (λ m. get_or (take (32 - g) (drop g s)) m 0) ≡ apply p (λ m. get_or s (g + m) 0)
on_window t n p s g size monic =
    ap (λ w. apply (take (n + 1) p) (λ m. get_or w m 0)) (take_all (32 - g) (drop g s) (omega (arith, length-drop g s)))
    ∙ apply_front p (n + 1) (λ m. get_or (drop g s) m 0) (λ k l. monic.above k (omega arith)) ∙ ap (apply p) (fun_ext (λ m. get_or-drop g s m 0))

-- below h + 1: below h, or h
pub cleared_more : (s r : List ℕ) (h : ℕ) → Cleared s r h → apply r (λ m. get_or s (h + m) 0) ≡ 0 → Cleared s r (h + 1)
cleared_more s r h c e g l = elim (cases_lt g h) [
  | inl lt ↦ c g lt
  | inr ge ↦ let same : g ≡ h = omega arith in subst (λ z. apply r (λ m. get_or s (z + m) 0) ≡ 0) (sym same) e
]

module _ (t : ℕ) where
  abbrev pub Mixed : List ℕ → List ℕ → List ℕ → ℕ → Type 0
  Mixed a r q f = (k : ℕ) → k < t + 1 → get_or a k 0 ≡ get_or r k 0 ⊕ f ⊗ get_or q k 0

  -- one pivot taken off
  pub taken_off : (s a r q : List ℕ) (n h v : ℕ) → IsOctet v → n < t + 1 → length a ≡ t + 1 → Monic t n r → Cleared s r h → Pivot t s n h q → v ≡ apply r (λ m. get_or s (h + m) 0)
      → Mixed a r q v → Monic t n a × Cleared s a (h + 1)
  taken_off s a r q n h v hv hn la m c p e mix =
      let la' : length a ≡ length r = la ∙ sym m.size in
      let lq : length a ≡ length q = la ∙ sym p.size in
      let lin : (S : ℕ → ℕ) → apply a S ≡ apply r S ⊕ v ⊗ apply q S = λ S. apply_combined a r q v S la' lq (λ k lk. mix k (subst (λ z. k < z) la lk)) in (
        record {
          size = la;
          octets = λ k. elim (cases_lt k (t + 1)) [
            | inl lt ↦ subst IsOctet (sym (mix k lt)) (octet_add (get_or r k 0) (v ⊗ get_or q k 0) (m.octets k) (octet_mul v (get_or q k 0)))
            | inr ge ↦ subst IsOctet (sym (get_or_past a k 0 (omega arith))) octet_zero
          ];
          top = mix n hn ∙ ap₂ (λ x y. x ⊕ v ⊗ y) m.top (p.above n (omega arith)) ∙ ap (λ z. 1 ⊕ z) (mul-zero v);
          above = λ k lk. elim (cases_lt k (t + 1)) [
            | inl lt ↦ mix k lt ∙ ap₂ (λ x y. x ⊕ v ⊗ y) (m.above k lk) (p.above k (omega arith)) ∙ mul-zero v
            | inr ge ↦ get_or_past a k 0 (omega arith)
          ];
        },
        cleared_more s a h
            (λ g lg. lin (λ j. get_or s (g + j) 0) ∙ ap₂ (λ x y. x ⊕ v ⊗ y) (c g lg) (p.cleared g lg) ∙ mul-zero v)
            (lin (λ j. get_or s (h + j) 0) ∙ ap₂ (λ x y. x ⊕ v ⊗ y) (sym e) p.one ∙ ap (λ z. v ⊕ z) (mul_one v hv) ∙ add_self v),
      )

  -- ---- the unit row
  abbrev nought : List ℕ
  nought = replicate (t + 1) 0

  nought_length : length nought ≡ t + 1
  nought_length = length-replicate {A = ℕ} (t + 1) 0

  zeros_at : (k : ℕ) → get_or nought k 0 ≡ 0
  zeros_at k = elim (cases_lt k (t + 1)) [ inl l ↦ get_or-replicate (t + 1) k 0 0 l | inr g ↦ get_or_past nought k 0 (omega (arith, nought_length)) ]

  pub unit_monic : (n : ℕ) → n < t + 1 → Monic t n (set nought n 1)
  unit_monic n l = record {
    size = length-set nought n 1 ∙ nought_length;
    octets = λ k. elim (cases_eq k n) [
      | inl e ↦ subst (λ z. IsOctet (get_or (set nought n 1) z 0)) (sym e) (subst IsOctet (sym (get_or-set_same nought n 1 0 (omega (arith, nought_length)))) octet_one)
      | inr d ↦ subst IsOctet (sym (get_or-set_other nought n k 1 0 d ∙ zeros_at k)) octet_zero
    ];
    top = get_or-set_same nought n 1 0 (omega (arith, nought_length));
    above = λ k lk. get_or-set_other nought n k 1 0 (λ e. omega arith) ∙ zeros_at k;
  }

  -- ---- a new pivot
  pub new_pivot : (s r q : List ℕ) (n h v : ℕ) → n < t + 1 → Monic t n r → Cleared s r h → v ≡ apply r (λ m. get_or s (h + m) 0) → IsOctet v → ¬ (v ≡ 0)
      → length q ≡ t + 1 → ((k : ℕ) → k < t + 1 → get_or q k 0 ≡ inv v ⊗ get_or r k 0) → Pivot t s (n + 1) h q
  new_pivot s r q n h v hn m c e hv nz lq f =
      let lin : (S : ℕ → ℕ) → apply q S ≡ inv v ⊗ apply r S = λ S. apply_scaled q r (inv v) S (lq ∙ sym m.size) (λ k lk. f k (subst (λ z. k < z) lq lk)) in
      record {
        size = lq;
        cleared = λ g lg. lin (λ j. get_or s (g + j) 0) ∙ ap (λ z. inv v ⊗ z) (c g lg) ∙ mul-zero (inv v);
        one = lin (λ j. get_or s (h + j) 0) ∙ ap (λ z. inv v ⊗ z) (sym e) ∙ mul_comm (inv v) v ∙ inverse v hv nz;
        above = λ k lk. elim (cases_lt k (t + 1)) [
          | inl lt ↦ f k lt ∙ ap (λ z. inv v ⊗ z) (m.above k (omega arith)) ∙ mul-zero (inv v)
          | inr ge ↦ get_or_past q k 0 (omega arith)
        ];
      }

  older : (s q : List ℕ) (n h : ℕ) → Pivot t s n h q → Pivot t s (n + 1) h q
  older s q n h p = record { size = p.size; cleared = p.cleared; one = p.one; above = λ k l. p.above k (omega arith) }

  pub pivots_more : (s : List ℕ) (pivots : List (Option (List ℕ))) (q : List ℕ) (n h : ℕ) → h < t → length pivots ≡ t
      → Pivots t s n pivots → Pivot t s (n + 1) h q → Pivots t s (n + 1) (set pivots h (Some q))
  pivots_more s pivots q n h lh size ps p g lg = elim (cases_eq g h) [
    | inl same ↦ subst (λ z. IfSome (pivot_at (set pivots h (Some q)) z) (Pivot t s (n + 1) z)) (sym same)
        (subst (λ o. IfSome o (Pivot t s (n + 1) h)) (sym (get_or-set_same pivots h (Some q) None (omega arith))) p)
    | inr other ↦ subst (λ o. IfSome o (Pivot t s (n + 1) g)) (sym (get_or-set_other pivots h g (Some q) None other))
        (IfSome_then (pivot_at pivots g) (ps g lg) (λ r older_r. older s r n g older_r))
  ]

  -- ---- how many pivots there are
  pub count_more : (pivots : List (Option (List ℕ))) (q : List ℕ) (h n : ℕ) → h < length pivots → pivot_at pivots h ≡ None → count_by is_some pivots ≡ n
      → count_by is_some (set pivots h (Some q)) ≡ n + 1
  count_more pivots q h n l free e =
      let one : count_by is_some (set pivots h (Some q)) + 0 ≡ count_by is_some pivots + 1 =
      subst (λ o. count_by is_some (set pivots h (Some q)) + cond (is_some o) 1 0 ≡ count_by is_some pivots + 1) free
      (sum_by-set (λ o. cond (is_some o) 1 0) pivots h (Some q) None l) in
      omega arith

  -- ---- the answer
  pub all_in : (r : List ℕ) → ((k : ℕ) → IsOctet (get_or r k 0)) → AllByRecursion IsOctet r
  all_in [] h = tt
  all_in (x ∷ r) h = (h 0, all_in r (λ k. h (suc k)))

  pub all_zero_at : (r : List ℕ) (k : ℕ) → AllByRecursion (λ c. c ≡ 0) r → get_or r k 0 ≡ 0
  all_zero_at [] k h = refl
  all_zero_at (x ∷ r) zero h = h.0
  all_zero_at (x ∷ r) (suc k) h = all_zero_at r k h.1

  pub solved : (s r : List ℕ) (n : ℕ) → Monic t n r → Cleared s r t → Solution t r s
  solved s r n m c = record {
    size = m.size;
    octets = all_in r m.octets;
    other = λ z. (let e : ◌≡◌ {A = ℕ} 1 0 = sym m.top ∙ all_zero_at r n z in omega arith);
    solves = c;
  }
