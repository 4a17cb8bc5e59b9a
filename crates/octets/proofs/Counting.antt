-- Lemmas on sums and counts over the places 0, 1, .., n - 1. A run of n places from `start` on counts `count n (λ i. f (start + i))`.
use Rattle.std.proofs.Common.{◌≡◌, ℕ, zero, suc, ◌+◌, ◌<◌, ◌≤◌, Bool, true, false, cond, not, ◌&&◌, ◌||◌, eqb, sym, refl, ap, ◌∙◌, ap₂, inl, inr, add-zero, add-suc, arith}
use Rattle.std.proofs.Math.Bool.{and-true, and-false}
use Rattle.std.proofs.lemmas.Bool.{eqb-true, eqb-false, ne_eqb, cases_Bool}
use Rattle.octets.specs.Counting.{sum, count}

pub sum_zero : (f : ℕ → ℕ) → sum 0 f ≡ 0
unfolding sum
sum_zero f = refl

pub sum_suc : (n : ℕ) (f : ℕ → ℕ) → sum (suc n) f ≡ sum n f + f n
unfolding sum
sum_suc n f = refl

-- what agrees at every place has one sum
pub sum_alike : (n : ℕ) (f g : ℕ → ℕ) → ((i : ℕ) → i < n → f i ≡ g i) → sum n f ≡ sum n g
unfolding sum
sum_alike zero f g h = refl
sum_alike (suc n) f g h = ap₂ (λ x y. x + y) (sum_alike n f g (λ i l. h i (omega arith))) (h n (omega arith))

-- what is no more at any place has no more in all
pub sum_le_sum : (n : ℕ) (f g : ℕ → ℕ) → ((i : ℕ) → i < n → f i ≤ g i) → sum n f ≤ sum n g
unfolding sum
sum_le_sum zero f g h = omega arith
sum_le_sum (suc n) f g h = omega (arith, sum_le_sum n f g (λ i l. h i (omega arith)), h n (omega arith))

pub sum_of_sums : (n : ℕ) (f g : ℕ → ℕ) → sum n (λ i. f i + g i) ≡ sum n f + sum n g
unfolding sum
sum_of_sums zero f g = refl
sum_of_sums (suc n) f g = omega (arith, sum_of_sums n f g)

-- the first m places, and the n behind them
pub sum_split : (m n : ℕ) (f : ℕ → ℕ) → sum (m + n) f ≡ sum m f + sum n (λ i. f (m + i))
sum_split m zero f = rw (add-zero m, sum_zero (λ i. f (m + i))) (sym (add-zero (sum m f)))
sum_split m (suc n) f =
    let e : sum (m + suc n) f ≡ sum (m + n) f + f (m + n) = ap (λ x. sum x f) (add-suc m n) ∙ sum_suc (m + n) f in
    let k = sum_suc n (λ i. f (m + i)) in
    omega (arith, e, k, sum_split m n f)

-- 1 for a place that passes, 0 for another
abbrev tick : Bool → ℕ
tick b = cond b 1 0

tick_le_one : (b : Bool) → tick b ≤ 1
tick_le_one true = omega arith
tick_le_one false = omega arith

pub count_zero : (f : ℕ → Bool) → count 0 f ≡ 0
count_zero f = sum_zero (λ i. cond (f i) 1 0)

pub count_suc : (n : ℕ) (f : ℕ → Bool) → count (suc n) f ≡ count n f + cond (f n) 1 0
count_suc n f = sum_suc n (λ i. cond (f i) 1 0)

-- tests that agree at every place count alike
pub count_alike : (n : ℕ) (f g : ℕ → Bool) → ((i : ℕ) → i < n → f i ≡ g i) → count n f ≡ count n g
count_alike n f g h = sum_alike n (λ i. cond (f i) 1 0) (λ i. cond (g i) 1 0) (λ i l. ap tick (h i l))

-- the first m places, and the n behind them
pub count_split : (m n : ℕ) (f : ℕ → Bool) → count (m + n) f ≡ count m f + count n (λ i. f (m + i))
count_split m n f = sum_split m n (λ i. cond (f i) 1 0)

-- no more than there are places
pub count_le : (n : ℕ) (f : ℕ → Bool) → count n f ≤ n
count_le zero f = omega (arith, count_zero f)
count_le (suc n) f = omega (arith, count_suc n f, count_le n f, tick_le_one (f n))

-- a test that passes less often counts less
pub count_le_count : (n : ℕ) (f g : ℕ → Bool) → ((i : ℕ) → i < n → f i ≡ true → g i ≡ true) → count n f ≤ count n g
count_le_count n f g h = sum_le_sum n (λ i. cond (f i) 1 0) (λ i. cond (g i) 1 0) (λ i l. less (f i) (g i) (h i l))
  where
    less : (a b : Bool) → (a ≡ true → b ≡ true) → cond a 1 0 ≤ cond b 1 0
    less false b k = omega arith
    less true b k = rw (k refl) (omega arith)

-- no place passes
pub count_none : (n : ℕ) (f : ℕ → Bool) → ((i : ℕ) → i < n → f i ≡ false) → count n f ≡ 0
count_none zero f h = count_zero f
count_none (suc n) f h =
    let last : tick (f n) ≡ 0 = ap tick (h n (omega arith)) in
    omega (arith, count_suc n f, count_none n f (λ i l. h i (omega arith)), last)

-- every place passes
pub count_all : (n : ℕ) (f : ℕ → Bool) → ((i : ℕ) → i < n → f i ≡ true) → count n f ≡ n
count_all zero f h = count_zero f
count_all (suc n) f h =
    let last : tick (f n) ≡ 1 = ap tick (h n (omega arith)) in
    omega (arith, count_suc n f, count_all n f (λ i l. h i (omega arith)), last)

-- what counts for none has no place that passes
pub none_of_count : (n : ℕ) (f : ℕ → Bool) → count n f ≡ 0 → (i : ℕ) → i < n → f i ≡ false
none_of_count zero f e i l = absurd (omega arith)
none_of_count (suc n) f e i l = elim (cases_Bool (eqb i n)) [
  | inl t ↦
      let last : tick (f n) ≡ 0 = omega (arith, count_suc n f) in
      rw (eqb-true i n t) (off (f n) last)
  | inr t ↦ none_of_count n f (omega (arith, count_suc n f)) i (omega (arith, eqb-false i n t))
]
  where
    off : (b : Bool) → tick b ≡ 0 → b ≡ false
    off false h = refl
    off true h = absurd (omega arith)

-- either of two tests counts no more than both counts together
pub count_or : (n : ℕ) (f g : ℕ → Bool) → count n (λ i. f i || g i) ≤ count n f + count n g
count_or zero f g = omega (arith, count_zero (λ i. f i || g i))
count_or (suc n) f g = omega (arith, count_suc n (λ i. f i || g i), count_suc n f, count_suc n g, count_or n f g, either (f n) (g n))
  where
    either : (a b : Bool) → cond (a || b) 1 0 ≤ cond a 1 0 + cond b 1 0
    either true b = omega arith
    either false b = omega arith

-- the test f, but for the place x
abbrev pub except : (ℕ → Bool) → ℕ → ℕ → Bool
except f x p = f p && not (eqb p x)

-- a place that passes counts for one
pub count_except : (n : ℕ) (f : ℕ → Bool) (x : ℕ) → x < n → f x ≡ true → count n f ≡ suc (count n (except f x))
count_except zero f x l t = absurd (omega arith)
count_except (suc n) f x l t = elim (cases_Bool (eqb n x)) [
  | inl e ↦
      let same : n ≡ x = eqb-true n x e in
      let rest : count n f ≡ count n (except f x) =
      count_alike n f (except f x) (λ p h. rw (ne_eqb p x (λ q. omega arith)) (sym (and-true (f p)))) in
      let here : tick (f n) ≡ 1 = ap tick (ap f same ∙ t) in
      let gone : tick (except f x n) ≡ 0 = rw e (ap tick (and-false (f n))) in
      omega (arith, count_suc n f, count_suc n (except f x), rest, here, gone)
  | inr e ↦
      let before : x < n = omega (arith, eqb-false n x e) in
      let last : tick (except f x n) ≡ tick (f n) = rw e (ap tick (and-true (f n))) in
      omega (arith, count_suc n f, count_suc n (except f x), count_except n f x before t, last)
]

-- If each place that passes f is paired with a place that passes g, and no two with one, f counts no more than g.
pub count_into : (n b : ℕ) (f g : ℕ → Bool) (Pair : ℕ → ℕ → Type 0)
    → ((j : ℕ) → j < n → f j ≡ true → (p : ℕ) × (p < b) × (g p ≡ true) × (Pair j p))
    → ((i j p : ℕ) → i < n → j < n → Pair i p → Pair j p → i ≡ j)
    → count n f ≤ count b g
count_into zero b f g Pair to once = omega (arith, count_zero f)
count_into (suc n) b f g Pair to once = elim (cases_Bool (f n)) [
  | inl t ↦
      let here = to n (omega arith) t in
      let x = count_except b g here.0 here.1 here.2 in
      let rest = count_into n b f (except g here.0) Pair
      (λ j l u. let s = to j (omega arith) u in
      let apart : s.0 ≡ here.0 → ⊥ = λ e. let q = once j n s.0 (omega arith) (omega arith) s.3 (rw e here.3) in omega arith in
      (s.0, s.1, rw (s.2, ne_eqb s.0 here.0 apart) refl, s.3))
      (λ i j p l u. once i j p (omega arith) (omega arith)) in
      let one : tick (f n) ≡ 1 = ap tick t in
      omega (arith, count_suc n f, rest, x, one)
  | inr t ↦
      let rest = count_into n b f g Pair (λ j l u. to j (omega arith) u) (λ i j p l u. once i j p (omega arith) (omega arith)) in
      let none : tick (f n) ≡ 0 = ap tick t in
      omega (arith, count_suc n f, rest, none)
]
