-- Method: the elimination. A polynomial's coefficients are a row; a pivot is a row that makes one window 0.
use Rattle.std.specs.Prelude.{◌≡◌, ℕ, ◌+◌, ◌<◌, ◌≤◌, List, length, None, Option, IfSome, ◌≢◌, slice_index, slice_index_or}
use Rattle.rs16.specs.Field.{IsOctet}
use Rattle.rs16.specs.Mending.{Cleared, Monic}
use Rattle.rs16.specs.Polynomials.{apply}
use Rattle.rs16.specs.declared.windows.Reduced.{Reduced}
use Rattle.rs16.specs.declared.windows.Reduced.TheVariants.{Solves, Stops}

-- A row of fewer than n coefficients that gives 0 on the windows before h and 1 on window h.
pub record Pivot (t : ℕ) (s : List ℕ) (n h : ℕ) (q : List ℕ) : Type 0 where
  pub size : length q ≡ t + 1
  pub cleared : Cleared s q h
  pub one : apply q (λ m. slice_index s (h + m)) ≡ 1
  pub above : (k : ℕ) → n ≤ k → slice_index q k ≡ 0

-- the pivot of window h, if there is one
abbrev pub pivot_at : List (Option (List ℕ)) → ℕ → Option (List ℕ)
pivot_at pivots h = slice_index_or pivots h None

-- the rows that there are are pivots, each of its own window
abbrev pub Pivots : ℕ → List ℕ → ℕ → List (Option (List ℕ)) → Type 0
Pivots t s n pivots = (h : ℕ) → h < t → IfSome (pivot_at pivots h) (Pivot t s n h)

-- A row that gives 0 on the windows before h, and an octet v other than 0 on window h, which has no pivot.
pub record Stopped (t : ℕ) (s : List ℕ) (n : ℕ) (pivots : List (Option (List ℕ))) (r : List ℕ) (h v : ℕ) : Type 0 where
  pub monic : Monic t n r
  pub bound : h < t
  pub cleared : Cleared s r h
  pub free : pivot_at pivots h ≡ None
  pub value : v ≡ apply r (λ m. slice_index s (h + m))
  pub octet : IsOctet v
  pub other : v ≢ 0

-- A row reduced: it gives 0 on all t windows, or up to one that has no pivot.
abbrev pub Reduces : ℕ → List ℕ → ℕ → List (Option (List ℕ)) → Reduced → Type 0
Reduces t s n pivots (Solves r) = Monic t n r × Cleared s r t
Reduces t s n pivots (Stops r h v) = Stopped t s n pivots r h v
