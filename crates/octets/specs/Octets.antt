-- Lists of octets, and the places in which two lists differ.
use Rattle.std.specs.Prelude.{◌≡◌, ℕ, ◌<◌, Bool, not, List, length, ◌==◌, slice_index}
use Rattle.octets.specs.Counting.{count}

-- n octets
pub record Octets (n : ℕ) (xs : List ℕ) : Type 0 where
  pub size : length xs ≡ n
  pub octet : (j : ℕ) → j < n → slice_index xs j < 256

abbrev pub differs : List ℕ → List ℕ → ℕ → Bool
differs xs ys j = not (slice_index xs j == slice_index ys j)

-- in how many of the first n places two lists differ
abbrev pub altered : ℕ → List ℕ → List ℕ → ℕ
altered n xs ys = count n (differs xs ys)
