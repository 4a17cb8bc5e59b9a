-- Sums and counts over the places 0, 1, .., n - 1, and lists made place by place.
use Rattle.std.specs.Prelude.{ℕ, zero, suc, ◌+◌, Bool, cond, List, map}
use Rattle.std.specs.List.{range_with_len}

-- f 0 + f 1 + .. + f (n - 1)
unfoldable pub sum : ℕ → (ℕ → ℕ) → ℕ
sum zero f = 0
sum (suc n) f = sum n f + f n

-- How many of the places 0, 1, .., n - 1 pass the test. Of a run of n places from `start` on it is `count n (λ i. f (start + i))`.
abbrev pub count : ℕ → (ℕ → Bool) → ℕ
count n f = sum n (λ i. cond (f i) 1 0)

-- the list f 0, f 1, .., f (n - 1)
abbrev pub tabulate : ℕ → (ℕ → ℕ) → List ℕ
tabulate n f = map f (range_with_len 0 n)
