-- Lemmas on lists of octets, and on the number of places in which two lists differ.
use Rattle.std.proofs.Common.{◌≡◌, ℕ, zero, suc, ◌+◌, ◌<◌, ◌≤◌, Bool, true, false, cond, not, ◌||◌, eqb, List, [], ◌∷◌, length, get_or, take, sym, refl, ap, ◌∙◌, arith}
use Rattle.std.proofs.lemmas.List.{ext_get_or, get_or-take, length-take-le}
use Rattle.std.proofs.lemmas.Bool.{eqb-true, eq-eqb, not-false}
use Rattle.std.proofs.lemmas.Bool.Decides.{nat_tests}
use Rattle.octets.specs.Counting.{sum, count}
use Rattle.octets.specs.Octets.{Octets, differs, altered}
use Rattle.octets.proofs.Counting.{count_alike, count_le, count_le_count, count_none, count_or, count_split, count_suc, none_of_count}

-- ---- octets

-- equal place by place, equal as lists
pub octets_same : (n : ℕ) (xs ys : List ℕ) → Octets n xs → Octets n ys → ((j : ℕ) → j < n → get_or xs j 0 ≡ get_or ys j 0) → xs ≡ ys
octets_same n xs ys hx hy same = ext_get_or 0 xs ys (hx.size ∙ sym hy.size) (λ j l. same j (omega (arith, hx.size)))

-- what stands in a list of octets is below 256, at any place
pub octet_below : (n : ℕ) (xs : List ℕ) → Octets n xs → (j : ℕ) → get_or xs j 0 < 256
octet_below n xs h j = at n xs h.size h.octet j
  where
    at : (n : ℕ) (xs : List ℕ) → length xs ≡ n → ((j : ℕ) → j < n → get_or xs j 0 < 256) → (j : ℕ) → get_or xs j 0 < 256
    at n [] e o j = omega arith
    at n (x ∷ xs) e o zero = o 0 (omega arith)
    at n (x ∷ xs) e o (suc j) = at (length xs) xs refl (λ i l. o (suc i) (omega arith)) j

-- the first m of n octets
pub octets_take : (n m : ℕ) (xs : List ℕ) → m ≤ n → Octets n xs → Octets m (take m xs)
octets_take n m xs l h = record {
  size = length-take-le m xs (omega (arith, h.size));
  octet = λ j k. rw (get_or-take m xs j 0 k) (h.octet j (omega arith));
}

-- ---- places in which two lists differ

pub differs_same : (xs ys : List ℕ) (j : ℕ) → get_or xs j 0 ≡ get_or ys j 0 → differs xs ys j ≡ false
differs_same xs ys j e = ap not (eq-eqb (get_or xs j 0) (get_or ys j 0) e)

pub same_from_differs : (xs ys : List ℕ) (j : ℕ) → differs xs ys j ≡ false → get_or xs j 0 ≡ get_or ys j 0
same_from_differs xs ys j e = eqb-true (get_or xs j 0) (get_or ys j 0) (not-false (eqb (get_or xs j 0) (get_or ys j 0)) e)

pub differs_comm : (xs ys : List ℕ) (j : ℕ) → differs xs ys j ≡ differs ys xs j
differs_comm xs ys j = grind (arith, nat_tests)

-- lists that differ at a place differ there from any third one, the one or the other
differs_third : (xs ys zs : List ℕ) (j : ℕ) → differs xs zs j ≡ true → (differs xs ys j || differs ys zs j) ≡ true
differs_third xs ys zs j e = grind (arith, nat_tests)

pub altered_comm : (n : ℕ) (xs ys : List ℕ) → altered n xs ys ≡ altered n ys xs
altered_comm n xs ys = count_alike n (differs xs ys) (differs ys xs) (λ j l. differs_comm xs ys j)

pub altered_le : (n : ℕ) (xs ys : List ℕ) → altered n xs ys ≤ n
altered_le n xs ys = count_le n (differs xs ys)

-- lists that agree at each place are altered nowhere
pub altered_none : (n : ℕ) (xs ys : List ℕ) → ((j : ℕ) → j < n → get_or xs j 0 ≡ get_or ys j 0) → altered n xs ys ≡ 0
altered_none n xs ys same = count_none n (differs xs ys) (λ j l. differs_same xs ys j (same j l))

pub altered_self : (n : ℕ) (xs : List ℕ) → altered n xs xs ≡ 0
altered_self n xs = altered_none n xs xs (λ j l. refl)

-- lists that are altered nowhere agree at each place
pub same_from_altered : (n : ℕ) (xs ys : List ℕ) → altered n xs ys ≡ 0 → (j : ℕ) → j < n → get_or xs j 0 ≡ get_or ys j 0
same_from_altered n xs ys e j l = same_from_differs xs ys j (none_of_count n (differs xs ys) e j l)

pub equal_from_altered : (n : ℕ) (xs ys : List ℕ) → length xs ≡ n → length ys ≡ n → altered n xs ys ≡ 0 → xs ≡ ys
equal_from_altered n xs ys lx ly e = ext_get_or 0 xs ys (lx ∙ sym ly) (λ j l. same_from_altered n xs ys e j (omega arith))

pub altered_triangle : (n : ℕ) (xs ys zs : List ℕ) → altered n xs zs ≤ altered n xs ys + altered n ys zs
altered_triangle n xs ys zs =
    let either : altered n xs zs ≤ count n (λ j. differs xs ys j || differs ys zs j) =
    count_le_count n (differs xs zs) (λ j. differs xs ys j || differs ys zs j) (λ j l. differs_third xs ys zs j) in
    omega (arith, either, count_or n (differs xs ys) (differs ys zs))

-- lists that agree on their first m places differ in those behind them
pub altered_behind : (m n : ℕ) (xs ys : List ℕ) → ((j : ℕ) → j < m → get_or xs j 0 ≡ get_or ys j 0) → altered (m + n) xs ys ≤ n
altered_behind m n xs ys same =
    omega (arith, count_split m n (differs xs ys), altered_none m xs ys same, count_le n (λ i. differs xs ys (m + i)))

-- the first place, and those behind it
pub altered_cons : (n x y : ℕ) (xs ys : List ℕ) → altered (suc n) (x ∷ xs) (y ∷ ys) ≡ cond (eqb x y) 0 1 + altered n xs ys
unfolding sum
altered_cons zero x y xs ys = omega (arith, flipped (eqb x y))
  where
    flipped : (b : Bool) → ◌≡◌ {A = ℕ} (cond (not b) 1 0) (cond b 0 1)
    flipped true = refl
    flipped false = refl
altered_cons (suc n) x y xs ys =
    omega (arith, altered_cons n x y xs ys, count_suc (suc n) (differs (x ∷ xs) (y ∷ ys)), count_suc n (differs xs ys))
