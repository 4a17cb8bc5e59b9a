-- In how many digits seven octets differ from a marker.
use Rattle.std.proofs.Common.{◌≡◌, ℕ, zero, suc, ◌+◌, ◌*◌, ◌<◌, ◌≤◌, List, get_or, refl, ap, ◌∙◌, ⊎_elim, add-one, arith}
use lib.Bits.{bit_xor, xor_self}
use lib.Count.{ones}
use Rattle.std.proofs.lemmas.Bool.{cases_lt}
use Rattle.octets.specs.Counting.{sum}
use Rattle.octets.specs.Octets.{Octets}
use Rattle.octets.proofs.Counting.{sum_suc, sum_zero}
use Rattle.octets.proofs.Octets.{octets_same}
use Rattle.marker.specs.Marker.{marker}
use Rattle.marker.specs.Reading.{digits_apart}
use Rattle.marker.specs.Theorems.{MarkerLaws}
use Rattle.marker.proofs.Digits.{ones_xor, same_from_xor}
use Rattle.marker.proofs.Markers.{marker_octets, reads_back, hit_from_cause, cause_of_hit}

pub sum_more : (n : ℕ) (f : ℕ → ℕ) → sum (n + 1) f ≡ sum n f + f n
sum_more n f = rw add-one (sum_suc n f)

-- the digits apart of one octet more
pub one_octet_more : (xs ys : List ℕ) (n digits x y : ℕ) → x ≡ get_or xs n 0 → y ≡ get_or ys n 0 → x < 256 → y < 256
    → (digits ≡ sum n (λ i. ones (bit_xor (get_or xs i 0) (get_or ys i 0)))) × (digits ≤ 8 * n)
    → (digits + ones (bit_xor x y) ≡ sum (n + 1) (λ i. ones (bit_xor (get_or xs i 0) (get_or ys i 0)))) × (digits + ones (bit_xor x y) ≤ 8 * (n + 1))
one_octet_more xs ys n digits x y ex ey hx hy h =
    let f : ℕ → ℕ = λ i. ones (bit_xor (get_or xs i 0) (get_or ys i 0)) in
    let last : ones (bit_xor x y) ≡ f n = rw (ex, ey) refl in
    (omega (arith, sum_more n f, h.0, last), omega (arith, ones_xor x y hx hy, h.1))

-- a sum of 0 has no term that is not 0
none_of_sum : (n : ℕ) (f : ℕ → ℕ) → sum n f ≡ 0 → (i : ℕ) → i < n → f i ≡ 0
none_of_sum zero f e i l = absurd (omega arith)
none_of_sum (suc n) f e i l =
    ⊎_elim
    (λ (lt : i < n). none_of_sum n f (omega (arith, sum_suc n f)) i lt)
    (λ (ge : n ≤ i).
    let at : i ≡ n = omega arith in
    let last : f n ≡ 0 = omega (arith, sum_suc n f) in
    ap f at ∙ last)
    (cases_lt i n)

sum_none : (n : ℕ) (f : ℕ → ℕ) → ((i : ℕ) → f i ≡ 0) → sum n f ≡ 0
sum_none zero f z = sum_zero f
sum_none (suc n) f z = omega (arith, sum_suc n f, sum_none n f z, z n)

pub none_apart : (xs : List ℕ) → digits_apart xs xs ≡ 0
unfolding ones
none_apart xs = sum_none 7 (λ i. ones (bit_xor (get_or xs i 0) (get_or xs i 0))) (λ i. rw (xor_self (get_or xs i 0)) zero_ones)
  where
    zero_ones : ones 0 ≡ 0
    zero_ones = refl

pub same_from_digits : (xs ys : List ℕ) → Octets 7 xs → Octets 7 ys → digits_apart xs ys ≡ 0 → xs ≡ ys
same_from_digits xs ys hx hy e =
    octets_same 7 xs ys hx hy (λ j l. same_from_xor (get_or xs j 0) (get_or ys j 0) (none_of_sum 7 (λ i. ones (bit_xor (get_or xs i 0) (get_or ys i 0))) e j l))

pub marker_laws : MarkerLaws
marker_laws = record {
  read_back = reads_back;
  told_apart = λ c h xs all. record {
    hit = hit_from_cause c xs h all;
    none = cause_of_hit c xs h all;
    right = λ e. ap (λ ys. digits_apart ys (marker c)) e ∙ none_apart (marker c);
    wrong = λ e. same_from_digits xs (marker c) all (marker_octets c h) e;
  };
}
