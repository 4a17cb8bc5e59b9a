-- Places dealt out in turns: of N takers each gets k in a row, and so on round.
use Rattle.std.specs.Prelude.{◌≡◌, ℕ, zero, suc, ◌+◌, ◌-◌, ◌*◌, ◌/◌, ◌%◌, ◌<◌, ◌≤◌, min, true, false, cond, ◌==◌, nat_lt}
use Rattle.std.proofs.Common.{ap, sym, ◌∙◌, inl, inr, zero-mul, add-zero, add-suc, mul_comm, mod-eq_of_lt, div-add-mod', arith}
use Rattle.std.proofs.Math.Nat.{zero-div, zero-mod, div-eq_of_lt}
use Rattle.std.proofs.lemmas.Bool.Decides.{nat_tests}
use Rattle.std.proofs.lemmas.Nat.{div-mul-add, mod-mul-add, mod_below}
use Rattle.std.proofs.lemmas.Bool.{cases_lt}

-- what taker r has of its turn when e of taker R's are dealt
abbrev part : ℕ → ℕ → ℕ → ℕ → ℕ
part k r R e = cond (nat_lt R r) 0 (cond (R == r) e k)

-- how many of the places below x are taker r's
unfoldable pub dealt : ℕ → ℕ → ℕ → ℕ → ℕ
dealt N k r x = x / k / N * k + part k r (x / k % N) (x % k)

pub dealt_at : (N k r A R e : ℕ) → R < N → e < k → dealt N k r ((A * N + R) * k + e) ≡ A * k + part k r R e
unfolding dealt
dealt_at N k r A R e hR he =
    rw (div-mul-add (A * N + R) k e he, mod-mul-add (A * N + R) k e he, div-mul-add A N R hR, mod-mul-add A N R hR)

-- x by its turn: round A, taker R, place e
pub split : (N k x : ℕ) → 0 < N → 0 < k → (x / k / N * N + x / k % N) * k + x % k ≡ x
split N k x hN hk = rw (div-add-mod' (x / k) N) (div-add-mod' x k)

part_here : (k r R e : ℕ) → part k r R (suc e) ≡ part k r R e + cond (R == r) 1 0
part_here k r R e = grind (arith, nat_tests)

part_next : (k r R e : ℕ) → suc e ≡ k → part k r (suc R) 0 ≡ part k r R e + cond (R == r) 1 0
part_next k r R e h = grind (arith, nat_tests)

part_last : (k r R e : ℕ) → suc e ≡ k → r ≤ R → k + part k r 0 0 ≡ part k r R e + cond (R == r) 1 0
part_last k r R e h l = grind (arith, nat_tests)

step : (N k r A R e : ℕ) → R < N → e < k → r < N → dealt N k r (suc ((A * N + R) * k + e)) ≡ A * k + part k r R e + cond (R == r) 1 0
step N k r A R e hR he hr = elim (cases_lt (suc e) k) [
  | inl l ↦
      let x : suc ((A * N + R) * k + e) ≡ (A * N + R) * k + suc e = omega arith in
      rw x (dealt_at N k r A R (suc e) hR l ∙ omega (arith, part_here k r R e))
  | inr g ↦
      let full : suc e ≡ k = omega arith in
      elim (cases_lt (suc R) N) [
        | inl l ↦
            let x : suc ((A * N + R) * k + e) ≡ (A * N + suc R) * k + 0 = omega (arith, mul_comm A N) in
            rw x (dealt_at N k r A (suc R) 0 l (omega arith) ∙ omega (arith, part_next k r R e full))
        | inr m ↦
            let last : N ≡ suc R = omega arith in
            let x : suc ((A * N + R) * k + e) ≡ (suc A * N + 0) * k + 0 = rw last (omega arith) in
            rw x (dealt_at N k r (suc A) 0 0 (omega arith) (omega arith) ∙ omega (arith, part_last k r R e full (omega arith)))
      ]
]

-- one place more
pub dealt_suc : (N k r x : ℕ) → 0 < k → r < N → dealt N k r (suc x) ≡ dealt N k r x + cond (x / k % N == r) 1 0
unfolding dealt
dealt_suc N k r x hk hr =
    ap (λ y. dealt N k r (suc y)) (sym (split N k x (omega arith) hk))
    ∙ step N k r (x / k / N) (x / k % N) (x % k) (mod_below (x / k) N (omega arith)) (mod_below x k hk) hr

-- at a place of taker r: what was dealt to it before
pub dealt_own : (N k r x : ℕ) → x / k % N ≡ r → dealt N k r x ≡ x / k / N * k + x % k
unfolding dealt
dealt_own N k r x h = grind (arith, nat_tests)

-- whole rounds more
pub dealt_rounds : (N k r x m : ℕ) → 0 < k → 0 < N → dealt N k r (x + m * N * k) ≡ dealt N k r x + m * k
dealt_rounds N k r x m hk hN =
    let A = x / k / N in let R = x / k % N in let e = x % k in
    let hR : x / k % N < N = mod_below (x / k) N hN in
    let he : x % k < k = mod_below x k hk in
    let sp = split N k x hN hk in
    let y : x + m * N * k ≡ ((A + m) * N + R) * k + e = omega (arith, sp) in
    let old : dealt N k r x ≡ A * k + part k r R e = ap (dealt N k r) (sym sp) ∙ dealt_at N k r A R e hR he in
    rw (y, dealt_at N k r (A + m) R e hR he, old) (omega arith)

-- never falling, and rising by at most one with each place
pub dealt_up : (N k r x n : ℕ) → 0 < k → r < N → dealt N k r x ≤ dealt N k r (x + n)
dealt_up N k r x zero hk hr = rw (add-zero x) (omega arith)
dealt_up N k r x (suc n) hk hr =
    let i = dealt_up N k r x n hk hr in
    rw (add-suc x n, dealt_suc N k r (x + n) hk hr) (omega arith)

pub dealt_slow : (N k r x n : ℕ) → 0 < k → r < N → dealt N k r (x + n) ≤ dealt N k r x + n
dealt_slow N k r x zero hk hr = rw (add-zero x) (omega arith)
dealt_slow N k r x (suc n) hk hr =
    let i = dealt_slow N k r x n hk hr in
    let one : cond ((x + n) / k % N == r) 1 0 ≤ 1 = elim ((x + n) / k % N == r) as (λ b. cond b 1 0 ≤ 1) [ true ↦ omega arith | false ↦ omega arith ] in
    rw (add-suc x n, dealt_suc N k r (x + n) hk hr) (omega arith)

-- in less than a round a taker gets at most its k
pub dealt_turn : (N k r x n : ℕ) → 0 < k → r < N → n ≤ N * k → dealt N k r (x + n) ≤ dealt N k r x + min k n
dealt_turn N k r x n hk hr h =
    let slow = dealt_slow N k r x n hk hr in
    let whole : dealt N k r (x + n + (N * k - n)) ≡ dealt N k r x + k =
    ap (dealt N k r) (omega arith) ∙ dealt_rounds N k r x 1 hk (omega arith) ∙ omega arith in
    let up = dealt_up N k r (x + n) (N * k - n) hk hr in
    omega (arith, whole)

pub dealt_none : (N k r : ℕ) → dealt N k r 0 ≡ 0
unfolding dealt
dealt_none N k r = rw (zero-div k, zero-div N, zero-mod N, zero-mod k, zero-mul k) (grind (arith, nat_tests))

-- the first turn is taker 0's
pub dealt_first : (N k q : ℕ) → q < k → 0 < N → dealt N k 0 (suc q) ≡ suc q
dealt_first N k q h hN =
    let quot : q / k ≡ 0 = div-eq_of_lt h in
    let none : q / k % N ≡ 0 = rw quot (zero-mod N) in
    let own : dealt N k 0 q ≡ q = dealt_own N k 0 q none ∙ rw (quot, zero-div N, mod-eq_of_lt h) (omega arith) in
    rw (dealt_suc N k 0 q (omega arith) hN, none, own) (omega arith)

-- taker 0 has its turn first in each round
pub dealt_zero : (N k q : ℕ) → 0 < k → 0 < N → q < N * k → dealt N k 0 q ≡ min k q
dealt_zero N k q hk hN h =
    let none = dealt_none N k 0 in
    let top : dealt N k 0 (0 + q) ≤ dealt N k 0 0 + min k q = dealt_turn N k 0 0 q hk hN (omega arith) in
    let z : 0 + q ≡ q = omega arith in
    let top' : dealt N k 0 q ≤ min k q = omega (arith, rw z at top) in
    elim (cases_lt q k) [
      | inl l ↦ dealt_own N k 0 q (rw (div-eq_of_lt l) (zero-mod N)) ∙ rw (div-eq_of_lt l, zero-div N, mod-eq_of_lt l) (omega arith)
      | inr g ↦
          let first : dealt N k 0 (suc (k - 1)) ≡ suc (k - 1) = dealt_first N k (k - 1) (omega arith) hN in
          let up = dealt_up N k 0 (suc (k - 1)) (q - k) hk hN in
          let e : suc (k - 1) + (q - k) ≡ q = omega arith in
          let low : dealt N k 0 (suc (k - 1)) ≤ dealt N k 0 q = rw e at up in
          omega (arith, first, low, top')
    ]

-- of the first n places, one in N rounded up
pub dealt_up_to : (N n : ℕ) → 0 < N → dealt N 1 0 n ≡ (n + (N - 1)) / N
dealt_up_to N n hN =
    let q = n % N in let m = n / N in
    let q-lt : q < N = mod_below n N hN in
    let e : n ≡ q + m * N * 1 = omega (arith, div-add-mod' n N) in
    let first = dealt_zero N 1 q (omega arith) hN (omega arith) in
    let rounds : dealt N 1 0 n ≡ min 1 q + m = ap (dealt N 1 0) e ∙ dealt_rounds N 1 0 q m (omega arith) hN ∙ omega (arith, first) in
    elim (cases_lt 0 q) [
      | inl l ↦
          let f : n + (N - 1) ≡ (m + 1) * N + (q - 1) = omega arith in
          rounds ∙ rw (f, div-mul-add (m + 1) N (q - 1) (omega arith)) (omega arith)
      | inr g ↦
          let f : n + (N - 1) ≡ m * N + (N - 1) = omega arith in
          rounds ∙ rw (f, div-mul-add m N (N - 1) (omega arith)) (omega arith)
    ]
