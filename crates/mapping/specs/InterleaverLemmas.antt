-- The interleaver at any step, 0 among them, which is the block mapping: its sources are one to one, and how many sources of a run
-- belong to one word. Throughout, I is the depth, N the rows, k the symbol and d the step.
use Rattle.std.specs.Prelude.{◌≡◌, ℕ, zero, suc, ◌+◌, ◌-◌, ◌*◌, ◌/◌, ◌%◌, ◌<◌, ◌≤◌, min, cond, ◌==◌}
use Rattle.std.proofs.Math.Path.{ap}
use Rattle.std.proofs.Common.{sym, ◌∙◌, le_refl, add-zero, add-suc, mul_comm, div-one, lit<}
use Rattle.std.proofs.Math.Logic.{inl, inr}
use Rattle.std.proofs.Math.Nat.{add_assoc, add-mul-mod_self_right, mod-add-mod, mod-eq_of_lt, div-add-mod'}
use native.Mathlib.Omega.{arith}
use Rattle.std.proofs.lemmas.Nat.{div-mul-add, mod-mul-add, mod_below, mul-add-lt, div_below, mul-le}
use Rattle.std.proofs.lemmas.Bool.{cases_lt, cases_Bool, eqb-true}
use Rattle.octets.proofs.Counting.{count_zero, count_suc}
use Rattle.octets.specs.Words.{max_reach}
use Rattle.mapping.specs.Meaning.{MappingLaws, of_row_word, sources_of}
use Rattle.mapping.specs.Interleaver.{stepped_source, symbol_fade, most_of_row, symbol_cost, stepped}
use Rattle.mapping.specs.Turns.{split, dealt, dealt_suc, dealt_own, dealt_rounds, dealt_up, dealt_turn, dealt_none, dealt_zero, dealt_up_to}

-- round by z and back
turn_back : (x z C : ℕ) → 0 < C → ((x + z) % C + (C - z % C)) % C ≡ x % C
turn_back x z C h =
    let low = mod_below z C h in
    mod-add-mod (x + z) C (C - z % C)
    ∙ ap (λ n. n % C) (let e : x + z + (C - z % C) ≡ x + (z / C + 1) * C = omega (arith, div-add-mod' z C) in e)
    ∙ add-mul-mod_self_right x (z / C + 1) C

turn_on : (x z C : ℕ) → 0 < C → ((x + (C - z % C)) % C + z) % C ≡ x % C
turn_on x z C h =
    let low = mod_below z C h in
    mod-add-mod (x + (C - z % C)) C z
    ∙ ap (λ n. n % C) (let e : x + (C - z % C) + z ≡ x + (z / C + 1) * C = omega (arith, div-add-mod' z C) in e)
    ∙ add-mul-mod_self_right x (z / C + 1) C

round_row : (A B e k C I q col : ℕ) → q * C + col ≡ A + B → C * k ≡ 255 * I → A * k + e + B * k ≡ col * k + e + q * 255 * I
round_row A B e k C I q col h whole = omega (arith, ap (λ n. n * k) h, ap (λ n. q * n) whole)

-- what a symbol of k octets asks of a row of 255 * I
pub record Cut (I N k : ℕ) : Type 0 where
  pub deep : 0 < I
  pub some : 0 < N
  pub symbol : 0 < k
  pub whole : 255 * I % k ≡ 0

module _ (I N k d : ℕ) (cut : Cut I N k) where
  pub columns_fill : 255 * I / k * k ≡ 255 * I
  columns_fill = omega (arith, div-add-mod' (255 * I) k, cut.whole)

  pub columns_pos : 0 < 255 * I / k
  columns_pos = elim (cases_lt 0 (255 * I / k)) [
    | inl h ↦ h
    | inr z ↦
        let none : 255 * I / k ≡ 0 = omega arith in
        let empty : 0 * k ≡ 255 * I = rw none at columns_fill in
        absurd (omega (arith, cut.deep))
  ]

  -- a turn, in which each row sends one symbol
  turn_pos : 0 < N * k
  turn_pos = omega (arith, mul-add-lt 0 k 0 N cut.some cut.symbol, mul_comm N k)

  symbol_le_turn : k ≤ N * k
  symbol_le_turn = omega (arith, mul-le 1 k N k cut.some (le_refl k))

  -- octet of the row that place p comes from
  abbrev octet_of : ℕ → ℕ
  octet_of p = (p / k / N + p / k % N * d) % (255 * I / k) * k + p % k

  octet_lt : (p : ℕ) → octet_of p < 255 * I
  octet_lt p =
      let c = mul-add-lt ((p / k / N + p / k % N * d) % (255 * I / k)) k (p % k) (255 * I / k) (mod_below _ _ columns_pos) (mod_below p k cut.symbol) in
      omega (arith, columns_fill, mul_comm k (255 * I / k))

  source_is : (p : ℕ) → stepped_source I N k d p ≡ p / k % N * (255 * I) + octet_of p
  unfolding stepped_source
  source_is p = add_assoc _ _ _

  source_row : (p : ℕ) → stepped_source I N k d p / (255 * I) ≡ p / k % N
  source_row p = rw (source_is p) (div-mul-add (p / k % N) (255 * I) (octet_of p) (octet_lt p))

  source_octet : (p : ℕ) → stepped_source I N k d p % (255 * I) ≡ octet_of p
  source_octet p = rw (source_is p) (mod-mul-add (p / k % N) (255 * I) (octet_of p) (octet_lt p))

  -- read round its end, a row's octets come in order, so the words come by turns
  source_word : (p : ℕ) → stepped_source I N k d p % (255 * I) % I ≡ (p / k / N * k + p % k + p / k % N * d * k) % I
  source_word p =
      let a = p / k / N + p / k % N * d in
      let cols : a / (255 * I / k) * (255 * I / k) + a % (255 * I / k) ≡ a = div-add-mod' a (255 * I / k) in
      let C = 255 * I / k in
      let round : p / k / N * k + p % k + p / k % N * d * k ≡ octet_of p + a / C * 255 * I =
      round_row (p / k / N) (p / k % N * d) (p % k) k C I (a / C) (a % C) cols columns_fill in
      rw (source_octet p, round) (sym (add-mul-mod_self_right (octet_of p) (a / (255 * I / k) * 255) I))

  pub source_lt : (p : ℕ) → stepped_source I N k d p < 255 * I * N
  source_lt p = rw (source_is p) (mul-add-lt (p / k % N) (255 * I) (octet_of p) N (mod_below (p / k) N cut.some) (octet_lt p))

  -- the place that memory place q goes to
  abbrev back : ℕ → ℕ
  back q = ((q % (255 * I) / k + (255 * I / k - q / (255 * I) * d % (255 * I / k))) % (255 * I / k) * N + q / (255 * I)) * k + q % (255 * I) % k

  pub round_lt : (p : ℕ) → p < 255 * I * N → p / k / N < 255 * I / k
  round_lt p h =
      div_below (p / k) N (255 * I / k) cut.some
      (div_below p k (255 * I / k * N) cut.symbol (let e : 255 * I / k * N * k ≡ 255 * I * N = omega (arith, ap (λ n. n * N) columns_fill) in rw e h))

  back_source : (p : ℕ) → p < 255 * I * N → back (stepped_source I N k d p) ≡ p
  back_source p h =
      let row = p / k % N in
      let e-lt = mod_below p k cut.symbol in
      let col = (p / k / N + p / k % N * d) % (255 * I / k) in
      let there : (col + (255 * I / k - row * d % (255 * I / k))) % (255 * I / k) ≡ p / k / N =
      turn_back (p / k / N) (row * d) (255 * I / k) columns_pos ∙ mod-eq_of_lt (round_lt p h) in
      rw (source_row p, source_octet p, div-mul-add col k (p % k) e-lt, mod-mul-add col k (p % k) e-lt, there) (split N k p cut.some cut.symbol)

  source_back : (q : ℕ) → q < 255 * I * N → (back q < 255 * I * N) × (stepped_source I N k d (back q) ≡ q)
  unfolding stepped_source
  source_back q h =
      let R = 255 * I in let C = 255 * I / k in
      let row = q / R in let u = q % R in let e = u % k in
      let c = (u / k + (C - row * d % C)) % C in
      let R-pos : 0 < R = omega (arith, cut.deep) in
      let row_lt : row < N = div_below q R N R-pos (rw (mul_comm N R) h) in
      let u-lt : u < R = mod_below q R R-pos in
      let e-lt : e < k = mod_below u k cut.symbol in
      let c_lt : c < C = mod_below _ C columns_pos in
      let u-col : u / k < C = div_below u k C cut.symbol (rw columns_fill u-lt) in
      let there : (c + row * d) % C ≡ u / k = turn_on (u / k) (row * d) C columns_pos ∙ mod-eq_of_lt u-col in
      let sym-lt : c * N + row < N * C = mul-add-lt c N row C c_lt row_lt in
      let in_block : (c * N + row) * k + e < k * (N * C) = mul-add-lt (c * N + row) k e (N * C) sym-lt e-lt in (
        omega (arith, in_block, ap (λ n. N * n) columns_fill),
        rw (div-mul-add (c * N + row) k e e-lt, mod-mul-add (c * N + row) k e e-lt, div-mul-add c N row row_lt, mod-mul-add c N row row_lt, there)
            (omega (arith, div-add-mod' q R, div-add-mod' u k)),
      )

  -- ---- how many sources of a run belong to word w of row r
  module _ (r w : ℕ) (hr : r < N) (hw : w < I) where
    -- the octets of the row's words before w that were read in x octets of the row
    abbrev woven : ℕ → ℕ
    woven x = dealt I 1 w (x + r * d * k)

    woven_suc : (x : ℕ) → woven (suc x) ≡ woven x + cond ((x + r * d * k) % I == w) 1 0
    woven_suc x =
        let e : suc x + r * d * k ≡ suc (x + r * d * k) = omega arith in
        rw (e, dealt_suc I 1 w (x + r * d * k) (omega arith) hw, div-one (x + r * d * k))

    at_place : (p : ℕ) → woven (dealt N k r p) + cond (of_row_word I r w (stepped_source I N k d p)) 1 0 ≡ woven (dealt N k r (suc p))
    at_place p = elim (cases_Bool (p / k % N == r)) [
      | inl t ↦
          let row : p / k % N ≡ r = eqb-true _ _ t in
          let own = dealt_own N k r p row in
          rw (source_row p, source_word p, dealt_suc N k r p cut.symbol hr, t, row, own) (sym (woven_suc (p / k / N * k + p % k)) ∙ ap woven (omega arith))
      | inr f ↦ rw (source_row p, dealt_suc N k r p cut.symbol hr, f, add-zero (dealt N k r p)) (add-zero _)
    ]

    -- by induction: the count below the run's end less the count below its start
    tally : (a b : ℕ) → woven (dealt N k r a) + sources_of (stepped I N k d) r w a b ≡ woven (dealt N k r (a + b))
    tally a zero = rw (add-zero a, count_zero (λ i. of_row_word I r w (stepped_source I N k d (a + i)))) (add-zero _)
    tally a (suc b) =
        let i = tally a b in
        let n = at_place (a + b) in
        rw (count_suc b (λ i. of_row_word I r w (stepped_source I N k d (a + i))), add-suc a b) (omega (arith, i, n))

    dealt_run : (a b : ℕ) → dealt N k r (a + b) ≤ dealt N k r a + most_of_row N k b
    dealt_run a b =
        let m = b / (N * k) in let q = b % (N * k) in
        let q-lt : q < N * k = mod_below b (N * k) turn_pos in
        let e : a + b ≡ a + q + m * N * k = omega (arith, div-add-mod' b (N * k)) in
        let t = dealt_turn N k r a q cut.symbol hr (omega arith) in
        rw (e, dealt_rounds N k r (a + q) m cut.symbol cut.some) (omega arith)

    -- A run of b places holds octets of the row one after the other, and so at most t of a word if at most t * I of the row.
    few : (a b t : ℕ) → most_of_row N k b ≤ t * I → sources_of (stepped I N k d) r w a b ≤ t
    few a b t h =
        let x = dealt N k r a in let y = dealt N k r (a + b) in
        let run = dealt_run a b in
        let turns : x + t * I + r * d * k ≡ x + r * d * k + t * I * 1 = omega arith in
        let top : woven (x + t * I) ≡ woven x + t =
        ap (dealt I 1 w) turns ∙ dealt_rounds I 1 w (x + r * d * k) t (omega arith) cut.deep ∙ omega arith in
        let more : x + t * I + r * d * k ≡ y + r * d * k + (x + t * I - y) = omega arith in
        let up : woven y ≤ woven (x + t * I) = rw more (dealt_up I 1 w (y + r * d * k) (x + t * I - y) (omega arith) hw) in
        omega (arith, tally a b, top, up)

    -- no run holds more of one word than it costs
    pub cost : (a b : ℕ) → sources_of (stepped I N k d) r w a b ≤ symbol_cost I N k b
    unfolding symbol_cost
    cost a b =
        let h = cut.deep in let L = most_of_row N k b in
        few a b (symbol_cost I N k b) (omega (arith, div-add-mod' (L + (I - 1)) I, mod_below (L + (I - 1)) I h))

  -- the run of b places from place 0 holds what it costs
  pub cost_met : (b : ℕ) → sources_of (stepped I N k d) 0 0 0 b ≡ symbol_cost I N k b
  unfolding symbol_cost
  cost_met b =
      let m = b / (N * k) in let q = b % (N * k) in
      let L = most_of_row N k b in
      let run = tally 0 0 cut.some cut.deep 0 b in
      let row : dealt N k 0 (0 + b) ≡ L =
      ap (dealt N k 0) (let e : 0 + b ≡ q + m * N * k = omega (arith, div-add-mod' b (N * k)) in e)
      ∙ dealt_rounds N k 0 q m cut.symbol cut.some
      ∙ (let f = dealt_zero N k q cut.symbol cut.some (mod_below b (N * k) turn_pos) in omega (arith, f)) in
      let word : dealt I 1 0 (L + 0 * d * k) ≡ (L + (I - 1)) / I =
      ap (dealt I 1 0) (let e : L + 0 * d * k ≡ L = omega arith in e) ∙ dealt_up_to I L cut.deep in
      let none : dealt I 1 0 (dealt N k 0 0 + 0 * d * k) ≡ 0 =
      ap (dealt I 1 0) (let z = dealt_none N k 0 in let e : dealt N k 0 0 + 0 * d * k ≡ 0 = omega (arith, z) in e) ∙ dealt_none I 1 0 in
      let total = ap (λ x. dealt I 1 0 (x + 0 * d * k)) row in
      omega (arith, run, word, none, total)

  -- the fade for t costs t
  pub cost_of_fade : (t : ℕ) → symbol_cost I N k (symbol_fade I N k t) ≡ t
  unfolding symbol_cost symbol_fade
  cost_of_fade t =
      let m = t * I / k in let q = t * I % k in
      let q-lt : q < k = mod_below (t * I) k cut.symbol in
      let e : m * N * k + q ≡ m * (N * k) + q = omega arith in
      let q-turn : q < N * k = omega (arith, symbol_le_turn) in
      let most : m * k + min k q + (I - 1) ≡ t * I + (I - 1) = omega (arith, div-add-mod' (t * I) k) in
      rw (e, div-mul-add m (N * k) q q-turn, mod-mul-add m (N * k) q q-turn, most, div-mul-add t I (I - 1) (omega (arith, cut.deep)))

  -- one place more costs one more
  pub cost_past_fade : (t : ℕ) → symbol_cost I N k (symbol_fade I N k t + 1) ≡ t + 1
  unfolding symbol_cost symbol_fade
  cost_past_fade t =
      let m = t * I / k in let q = t * I % k in
      let q-lt : q < k = mod_below (t * I) k cut.symbol in
      let most : most_of_row N k (m * N * k + q + 1) ≡ t * I + 1 = elim (cases_lt (q + 1) (N * k)) [
        | inl l ↦
            let e : m * N * k + q + 1 ≡ m * (N * k) + (q + 1) = omega arith in
            rw (e, div-mul-add m (N * k) (q + 1) l, mod-mul-add m (N * k) (q + 1) l) (omega (arith, div-add-mod' (t * I) k))
        | inr g ↦
            let full : q + 1 ≡ k = omega (arith, symbol_le_turn) in
            let e : m * N * k + q + 1 ≡ (m + 1) * (N * k) + 0 = omega (arith, symbol_le_turn) in
            rw (e, div-mul-add (m + 1) (N * k) 0 turn_pos, mod-mul-add (m + 1) (N * k) 0 turn_pos) (omega (arith, div-add-mod' (t * I) k))
      ] in
      let f : t * I + 1 + (I - 1) ≡ (t + 1) * I + 0 = omega (arith, cut.deep) in
      rw (most, f, div-mul-add (t + 1) I 0 cut.deep)

  -- the fade for a reach, and one place more, lie within the block
  fade_within : (t : ℕ) → t ≤ max_reach → symbol_fade I N k t + 1 ≤ 255 * I * N
  unfolding symbol_fade
  fade_within t h =
      let m = t * I / k in let q = t * I % k in
      let parts = ap (λ n. N * n) (div-add-mod' (t * I) k) in
      let rest = mul-le 1 q N q cut.some (le_refl q) in
      let far = mul-le t (I * N) max_reach (I * N) h (le_refl (I * N)) in
      omega (arith, parts, rest, far, mul-le 1 1 I N cut.deep cut.some)

  pub stepped_laws : MappingLaws (stepped I N k d)
  stepped_laws = record {
    inside = λ p _. source_lt p;
    once = λ p q hp hq e. sym (back_source p hp) ∙ ap back e ∙ back_source q hq;
    onto = λ q h. let b = source_back q h in (back q, b.0, b.1);
    octet = λ _ _. lit< tt;
    spread = λ t a r w _ hr hw _. rw (cost_of_fade t) at (cost r w hr hw a (symbol_fade I N k t));
    tight = λ t h. record {
      start = 0;
      row = 0;
      word = 0;
      row_is = cut.some;
      word_is = cut.deep;
      within = omega (arith, fade_within t h);
      holds = cost_met (symbol_fade I N k t + 1) ∙ cost_past_fade t;
    };
  }
