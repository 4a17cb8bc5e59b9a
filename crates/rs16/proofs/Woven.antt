-- A word read out of a row, and check octets written into it: the steps of both loops.
use Rattle.std.proofs.Common.{◌≡◌, ℕ, ◌+◌, ◌-◌, ◌*◌, ◌<◌, List, ◌++◌, length, get_or, take, set, sym, ap, ◌∙◌, subst, ap₂, inl, inr, arith}
use Rattle.std.proofs.lemmas.List.{ext_get_or, get_or_append_left, get_or-append_right, get_or-take, length-append, length-take-le}
use Rattle.std.proofs.lemmas.Bool.{cases_eq, cases_lt}
use Rattle.octets.specs.Words.{word_length, word_place, word_of, KeepsOthers}
use Rattle.octets.proofs.Words.{keeps_set, place_below, set_at_place, set_at_other_place, word_at, word_size}

-- what the loop over the check octets keeps, at octet k of them: those before the check octets, those written, and other words
pub record Stored (depth w k : ℕ) (checks before row : List ℕ) : Type 0 where
  pub front : (j : ℕ) → j < 223 → get_or row (word_place depth w j) 0 ≡ get_or before (word_place depth w j) 0
  pub back : (j : ℕ) → j < k → get_or row (word_place depth w (223 + j)) 0 ≡ get_or checks j 0
  pub others : KeepsOthers depth w before row

module _ (depth w : ℕ) (hw : w < depth) (checks before : List ℕ) where
  pub stored_more : (k : ℕ) (row : List ℕ) → k < 32 → length before ≡ word_length * depth → Stored depth w k checks before row
      → Stored depth w (k + 1) checks before (set row (word_place depth w (223 + k)) (get_or checks k 0))
  stored_more k row lk size h = record {
    front = λ j l. set_at_other_place depth w j (223 + k) (get_or checks k 0) row hw (λ e. omega arith) ∙ h.front j l;
    back = λ j l. elim (cases_eq j k) [
      | inl same ↦
          subst (λ i. get_or (set row (word_place depth w (223 + k)) (get_or checks k 0)) (word_place depth w (223 + i)) 0 ≡ get_or checks i 0) (sym same)
          (set_at_place depth w (223 + k) (get_or checks k 0) row
          (omega (arith, place_below depth w (223 + k) word_length hw (omega arith), h.others.size)))
      | inr other ↦
          set_at_other_place depth w (223 + j) (223 + k) (get_or checks k 0) row hw (λ e. other (omega arith)) ∙ h.back j (omega arith)
    ];
    others = keeps_set depth w (223 + k) (get_or checks k 0) before row hw h.others;
  }

  pub stored_all : (row : List ℕ) → length checks ≡ 32 → Stored depth w 32 checks before row
      → word_of depth w row ≡ take 223 (word_of depth w before) ++ checks
  stored_all row size h =
      let old : List ℕ = word_of depth w before in
      let front-size : length (take 223 old) ≡ 223 = length-take-le 223 old (omega (arith, word_size depth w before)) in
      ext_get_or 0 (word_of depth w row) (take 223 old ++ checks)
      (word_size depth w row ∙ sym (length-append (take 223 old) checks ∙ ap₂ ◌+◌ front-size size))
      (λ j l.
      let low : j < word_length = omega (arith, word_size depth w row) in
      word_at depth w row j low
      ∙ elim (cases_lt j 223) [
        | inl lt ↦
            h.front j lt ∙ sym (word_at depth w before j low)
            ∙ sym (get_or_append_left (take 223 old) checks 0 j (omega (arith, front-size)) ∙ get_or-take 223 old j 0 lt)
        | inr ge ↦
            ap (λ i. get_or row (word_place depth w i) 0) (omega arith) ∙ h.back (j - 223) (omega arith)
            ∙ sym (get_or-append_right (take 223 old) checks 223 j 0 front-size ge)
      ])
