-- What a link takes from the laws: if all that is altered of a block lies in a fade, no word has more than t altered octets.
use Rattle.std.proofs.Common.{◌≡◌, ℕ, ◌+◌, ◌-◌, ◌*◌, ◌<◌, ◌≤◌, Bool, true, leb, List, get_or, drop, Result, sym, refl, ap, ◌∙◌, subst, inl, inr, arith}
use Rattle.std.proofs.lemmas.List.FromFn.{get_or-map-range_with_len}
use Rattle.std.proofs.lemmas.List.{get_or-take, get_or-drop}
use Rattle.std.proofs.lemmas.Bool.{eq-eqb, cases_lt, cases_Bool, leb-true, leb-false, both_ways, not_from_true}
use Rattle.octets.specs.Counting.{count}
use Rattle.octets.specs.Octets.{differs, altered}
use Rattle.octets.specs.Words.{word_length, word_place, word_of, max_reach}
use Rattle.octets.proofs.Counting.{count_into}
use Rattle.mapping.specs.Meaning.{MappingMeaning, MappingLaws, of_row_word, sources_of, block_size}
use Rattle.mapping.specs.Answers.{fade_answer}
use Rattle.mapping.specs.FadeKept.{row_of, memory_word, AlteredWithin, FadeKept, RiddenFade}
use Rattle.mapping.specs.declared.fault.MappingFault.{MappingFault}
use Rattle.mapping.proofs.Words.{octet_place, word_place_lt, octet_place_lt, octet_place_of, octet_place_once}

-- octet j of a word of a block's memory
pub memory_word_at : (depth r w j : ℕ) (memory : List ℕ) → w < depth → j < word_length
    → get_or (memory_word depth r w memory) j 0 ≡ get_or memory (octet_place depth r w j) 0
unfolding word_of
memory_word_at depth r w j memory hw hj =
    get_or-map-range_with_len (λ i. get_or (row_of depth r memory) (word_place depth w i) 0) 0 word_length j j 0 hj (omega arith)
    ∙ get_or-take (word_length * depth) (drop (r * (word_length * depth)) memory) (word_place depth w j) 0 (word_place_lt depth w j hw hj)
    ∙ get_or-drop (r * (word_length * depth)) memory (word_place depth w j) 0

-- if the octets that pass a test came by places of a run, no more pass than the run has sources of the word
pub passing_within : (m : MappingMeaning) → MappingLaws m → (r w start n : ℕ) → r < m.rows → w < m.depth → (test : ℕ → Bool)
    → ((p j : ℕ) → p < block_size m → j < word_length → m.source p ≡ octet_place m.depth r w j → test j ≡ true → (start ≤ p) × (p < start + n))
    → count word_length test ≤ sources_of m r w start n
passing_within m laws r w start n hr hw test lies =
    count_into word_length n test (λ i. of_row_word m.depth r w (m.source (start + i))) (λ j i. m.source (start + i) ≡ octet_place m.depth r w j)
    (λ j hj t.
    let x = laws.onto (octet_place m.depth r w j) (octet_place_lt m.depth m.rows r w j hr hw hj) in
    let run = lies x.0 j x.1 hj x.2 t in
    let back : start + (x.0 - start) ≡ x.0 = omega (arith, run.0) in
    let from : m.source (start + (x.0 - start)) ≡ octet_place m.depth r w j = ap m.source back ∙ x.2 in
    (x.0 - start, omega (arith, run.0, run.1), ap (of_row_word m.depth r w) from ∙ octet_place_of m.depth r w j hw hj, from))
    (λ i j p hi hj ei ej. octet_place_once m.depth r w i j hw (sym ei ∙ ej))

-- a word has no more altered octets than the run in which the block was altered has sources of it
pub altered_within : (m : MappingMeaning) → MappingLaws m → (r w start n : ℕ) → r < m.rows → w < m.depth → (sent got : List ℕ)
    → AlteredWithin m sent got start n
    → altered word_length (memory_word m.depth r w sent) (memory_word m.depth r w got) ≤ sources_of m r w start n
altered_within m laws r w start n hr hw sent got same =
    let here = memory_word m.depth r w sent in
    let there = memory_word m.depth r w got in
    let alike : (p j : ℕ) → j < word_length → get_or got (m.source p) 0 ≡ get_or sent (m.source p) 0
    → m.source p ≡ octet_place m.depth r w j → differs here there j ≡ true → ⊥ =
    λ p j hj e from.
    let e-at : get_or sent (octet_place m.depth r w j) 0 ≡ get_or got (octet_place m.depth r w j) 0 =
    ap (λ q. get_or sent q 0) (sym from) ∙ sym e ∙ ap (λ q. get_or got q 0) from in
    both_ways _ (not_from_true _ (eq-eqb _ _ (memory_word_at m.depth r w j sent hw hj ∙ e-at ∙ sym (memory_word_at m.depth r w j got hw hj)))) in
    passing_within m laws r w start n hr hw (differs here there)
    (λ p j hp hj from t. (
      elim (cases_lt p start) [ inl l ↦ absurd (alike p j hj (same p hp (inl l)) from t) | inr g ↦ g ],
      elim (cases_lt p (start + n)) [ inl l ↦ l | inr g ↦ absurd (alike p j hj (same p hp (inr g)) from t) ],
    ))

-- a fade that ends past the block is one that ends with it
pub fade_kept : (m : MappingMeaning) → MappingLaws m → (t : ℕ) → t ≤ max_reach → FadeKept m t (m.fade t)
fade_kept m laws t ht start sent got same r w hr hw =
    let room = (laws.tight t ht).within in
    elim (cases_lt (block_size m) (start + m.fade t)) [
      | inr g ↦ omega (arith, altered_within m laws r w start (m.fade t) hr hw sent got same, laws.spread t start r w ht hr hw g)
      | inl l ↦
          let first = block_size m - m.fade t in
          let end : first + m.fade t ≡ block_size m = omega arith in
          let inner : AlteredWithin m sent got first (m.fade t) = λ p hp out. elim out [
            | inl before ↦ same p hp (inl (omega arith))
            | inr behind ↦ absurd (omega arith)
          ] in
          omega (arith, altered_within m laws r w first (m.fade t) hr hw sent got inner, laws.spread t first r w ht hr hw (omega arith))
    ]

-- the fade that a mapping answers is ridden through
pub ridden : (m : MappingMeaning) → MappingLaws m → (t : ℕ) (r : Result ℕ MappingFault) → r ≡ fade_answer m t → RiddenFade m t r
ridden m laws t r e = subst (RiddenFade m t) (sym e) (elim (cases_Bool (leb t max_reach)) [
  | inl yes_leb ↦ let h = leb-true t max_reach yes_leb in rw yes_leb (h, refl, fade_kept m laws t h)
  | inr no_leb ↦ rw no_leb (leb-false t max_reach no_leb, refl)
])
