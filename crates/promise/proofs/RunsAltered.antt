-- A run of line places altered throughout: each octet of a word that came by it is altered.
use Rattle.std.proofs.Common.{◌≡◌, ℕ, ◌+◌, ◌*◌, ◌/◌, ◌%◌, ◌<◌, ◌≤◌, true, not, eqb, List, get_or, sym, ap, ◌∙◌, arith}
use Rattle.std.proofs.lemmas.Nat.{div-add-mod', mod_below}
use Rattle.std.proofs.lemmas.Bool.{and_parts, eqb-true, ne_eqb}
use Rattle.octets.specs.Octets.{differs, altered}
use Rattle.octets.specs.Words.{word_length, word_place, of_word}
use Rattle.octets.proofs.Counting.{count_into}
use Rattle.octets.proofs.Words.{place_from, place_index_below}
use Rattle.mapping.specs.Meaning.{MappingMeaning, MappingLaws, block_size, of_row_word, sources_of}
use Rattle.mapping.specs.FadeKept.{memory_word}
use Rattle.mapping.proofs.Words.{octet_place}
use Rattle.mapping.proofs.Reach.{memory_word_at}

-- which octet of its word a memory place is
abbrev octet_of : ℕ → ℕ → ℕ
octet_of depth q = q % (word_length * depth) / depth

octet_of_below : (depth q : ℕ) → 0 < depth → octet_of depth q < word_length
octet_of_below depth q some =
    place_index_below depth (q % (word_length * depth)) word_length some (mod_below q (word_length * depth) (omega arith))

octet_of_place : (depth r w q : ℕ) → of_row_word depth r w q ≡ true → octet_place depth r w (octet_of depth q) ≡ q
octet_of_place depth r w q of =
    let row : ℕ = word_length * depth in
    let parts = and_parts (eqb (q / row) r) (of_word depth w (q % row)) of in
    let in_row : word_place depth w (octet_of depth q) ≡ q % row =
    ap (λ v. word_place depth v (octet_of depth q)) (sym (eqb-true (q % row % depth) w parts.1)) ∙ place_from depth (q % row) in
    ap (λ x. r * row + x) in_row ∙ ap (λ k. k * row + q % row) (sym (eqb-true (q / row) r parts.0)) ∙ div-add-mod' q row

-- a word has no fewer altered octets than a run that is altered throughout has sources of it
pub altered_throughout : (m : MappingMeaning) → MappingLaws m → (r w start n : ℕ) → w < m.depth → start + n ≤ block_size m → (sent got : List ℕ)
    → ((p : ℕ) → start ≤ p → p < start + n → get_or got (m.source p) 0 ≡ get_or sent (m.source p) 0 → ⊥)
    → sources_of m r w start n ≤ altered word_length (memory_word m.depth r w sent) (memory_word m.depth r w got)
altered_throughout m laws r w start n hw inside sent got apart =
    let here = memory_word m.depth r w sent in
    let there = memory_word m.depth r w got in
    count_into n word_length (λ i. of_row_word m.depth r w (m.source (start + i))) (differs here there)
    (λ i j. octet_place m.depth r w j ≡ m.source (start + i))
    (λ i hi of.
    let q = m.source (start + i) in
    let j = octet_of m.depth q in
    let hj : j < word_length = octet_of_below m.depth q (omega arith) in
    let at : octet_place m.depth r w j ≡ q = octet_of_place m.depth r w q of in
    let holds : (memory : List ℕ) → get_or (memory_word m.depth r w memory) j 0 ≡ get_or memory q 0 =
    λ memory. memory_word_at m.depth r w j memory hw hj ∙ ap (λ x. get_or memory x 0) at in
    let differ : differs here there j ≡ true =
    ap not (ne_eqb (get_or here j 0) (get_or there j 0) (λ e. apart (start + i) (omega arith) (omega arith) (sym (holds got) ∙ sym e ∙ holds sent))) in
    (j, hj, differ, at))
    (λ i k j hi hk ei ek.
    let one = laws.once (start + i) (start + k) (omega arith) (omega arith) (sym ei ∙ ek) in
    omega arith)
