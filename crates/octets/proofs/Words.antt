-- Lemmas on words woven into a row: which places are of a word, what a word holds, and what a write to a word keeps.
use Rattle.std.proofs.Common.{◌≡◌, ℕ, suc, ◌+◌, ◌*◌, ◌/◌, ◌%◌, ◌<◌, ◌≤◌, true, false, List, length, get_or, set, sym, refl, ap, ◌∙◌, subst, inl, inr, mul-le-mul_right, suc-mul, mul_comm, add-mul, one-mul, arith}
use Rattle.std.proofs.lemmas.Nat.{div_below, div-add-mod', mod_below, mod-mul-add, mul-add-lt}
use Rattle.std.proofs.lemmas.List.FromFn.{fill_by_all, get_or-map-range_with_len, length-map-range_with_len}
use Rattle.std.proofs.lemmas.List.{ext_get_or, get_or-set_same, get_or-set_other, length-set}
use Rattle.std.proofs.lemmas.Bool.{both_ways, cases_eq, cases_order, eq-eqb, eqb-true, ne_eqb}
use Rattle.octets.specs.Octets.{Octets}
use Rattle.octets.specs.Words.{word_length, word_place, word_of, of_word, KeepsOthers}

-- ---- the places of a word

-- a word's places stand `depth` apart
pub place_next : (depth w j : ℕ) → word_place depth w j + depth ≡ word_place depth w (j + 1)
place_next depth w j = omega (arith, add-mul j 1 depth, one-mul depth)

-- the first n octets of each word lie in the first n * depth octets of the row
pub place_below : (depth w j n : ℕ) → w < depth → j < n → word_place depth w j < n * depth
place_below depth w j n hw hj = omega (arith, mul-add-lt j depth w n hj hw, mul_comm depth n)

pub place_of_word : (depth w j : ℕ) → w < depth → of_word depth w (word_place depth w j) ≡ true
place_of_word depth w j hw = eq-eqb (word_place depth w j % depth) w (mod-mul-add j depth w hw)

-- a place that is not of a word is none of its places
pub place_not_of_word : (depth w q j : ℕ) → w < depth → of_word depth w q ≡ false → q ≡ word_place depth w j → ⊥
place_not_of_word depth w q j hw other e =
    both_ways (of_word depth w q) other (ap (of_word depth w) e ∙ place_of_word depth w j hw)

-- each place of the row is one of just the word `q % depth`
pub place_from : (depth q : ℕ) → word_place depth (q % depth) (q / depth) ≡ q
place_from depth q = div-add-mod' q depth

pub place_index_below : (depth q n : ℕ) → 0 < depth → q < n * depth → q / depth < n
place_index_below depth q n hd l = div_below q depth n hd l

-- no two octets of a word stand at one place
pub place_once : (depth w i j : ℕ) → w < depth → i < j → word_place depth w i ≡ word_place depth w j → ⊥
place_once depth w i j hw lt e =
    let up : suc i * depth ≤ j * depth = mul-le-mul_right depth lt in
    omega (arith, suc-mul i depth)

-- ---- what a word holds

pub word_size : (depth w : ℕ) (row : List ℕ) → length (word_of depth w row) ≡ word_length
unfolding word_of
word_size depth w row = length-map-range_with_len (λ j. get_or row (word_place depth w j) 0) 0 word_length

pub word_at : (depth w : ℕ) (row : List ℕ) (j : ℕ) → j < word_length → get_or (word_of depth w row) j 0 ≡ get_or row (word_place depth w j) 0
unfolding word_of
word_at depth w row j l = get_or-map-range_with_len (λ i. get_or row (word_place depth w i) 0) 0 word_length j j 0 l (omega arith)

-- 255 octets that stand at a word's places are that word
pub word_from_places : (depth w : ℕ) (row word : List ℕ) → length word ≡ word_length
    → ((j : ℕ) → j < word_length → get_or word j 0 ≡ get_or row (word_place depth w j) 0) → word ≡ word_of depth w row
unfolding word_of
word_from_places depth w row word size same = fill_by_all (λ j. get_or row (word_place depth w j) 0) word word_length 0 size same

-- a word of a row of octets is 255 octets
pub word_octets : (depth w : ℕ) (row : List ℕ) → ((q : ℕ) → get_or row q 0 < 256) → Octets word_length (word_of depth w row)
word_octets depth w row octets = record {
  size = word_size depth w row;
  octet = λ j l. rw (word_at depth w row j l) (octets (word_place depth w j));
}

-- rows of one length whose words are equal are equal
pub row_from_words : (depth : ℕ) (a b : List ℕ) → 0 < depth → length a ≡ word_length * depth → length b ≡ word_length * depth
    → ((w : ℕ) → w < depth → word_of depth w a ≡ word_of depth w b) → a ≡ b
row_from_words depth a b some la lb same = ext_get_or 0 a b (la ∙ sym lb) (λ q l.
    let w : ℕ = q % depth in
    let j : ℕ = q / depth in
    let hw : q % depth < depth = mod_below q depth some in
    let hj : q / depth < word_length = place_index_below depth q word_length some (subst (λ n. q < n) la l) in
    let at : (row : List ℕ) → get_or (word_of depth w row) j 0 ≡ get_or row q 0 =
    λ row. word_at depth w row j hj ∙ ap (λ p. get_or row p 0) (place_from depth q) in
    sym (at a) ∙ ap (λ word. get_or word j 0) (same w hw) ∙ at b)

-- ---- what a write to a word keeps

pub keeps_self : (depth w : ℕ) (row : List ℕ) → KeepsOthers depth w row row
keeps_self depth w row = record { size = refl; others = λ q other. refl }

pub keeps_trans : (depth w : ℕ) (a b c : List ℕ) → KeepsOthers depth w a b → KeepsOthers depth w b c → KeepsOthers depth w a c
keeps_trans depth w a b c h k = record { size = k.size ∙ h.size; others = λ q other. k.others q other ∙ h.others q other }

-- one octet of the word written
pub keeps_set : (depth w j v : ℕ) (old row : List ℕ) → w < depth → KeepsOthers depth w old row → KeepsOthers depth w old (set row (word_place depth w j) v)
keeps_set depth w j v old row hw h = record {
  size = length-set row (word_place depth w j) v ∙ h.size;
  others = λ q other. get_or-set_other row (word_place depth w j) q v 0 (place_not_of_word depth w q j hw other) ∙ h.others q other;
}

-- the octet just written, and any other of the word
pub set_at_place : (depth w j v : ℕ) (row : List ℕ) → word_place depth w j < length row → get_or (set row (word_place depth w j) v) (word_place depth w j) 0 ≡ v
set_at_place depth w j v row l = get_or-set_same row (word_place depth w j) v 0 l

pub set_at_other_place : (depth w i j v : ℕ) (row : List ℕ) → w < depth → (i ≡ j → ⊥)
    → get_or (set row (word_place depth w j) v) (word_place depth w i) 0 ≡ get_or row (word_place depth w i) 0
set_at_other_place depth w i j v row hw ne = get_or-set_other row (word_place depth w j) (word_place depth w i) v 0 apart
  where
    apart : word_place depth w i ≡ word_place depth w j → ⊥
    apart e = elim (cases_order i j) [
      | inl same ↦ ne same
      | inr (inl lt) ↦ place_once depth w i j hw lt e
      | inr (inr gt) ↦ place_once depth w j i hw gt (sym e)
    ]

-- an octet written at a word's place is written to the word
pub word_set : (depth w j v : ℕ) (row : List ℕ) → w < depth → j < word_length → word_place depth w j < length row
    → word_of depth w (set row (word_place depth w j) v) ≡ set (word_of depth w row) j v
word_set depth w j v row hw lj low =
    let new : List ℕ = set row (word_place depth w j) v in
    let old : List ℕ = word_of depth w row in
    ext_get_or 0 (word_of depth w new) (set old j v) (word_size depth w new ∙ sym (length-set old j v ∙ word_size depth w row)) (λ i l.
    let li : i < word_length = omega (arith, word_size depth w new) in
    word_at depth w new i li
    ∙ elim (cases_eq i j) [
      | inl same ↦
          ap (λ k. get_or new (word_place depth w k) 0) same ∙ set_at_place depth w j v row low
          ∙ sym (ap (λ k. get_or (set old j v) k 0) same ∙ get_or-set_same old j v 0 (omega (arith, word_size depth w row)))
      | inr other ↦
          set_at_other_place depth w i j v row hw other ∙ sym (word_at depth w row i li) ∙ sym (get_or-set_other old j i v 0 other)
    ])

-- a write to one word keeps each other word
pub other_word_kept : (depth w v : ℕ) (before after : List ℕ) → KeepsOthers depth w before after → v < depth → (v ≡ w → ⊥)
    → word_of depth v after ≡ word_of depth v before
other_word_kept depth w v before after keeps low ne =
    ext_get_or 0 (word_of depth v after) (word_of depth v before) (word_size depth v after ∙ sym (word_size depth v before)) (λ j l.
    let lj : j < word_length = subst (λ n. j < n) (word_size depth v after) l in
    let off : of_word depth w (word_place depth v j) ≡ false =
    ne_eqb (word_place depth v j % depth) w (λ e. ne (sym (eqb-true (word_place depth v j % depth) v (place_of_word depth v j low)) ∙ e)) in
    word_at depth v after j lj ∙ keeps.others (word_place depth v j) off ∙ sym (word_at depth v before j lj))
