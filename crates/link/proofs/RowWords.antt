-- Encoding a row word by word.
use Rattle.std.proofs.Common.{◌≡◌, ℕ, ◌+◌, ◌*◌, ◌/◌, ◌%◌, ◌<◌, ◌≤◌, true, List, length, get_or, None, Ok, Err, Result, sym, ap, ◌∙◌, subst, inl, inr, arith}
use Rattle.std.proofs.lemmas.List.{get_or-take}
use Rattle.std.proofs.lemmas.Bool.{eq-eqb, eqb-true, cases_eq, cases_Bool, lt-ltb}
use Rattle.octets.specs.Words.{word_length, word_place, word_of, of_word}
use Rattle.octets.proofs.Words.{place_from, place_index_below, word_at, other_word_kept}
use Rattle.settings.specs.Allowed.{depth_is_allowed}
use Rattle.code.specs.Meaning.{CodeMeaning}
use Rattle.code.specs.Refusal.{shape_refusal}
use Rattle.code.specs.Calls.{Encoded, Encodes}
use Rattle.code.specs.declared.fault.ShapeFault.{ShapeFault}
use Rattle.link.specs.Frames.{frame_length}

-- a word that there is
pub word_there : (depth word : ℕ) (row : List ℕ) → depth_is_allowed depth ≡ true → length row ≡ word_length * depth → word < depth → shape_refusal depth word row ≡ None
word_there depth word row d l w = rw (d, eq-eqb (length row) (word_length * depth) l, lt-ltb word depth w)

-- is encoded, whatever the answer is taken for
pub encoded_from_answer : (code : CodeMeaning) (depth word : ℕ) (before after : List ℕ) (r : Result Unit ShapeFault)
    → shape_refusal depth word before ≡ None → Encodes code depth word before r after → Encoded code depth word before after
encoded_from_answer code depth word before after (Ok u) there (e, done) = done
encoded_from_answer code depth word before after (Err fault) there (e, same) = let z : ◌≡◌ {A = ℕ} 0 1 = cc in absurd (omega arith)

-- a row whose first `upto` words are codewords, and which begins with the frame
pub record EncodedUpTo (depth : ℕ) (code : CodeMeaning) (frame : List ℕ) (upto : ℕ) (row : List ℕ) : Type 0 where
  pub size : length row ≡ word_length * depth
  pub begins : (q : ℕ) → q < frame_length depth code → get_or row q 0 ≡ get_or frame q 0
  pub words : (w : ℕ) → w < upto → code.Codeword (word_of depth w row)

module _ (depth : ℕ) (code : CodeMeaning) (frame : List ℕ) (some : 0 < depth) (few : code.information ≤ word_length) where
  module _ (w : ℕ) (before after : List ℕ) (low : w < depth) (held : EncodedUpTo depth code frame w before) (done : Encoded code depth w before after) where
    -- an information octet of the word just encoded
    information_octet : (j : ℕ) → j < code.information → get_or after (word_place depth w j) 0 ≡ get_or before (word_place depth w j) 0
    information_octet j l =
        let lj : j < word_length = omega arith in
        sym (word_at depth w after j lj)
        ∙ sym (get_or-take code.information (word_of depth w after) j 0 l)
        ∙ ap (λ xs. get_or xs j 0) done.information
        ∙ get_or-take code.information (word_of depth w before) j 0 l
        ∙ word_at depth w before j lj

    frame_kept : (q : ℕ) → q < frame_length depth code → get_or after q 0 ≡ get_or before q 0
    frame_kept q l = elim (cases_Bool (of_word depth w q)) [
      | inl here ↦
          let e : q % depth ≡ w = eqb-true (q % depth) w here in
          let at : word_place depth w (q / depth) ≡ q = ap (λ v. word_place depth v (q / depth)) (sym e) ∙ place_from depth q in
          let j : q / depth < code.information = place_index_below depth q code.information some l in
          subst (λ p. get_or after p 0 ≡ get_or before p 0) at (information_octet (q / depth) j)
      | inr off ↦ done.keeps.others q off
    ]

    word_next : (v : ℕ) → v < w + 1 → code.Codeword (word_of depth v after)
    word_next v l = elim (cases_eq v w) [
      | inl e ↦ subst (λ u. code.Codeword (word_of depth u after)) (sym e) done.is_codeword
      | inr ne ↦ subst (λ xs. code.Codeword xs) (sym (other_word_kept depth w v before after done.keeps (omega arith) ne)) (held.words v (omega arith))
    ]

    -- a word more
    pub encoded_more : EncodedUpTo depth code frame (w + 1) after
    encoded_more = record {
      size = done.keeps.size ∙ held.size;
      begins = λ q l. frame_kept q l ∙ held.begins q l;
      words = word_next;
    }
