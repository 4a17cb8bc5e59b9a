-- A frame is encoded as just one row.
use Rattle.std.proofs.Common.{◌≡◌, ℕ, ◌<◌, List, length, get_or, take, sym, refl, ap, ◌∙◌, subst, arith}
use Rattle.std.proofs.lemmas.List.{ext_get_or, get_or-take, length-take-le}
use Rattle.octets.specs.Words.{word_length, word_place, word_of}
use Rattle.octets.proofs.Octets.{octets_take}
use Rattle.octets.proofs.Words.{place_below, word_at, word_size, row_from_words}
use Rattle.code.specs.Meaning.{CodeMeaning, CodeLaws}
use Rattle.link.specs.Frames.{frame_length, OneRow}

module _ (depth : ℕ) (code : CodeMeaning) (laws : CodeLaws code) where
  module _ (w : ℕ) (low : w < depth) where
    -- an information octet of word w is one of the frame that the row begins with
    information_at : (row : List ℕ) (j : ℕ) → j < code.information
        → get_or (take code.information (word_of depth w row)) j 0 ≡ get_or (take (frame_length depth code) row) (word_place depth w j) 0
    information_at row j l =
        let inside : word_place depth w j < frame_length depth code = place_below depth w j code.information low l in
        get_or-take code.information (word_of depth w row) j 0 l
        ∙ word_at depth w row j (omega (arith, laws.information_fits))
        ∙ sym (get_or-take (frame_length depth code) row (word_place depth w j) 0 inside)

    information_length : (row : List ℕ) → length (take code.information (word_of depth w row)) ≡ code.information
    information_length row = length-take-le code.information (word_of depth w row) (omega (arith, word_size depth w row, laws.information_fits))

    -- rows that begin with the same frame have the same word w, if it is a codeword in both
    pub same_word : (a b : List ℕ) → take (frame_length depth code) a ≡ take (frame_length depth code) b
        → code.Codeword (word_of depth w a) → code.Codeword (word_of depth w b) → word_of depth w a ≡ word_of depth w b
    same_word a b begin ca cb =
        let same : take code.information (word_of depth w a) ≡ take code.information (word_of depth w b) =
        ext_get_or 0 (take code.information (word_of depth w a)) (take code.information (word_of depth w b)) (information_length a ∙ sym (information_length b)) (λ j l.
        let lj : j < code.information = subst (λ n. j < n) (information_length a) l in
        information_at a j lj ∙ ap (λ xs. get_or xs (word_place depth w j) 0) begin ∙ sym (information_at b j lj)) in
        let one = laws.begins (take code.information (word_of depth w b))
        (octets_take word_length code.information (word_of depth w b) laws.information_fits (laws.octets (word_of depth w b) cb)) in
        one.only (word_of depth w a) ca same ∙ sym (one.only (word_of depth w b) cb refl)

pub one_row : (depth : ℕ) (code : CodeMeaning) → CodeLaws code → 0 < depth → OneRow depth code
one_row depth code laws some frame a b ha hb =
    row_from_words depth a b some ha.size hb.size (λ w low. same_word depth code laws w low a b (ha.begins ∙ sym hb.begins) (ha.words w low) (hb.words w low))
