-- What mending makes of the rows of a block: within a fade each becomes the row sent, and a longer run costs one of them.
use Rattle.std.proofs.Common.{◌≡◌, ℕ, ◌+◌, ◌-◌, ◌*◌, ◌<◌, ◌≤◌, List, [], get_or, take, Ok, Err, Result, sym, refl, ap, ◌∙◌, subst, inl, inr, arith}
use Rattle.std.proofs.lemmas.Bool.{cases_eq}
use Rattle.octets.specs.Octets.{altered}
use Rattle.octets.specs.Words.{word_length, word_of}
use Rattle.octets.proofs.Words.{row_from_words}
use Rattle.settings.specs.declared.Settings.{Settings}
use Rattle.settings.specs.Lengths.{block_length}
use Rattle.settings.proofs.Ranges.{ranges}
use Rattle.code.specs.Meaning.{CodeMeaning, CodeLaws, Reached}
use Rattle.code.proofs.Reach.{one_reached}
use Rattle.mapping.specs.Meaning.{MappingMeaning, MappingLaws, Holding}
use Rattle.mapping.specs.FadeKept as fade
use Rattle.mapping.specs.FadeKept.{memory_word}
use Rattle.mapping.proofs.Reach.{fade_kept}
use Rattle.link.specs.Frames.{frame_length, EncodedFrame, row_at}
use Rattle.link.specs.Line.{line_length, block_memory, BeginsLine}
use Rattle.link.specs.RowMending.{Verdict, MendedRow}
use Rattle.link.specs.declared.mending.RowFault.{RowFault}
use Rattle.link.proofs.OneRow.{same_word}
use Rattle.link.proofs.Tables.{MappingSizes}
use Rattle.promise.specs.Reception.{Reception, Taken, line_place, AlteredWithin, AlteredThroughout}
use Rattle.promise.proofs.Found.{Arrived}
use Rattle.promise.proofs.Heard.{block_base}
use Rattle.promise.proofs.ArrivedBlock.{block_filled, same_where_as_sent, as_sent_where_same}
use Rattle.promise.proofs.RunsAltered.{altered_throughout}
use Rattle.promise.proofs.SentBlock.{row_encoded}

-- block b of the line of these frames, wholly heard, and a memory that holds it as it arrived
module _ {sent taken : List ℕ} (s : Settings) (code : CodeMeaning) (m : MappingMeaning) (codes : CodeLaws code) (laws : MappingLaws m) (sizes : MappingSizes s m)
    (frames : List (List ℕ)) (line : BeginsLine s code m frames sent) (h : Reception sent taken) (b : ℕ) (whole : Taken s h (b * line_length s) (line_length s))
    (memory : List ℕ) (arrived : Arrived s m taken (block_base s h b) memory) where
  abbrev block : List ℕ
  block = block_memory s line.rows b

  row_sent : (i : ℕ) → i < s.rows → EncodedFrame s.depth code (get_or frames (b * s.rows + i) []) (row_at s i block)
  row_sent = row_encoded s code m frames sent line b (block_filled s code m frames line h b whole)

  -- ---- within a fade

  module _ (from : ℕ) (within : AlteredWithin s h b from (m.fade code.reach)) where
    as_sent_outside : fade.AlteredWithin m memory block from (m.fade code.reach)
    as_sent_outside p low out =
        let low' : p < block_length s = omega (arith, sizes.block_is) in
        elim (cases_eq (get_or h.heard (line_place s h b p - h.start) 0) (get_or sent (line_place s h b p) 0)) [
          | inl as_sent ↦ sym (same_where_as_sent s code m frames line h b whole memory arrived p low' as_sent)
          | inr altered ↦ let run = within p low' altered in absurd (omega (arith, run.0, run.1))
        ]

    -- each word sent lies within reach of the word that arrived
    reached : (i w : ℕ) → i < s.rows → w < s.depth → Reached code (word_of s.depth w (row_at s i memory)) (word_of s.depth w (row_at s i block))
    reached i w hi hw = record {
      is_codeword = (row_sent i hi).words w hw;
      near = subst (λ d. altered word_length (memory_word d i w memory) (memory_word d i w block) ≤ code.reach) sizes.depth_is
          (fade_kept m laws code.reach codes.reach_bounded from memory block as_sent_outside i w (omega (arith, sizes.rows_is)) (omega (arith, sizes.depth_is)));
    }

    module _ (i : ℕ) (low : i < s.rows) (row : List ℕ) (count : ℕ) (valid : Result Unit RowFault) (mended : MendedRow s.depth code (row_at s i memory) row count valid) where
      word_back : (w : ℕ) → w < s.depth → word_of s.depth w row ≡ word_of s.depth w (row_at s i block)
      word_back w hw = elim (mended.words w hw) [
        | inl to ↦ one_reached code codes (word_of s.depth w (row_at s i memory)) (word_of s.depth w row) (word_of s.depth w (row_at s i block)) to (reached i w low hw)
        | inr none ↦ absurd (none.0 (word_of s.depth w (row_at s i block)) (reached i w low hw))
      ]

      -- the mended row begins with the frame put
      pub frame_back : take (frame_length s.depth code) row ≡ get_or frames (b * s.rows + i) []
      frame_back =
          ap (take (frame_length s.depth code)) (row_from_words s.depth row (row_at s i block) (ranges s).depth_low mended.size (row_sent i low).size word_back)
          ∙ (row_sent i low).begins

      by_verdict : (v : Result Unit RowFault) → Verdict code s.depth s.depth (row_at s i memory) row v → v ≡ Ok tt
      by_verdict (Ok u) all = refl
      by_verdict (Err fault) (hw, e, beyond, first) = absurd (beyond (word_of s.depth fault.word (row_at s i block)) (reached i fault.word low hw))

      pub row_valid : valid ≡ Ok tt
      row_valid = by_verdict valid mended.verdict

  -- ---- past it

  -- a run altered throughout, which holds more sources of one word than the reach
  module _ (n held : ℕ) (run : Holding m n held) (throughout : AlteredThroughout s h b run.start n) (over : code.reach < held) where
    word_far : held ≤ altered word_length (word_of s.depth run.word (row_at s run.row memory)) (word_of s.depth run.word (row_at s run.row block))
    word_far =
        let least = altered_throughout m laws run.row run.word run.start n run.word_is run.within memory block (λ p lo hi same.
        let low : p < block_length s = omega (arith, run.within, sizes.block_is) in
        throughout p low lo hi (as_sent_where_same s code m frames line h b whole memory arrived p low (sym same))) in
        subst (λ d. held ≤ altered word_length (memory_word d run.row run.word memory) (memory_word d run.row run.word block)) sizes.depth_is
        (omega (arith, least, run.holds))

    -- where that word is mended, the row begins with another frame
    pub other_frame : (row : List ℕ) → Reached code (word_of s.depth run.word (row_at s run.row memory)) (word_of s.depth run.word row)
        → take (frame_length s.depth code) row ≡ get_or frames (b * s.rows + run.row) [] → ⊥
    other_frame row to begins =
        let hw : run.word < s.depth = omega (arith, run.word_is, sizes.depth_is) in
        let sent-row = row_sent run.row (omega (arith, run.row_is, sizes.rows_is)) in
        let same : word_of s.depth run.word row ≡ word_of s.depth run.word (row_at s run.row block) =
        same_word s.depth code codes run.word hw row (row_at s run.row block) (begins ∙ sym sent-row.begins) to.is_codeword (sent-row.words run.word hw) in
        omega (arith, word_far, subst (λ x. altered word_length (word_of s.depth run.word (row_at s run.row memory)) x ≤ code.reach) same to.near)
