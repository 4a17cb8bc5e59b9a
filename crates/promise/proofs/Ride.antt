-- Blocks otherwise covered arrive, covered ones are delivered, and a longer fade costs a frame.
use Rattle.std.proofs.Common.{◌≡◌, ℕ, ◌+◌, ◌*◌, ◌<◌, true, List, [], ◌∷◌, ◌++◌, get_or, take, Ok, Err, Result, sym, refl, ap, ◌∙◌, subst, inl, inr, append_assoc, arith}
use Rattle.octets.specs.Words.{word_of}
use Rattle.settings.specs.declared.Settings.{Settings}
use Rattle.settings.specs.Lengths.{resync_length}
use Rattle.settings.proofs.Ranges.{ranges}
use Rattle.code.specs.Meaning.{CodeMeaning, CodeLaws, Reached}
use Rattle.mapping.specs.Meaning.{MappingMeaning, MappingLaws, Holding}
use Rattle.link.specs.Frames.{frame_length, row_at}
use Rattle.link.specs.Line.{line_length, BeginsLine}
use Rattle.link.specs.Refusal.{mapping_fits}
use Rattle.link.specs.RowMending.{FirstMended, Verdict}
use Rattle.link.specs.ReceiverSteps.{at_row}
use Rattle.link.specs.declared.mending.RowFault.{RowFault}
use Rattle.link.specs.declared.reception.NextAnswer.{NextAnswer}
use Rattle.link.proofs.Lengths.{line_some}
use Rattle.link.proofs.Tables.{MappingSizes, mapping_sizes}
use Rattle.link.specs.SenderHistory.{frames_put, line_sent}
use Rattle.promise.specs.ReceiverHistory.{ReceiverCall, feed, next, show, octets_taken, since, nexts}
use Rattle.promise.specs.Reception.{OtherwiseCovered, AlteredWithin, AlteredThroughout, taken_with}
use Rattle.promise.specs.Promise.{Behind, Arrives, Delivers, Lost, Link, Arrival, RideThrough, NoLongerFade}
use Rattle.promise.proofs.ArrivedBlock.{one_arrival}
use Rattle.promise.proofs.Found.{RowFound, Finds}
use Rattle.promise.proofs.Heard.{block_base}
use Rattle.link.proofs.LineSent.{sends_line}
use Rattle.promise.proofs.RowsMended.{row_valid, frame_back, other_frame}

nexts_append : (xs ys : List ReceiverCall) → nexts (xs ++ ys) ≡ nexts xs + nexts ys
unfolding nexts
nexts_append [] ys = omega arith
nexts_append (feed input r ∷ xs) ys = nexts_append xs ys
nexts_append (next (Ok answer) ∷ xs) ys = let rest = nexts_append xs ys in omega arith
nexts_append (next (Err fault) ∷ xs) ys = nexts_append xs ys
nexts_append (show r ∷ xs) ys = nexts_append xs ys

nexts_next : (answer : NextAnswer) (calls : List ReceiverCall) → nexts (next (Ok answer) ∷ calls) ≡ nexts calls + 1
unfolding nexts
nexts_next answer calls = refl

-- what is said of each call behind a block says more, and the block's end told otherwise
behind_as : {e e' : ℕ} {calls : List ReceiverCall} {A B : List ReceiverCall → ReceiverCall → Type 0}
    → e ≡ e' → ((between : List ReceiverCall) (call : ReceiverCall) → A between call → B between call) → Behind e calls A → Behind e' calls B
behind_as {calls} {B} same says behind = subst (λ k. Behind k calls B) same (record {
  later = behind.later;
  earlier = behind.earlier;
  split = behind.split;
  stopped = behind.stopped;
  each = λ after call between e. says between call (behind.each after call between e);
})

-- a row answered as valid has each word mended
mended_if_valid : (code : CodeMeaning) (depth i : ℕ) (before after : List ℕ) (valid : Result Unit RowFault)
    → Verdict code depth depth before after valid → at_row valid i ≡ Ok tt → FirstMended code depth depth before after
mended_if_valid code depth i before after (Ok u) all e = all
mended_if_valid code depth i before after (Err fault) some e = let z : ◌≡◌ {A = ℕ} 0 1 = cc in absurd (omega arith)

-- what calls find behind block b of a link
abbrev pub FindsBlock : (s : Settings) (code : CodeMeaning) (m : MappingMeaning) → Link s code m → ℕ → Type 0
FindsBlock s code m link b =
    Behind (block_base s link.reception b + line_length s) link.receiver_calls (Finds s m (octets_taken link.receiver_calls) (block_base s link.reception b) code)

module _ (s : Settings) (code : CodeMeaning) (m : MappingMeaning) (codes : CodeLaws code) (laws : MappingLaws m) (fit : mapping_fits s m ≡ true) where
  sizes : MappingSizes s m
  sizes = mapping_sizes s m fit

  module _ (link : Link s code m) (b : ℕ) (covered : OtherwiseCovered s link.reception (resync_length s) b) (found : FindsBlock s code m link b) where
    line : BeginsLine s code m (frames_put link.sender_calls) (line_sent link.sender_calls)
    line = sends_line s code m (line_some s) (ranges s).rows_low link.sender_calls link.sender link.sender_memory link.sending

    block_end : block_base s link.reception b + line_length s ≡ taken_with s link.reception b
    block_end = omega (arith, covered.whole.0)

    abbrev Found : List ReceiverCall → ReceiverCall → Type 0
    Found = Finds s m (octets_taken link.receiver_calls) (block_base s link.reception b) code

    arrives : (between : List ReceiverCall) (call : ReceiverCall) → Found between call → Arrives s between call
    arrives between (feed input (Ok answer)) f = f
    arrives between (feed input (Err fault)) f = tt
    arrives between (next (Ok answer)) f = λ low. (f low).0
    arrives between (next (Err fault)) f = f
    arrives between (show (Ok octets)) f = tt
    arrives between (show (Err fault)) f = tt

    pub block_arrives : Behind (taken_with s link.reception b) link.receiver_calls (Arrives s)
    block_arrives = behind_as block_end arrives found

    module _ (from : ℕ) (within : AlteredWithin s link.reception b from (m.fade code.reach)) where
      delivers : (between : List ReceiverCall) (call : ReceiverCall) → Found between call → Delivers s (frames_put link.sender_calls) b between call
      delivers between (feed input (Ok answer)) f = f
      delivers between (feed input (Err fault)) f = tt
      delivers between (next (Ok answer)) f = λ low.
          let (row_is, (row, valid, at, valid_is)) = f low in (
            row_is,
            valid_is ∙ ap (λ v. at_row v (nexts between))
                (row_valid s code m codes laws sizes (frames_put link.sender_calls) line link.reception b covered.whole at.memory at.arrived from within (nexts between) low row answer.altered valid at.mended),
          )
      delivers between (next (Err fault)) f = f
      delivers between (show (Ok octets)) f = λ i low count.
          let (row, altered, valid, at, octets-are) = f i low count in
          octets-are ∙ frame_back s code m codes laws sizes (frames_put link.sender_calls) line link.reception b covered.whole at.memory at.arrived from within i low row altered valid at.mended
      delivers between (show (Err fault)) f = f

      pub block_delivered : Behind (taken_with s link.reception b) link.receiver_calls (Delivers s (frames_put link.sender_calls) b)
      block_delivered = behind_as block_end delivers found

    module _ (n held : ℕ) (run : Holding m n held) (throughout : AlteredThroughout s link.reception b run.start n) (over : code.reach < held) where
      row_inside : run.row < s.rows
      row_inside = omega (arith, run.row_is, sizes.rows_is)

      word_inside : run.word < s.depth
      word_inside = omega (arith, run.word_is, sizes.depth_is)

      -- the row as a call finds it
      abbrev FoundRow : List ℕ → ℕ → Result Unit RowFault → Type 0
      FoundRow = RowFound s m (octets_taken link.receiver_calls) (block_base s link.reception b) code run.row

      -- a row in which the word is mended does not begin with the frame put, whichever call finds it
      other_found : {row row' : List ℕ} {count count' : ℕ} {valid valid' : Result Unit RowFault} (at : FoundRow row count valid) (at' : FoundRow row' count' valid')
          → Reached code (word_of s.depth run.word (row_at s run.row at.memory)) (word_of s.depth run.word row)
          → take (frame_length s.depth code) row' ≡ get_or (frames_put link.sender_calls) (b * s.rows + run.row) [] → ⊥
      other_found {row} {row'} at at' to begins =
          let one : at.memory ≡ at'.memory =
          one_arrival s code m (frames_put link.sender_calls) line link.reception b covered.whole laws sizes at.memory at'.memory at.arrived at'.arrived in
          elim (at'.mended.words run.word word_inside) [
            | inl to' ↦ other_frame s code m codes laws sizes (frames_put link.sender_calls) line link.reception b covered.whole at'.memory at'.arrived n held run throughout over row' to' begins
            | inr none ↦ none.0 (word_of s.depth run.word row)
                (subst (λ x. Reached code (word_of s.depth run.word (row_at s run.row x)) (word_of s.depth run.word row)) one to)
          ]

      pub row_lost : Lost s (frames_put link.sender_calls) b run.row (since (taken_with s link.reception b) link.receiver_calls)
      row_lost after between answer split count =
          let calls : List ReceiverCall = next (Ok answer) ∷ between in
          let behind : since (block_base s link.reception b + line_length s) link.receiver_calls ≡ after ++ calls =
          ap (λ k. since k link.receiver_calls) block_end ∙ split in
          let (row_is, (row, valid, at_next, valid_is)) = found.each after (next (Ok answer)) between behind (omega (arith, count, row_inside)) in
          let at : FoundRow row answer.altered valid =
          subst (λ k. RowFound s m (octets_taken link.receiver_calls) (block_base s link.reception b) code k row answer.altered valid) count at_next in
          elim (at.mended.words run.word word_inside) [
            | inl to ↦ inr (λ late till octets cut none same.
                let shown : since (block_base s link.reception b + line_length s) link.receiver_calls ≡ late ++ (show (Ok octets) ∷ (till ++ calls)) =
                behind ∙ ap (λ xs. xs ++ calls) cut ∙ append_assoc late (show (Ok octets) ∷ till) calls in
                let counted : nexts (till ++ calls) ≡ run.row + 1 = nexts_append till calls ∙ omega (arith, none, count, nexts_next answer between) in
                let (row', altered', valid', at', octets-are) = found.each late (show (Ok octets)) (till ++ calls) shown run.row row_inside counted in
                other_found at at' to (sym octets-are ∙ same))
            | inr none ↦ inl (λ as-valid. none.0 (word_of s.depth run.word row)
                (mended_if_valid code s.depth (nexts between) (row_at s run.row at.memory) row valid at.mended.verdict (sym valid_is ∙ as-valid) run.word word_inside))
          ]

  -- ---- the laws, from what calls find behind each block otherwise covered

  module _ (found : (link : Link s code m) (b : ℕ) → OtherwiseCovered s link.reception (resync_length s) b → FindsBlock s code m link b) where
    pub arrival : Arrival s code m (resync_length s)
    arrival link b covered = block_arrives link b covered (found link b covered)

    pub ride_through : RideThrough s code m (m.fade code.reach) (resync_length s)
    ride_through link b covered = block_delivered link b covered.otherwise (found link b covered.otherwise) covered.from covered.within

    pub no_longer_fade : NoLongerFade s code m (m.fade code.reach) (resync_length s)
    no_longer_fade =
        let run = laws.tight code.reach codes.reach_bounded in
        record {
          start = run.start;
          row = run.row;
          run_inside = omega (arith, run.within, sizes.block_is);
          row_inside = omega (arith, run.row_is, sizes.rows_is);
          lost = λ link b covered throughout.
              row_lost link b covered (found link b covered) (m.fade code.reach + 1) (code.reach + 1) run throughout (omega arith);
        }
