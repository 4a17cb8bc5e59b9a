-- Behind a block heard in step with the line: what every call of a history finds.
use Rattle.std.proofs.Common.{◌≡◌, ℕ, ◌+◌, ◌<◌, ◌≤◌, Bool, true, false, cond, List, [], ◌∷◌, ◌++◌, length, take, Ok, Err, Option, Result, sym, refl, ap, ◌∙◌, subst, inl, ⊎_elim, append_assoc, append-nil, arith, length-append}
use Rattle.std.proofs.lemmas.List.{length-take-le}
use Rattle.std.proofs.lemmas.Bool.{cases_lt}
use Rattle.settings.specs.declared.Settings.{Settings}
use Rattle.settings.specs.Lengths.{block_length}
use Rattle.code.specs.Meaning.{CodeMeaning}
use Rattle.mapping.specs.Meaning.{MappingMeaning, MappingLaws}
use Rattle.link.specs.Line.{line_length}
use Rattle.link.specs.Refusal.{mapping_fits}
use Rattle.link.specs.Rules.{block_ends}
use Rattle.link.specs.ReceiverSteps.{FeedStep, NextStep}
use Rattle.link.specs.declared.receiving.ReceiverState.{ReceiverState}
use Rattle.link.specs.declared.reception.FeedFault.{FeedFault}
use Rattle.link.specs.declared.reception.NextFault.{NextFault}
use Rattle.link.specs.declared.reception.NextAnswer.{NextAnswer}
use Rattle.link.specs.declared.report.Report.{Report}
use Rattle.link.proofs.Lengths.{line_some}
use Rattle.promise.specs.ReceiverHistory.{ReceiverCall, feed, next, show, ReceiverHistory, made, feed_next, next_next, show_next, octets_taken, since, nexts}
use Rattle.promise.specs.Promise.{Behind}
use Rattle.promise.proofs.Modes.{mode_at}
use Rattle.promise.proofs.Found.{Stored, Finds}
use Rattle.link.proofs.ReceiverTables.{feed_fits, next_fits}
use Rattle.promise.proofs.Fed.{fed_facts}
use Rattle.promise.proofs.Hearing.{Heard, heard_run, mode_at_front}
use Rattle.promise.proofs.BlockEnd.{InDataAt, InMarkersAt, no_end_within}
use Rattle.promise.proofs.Stored.{length_memory_behind}
use Rattle.promise.proofs.Since.{since_more, since_none, EachSince, each_none, each_more, latest_since}
use Rattle.promise.proofs.RowsFound.{RowsFound, none_mended}
use Rattle.promise.proofs.BehindBlock.{BehindBlock, next_behind, next_finds, show_finds}
use Rattle.promise.proofs.BlockFed.{fed_no_further, fed_ends, fed_stores}

-- the octets of T behind those taken before a feed, from those behind the ones taken after it
rest_before : List ℕ → Result (ℕ × Option Report) FeedFault → List ℕ → List ℕ
rest_before input (Ok answer) rest = take answer.0 input ++ rest
rest_before input (Err fault) rest = rest

whole_before : {T : List ℕ} (calls : List ReceiverCall) (input : List ℕ) (r : Result (ℕ × Option Report) FeedFault) (rest : List ℕ)
    → octets_taken (feed input r ∷ calls) ++ rest ≡ T → octets_taken calls ++ rest_before input r rest ≡ T
unfolding octets_taken rest_before
whole_before calls input (Ok answer) rest e = sym (append_assoc (octets_taken calls) (take answer.0 input) rest) ∙ e
whole_before calls input (Err fault) rest e = e

module _ (s : Settings) (m : MappingMeaning) (T : List ℕ) (base : ℕ) (code : CodeMeaning) where
  -- behind the block's last octet
  abbrev end : ℕ
  end = base + line_length s

  abbrev nexts_behind : List ReceiverCall → ℕ
  nexts_behind calls = nexts (since end calls)

  -- Some of these calls led to the stop right behind the block.
  abbrev Stopped : List ReceiverCall → Type 0
  Stopped calls = (later earlier : List ReceiverCall) × (calls ≡ later ++ earlier) × (length (octets_taken earlier) ≡ end)

  -- what a history keeps whose octets taken are a beginning of T
  record Told (calls : List ReceiverCall) (a : ReceiverState) (memory : List ℕ) : Type 0 where
    early : length (octets_taken calls) < end → Stored s m T base (length (octets_taken calls)) memory
    behind : end ≤ length (octets_taken calls) → BehindBlock s m T base code (nexts_behind calls) a memory
    each : EachSince end (Finds s m T base code) calls
    stop : end ≤ length (octets_taken calls) → Stopped calls

  stop_more : (calls : List ReceiverCall) (new : ReceiverCall) → Stopped calls → Stopped (new ∷ calls)
  stop_more calls new (later, earlier, e, l) = (new ∷ later, earlier, ap (λ (xs : List ReceiverCall). new ∷ xs) e, l)

  -- a call that takes nothing and changes nothing
  told_idle : (calls : List ReceiverCall) (new : ReceiverCall) (a b : ReceiverState) (memory memory' : List ℕ) → octets_taken (new ∷ calls) ≡ octets_taken calls
      → nexts (new ∷ since end calls) ≡ nexts_behind calls → b ≡ a → memory' ≡ memory → (end ≤ length (octets_taken calls) → Finds s m T base code (since end calls) new)
      → Told calls a memory → Told (new ∷ calls) b memory'
  told_idle calls new a b memory memory' same count p q finds t =
      let len : length (octets_taken (new ∷ calls)) ≡ length (octets_taken calls) = ap length same in
      record {
        early = λ lt. subst (λ (n : ℕ). Stored s m T base n memory') (sym len)
            (subst (Stored s m T base (length (octets_taken calls))) (sym q) (t.early (omega arith)));
        behind = λ ge.
            let ge' : end ≤ length (octets_taken calls) = omega arith in
            let i-is : nexts_behind calls ≡ nexts_behind (new ∷ calls) = sym count ∙ ap nexts (sym (since_more end calls new ge')) in
            subst (λ (n : ℕ). BehindBlock s m T base code n b memory') i-is (rw (p, q) (t.behind ge'));
        each = each_more end (Finds s m T base code) calls new t.each finds;
        stop = λ ge. stop_more calls new (t.stop (omega arith));
      }

  -- a feed behind the block
  feed_late : (calls : List ReceiverCall) (a b : ReceiverState) (memory memory' input : List ℕ) (answer : ℕ × Option Report) → FeedStep s m a memory input (Ok answer) b memory'
      → end ≤ length (octets_taken calls) → Told calls a memory → Told (feed input (Ok answer) ∷ calls) b memory'
  unfolding octets_taken nexts
  feed_late calls a b memory memory' input answer p ge t =
      let f = fed_facts s m 0 a.mode memory input in
      let fit = feed_fits s m a.answered memory p.accepted in
      let all : s.rows ≤ nexts_behind calls =
      ⊎_elim (λ (lt : nexts_behind calls < s.rows). absurd (omega (arith, fit.1, ((t.behind ge).found (inl lt)).0))) (λ z. z) (cases_lt (nexts_behind calls) s.rows) in
      let i-is : nexts_behind (feed input (Ok answer) ∷ calls) ≡ nexts_behind calls = ap nexts (since_more end calls (feed input (Ok answer)) ge) in
      let off : b.after_next ≡ false = ap (λ (v : ReceiverState). v.after_next) p.after in
      record {
        early = λ lt. absurd (omega (arith, length-append (octets_taken calls) (take answer.0 input)));
        behind = λ ge'. record {
          room = ap length (p.stored ∙ f.memory_is) ∙ length_memory_behind s m a.mode memory (take f.k input) ∙ fit.0;
          found = λ z. absurd (⊎_elim (λ lt. omega arith) (λ top. let z : ◌≡◌ {A = ℕ} 0 1 = cc top.1 in omega arith) z);
        };
        each = each_more end (Finds s m T base code) calls (feed input (Ok answer)) t.each (λ z. all);
        stop = λ z. stop_more calls (feed input (Ok answer)) (t.stop ge);
      }

module _ (s : Settings) (code : CodeMeaning) (m : MappingMeaning) (laws : MappingLaws m) (information_fits : code.information ≤ 255) (fits : mapping_fits s m ≡ true)
    (T : List ℕ) (base : ℕ)
    (reads_at : InDataAt s T base) (checks_at : InMarkersAt s T base) where
  -- a feed before the block's end
  feed_early : (calls : List ReceiverCall) (a b : ReceiverState) (memory memory' input rest : List ℕ) (answer : ℕ × Option Report) → FeedStep s m a memory input (Ok answer) b memory'
      → length (octets_taken calls) < end s m T base code → (octets_taken calls ++ take answer.0 input) ++ rest ≡ T → Heard s calls a → Told s m T base code calls a memory
      → Told s m T base code (feed input (Ok answer) ∷ calls) b memory'
  unfolding octets_taken nexts
  feed_early calls a b memory memory' input rest answer p lt whole hd t =
      let E : ℕ = base + line_length s in
      let f = fed_facts s m 0 a.mode memory input in
      let n-is : answer.0 ≡ f.k = p.taken ∙ f.taken_is ∙ omega arith in
      let fit = feed_fits s m a.answered memory p.accepted in
      let whole' : (octets_taken calls ++ take f.k input) ++ rest ≡ T = subst (λ (n : ℕ). (octets_taken calls ++ take n input) ++ rest ≡ T) n-is whole in
      let far : length (octets_taken calls) + f.k ≤ E = fed_no_further s m laws fits T base reads_at checks_at calls a memory input rest hd f whole' lt in
      let len : length (octets_taken calls ++ take answer.0 input) ≡ length (octets_taken calls) + f.k =
      length-append (octets_taken calls) (take answer.0 input) ∙ ap (λ (n : ℕ). length (octets_taken calls) + length (take n input)) n-is
      ∙ ap (λ (n : ℕ). length (octets_taken calls) + n) (length-take-le f.k input f.few) in
      let st : Stored s m T base (length (octets_taken calls) + f.k) memory' =
      subst (Stored s m T base (length (octets_taken calls) + f.k)) (sym p.stored) (fed_stores s m laws fits T base reads_at checks_at calls a memory input rest hd f whole' lt fit.0 (t.early lt)) in
      let room : length memory' ≡ block_length s = ap length (p.stored ∙ f.memory_is) ∙ length_memory_behind s m a.mode memory (take f.k input) ∙ fit.0 in
      let none : nexts_behind s m T base code (feed input (Ok answer) ∷ calls) ≡ 0 = ap nexts (since_none E calls (feed input (Ok answer)) lt) in
      record {
        early = λ z. subst (λ (n : ℕ). Stored s m T base n memory') (sym len) st;
        behind = λ ge.
            let at : length (octets_taken calls) + f.k ≡ E = omega arith in
            let zero_is : b.answered ≡ 0 =
            ap (λ (v : ReceiverState). v.answered) p.after ∙ ap (λ (v : Bool). cond v 0 a.answered) (fed_ends s m laws fits T base reads_at checks_at calls a memory input rest hd f whole' lt at) in
            record {
              room = room;
              found = λ z. (
                zero_is ∙ sym none,
                subst (λ (n : ℕ). RowsFound s m T base code n memory') (sym none)
                    (none_mended s m T base code memory' (record { room = room; stored = subst (λ (n : ℕ). Stored s m T base n memory') at st })),
              );
            };
        each = each_more E (Finds s m T base code) calls (feed input (Ok answer)) t.each (λ ge. absurd (omega arith));
        stop = λ ge. ([], feed input (Ok answer) ∷ calls, refl, omega arith);
      }

  told_feed : (calls : List ReceiverCall) (a b : ReceiverState) (memory memory' input rest : List ℕ) (r : Result (ℕ × Option Report) FeedFault) → FeedStep s m a memory input r b memory'
      → octets_taken (feed input r ∷ calls) ++ rest ≡ T → Heard s calls a → Told s m T base code calls a memory → Told s m T base code (feed input r ∷ calls) b memory'
  unfolding octets_taken nexts
  told_feed calls a b memory memory' input rest (Ok answer) p whole hd t =
      ⊎_elim
      (λ (lt : length (octets_taken calls) < base + line_length s). feed_early calls a b memory memory' input rest answer p lt whole hd t)
      (λ (ge : base + line_length s ≤ length (octets_taken calls)). feed_late s m T base code calls a b memory memory' input answer p ge t)
      (cases_lt (length (octets_taken calls)) (base + line_length s))
  told_feed calls a b memory memory' input rest (Err fault) (e, p, q) whole hd t =
      told_idle s m T base code calls (feed input (Err fault)) a b memory memory' refl refl p q (λ z. tt) t

  -- Before the block's end a next is accepted only before its first data: till then nothing is stored of it.
  next_early : (calls : List ReceiverCall) (a : ReceiverState) (memory rest : List ℕ) → a.answered < s.rows → octets_taken calls ++ rest ≡ T → Heard s calls a
      → length (octets_taken calls) < base + line_length s → Stored s m T base (length (octets_taken calls)) memory
  next_early calls a memory rest wait whole hd lt =
      ⊎_elim
      (λ (high : base + 7 < length (octets_taken calls)).
      let (i, at, over) = hd.waiting wait in
      let here : mode_at s T i ≡ mode_at s (octets_taken calls) i = ap (λ (xs : List ℕ). mode_at s xs i) (sym whole) ∙ mode_at_front s (octets_taken calls) rest i (omega arith) in
      let no_end : block_ends s (mode_at s T i) ≡ false = no_end_within s T base reads_at checks_at i (omega arith) (omega arith) in
      let ends : block_ends s (mode_at s T i) ≡ true = ap (block_ends s) here ∙ over in
      let z : ◌≡◌ {A = ℕ} 0 1 = cc in
      absurd (omega arith))
      (λ (low : length (octets_taken calls) ≤ base + 7). λ j p hj hp z. absurd (omega arith))
      (cases_lt (base + 7) (length (octets_taken calls)))

  told_next : (calls : List ReceiverCall) (a b : ReceiverState) (memory memory' rest : List ℕ) (r : Result NextAnswer NextFault) → NextStep s code a memory r b memory'
      → octets_taken calls ++ rest ≡ T → Heard s calls a → Told s m T base code calls a memory → Told s m T base code (next r ∷ calls) b memory'
  unfolding octets_taken nexts
  told_next calls a b memory memory' rest (Ok answer) p whole hd t =
      let E : ℕ = base + line_length s in
      record {
        early = next_early calls a memory' rest (next_fits s a.answered memory p.accepted).1 whole hd;
        behind = λ ge.
            subst (λ (n : ℕ). BehindBlock s m T base code n b memory') (sym (ap nexts (since_more E calls (next (Ok answer)) ge)))
            (next_behind s m T base code (nexts (since E calls)) a b memory memory' answer p (t.behind ge));
        each = each_more E (Finds s m T base code) calls (next (Ok answer)) t.each (λ ge. next_finds s m T base code (since E calls) a b memory memory' (Ok answer) p (t.behind ge));
        stop = λ ge. stop_more s m T base code calls (next (Ok answer)) (t.stop ge);
      }
  told_next calls a b memory memory' rest (Err fault) (e, p, q) whole hd t =
      told_idle s m T base code calls (next (Err fault)) a b memory memory' refl refl p q
      (λ ge. next_finds s m T base code (since (base + line_length s) calls) a b memory memory' (Err fault) (e, p, q) (t.behind ge)) t

  told_run : {calls : List ReceiverCall} {b : ReceiverState} {memory : List ℕ} → ReceiverHistory s code m calls b memory → (rest : List ℕ) → octets_taken calls ++ rest ≡ T → Told s m T base code calls b memory
  unfolding octets_taken nexts
  told_run (made memory) rest whole = record {
    early = λ lt j p hj hp z. absurd (omega arith);
    behind = λ ge. absurd (omega (arith, line_some s));
    each = each_none (base + line_length s) (Finds s m T base code);
    stop = λ ge. absurd (omega (arith, line_some s));
  }
  told_run (feed_next {calls = calls} {input = input} {r = r} history p) rest whole =
      told_feed _ _ _ _ _ _ rest _ p whole (heard_run s code m history) (told_run history (rest_before input r rest) (whole_before calls input r rest whole))
  told_run (next_next history p) rest whole = told_next _ _ _ _ _ rest _ p whole (heard_run s code m history) (told_run history rest whole)
  told_run (show_next {calls = calls} {a = a} {memory = memory} {r = r} history p) rest whole =
      let t = told_run history rest whole in
      told_idle s m T base code calls (show r) a a memory memory refl refl refl refl
      (λ ge. show_finds s m T base code (since (base + line_length s) calls) a memory r information_fits p
      (λ off. latest_since (base + line_length s) calls (sym (heard_run s code m history).latest ∙ off)) (t.behind ge)) t

  pub found_behind : {calls : List ReceiverCall} {a : ReceiverState} {memory : List ℕ} → ReceiverHistory s code m calls a memory → octets_taken calls ≡ T → base + line_length s ≤ length T
      → Behind (base + line_length s) calls (Finds s m T base code)
  found_behind {calls} history whole long =
      let t = told_run history [] (append-nil (octets_taken calls) ∙ whole) in
      let (later, earlier, split, stopped) = t.stop (omega (arith, ap length whole)) in
      record { later = later; earlier = earlier; split = split; stopped = stopped; each = t.each }
