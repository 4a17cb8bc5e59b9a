-- Frames wait just where the octets taken end with a block's last octet and not all nexts are made: so every call is refused as the table says.
use Rattle.std.proofs.Common.{◌≡◌, ℕ, ◌+◌, ◌-◌, ◌<◌, ◌≤◌, Bool, true, false, cond, ◌&&◌, List, [], ◌∷◌, ◌++◌, length, get_or, take, Ok, Err, Option, Result, sym, refl, ap, ◌∙◌, ⊎_elim, append-nil, arith, length-append}
use Rattle.std.proofs.Math.Bool.{and-true}
use Rattle.std.proofs.lemmas.List.{take_more, length-take-le}
use Rattle.std.proofs.lemmas.Bool.{cases_lt, cases_Bool, le-ltb}
use Rattle.settings.specs.declared.Settings.{Settings}
use Rattle.code.specs.Meaning.{CodeMeaning}
use Rattle.mapping.specs.Meaning.{MappingMeaning}
use Rattle.link.specs.Refusal.{memory_fits, mapping_fits}
use Rattle.link.specs.ReceiverRefusal.{frames_wait, feed_refusal, show_refusal}
use Rattle.link.specs.Rules.{empty_window, mode_after, block_ends}
use Rattle.link.specs.Feeding.{fed}
use Rattle.link.specs.ReceiverSteps.{FeedStep, NextStep, ShowStep}
use Rattle.link.specs.declared.receiving.Mode.{Mode}
use Rattle.link.specs.declared.receiving.Mode.TheVariants.{Hunting}
use Rattle.link.specs.declared.receiving.ReceiverState.{ReceiverState}
use Rattle.link.specs.declared.reception.FeedFault.{FeedFault}
use Rattle.link.specs.declared.reception.NextFault.{NextFault}
use Rattle.link.specs.declared.reception.ShowFault.{ShowFault}
use Rattle.link.specs.declared.reception.NextAnswer.{NextAnswer}
use Rattle.link.specs.declared.report.Report.{Report}
use Rattle.promise.specs.ReceiverHistory.{ReceiverCall, feed, next, show, ReceiverHistory, made, feed_next, next_next, show_next, octets_taken, since, nexts, latest_is_next}
use Rattle.promise.specs.ReceiverLaws.{last_ends_block, frames_wait_after, feed_refusal_if, next_refusal_if, FeedAnswered, NextAnswered, ShowAnswered, ReceiverRefusals}
use Rattle.promise.proofs.Modes.{mode_behind}
use Rattle.link.proofs.ReceiverTables.{feed_fits, next_fits}
use Rattle.promise.proofs.Fed.{fed_facts}
use Rattle.promise.proofs.Hearing.{Heard, heard_run}
use Rattle.promise.proofs.Since.{since_more, since_none}

-- ---- the last octet

module _ (s : Settings) where
  last_ends_push : (told : Bool) (mode : Mode) (xs : List ℕ) (x : ℕ) → last_ends_block s told mode (xs ++ (x ∷ [])) ≡ block_ends s (mode_behind s mode xs)
  unfolding last_ends_block mode_behind
  last_ends_push told mode [] x = refl
  last_ends_push told mode (y ∷ ys) x = last_ends_push (block_ends s mode) (mode_after s mode y) ys x

  last_ends_append : (told : Bool) (mode : Mode) (xs ys : List ℕ) → last_ends_block s told mode (xs ++ ys) ≡ last_ends_block s (last_ends_block s told mode xs) (mode_behind s mode xs) ys
  unfolding last_ends_block mode_behind
  last_ends_append told mode [] ys = refl
  last_ends_append told mode (x ∷ xs) ys = last_ends_append (block_ends s mode) (mode_after s mode x) xs ys

  -- ---- whether frames wait, told by the calls

  abbrev ended_by : List ℕ → Bool
  ended_by xs = last_ends_block s false (Hunting empty_window) xs

  abbrev nexts_since : List ReceiverCall → ℕ
  nexts_since calls = nexts (since (length (octets_taken calls)) calls)

  -- what the state counts
  record Counts (calls : List ReceiverCall) (a : ReceiverState) : Type 0 where
    ended : ended_by (octets_taken calls) ≡ true → a.answered ≡ nexts_since calls
    not_ended : ended_by (octets_taken calls) ≡ false → s.rows ≤ a.answered

  frames_wait_lem : (calls : List ReceiverCall) (a : ReceiverState) → Counts calls a → frames_wait_after s calls ≡ frames_wait s a.answered
  frames_wait_lem calls a c =
      ⊎_elim
      (λ t. ap (λ (b : Bool). b && frames_wait s (nexts_since calls)) t ∙ ap (frames_wait s) (sym (c.ended t)))
      (λ f. ap (λ (b : Bool). b && frames_wait s (nexts_since calls)) f ∙ sym (le-ltb a.answered s.rows (c.not_ended f)))
      (cases_Bool (ended_by (octets_taken calls)))

  -- a call that takes no octet is one of those since the last octet
  since_still : (calls : List ReceiverCall) (new : ReceiverCall) → octets_taken (new ∷ calls) ≡ octets_taken calls
      → since (length (octets_taken (new ∷ calls))) (new ∷ calls) ≡ new ∷ since (length (octets_taken calls)) calls
  since_still calls new e =
      ap (λ (xs : List ℕ). since (length xs) (new ∷ calls)) e ∙ since_more (length (octets_taken calls)) calls new (omega arith)

  -- a call that takes no octet and answers no row
  counts_still : (calls : List ReceiverCall) (new : ReceiverCall) (a b : ReceiverState) → octets_taken (new ∷ calls) ≡ octets_taken calls
      → nexts (new ∷ since (length (octets_taken calls)) calls) ≡ nexts_since calls → b.answered ≡ a.answered → Counts calls a → Counts (new ∷ calls) b
  counts_still calls new a b e n p c = record {
    ended = λ t. p ∙ c.ended (ap ended_by (sym e) ∙ t) ∙ sym n ∙ ap nexts (sym (since_still calls new e));
    not_ended = λ f. let z = c.not_ended (ap ended_by (sym e) ∙ f) in omega arith;
  }

module _ (s : Settings) (code : CodeMeaning) (m : MappingMeaning) where
  counts_feed : (calls : List ReceiverCall) (a b : ReceiverState) (memory memory' input : List ℕ) (r : Result (ℕ × Option Report) FeedFault) → FeedStep s m a memory input r b memory'
      → Heard s calls a → Counts s calls a → Counts s (feed input r ∷ calls) b
  unfolding octets_taken nexts
  counts_feed calls a b memory memory' input (Ok answer) p hd c =
      let t = fed_facts s m 0 a.mode memory input in
      let n-is : answer.0 ≡ t.k = p.taken ∙ t.taken_is ∙ omega arith in
      let fit = feed_fits s m a.answered memory p.accepted in
      let now : b.answered ≡ cond (fed s m a.mode memory input).ended 0 a.answered = ap (λ (v : ReceiverState). v.answered) p.after in
      ⊎_elim
      (λ (nothing : t.k < 1).
      let k0 : t.k ≡ 0 = omega arith in
      let same : octets_taken calls ++ take answer.0 input ≡ octets_taken calls = ap (λ (n : ℕ). octets_taken calls ++ take n input) (n-is ∙ k0) ∙ append-nil (octets_taken calls) in
      counts_still s calls (feed input (Ok answer)) a b same refl (now ∙ ap (λ (v : Bool). cond v 0 a.answered) (t.none k0).1) c)
      (λ (some : 1 ≤ t.k).
      let i : ℕ = t.k - 1 in
      let last : i + 1 ≡ t.k = omega arith in
      let front : take answer.0 input ≡ take i input ++ (get_or input i 0 ∷ []) = ap (λ (n : ℕ). take n input) (n-is ∙ sym last) ∙ take_more input i 0 (omega (arith, t.few)) in
      let ends : ended_by s (octets_taken calls ++ take answer.0 input) ≡ (fed s m a.mode memory input).ended =
      last_ends_append s false (Hunting empty_window) (octets_taken calls) (take answer.0 input)
      ∙ ap (last_ends_block s (ended_by s (octets_taken calls)) (mode_behind s (Hunting empty_window) (octets_taken calls))) front
      ∙ last_ends_push s (ended_by s (octets_taken calls)) (mode_behind s (Hunting empty_window) (octets_taken calls)) (take i input) (get_or input i 0)
      ∙ ap (λ (md : Mode). block_ends s (mode_behind s md (take i input))) (sym hd.mode_is) ∙ sym (t.last i last).1 in
      let longer : length (octets_taken calls) < length (octets_taken calls ++ take answer.0 input) =
      omega (arith, length-append (octets_taken calls) (take answer.0 input), ap (λ (n : ℕ). length (take n input)) n-is, length-take-le t.k input t.few) in
      record {
        ended = λ yes-ended. now ∙ ap (λ (v : Bool). cond v 0 a.answered) (sym ends ∙ yes-ended)
            ∙ sym (ap nexts (since_none (length (octets_taken calls ++ take answer.0 input)) calls (feed input (Ok answer)) longer));
        not_ended = λ no_end.
            let z : b.answered ≡ a.answered = now ∙ ap (λ (v : Bool). cond v 0 a.answered) (sym ends ∙ no_end) in
            omega (arith, fit.1);
      })
      (cases_lt t.k 1)
  counts_feed calls a b memory memory' input (Err fault) (e, p, q) hd c =
      counts_still s calls (feed input (Err fault)) a b refl refl (ap (λ (v : ReceiverState). v.answered) p) c

  counts_next : (calls : List ReceiverCall) (a b : ReceiverState) (memory memory' : List ℕ) (r : Result NextAnswer NextFault) → NextStep s code a memory r b memory'
      → Counts s calls a → Counts s (next r ∷ calls) b
  unfolding octets_taken nexts
  counts_next calls a b memory memory' (Ok answer) p c =
      let fit = next_fits s a.answered memory p.accepted in
      let up : b.answered ≡ a.answered + 1 = ap (λ (v : ReceiverState). v.answered) p.after in
      record {
        ended = λ t. up ∙ ap (λ (n : ℕ). n + 1) (c.ended t) ∙ sym (ap nexts (since_still s calls (next (Ok answer)) refl));
        not_ended = λ f. let z = c.not_ended f in absurd (omega (arith, fit.1));
      }
  counts_next calls a b memory memory' (Err fault) (e, p, q) c =
      counts_still s calls (next (Err fault)) a b refl refl (ap (λ (v : ReceiverState). v.answered) p) c

  counts : {calls : List ReceiverCall} {b : ReceiverState} {memory : List ℕ} → ReceiverHistory s code m calls b memory → Counts s calls b
  unfolding octets_taken nexts last_ends_block
  counts (made memory) = record { ended = λ t. (let z : ◌≡◌ {A = ℕ} 0 1 = cc in absurd (omega arith)); not_ended = λ f. omega arith }
  counts (feed_next history p) = counts_feed _ _ _ _ _ _ _ p (heard_run s code m history) (counts history)
  counts (next_next history p) = counts_next _ _ _ _ _ _ p (counts history)
  counts (show_next {calls = calls} {a = a} {r = r} history p) = counts_still s calls (show r) a a refl refl refl (counts history)

  -- ---- the table

  -- of a mapping that fits, the checks of feed are the table's
  feed_by_table : (answered : ℕ) (memory : List ℕ) → mapping_fits s m ≡ true → feed_refusal s m answered memory ≡ feed_refusal_if s (frames_wait s answered) memory
  feed_by_table answered memory fits = rw fits (rw (and-true (memory_fits s memory)) refl)

  feed_answered : (calls : List ReceiverCall) (a b : ReceiverState) (memory memory' input : List ℕ) (r : Result (ℕ × Option Report) FeedFault) → mapping_fits s m ≡ true
      → frames_wait_after s calls ≡ frames_wait s a.answered → FeedStep s m a memory input r b memory' → FeedAnswered s calls a memory r b memory'
  feed_answered calls a b memory memory' input (Ok answer) fits w p =
      ap (λ (v : Bool). feed_refusal_if s v memory) w ∙ sym (feed_by_table a.answered memory fits) ∙ p.accepted
  feed_answered calls a b memory memory' input (Err fault) fits w (e, p, q) =
      (ap (λ (v : Bool). feed_refusal_if s v memory) w ∙ sym (feed_by_table a.answered memory fits) ∙ e, p, q)

  next_answered : (calls : List ReceiverCall) (a b : ReceiverState) (memory memory' : List ℕ) (r : Result NextAnswer NextFault)
      → frames_wait_after s calls ≡ frames_wait s a.answered → NextStep s code a memory r b memory' → NextAnswered s calls a memory r b memory'
  next_answered calls a b memory memory' (Ok answer) w p = ap (λ (v : Bool). next_refusal_if s v memory) w ∙ p.accepted
  next_answered calls a b memory memory' (Err fault) w (e, p, q) = (ap (λ (v : Bool). next_refusal_if s v memory) w ∙ e, p, q)

  show_answered : (calls : List ReceiverCall) (a : ReceiverState) (memory : List ℕ) (r : Result (List ℕ) ShowFault)
      → latest_is_next calls ≡ a.after_next → ShowStep s code a memory r → ShowAnswered s calls memory r
  show_answered calls a memory (Ok octets) l (e, is) = ap (λ (v : Bool). show_refusal s v memory) l ∙ e
  show_answered calls a memory (Err fault) l e = ap (λ (v : Bool). show_refusal s v memory) l ∙ e

  pub receiver_refusals : mapping_fits s m ≡ true → ReceiverRefusals s code m
  receiver_refusals fits = record {
    of_feed = λ calls a b memory memory' input r history step. feed_answered calls a b memory memory' input r fits (frames_wait_lem s calls a (counts history)) step;
    of_next = λ calls a b memory memory' r history step. next_answered calls a b memory memory' r (frames_wait_lem s calls a (counts history)) step;
    of_show = λ calls a memory r history step. show_answered calls a memory r (sym (heard_run s code m history).latest) step;
  }
