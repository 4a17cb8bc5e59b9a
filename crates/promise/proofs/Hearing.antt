-- What each history of a receiver keeps: its mode is that of the octets taken, and its reports are those of the rules.
use Rattle.std.proofs.Common.{◌≡◌, ℕ, ◌+◌, ◌-◌, ◌<◌, ◌≤◌, Bool, true, false, cond, ◌⊎◌, List, [], ◌∷◌, ◌++◌, length, get_or, take, Some, None, Ok, Err, Option, Result, sym, refl, ap, ◌∙◌, subst, inl, inr, ⊎_elim, arith, length-append}
use lib.Seq.{take-append-add}
use Rattle.std.proofs.lemmas.List.{take-append-le, take-take, get_or_append_left, get_or-append-add, get_or-take, length-take-le}
use Rattle.std.proofs.lemmas.Bool.{cases_lt}
use Rattle.settings.specs.declared.Settings.{Settings}
use Rattle.code.specs.Meaning.{CodeMeaning}
use Rattle.mapping.specs.Meaning.{MappingMeaning}
use Rattle.link.specs.Rules.{empty_window, report_of, block_ends}
use Rattle.link.specs.Feeding.{fed}
use Rattle.link.specs.ReceiverSteps.{FeedStep, NextStep}
use Rattle.link.specs.declared.receiving.Mode.{Mode}
use Rattle.link.specs.declared.receiving.Mode.TheVariants.{Hunting}
use Rattle.link.specs.declared.receiving.ReceiverState.{ReceiverState}
use Rattle.link.specs.declared.reception.FeedFault.{FeedFault}
use Rattle.link.specs.declared.reception.NextFault.{NextFault}
use Rattle.link.specs.declared.reception.NextAnswer.{NextAnswer}
use Rattle.link.specs.declared.report.Report.{Report}
use Rattle.promise.specs.ReceiverHistory.{ReceiverCall, feed, next, ReceiverHistory, made, feed_next, next_next, show_next, octets_taken, report_at, reports, latest_is_next}
use Rattle.promise.specs.Reception.{Reception, Sound, AllSound}
use Rattle.promise.proofs.Modes.{mode_behind, mode_behind_append, mode_at, SoundCourse}
use Rattle.link.proofs.ReceiverTables.{feed_fits}
use Rattle.promise.proofs.Fed.{FedFacts, fed_facts}

-- ---- reports

-- this report is one of these
abbrev pub Among : (ℕ × Report) → List (ℕ × Report) → Type 0
Among x [] = ⊥
Among x (y ∷ ys) = (x ≡ y) ⊎ Among x ys

among_sound : {sent taken : List ℕ} (s : Settings) (h : Reception sent taken) (rs : List (ℕ × Report)) (e : ℕ) (r : Report)
    → Among (e, r) rs → AllSound s h rs → Sound s h r.kind e
among_sound s h [] e r i all = absurd i
among_sound s h (y ∷ ys) e r i all =
    ⊎_elim (λ (p : (e, r) ≡ y). subst (λ (z : ℕ × Report). Sound s h z.1.kind z.0) (sym p) all.0) (λ q. among_sound s h ys e r q all.1) i

among_earlier : (x : ℕ × Report) (o : Option Report) (place : ℕ) (rs : List (ℕ × Report)) → Among x rs → Among x (report_at o place ++ rs)
among_earlier x (Some r) place rs i = inr i
among_earlier x None place rs i = i

among_latest : (x : ℕ × Report) (o : Option Report) (r : Report) (place : ℕ) (rs : List (ℕ × Report)) → o ≡ Some r → x ≡ (place, r) → Among x (report_at o place ++ rs)
among_latest x o r place rs e p = subst (λ (v : Option Report). Among x (report_at v place ++ rs)) (sym e) (inl p)

-- ---- octets with more behind them

module _ (s : Settings) (xs ys : List ℕ) where
  pub mode_at_front : (e : ℕ) → e ≤ length xs → mode_at s (xs ++ ys) e ≡ mode_at s xs e
  mode_at_front e le = ap (mode_behind s (Hunting empty_window)) (take-append-le e xs ys le)

  pub mode_at_rest : (i : ℕ) → mode_at s (xs ++ ys) (length xs + i) ≡ mode_behind s (mode_behind s (Hunting empty_window) xs) (take i ys)
  mode_at_rest i = ap (mode_behind s (Hunting empty_window)) (take-append-add xs ys i) ∙ mode_behind_append s (Hunting empty_window) xs (take i ys)

-- The last of these octets is the last of a block in progress.
abbrev pub EndsBlock : Settings → List ℕ → Type 0
EndsBlock s xs = (i : ℕ) × (i + 1 ≡ length xs) × (block_ends s (mode_at s xs i) ≡ true)

-- ---- what each history keeps

module _ (s : Settings) where
  pub record Heard (calls : List ReceiverCall) (a : ReceiverState) : Type 0 where
    pub mode_is : a.mode ≡ mode_behind s (Hunting empty_window) (octets_taken calls)
    pub waiting : a.answered < s.rows → EndsBlock s (octets_taken calls)
    pub latest : a.after_next ≡ latest_is_next calls
    pub reported : (e : ℕ) → e < length (octets_taken calls) → (r : Report) → report_of s (mode_at s (octets_taken calls) e) (get_or (octets_taken calls) e 0) ≡ Some r
        → Among (e + 1, r) (reports calls)

  module _ (m : MappingMeaning) (calls : List ReceiverCall) (a : ReceiverState) (memory input : List ℕ) (hd : Heard calls a)
      (t : FedFacts s m 0 a.mode memory input (fed s m a.mode memory input)) where
    -- the octets taken, with those of the feed
    abbrev now : List ℕ
    now = octets_taken calls ++ take t.k input

    mode_now : (i : ℕ) → i ≤ t.k → mode_at s now (length (octets_taken calls) + i) ≡ mode_behind s a.mode (take i input)
    mode_now i le =
        mode_at_rest s (octets_taken calls) (take t.k input) i
        ∙ ap (mode_behind s (mode_behind s (Hunting empty_window) (octets_taken calls))) (take-take i t.k input le)
        ∙ ap (λ (md : Mode). mode_behind s md (take i input)) (sym hd.mode_is)

    octet_now : (i : ℕ) → i < t.k → get_or now (length (octets_taken calls) + i) 0 ≡ get_or input i 0
    octet_now i lt = get_or-append-add (octets_taken calls) (take t.k input) i 0 ∙ get_or-take t.k input i 0 lt

    length_now : length now ≡ length (octets_taken calls) + t.k
    length_now = length-append (octets_taken calls) (take t.k input) ∙ ap (λ (n : ℕ). length (octets_taken calls) + n) (length-take-le t.k input t.few)

    reported_now : (e : ℕ) → e < length now → (r : Report) → report_of s (mode_at s now e) (get_or now e 0) ≡ Some r
        → Among (e + 1, r) (report_at (fed s m a.mode memory input).report (length (octets_taken calls) + t.k) ++ reports calls)
    reported_now e lt r is =
        ⊎_elim
        (λ (old : e < length (octets_taken calls)).
        let same : report_of s (mode_at s now e) (get_or now e 0) ≡ report_of s (mode_at s (octets_taken calls) e) (get_or (octets_taken calls) e 0) =
        ap (λ (md : Mode). report_of s md (get_or now e 0)) (mode_at_front s (octets_taken calls) (take t.k input) e (omega arith))
        ∙ ap (report_of s (mode_at s (octets_taken calls) e)) (get_or_append_left (octets_taken calls) (take t.k input) 0 e old) in
        among_earlier (e + 1, r) _ _ (reports calls) (hd.reported e old r (sym same ∙ is)))
        (λ (new : length (octets_taken calls) ≤ e).
        let i : ℕ = e - length (octets_taken calls) in
        let at : e ≡ length (octets_taken calls) + i = omega arith in
        let inside : i < t.k = omega (arith, length_now) in
        let here : report_of s (mode_behind s a.mode (take i input)) (get_or input i 0) ≡ Some r =
        sym (ap (λ (md : Mode). report_of s md (get_or input i 0)) (mode_now i (omega arith)))
        ∙ sym (ap (report_of s (mode_at s now (length (octets_taken calls) + i))) (octet_now i inside))
        ∙ subst (λ (v : ℕ). report_of s (mode_at s now v) (get_or now v 0) ≡ Some r) at is in
        ⊎_elim
        (λ (mid : i + 1 < t.k). let z : ◌≡◌ {A = ℕ} 0 1 = cc (t.quiet i mid).0 in absurd (omega arith))
        (λ (end : t.k ≤ i + 1).
        among_latest (e + 1, r) (fed s m a.mode memory input).report r (length (octets_taken calls) + t.k) (reports calls)
        ((t.last i (omega arith)).0 ∙ here) (ap (λ (n : ℕ). (n, r)) (omega arith)))
        (cases_lt (i + 1) t.k))
        (cases_lt e (length (octets_taken calls)))

    ends_now : (fed s m a.mode memory input).ended ≡ true → EndsBlock s now
    ends_now e =
        ⊎_elim
        (λ (nothing : t.k < 1). let z : ◌≡◌ {A = ℕ} 0 1 = cc (t.none (omega arith)).1 in absurd (omega arith))
        (λ (some : 1 ≤ t.k).
        let i : ℕ = t.k - 1 in
        (length (octets_taken calls) + i, omega (arith, length_now), ap (block_ends s) (mode_now i (omega arith)) ∙ sym (t.last i (omega arith)).1 ∙ e))
        (cases_lt t.k 1)

  cond_low : (b : Bool) (x n : ℕ) → n ≤ x → cond b 0 x < n → b ≡ true
  cond_low true x n h lt = refl
  cond_low false x n h lt = absurd (omega arith)

  -- a call that takes no octet
  heard_still : (calls : List ReceiverCall) (new : ReceiverCall) (a b : ReceiverState) → octets_taken (new ∷ calls) ≡ octets_taken calls → reports (new ∷ calls) ≡ reports calls
      → b.mode ≡ a.mode → (b.answered < s.rows → a.answered < s.rows) → b.after_next ≡ latest_is_next (new ∷ calls) → Heard calls a → Heard (new ∷ calls) b
  heard_still calls new a b same_taken same-reports same-mode fewer now-latest h = record {
    mode_is = same-mode ∙ h.mode_is ∙ ap (mode_behind s (Hunting empty_window)) (sym same_taken);
    waiting = λ lt. subst (EndsBlock s) (sym same_taken) (h.waiting (fewer lt));
    latest = now-latest;
    reported = λ e lt r is. subst (Among (e + 1, r)) (sym same-reports)
        (h.reported e (subst (λ (xs : List ℕ). e < length xs) same_taken lt) r (subst (λ (xs : List ℕ). report_of s (mode_at s xs e) (get_or xs e 0) ≡ Some r) same_taken is));
  }

  -- a call that changes nothing
  heard_idle : (calls : List ReceiverCall) (new : ReceiverCall) (a b : ReceiverState) → octets_taken (new ∷ calls) ≡ octets_taken calls → reports (new ∷ calls) ≡ reports calls
      → latest_is_next (new ∷ calls) ≡ latest_is_next calls → b ≡ a → Heard calls a → Heard (new ∷ calls) b
  heard_idle calls new a b same_taken same-reports same-latest same h =
      heard_still calls new a b same_taken same-reports (ap (λ (v : ReceiverState). v.mode) same) (λ lt. rw same at lt) (ap (λ (v : ReceiverState). v.after_next) same ∙ h.latest ∙ sym same-latest) h

module _ (s : Settings) (code : CodeMeaning) (m : MappingMeaning) where
  heard_feed : (calls : List ReceiverCall) (a b : ReceiverState) (memory memory' input : List ℕ) (r : Result (ℕ × Option Report) FeedFault) → FeedStep s m a memory input r b memory'
      → Heard s calls a → Heard s (feed input r ∷ calls) b
  unfolding octets_taken reports latest_is_next
  heard_feed calls a b memory memory' input (Ok answer) p h =
      let t = fed_facts s m 0 a.mode memory input in
      let n-is : answer.0 ≡ t.k = p.taken ∙ t.taken_is ∙ omega arith in
      let fits = feed_fits s m a.answered memory p.accepted in
      rw p.after (record {
        mode_is = t.mode_is ∙ ap (λ (md : Mode). mode_behind s md (take t.k input)) h.mode_is ∙ sym (mode_behind_append s (Hunting empty_window) (octets_taken calls) (take t.k input))
            ∙ ap (λ (n : ℕ). mode_behind s (Hunting empty_window) (octets_taken calls ++ take n input)) (sym n-is);
        waiting = λ lt. subst (λ (n : ℕ). EndsBlock s (octets_taken calls ++ take n input)) (sym n-is)
            (ends_now s m calls a memory input h t (cond_low s _ a.answered s.rows fits.1 lt));
        latest = refl;
        reported = λ e lt r is. subst (λ (v : Option Report). Among (e + 1, r) (report_at v (length (octets_taken calls) + answer.0) ++ reports calls)) (sym p.report)
            (subst (λ (n : ℕ). Among (e + 1, r) (report_at (fed s m a.mode memory input).report (length (octets_taken calls) + n) ++ reports calls)) (sym n-is)
            (reported_now s m calls a memory input h t e (subst (λ (n : ℕ). e < length (octets_taken calls ++ take n input)) n-is lt) r
            (subst (λ (n : ℕ). report_of s (mode_at s (octets_taken calls ++ take n input) e) (get_or (octets_taken calls ++ take n input) e 0) ≡ Some r) n-is is)));
      })
  heard_feed calls a b memory memory' input (Err fault) (e, p, q) h = heard_idle s calls (feed input (Err fault)) a b refl refl refl p h

  heard_next : (calls : List ReceiverCall) (a b : ReceiverState) (memory memory' : List ℕ) (r : Result NextAnswer NextFault) → NextStep s code a memory r b memory'
      → Heard s calls a → Heard s (next r ∷ calls) b
  unfolding octets_taken reports latest_is_next
  heard_next calls a b memory memory' (Ok answer) p h =
      heard_still s calls (next (Ok answer)) a b refl refl (ap (λ (v : ReceiverState). v.mode) p.after) (λ lt. omega (arith, ap (λ (v : ReceiverState). v.answered) p.after))
      (ap (λ (v : ReceiverState). v.after_next) p.after) h
  heard_next calls a b memory memory' (Err fault) (e, p, q) h = heard_idle s calls (next (Err fault)) a b refl refl refl p h

  pub heard_run : {calls : List ReceiverCall} {b : ReceiverState} {memory : List ℕ} → ReceiverHistory s code m calls b memory → Heard s calls b
  unfolding octets_taken reports latest_is_next mode_behind
  heard_run (made memory) = record { mode_is = refl; waiting = λ lt. absurd (omega arith); latest = refl; reported = λ e lt r is. absurd (omega arith) }
  heard_run (feed_next history p) = heard_feed _ _ _ _ _ _ _ p (heard_run history)
  heard_run (next_next history p) = heard_next _ _ _ _ _ _ p (heard_run history)
  heard_run (show_next history p) = heard_idle s _ _ _ _ refl refl refl refl (heard_run history)

  pub sound_course : {sent : List ℕ} {calls : List ReceiverCall} {b : ReceiverState} {memory : List ℕ} (h : Reception sent (octets_taken calls))
      → ReceiverHistory s code m calls b memory → AllSound s h (reports calls) → SoundCourse s h
  sound_course {calls = calls} h history all e lt r is = among_sound s h (reports calls) (e + 1) r ((heard_run history).reported e lt r is) all
