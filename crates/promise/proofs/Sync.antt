-- Where a receiver can be, octet by octet: hunting, loosely locked on what came before the line, or locked in step with the line.
use Rattle.std.proofs.Common.{◌≡◌, ℕ, ◌+◌, ◌-◌, ◌*◌, ◌/◌, ◌%◌, ◌<◌, ◌≤◌, Bool, true, false, cond, eqb, ◌⊎◌, List, [], ◌∷◌, ◌++◌, length, get_or, take, Some, None, Option, sym, refl, ap, ◌∙◌, inl, inr, ⊎_elim, append_assoc, append-nil, arith}
use Rattle.std.proofs.lemmas.Nat.{div-add-mod', mod_below}
use Rattle.std.proofs.lemmas.Bool.{lt-ltb, le-ltb, cases_lt, cases_Bool, eqb-true, eq-eqb}
use Rattle.settings.specs.declared.Settings.{Settings}
use Rattle.settings.specs.Lengths.{subframes, subframe_data, period}
use Rattle.settings.proofs.Ranges.{ranges}
use Rattle.marker.specs.Marker.{marker}
use Rattle.marker.specs.Reading.{count_read, sync_is_right, parity_is_right, first_cause}
use Rattle.marker.specs.declared.cause.Cause.{Cause}
use Rattle.marker.specs.declared.cause.Cause.TheVariants.{SyncWord, Parity, Count}
use Rattle.marker.proofs.Markers.{count_of_marker, sync_of_marker, parity_of_marker}
use Rattle.link.specs.Rules.{empty_window, seven, latest_six, gives_lock, lock_at, gained_report, onward, judged_mode, judged_report, mode_after, report_of}
use Rattle.link.specs.declared.receiving.Window.{Window}
use Rattle.link.specs.declared.receiving.Lock.{Lock}
use Rattle.link.specs.declared.receiving.Mode.{Mode}
use Rattle.link.specs.declared.receiving.Mode.TheVariants.{Hunting, Reading, Checking}
use Rattle.link.specs.declared.report.Report.{Report}
use Rattle.link.proofs.Lengths.{subframes_some, subframe_data_some}
use Rattle.promise.specs.Reception.{Reception, Intact, AlteredMarker, Sound, OnIntact}
use Rattle.promise.proofs.OnLine.{MarkersSent}
use Rattle.promise.proofs.Windows.{held_octets, SixPlaces, empty_places, places_more, held_more, seven_length, seven_held, first_and_six, latest_places, suffix_more, intact_window}
use Rattle.promise.proofs.Lock.{TrueData, TrueMarker, True, true_step, filling_first}

-- a marker gives lock
pub marker_locks : (s : Settings) (j : ℕ) → j < subframes s → gives_lock s (marker j) ≡ true
marker_locks s j low = rw (sync_of_marker j, parity_of_marker j, count_of_marker j, lt-ltb j (subframes s) low)

-- octets with no cause of a miss have the count expected
count_of_hit : (c : ℕ) (xs : List ℕ) → first_cause c xs ≡ None → count_read xs ≡ c
count_of_hit c xs e = by (sync_is_right xs) (parity_is_right xs) (eqb (count_read xs) c) refl e
  where
    by : (sync parity count : Bool) → eqb (count_read xs) c ≡ count → cond sync (cond parity (cond count None (Some Count)) (Some Parity)) (Some SyncWord) ≡ None → count_read xs ≡ c
    by true true true n e = eqb-true (count_read xs) c n
    by true true false n e = let z : ◌≡◌ {A = ℕ} 0 1 = cc in absurd (omega arith)
    by true false count n e = let z : ◌≡◌ {A = ℕ} 0 1 = cc in absurd (omega arith)
    by false parity count n e = let z : ◌≡◌ {A = ℕ} 0 1 = cc in absurd (omega arith)

module _ {sent taken : List ℕ} (s : Settings) (h : Reception sent taken) where
  -- hunting; with fewer than six octets held, it began no later than a resync length of the line
  pub record Hunt (e : ℕ) (w : Window) : Type 0 where
    pub places : SixPlaces w
    pub pre : List ℕ
    pub suffix : take e taken ≡ pre ++ held_octets w
    pub soon : (w.held ≡ 6) ⊎ (e ≤ length h.before + s.miss_limit * period s + w.held)

  -- Locked on what came before the line, in a marker: `left` more misses, each a period on, drop lock within a resync length of the line.
  pub record LooseMarker (e : ℕ) (lock : Lock) (w : Window) : Type 0 where
    pub places : SixPlaces w
    pub pre : List ℕ
    pub suffix : take e taken ≡ pre ++ held_octets w
    pub left : ℕ
    pub limit : left + lock.misses + 1 ≡ s.miss_limit
    pub soon : e + 7 + left * period s ≤ length h.before + s.miss_limit * period s + w.held

  -- the same, in the data behind a marker
  pub record LooseData (e : ℕ) (lock : Lock) (p : ℕ) : Type 0 where
    pub inside : p < subframe_data s
    pub left : ℕ
    pub limit : left + lock.misses + 1 ≡ s.miss_limit
    pub soon : e + period s + left * period s ≤ length h.before + s.miss_limit * period s + p

  abbrev pub Where : ℕ → Mode → Type 0
  Where e (Hunting w) = Hunt e w
  Where e (Reading lock p) = ((o : ℕ) × TrueData s h o e lock p) ⊎ LooseData e lock p
  Where e (Checking lock w) = ((o : ℕ) × TrueMarker s h o e lock w) ⊎ LooseMarker e lock w

  true_where : (o e : ℕ) (mode : Mode) → True s h o e mode → Where e mode
  true_where o e (Hunting w) t = absurd t
  true_where o e (Reading lock p) t = inl (o, t)
  true_where o e (Checking lock w) t = inl (o, t)

  module _ (markers : MarkersSent s sent) (few-altered : (j : ℕ) → ((i : ℕ) → i < s.miss_limit → AlteredMarker s h (j + i)) → ⊥) (e : ℕ) (lt : e < length taken) where
    -- From an intact marker on, a lock with its count is in step.
    on_intact : (g b : ℕ) (lock : Lock) → g ≡ b * subframes s + lock.count → lock.count < subframes s → lock.misses ≡ 0 → (lock.count ≡ 0 → lock.filling ≡ true) → Intact s h g
        → h.start + (e + 1) ≡ length h.before + (g * period s + 7) → TrueData s h g (e + 1) lock 0
    on_intact g b lock at below none fills i place = record {
      b = b;
      g = g;
      track = record {
        at = at;
        below = below;
        limit = omega (arith, (ranges s).miss_limit_low);
        heard_from = i.whole.0;
        since = omega arith;
        first = g + 1;
        run = omega arith;
        altered = λ k z. absurd (omega arith);
      };
      inside = subframe_data_some s;
      place = omega (arith, place);
      filling = λ o. fills (omega arith);
    }

    -- Seven octets that end on an intact marker are that marker, wherever the receiver thought it was.
    module _ (pre octets : List ℕ) (suffix : take (e + 1) taken ≡ pre ++ octets) (seven-of : length octets ≡ 7) where
      pub on_marker : (g : ℕ) → Intact s h g → h.start + (e + 1) ≡ length h.before + (g * period s + 7) → octets ≡ marker (g % subframes s)
      on_marker g i place =
          intact_window s h markers (g / subframes s) (g % subframes s) g (e + 1) pre octets (sym (div-add-mod' g (subframes s))) (mod_below g (subframes s) (subframes_some s)) (omega arith) suffix seven-of place i.whole.0 i

      -- a lock whose count they say
      pub true_from : (g : ℕ) (lock : Lock) → Intact s h g → h.start + (e + 1) ≡ length h.before + (g * period s + 7) → count_read octets ≡ lock.count → lock.misses ≡ 0
          → (lock.count ≡ 0 → lock.filling ≡ true) → TrueData s h g (e + 1) lock 0
      true_from g lock i place says none fills =
          let count : lock.count ≡ g % subframes s = sym says ∙ ap count_read (on_marker g i place) ∙ count_of_marker (g % subframes s) in
          on_intact g (g / subframes s) lock (omega (arith, div-add-mod' g (subframes s))) (omega (arith, mod_below g (subframes s) (subframes_some s))) none fills i place

      -- A lock or a hit is in step, or it is on what came before the line.
      locked_where : (lock : Lock) → count_read octets ≡ lock.count → lock.misses ≡ 0 → (lock.count ≡ 0 → lock.filling ≡ true) → OnIntact s h (e + 1) → Where (e + 1) (Reading lock 0)
      locked_where lock says none fills on =
          ⊎_elim
          (λ (in-line : length h.before < e + 1).
          let (g, i, place) = on in-line in
          inl (g, true_from g lock i place says none fills))
          (λ (early : e + 1 ≤ length h.before).
          let again : s.miss_limit ≡ s.miss_limit - 1 + 1 = omega (arith, (ranges s).miss_limit_low) in
          inr (record {
            inside = subframe_data_some s;
            left = s.miss_limit - 1;
            limit = omega (arith, again);
            soon = omega (arith, ap (λ k. k * period s) again);
          }))
          (cases_lt (length h.before) (e + 1))

    -- ---- hunting

    module _ (w : Window) (x : ℕ) (t : Hunt e w) (is : x ≡ get_or taken e 0) (sound : (r : Report) → report_of s (Hunting w) x ≡ Some r → Sound s h r.kind (e + 1)) where
      hunt_on : take (e + 1) taken ≡ t.pre ++ (held_octets w ++ (x ∷ []))
      hunt_on = suffix_more taken t.pre (held_octets w) e lt t.suffix ∙ ap (λ y. t.pre ++ (held_octets w ++ (y ∷ []))) (sym is)

      module _ (full : 6 ≤ w.held) where
        hunt_seven : take (e + 1) taken ≡ t.pre ++ seven w x
        hunt_seven = hunt_on ∙ ap (λ xs. t.pre ++ xs) (seven_held w x t.places (omega (arith, t.places.few)))

        hunt_locks : gives_lock s (seven w x) ≡ true → Where (e + 1) (Reading (lock_at (count_read (seven w x))) 0)
        hunt_locks lock-yes =
            locked_where t.pre (seven w x) hunt_seven (seven_length w x) (lock_at (count_read (seven w x))) refl refl (λ z. eq-eqb (count_read (seven w x)) 0 z)
            (sound (gained_report (count_read (seven w x))) (rw (le-ltb w.held 6 full, lock-yes)))

        hunt_slides : Hunt (e + 1) (latest_six w x)
        hunt_slides = record {
          places = latest_places w x;
          pre = t.pre ++ (get_or w.octets 0 0 ∷ []);
          suffix = hunt_seven ∙ ap (λ xs. t.pre ++ xs) (first_and_six w x) ∙ sym (append_assoc t.pre (get_or w.octets 0 0 ∷ []) (held_octets (latest_six w x)));
          soon = inl refl;
        }

      hunt_step : Where (e + 1) (mode_after s (Hunting w) x)
      hunt_step =
          ⊎_elim
          (λ (room : w.held < 6).
          let soon : e ≤ length h.before + s.miss_limit * period s + w.held = ⊎_elim (λ six. absurd (omega arith)) (λ z. z) t.soon in
          rw (lt-ltb w.held 6 room) (record {
            places = places_more w x t.places room;
            pre = t.pre;
            suffix = hunt_on ∙ ap (λ xs. t.pre ++ xs) (sym (held_more w x t.places room));
            soon = inr (omega arith);
          }))
          (λ (full : 6 ≤ w.held).
          rw (le-ltb w.held 6 full) (⊎_elim
          (λ (yes : gives_lock s (seven w x) ≡ true). rw yes (hunt_locks full yes))
          (λ (no : gives_lock s (seven w x) ≡ false). rw no (hunt_slides full))
          (cases_Bool (gives_lock s (seven w x)))))
          (cases_lt w.held 6)

    -- ---- loosely locked

    loose_data_step : (lock : Lock) (p x : ℕ) → LooseData e lock p → Where (e + 1) (mode_after s (Reading lock p) x)
    loose_data_step lock p x t =
        ⊎_elim
        (λ (more : p + 1 < subframe_data s).
        rw (lt-ltb (p + 1) (subframe_data s) more) (inr (record { inside = more; left = t.left; limit = t.limit; soon = omega (arith, t.soon) })))
        (λ (end : subframe_data s ≤ p + 1).
        let start-marker : (new : Lock) → new.misses ≡ lock.misses → LooseMarker (e + 1) new empty_window =
        λ new same. record {
          places = empty_places;
          pre = take (e + 1) taken;
          suffix = sym (append-nil (take (e + 1) taken));
          left = t.left;
          limit = omega (arith, t.limit);
          soon = omega (arith, t.soon, t.inside);
        } in
        rw (le-ltb (p + 1) (subframe_data s) end) (⊎_elim
        (λ (less : lock.count + 1 < subframes s). rw (lt-ltb (lock.count + 1) (subframes s) less) (inr (start-marker _ refl)))
        (λ (top : subframes s ≤ lock.count + 1). rw (le-ltb (lock.count + 1) (subframes s) top) (inr (start-marker _ refl)))
        (cases_lt (lock.count + 1) (subframes s))))
        (cases_lt (p + 1) (subframe_data s))

    module _ (lock : Lock) (w : Window) (x : ℕ) (t : LooseMarker e lock w) (is : x ≡ get_or taken e 0) (sound : (r : Report) → report_of s (Checking lock w) x ≡ Some r → Sound s h r.kind (e + 1)) where
      loose_on : take (e + 1) taken ≡ t.pre ++ (held_octets w ++ (x ∷ []))
      loose_on = suffix_more taken t.pre (held_octets w) e lt t.suffix ∙ ap (λ y. t.pre ++ (held_octets w ++ (y ∷ []))) (sym is)

      loose_judged : 6 ≤ w.held → (cause : Option Cause) → first_cause lock.count (seven w x) ≡ cause → Where (e + 1) (judged_mode s lock cause)
      loose_judged full None e-cause =
          locked_where t.pre (seven w x) (loose_on ∙ ap (λ xs. t.pre ++ xs) (seven_held w x t.places (omega (arith, t.places.few)))) (seven_length w x) (onward lock 0)
          (count_of_hit lock.count (seven w x) e-cause) refl (λ z. filling_first lock 0 z)
          (sound (judged_report s lock (seven w x) None) (rw (le-ltb w.held 6 full, e-cause)))
      loose_judged full (Some cause) e-cause =
          ⊎_elim
          (λ (less : lock.misses + 1 < s.miss_limit).
          let back : t.left ≡ t.left - 1 + 1 = omega (arith, t.limit) in
          rw (lt-ltb (lock.misses + 1) s.miss_limit less) (inr (record {
            inside = subframe_data_some s;
            left = t.left - 1;
            limit = omega (arith, t.limit);
            soon = omega (arith, t.soon, t.places.few, ap (λ k. k * period s) back);
          })))
          (λ (all : s.miss_limit ≤ lock.misses + 1).
          rw (le-ltb (lock.misses + 1) s.miss_limit all) (record {
            places = empty_places;
            pre = take (e + 1) taken;
            suffix = sym (append-nil (take (e + 1) taken));
            soon = inr (omega (arith, t.soon, t.places.few));
          }))
          (cases_lt (lock.misses + 1) s.miss_limit)

      loose_marker_step : Where (e + 1) (mode_after s (Checking lock w) x)
      loose_marker_step =
          ⊎_elim
          (λ (room : w.held < 6).
          rw (lt-ltb w.held 6 room) (inr (record {
            places = places_more w x t.places room;
            pre = t.pre;
            suffix = loose_on ∙ ap (λ xs. t.pre ++ xs) (sym (held_more w x t.places room));
            left = t.left;
            limit = t.limit;
            soon = omega (arith, t.soon);
          })))
          (λ (full : 6 ≤ w.held). rw (le-ltb w.held 6 full) (loose_judged full (first_cause lock.count (seven w x)) refl))
          (cases_lt w.held 6)

    -- one octet on
    pub where_step : (x : ℕ) (mode : Mode) → Where e mode → x ≡ get_or taken e 0 → ((r : Report) → report_of s mode x ≡ Some r → Sound s h r.kind (e + 1)) → Where (e + 1) (mode_after s mode x)
    where_step x (Hunting w) t is sound = hunt_step w x t is sound
    where_step x (Reading lock p) t is sound =
        ⊎_elim (λ u. true_where u.0 (e + 1) (mode_after s (Reading lock p) x) (true_step s h markers few-altered u.0 e x (Reading lock p) u.1 lt is)) (λ u. loose_data_step lock p x u) t
    where_step x (Checking lock w) t is sound =
        ⊎_elim (λ u. true_where u.0 (e + 1) (mode_after s (Checking lock w) x) (true_step s h markers few-altered u.0 e x (Checking lock w) u.1 lt is)) (λ u. loose_marker_step lock w x u is sound) t
