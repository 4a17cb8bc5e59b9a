-- A lock that is in step with the line stays so: its run of misses is a run of altered markers.
use Rattle.std.proofs.Common.{◌≡◌, ℕ, ◌+◌, ◌*◌, ◌<◌, ◌≤◌, true, eqb, List, [], ◌∷◌, ◌++◌, length, get_or, take, Some, None, Option, sym, refl, ap, ◌∙◌, subst, ⊎_elim, append-nil, arith}
use Rattle.std.proofs.lemmas.Nat.{mul-le}
use Rattle.std.proofs.lemmas.Bool.{or_right, lt-ltb, le-ltb, cases_lt, eq-eqb}
use Rattle.settings.specs.declared.Settings.{Settings}
use Rattle.settings.specs.Lengths.{subframes, subframe_data, period}
use Rattle.settings.proofs.Ranges.{ranges}
use Rattle.marker.specs.Marker.{marker}
use Rattle.marker.specs.Reading.{first_cause}
use Rattle.marker.specs.declared.cause.Cause.{Cause}
use Rattle.marker.proofs.Markers.{marker_octets, cause_of_hit}
use Rattle.link.specs.Rules.{seven, onward, judged_mode, mode_after}
use Rattle.link.specs.declared.receiving.Window.{Window}
use Rattle.link.specs.declared.receiving.Lock.{Lock}
use Rattle.link.specs.declared.receiving.Mode.{Mode}
use Rattle.link.specs.declared.receiving.Mode.TheVariants.{Hunting, Reading, Checking}
use Rattle.link.proofs.Lengths.{subframes_high, subframe_data_some}
use Rattle.promise.specs.Reception.{Reception, AlteredMarker}
use Rattle.promise.proofs.OnLine.{MarkersSent}
use Rattle.promise.proofs.Windows.{held_octets, SixPlaces, empty_places, places_more, held_more, seven_length, seven_held, suffix_more, intact_window, window_whole}

-- a block starts at count 0 ..
pub filling_first : (lock : Lock) (misses : ℕ) → lock.count ≡ 0 → (onward lock misses).filling ≡ true
filling_first lock misses e = rw (eq-eqb lock.count 0 e)

-- .. and goes on
filling_on : (lock : Lock) (misses : ℕ) → lock.filling ≡ true → (onward lock misses).filling ≡ true
filling_on lock misses e = or_right (eqb lock.count 0) lock.filling e

-- the marker expected has no cause of a miss
pub no_cause : (s : Settings) (j : ℕ) (xs : List ℕ) → j < subframes s → xs ≡ marker j → first_cause j xs ≡ None
no_cause s j xs low e =
    let few : j < 8388608 = omega (arith, subframes_high s) in
    ap (first_cause j) e ∙ cause_of_hit j (marker j) few (marker_octets j few) refl

module _ {sent taken : List ℕ} (s : Settings) (h : Reception sent taken) where
  -- What a lock in step keeps since marker o: it is at marker g of the line, which is marker j of block b, and its run of m misses is a run
  -- of altered markers that ends before marker `next`.
  pub record Track (o b j g next m : ℕ) : Type 0 where
    pub at : g ≡ b * subframes s + j
    pub below : j < subframes s
    pub limit : m < s.miss_limit
    pub heard_from : h.start ≤ o * period s
    pub since : o ≤ g
    pub first : ℕ
    pub run : first + m ≡ next
    pub altered : (i : ℕ) → i < m → AlteredMarker s h (first + i)

  -- in step, in a marker
  pub record TrueMarker (o e : ℕ) (lock : Lock) (w : Window) : Type 0 where
    pub b : ℕ
    pub g : ℕ
    pub track : Track o b lock.count g g lock.misses
    pub places : SixPlaces w
    pub pre : List ℕ
    pub suffix : take e taken ≡ pre ++ held_octets w
    pub place : h.start + e ≡ length h.before + (g * period s + w.held)
    pub filling : o ≤ b * subframes s → 0 < lock.count → lock.filling ≡ true

  -- in step, in the data behind a marker
  pub record TrueData (o e : ℕ) (lock : Lock) (p : ℕ) : Type 0 where
    pub b : ℕ
    pub g : ℕ
    pub track : Track o b lock.count g (g + 1) lock.misses
    pub inside : p < subframe_data s
    pub place : h.start + e ≡ length h.before + (g * period s + (7 + p))
    pub filling : o ≤ b * subframes s → lock.filling ≡ true

  abbrev pub True : ℕ → ℕ → Mode → Type 0
  True o e (Hunting w) = ⊥
  True o e (Reading lock p) = TrueData o e lock p
  True o e (Checking lock w) = TrueMarker o e lock w

  module _ (markers : MarkersSent s sent) (few-altered : (j : ℕ) → ((i : ℕ) → i < s.miss_limit → AlteredMarker s h (j + i)) → ⊥) where
    data_step : (o e p x : ℕ) (lock : Lock) → TrueData o e lock p → True o (e + 1) (mode_after s (Reading lock p) x)
    data_step o e p x lock t =
        ⊎_elim
        (λ (lt : p + 1 < subframe_data s).
        rw (lt-ltb (p + 1) (subframe_data s) lt)
        (record { b = t.b; g = t.g; track = t.track; inside = lt; place = omega (arith, t.place); filling = t.filling }))
        (λ (ge : subframe_data s ≤ p + 1).
        let on : h.start + (e + 1) ≡ length h.before + ((t.g + 1) * period s + 0) = omega (arith, t.place, t.inside) in
        rw (le-ltb (p + 1) (subframe_data s) ge) (⊎_elim
        (λ (lt : lock.count + 1 < subframes s).
        rw (lt-ltb (lock.count + 1) (subframes s) lt)
        (record {
          b = t.b;
          g = t.g + 1;
          track = record {
            at = omega (arith, t.track.at);
            below = lt;
            limit = t.track.limit;
            heard_from = t.track.heard_from;
            since = omega (arith, t.track.since);
            first = t.track.first;
            run = t.track.run;
            altered = t.track.altered;
          };
          places = empty_places;
          pre = take (e + 1) taken;
          suffix = sym (append-nil (take (e + 1) taken));
          place = on;
          filling = λ o z. t.filling o;
        }))
        (λ (top : subframes s ≤ lock.count + 1).
        rw (le-ltb (lock.count + 1) (subframes s) top)
        (record {
          b = t.b + 1;
          g = t.g + 1;
          track = record {
            at = omega (arith, t.track.at, t.track.below);
            below = omega (arith, t.track.below);
            limit = t.track.limit;
            heard_from = t.track.heard_from;
            since = omega (arith, t.track.since);
            first = t.track.first;
            run = t.track.run;
            altered = t.track.altered;
          };
          places = empty_places;
          pre = take (e + 1) taken;
          suffix = sym (append-nil (take (e + 1) taken));
          place = on;
          filling = λ o z. absurd (omega arith);
        }))
        (cases_lt (lock.count + 1) (subframes s))))
        (cases_lt (p + 1) (subframe_data s))

    module _ (o e x : ℕ) (lock : Lock) (w : Window) (t : TrueMarker o e lock w) (lt : e < length taken) (is : x ≡ get_or taken e 0) where
      suffix_on : take (e + 1) taken ≡ t.pre ++ (held_octets w ++ (x ∷ []))
      suffix_on = suffix_more taken t.pre (held_octets w) e lt t.suffix ∙ ap (λ y. t.pre ++ (held_octets w ++ (y ∷ []))) (sym is)

      -- a block in progress goes on, and one starts at count 0
      filling_behind : (misses : ℕ) → o ≤ t.b * subframes s → (onward lock misses).filling ≡ true
      filling_behind misses early =
          ⊎_elim (λ (z : lock.count < 1). filling_first lock misses (omega arith)) (λ (z : 1 ≤ lock.count). filling_on lock misses (t.filling early z)) (cases_lt lock.count 1)

      module _ (six : w.held ≡ 6) where
        seven_on : take (e + 1) taken ≡ t.pre ++ seven w x
        seven_on = suffix_on ∙ ap (λ xs. t.pre ++ xs) (seven_held w x t.places six)

        place_on : h.start + (e + 1) ≡ length h.before + (t.g * period s + 7)
        place_on = omega (arith, t.place)

        from : h.start ≤ t.g * period s
        from = omega (arith, t.track.heard_from, mul-le o (period s) t.g (period s) t.track.since (omega arith))

        -- a miss is an altered marker
        missed : (cause : Cause) → first_cause lock.count (seven w x) ≡ Some cause → AlteredMarker s h t.g
        missed cause e-cause =
            let whole = window_whole s h markers t.b lock.count t.g (e + 1) t.pre (seven w x) t.track.at t.track.below (omega arith) seven_on (seven_length w x) place_on from in
            record {
              whole = whole;
              altered = λ all.
                  let same : seven w x ≡ marker lock.count = intact_window s h markers t.b lock.count t.g (e + 1) t.pre (seven w x) t.track.at t.track.below (omega arith) seven_on (seven_length w x) place_on from (record { whole = whole; as_sent = all }) in
                  let none : first_cause lock.count (seven w x) ≡ None = no_cause s lock.count (seven w x) t.track.below same in
                  let z : ◌≡◌ {A = ℕ} 0 1 = cc in
                  omega arith;
            }

        marker_judged : (cause : Option Cause) → first_cause lock.count (seven w x) ≡ cause → True o (e + 1) (judged_mode s lock cause)
        marker_judged None e-cause = record {
          b = t.b;
          g = t.g;
          track = record {
            at = t.track.at;
            below = t.track.below;
            limit = (ranges s).miss_limit_low;
            heard_from = t.track.heard_from;
            since = t.track.since;
            first = t.g + 1;
            run = omega arith;
            altered = λ k z. absurd (omega arith);
          };
          inside = subframe_data_some s;
          place = omega (arith, place_on);
          filling = filling_behind 0;
        }
        marker_judged (Some cause) e-cause =
            let run : (i : ℕ) → i < lock.misses + 1 → AlteredMarker s h (t.track.first + i) =
            λ i hi. ⊎_elim (λ (old : i < lock.misses). t.track.altered i old)
            (λ (new : lock.misses ≤ i). subst (λ k. AlteredMarker s h k) (omega (arith, t.track.run)) (missed cause e-cause)) (cases_lt i lock.misses) in
            ⊎_elim
            (λ (less : lock.misses + 1 < s.miss_limit).
            rw (lt-ltb (lock.misses + 1) s.miss_limit less) (record {
              b = t.b;
              g = t.g;
              track = record {
                at = t.track.at;
                below = t.track.below;
                limit = less;
                heard_from = t.track.heard_from;
                since = t.track.since;
                first = t.track.first;
                run = omega (arith, t.track.run);
                altered = run;
              };
              inside = subframe_data_some s;
              place = omega (arith, place_on);
              filling = filling_behind (lock.misses + 1);
            }))
            (λ (all : s.miss_limit ≤ lock.misses + 1). absurd (few-altered t.track.first (λ i hi. run i (omega arith))))
            (cases_lt (lock.misses + 1) s.miss_limit)

      marker_step : True o (e + 1) (mode_after s (Checking lock w) x)
      marker_step =
          ⊎_elim
          (λ (room : w.held < 6).
          rw (lt-ltb w.held 6 room) (record {
            b = t.b;
            g = t.g;
            track = t.track;
            places = places_more w x t.places room;
            pre = t.pre;
            suffix = suffix_on ∙ ap (λ xs. t.pre ++ xs) (sym (held_more w x t.places room));
            place = omega (arith, t.place);
            filling = t.filling;
          }))
          (λ (full : 6 ≤ w.held).
          rw (le-ltb w.held 6 full) (marker_judged (omega (arith, t.places.few)) (first_cause lock.count (seven w x)) refl))
          (cases_lt w.held 6)

    -- A lock in step, one octet on, is in step.
    pub true_step : (o e x : ℕ) (mode : Mode) → True o e mode → e < length taken → x ≡ get_or taken e 0 → True o (e + 1) (mode_after s mode x)
    true_step o e x (Hunting w) t lt is = absurd t
    true_step o e x (Reading lock p) t lt is = data_step o e p x lock t
    true_step o e x (Checking lock w) t lt is = marker_step o e x lock w t lt is
