-- A receiver's course over all octets taken: from a good marker on it is in step with the line.
use Rattle.std.proofs.Common.{◌≡◌, ℕ, zero, suc, ◌+◌, ◌*◌, ◌%◌, ◌<◌, ◌≤◌, true, List, [], ◌++◌, length, get_or, take, sym, refl, ap, ◌∙◌, subst, inr, ⊎_elim, add-one, arith}
use Rattle.std.proofs.lemmas.Nat.{mod_below}
use Rattle.std.proofs.lemmas.Bool.{le-ltb, eq-eqb}
use Rattle.settings.specs.declared.Settings.{Settings}
use Rattle.settings.specs.Lengths.{subframes, period}
use Rattle.marker.specs.Reading.{count_read}
use Rattle.link.specs.Rules.{seven, gives_lock, lock_at, mode_after}
use Rattle.link.specs.declared.receiving.Window.{Window}
use Rattle.link.specs.declared.receiving.Mode.{Mode}
use Rattle.link.specs.declared.receiving.Mode.TheVariants.{Hunting, Reading, Checking}
use Rattle.link.proofs.Lengths.{subframes_some}
use Rattle.promise.specs.Reception.{Reception, AlteredMarker, GoodMarker}
use Rattle.promise.proofs.Places.{no_later}
use Rattle.promise.proofs.Modes.{mode_behind, mode_at, mode_at_more, SoundCourse}
use Rattle.promise.proofs.OnLine.{MarkersSent}
use Rattle.promise.proofs.Windows.{empty_places, held_octets, seven_length, seven_held, suffix_more}
use Rattle.promise.proofs.Lock.{True, true_step}
use Rattle.promise.proofs.Sync.{Where, Hunt, where_step, marker_locks, on_marker, true_from}

module _ {sent taken : List ℕ} (s : Settings) (h : Reception sent taken) (markers : MarkersSent s sent)
    (few-altered : (j : ℕ) → ((i : ℕ) → i < s.miss_limit → AlteredMarker s h (j + i)) → ⊥) (sound : SoundCourse s h) where
  everywhere : (e : ℕ) → e ≤ length taken → Where s h e (mode_at s taken e)
  unfolding mode_behind
  everywhere zero le = record { places = empty_places; pre = []; suffix = refl; soon = inr (omega arith) }
  everywhere (suc e) le =
      let lt : e < length taken = omega arith in
      let on : Where s h (e + 1) (mode_at s taken (e + 1)) =
      subst (λ (m : Mode). Where s h (e + 1) m) (sym (mode_at_more s taken e lt))
      (where_step s h markers few-altered e lt (get_or taken e 0) (mode_at s taken e) (everywhere e (omega arith)) refl (sound e lt)) in
      subst (λ (n : ℕ). Where s h n (mode_at s taken n)) (add-one e) on

  -- at the last octet of a good marker
  module _ (resync good-marker e : ℕ) (long : s.miss_limit * period s ≤ resync) (good : GoodMarker s h resync good-marker) (lt : e < length taken)
      (place : h.start + e ≡ length h.before + (good-marker * period s + 6)) where
    lock_now : (w : Window) → Hunt s h e w → (o : ℕ) × (o ≤ good-marker) × True s h o (e + 1) (mode_after s (Hunting w) (get_or taken e 0))
    lock_now w t =
        let x : ℕ = get_or taken e 0 in
        let six : w.held ≡ 6 = ⊎_elim (λ z. z) (λ z. omega (arith, good.late, t.places.few)) t.soon in
        let on : take (e + 1) taken ≡ t.pre ++ seven w x = suffix_more taken t.pre (held_octets w) e lt t.suffix ∙ ap (λ xs. t.pre ++ xs) (seven_held w x t.places six) in
        let behind : h.start + (e + 1) ≡ length h.before + (good-marker * period s + 7) = omega arith in
        let is = on_marker s h markers few-altered e lt t.pre (seven w x) on (seven_length w x) good-marker good.intact behind in
        let locks : gives_lock s (seven w x) ≡ true = ap (gives_lock s) is ∙ marker_locks s (good-marker % subframes s) (mod_below good-marker (subframes s) (subframes_some s)) in
        let true-now = true_from s h markers few-altered e lt t.pre (seven w x) on (seven_length w x) good-marker (lock_at (count_read (seven w x))) good.intact behind refl refl (λ z. eq-eqb (count_read (seven w x)) 0 z) in
        (good-marker, omega arith, rw (le-ltb w.held 6 (omega arith), locks) true-now)

    settle : (mode : Mode) → Where s h e mode → (o : ℕ) × (o ≤ good-marker) × True s h o (e + 1) (mode_after s mode (get_or taken e 0))
    settle (Hunting w) t = lock_now w t
    settle (Reading lock p) t =
        ⊎_elim (λ u. (
          u.0,
          omega (arith, u.1.track.since, no_later u.1.g good-marker (period s) (7 + p) 6 (omega (arith, u.1.place)) (omega arith)),
          true_step s h markers few-altered u.0 e (get_or taken e 0) (Reading lock p) u.1 lt refl,
        )) (λ u. absurd (omega (arith, u.soon, u.inside, good.late))) t
    settle (Checking lock w) t =
        ⊎_elim (λ u. (
          u.0,
          omega (arith, u.1.track.since, no_later u.1.g good-marker (period s) w.held 6 (omega (arith, u.1.place)) (omega arith)),
          true_step s h markers few-altered u.0 e (get_or taken e 0) (Checking lock w) u.1 lt refl,
        )) (λ u. absurd (omega (arith, u.soon, u.places.few, good.late))) t

    -- from the good marker's end on, n octets further, the lock is in step, since a marker that is not behind the good one
    pub in_step : (n : ℕ) → e + 1 + n ≤ length taken → (o : ℕ) × (o ≤ good-marker) × True s h o (e + 1 + n) (mode_at s taken (e + 1 + n))
    in_step zero le =
        let (o, below, t) = settle (mode_at s taken e) (everywhere e (omega arith)) in
        let at : e + 1 ≡ e + 1 + 0 = omega arith in
        (o, below, subst (λ (k : ℕ). True s h o k (mode_at s taken k)) at (subst (λ (m : Mode). True s h o (e + 1) m) (sym (mode_at_more s taken e lt)) t))
    in_step (suc n) le =
        let (o, below, t) = in_step n (omega arith) in
        let more : e + 1 + n < length taken = omega arith in
        let at : e + 1 + n + 1 ≡ e + 1 + suc n = omega arith in (
          o,
          below,
          subst (λ (k : ℕ). True s h o k (mode_at s taken k)) at
              (subst (λ (m : Mode). True s h o (e + 1 + n + 1) m) (sym (mode_at_more s taken (e + 1 + n) more))
              (true_step s h markers few-altered o (e + 1 + n) (get_or taken (e + 1 + n) 0) (mode_at s taken (e + 1 + n)) t more refl)),
        )
