-- A block that is otherwise covered is heard in step: the mode at each of its octets.
use Rattle.std.proofs.Common.{◌≡◌, ℕ, ◌+◌, ◌-◌, ◌*◌, ◌<◌, ◌≤◌, List, length, sym, ap, ◌∙◌, subst, mul_assoc, arith}
use Rattle.std.proofs.lemmas.Nat.{mul-add-lt, mul-le}
use Rattle.settings.specs.declared.Settings.{Settings}
use Rattle.settings.specs.Lengths.{subframes, subframe_data, period, resync_length}
use Rattle.link.specs.Line.{line_length}
use Rattle.link.specs.declared.receiving.Mode.{Mode}
use Rattle.link.specs.declared.receiving.Mode.TheVariants.{Hunting, Reading, Checking}
use Rattle.promise.specs.Reception.{Reception, AlteredMarker, OtherwiseCovered}
use Rattle.promise.proofs.Places.{same_marker, subframe_place}
use Rattle.promise.proofs.Modes.{mode_at, InData, InMarker, SoundCourse}
use Rattle.promise.proofs.Heard.{length_taken, block_base}
use Rattle.promise.proofs.OnLine.{MarkersSent}
use Rattle.promise.proofs.Lock.{True}
use Rattle.promise.proofs.Course.{in_step}

-- A lock in step since a marker that does not come behind block b is, at each place of the block, where the line is.
module _ {sent taken : List ℕ} (s : Settings) (h : Reception sent taken) (o e b j : ℕ) (from : o ≤ b * subframes s) (low : j < subframes s) where
  in_data : (p : ℕ) → p < subframe_data s → h.start + e ≡ length h.before + (b * line_length s + (j * period s + (7 + p))) → (mode : Mode) → True s h o e mode → InData j p mode
  in_data p hp place (Hunting w) t = absurd t
  in_data p hp place (Reading lock p') t =
      let at = subframe_place b (subframes s) j (period s) (7 + p) in
      let g-is : t.g ≡ b * subframes s + j = same_marker t.g (b * subframes s + j) (period s) (7 + p') (7 + p) (omega (arith, t.place)) (omega (arith, t.inside)) (omega arith) in
      let p-is : p' ≡ p = omega (arith, t.place, ap (λ (k : ℕ). k * period s) g-is) in
      let b-is : t.b ≡ b = same_marker t.b b (subframes s) lock.count j (sym t.track.at ∙ g-is) t.track.below low in
      let j-is : lock.count ≡ j = omega (arith, t.track.at, ap (λ (k : ℕ). k * subframes s) b-is) in
      (j-is, p-is, t.filling (omega (arith, ap (λ (k : ℕ). k * subframes s) b-is)))
  in_data p hp place (Checking lock w) t =
      let at = subframe_place b (subframes s) j (period s) (7 + p) in
      let g-is : t.g ≡ b * subframes s + j = same_marker t.g (b * subframes s + j) (period s) w.held (7 + p) (omega (arith, t.place)) (omega (arith, t.places.few)) (omega arith) in
      omega (arith, t.place, t.places.few, ap (λ (k : ℕ). k * period s) g-is)

  in_marker : (r : ℕ) → r < 7 → h.start + e ≡ length h.before + (b * line_length s + (j * period s + r)) → (mode : Mode) → True s h o e mode → InMarker mode
  in_marker r hr place (Hunting w) t = absurd t
  in_marker r hr place (Reading lock p) t =
      let at = subframe_place b (subframes s) j (period s) r in
      let g-is : t.g ≡ b * subframes s + j = same_marker t.g (b * subframes s + j) (period s) (7 + p) r (omega (arith, t.place)) (omega (arith, t.inside)) (omega arith) in
      omega (arith, t.place, ap (λ (k : ℕ). k * period s) g-is)
  in_marker r hr place (Checking lock w) t = tt

module _ {sent taken : List ℕ} (s : Settings) (h : Reception sent taken) where
  module _ (markers : MarkersSent s sent) (few-altered : (j : ℕ) → ((i : ℕ) → i < s.miss_limit → AlteredMarker s h (j + i)) → ⊥) (sound : SoundCourse s h)
      (b : ℕ) (oc : OtherwiseCovered s h (resync_length s) b) where
    base_is : block_base s h b + h.start ≡ length h.before + b * line_length s
    base_is = omega (arith, oc.whole.0)

    pub block_taken : block_base s h b + line_length s ≤ length taken
    block_taken = omega (arith, oc.whole.0, oc.whole.1, length_taken h)

    good_before : oc.marker * period s ≤ b * line_length s
    good_before = omega (arith, mul_assoc b (subframes s) (period s), mul-le oc.marker (period s) (b * subframes s) (period s) oc.not_behind (omega arith))

    -- the good marker's last octet among those taken
    good_end : ℕ
    good_end = length h.before + (oc.marker * period s + 6 - h.start)

    good_end_is : h.start + good_end ≡ length h.before + (oc.marker * period s + 6)
    unfolding good_end
    good_end_is = omega (arith, oc.good.intact.whole.0)

    true_at : (x : ℕ) → 7 ≤ x → x < line_length s → (o : ℕ) × (o ≤ oc.marker) × True s h o (block_base s h b + x) (mode_at s taken (block_base s h b + x))
    true_at x lo hi =
        let n : ℕ = block_base s h b + x - (good_end + 1) in
        let n-is : good_end + 1 + n ≡ block_base s h b + x = omega (arith, good_end_is, base_is, good_before) in
        let st = in_step s h markers few-altered sound (resync_length s) oc.marker good_end (omega arith) oc.good (omega (arith, block_taken)) good_end_is n (omega (arith, block_taken)) in
        subst (λ (k : ℕ). (o : ℕ) × (o ≤ oc.marker) × True s h o k (mode_at s taken k)) n-is st

    pub reads_at : (j p : ℕ) → j < subframes s → p < subframe_data s → InData j p (mode_at s taken (block_base s h b + (j * period s + (7 + p))))
    reads_at j p hj hp =
        let small : 7 + p < period s = omega arith in
        let (o, low, t) = true_at (j * period s + (7 + p)) (omega arith) (omega (arith, mul-add-lt j (period s) (7 + p) (subframes s) hj small)) in
        in_data s h o (block_base s h b + (j * period s + (7 + p))) b j (omega (arith, oc.not_behind)) hj p hp (omega (arith, base_is)) (mode_at s taken (block_base s h b + (j * period s + (7 + p)))) t

    pub checks_at : (j r : ℕ) → 0 < j → j < subframes s → r < 7 → InMarker (mode_at s taken (block_base s h b + (j * period s + r)))
    checks_at j r pos hj hr =
        let small : r < period s = omega arith in
        let (o, low, t) = true_at (j * period s + r) (omega (arith, mul-le 1 (period s) j (period s) pos (omega arith))) (omega (arith, mul-add-lt j (period s) r (subframes s) hj small)) in
        in_marker s h o (block_base s h b + (j * period s + r)) b j (omega (arith, oc.not_behind)) hj r hr (omega (arith, base_is)) (mode_at s taken (block_base s h b + (j * period s + r))) t
