-- Where the octets of a block stand behind its first marker, and that just the last of them ends it.
use Rattle.std.proofs.Common.{◌≡◌, ℕ, ◌+◌, ◌-◌, ◌*◌, ◌/◌, ◌%◌, ◌<◌, ◌≤◌, true, false, not, ltb, ◌⊎◌, List, refl, ap, subst, inl, inr, ⊎_elim, arith}
use Rattle.std.proofs.lemmas.Nat.{div-add-mod', mod_below, div_below}
use Rattle.std.proofs.lemmas.Bool.{cases_lt, lt-ltb, le-ltb, and_left, and_right, not_from_true}
use Rattle.settings.specs.declared.Settings.{Settings}
use Rattle.settings.specs.Lengths.{subframes, subframe_data, period}
use Rattle.link.specs.Line.{line_length}
use Rattle.link.specs.Rules.{block_ends}
use Rattle.link.specs.declared.receiving.Mode.{Mode}
use Rattle.link.specs.declared.receiving.Mode.TheVariants.{Hunting, Reading, Checking}
use Rattle.link.proofs.Lengths.{subframes_some, subframe_data_some}
use Rattle.promise.proofs.Modes.{mode_at, InData, InMarker}

module _ (s : Settings) (T : List ℕ) (base : ℕ) where
  -- Over the octets T, with a block's first octet at `base`: at each data octet of the block the receiver is in its data ..
  abbrev pub InDataAt : Type 0
  InDataAt = (j p : ℕ) → j < subframes s → p < subframe_data s → InData j p (mode_at s T (base + (j * period s + (7 + p))))

  -- .. and at each octet of its markers but the first it is in a marker.
  abbrev pub InMarkersAt : Type 0
  InMarkersAt = (j r : ℕ) → 0 < j → j < subframes s → r < 7 → InMarker (mode_at s T (base + (j * period s + r)))

module _ (s : Settings) (base : ℕ) where
  -- e is a place of a marker behind the block's first
  pub record MarkerPlace (e : ℕ) : Type 0 where
    pub count : ℕ
    pub offset : ℕ
    pub not_first : 0 < count
    pub count_low : count < subframes s
    pub offset_is_low : offset < 7
    pub at : base + (count * period s + offset) ≡ e

  -- e is a place of the block's data
  pub record DataPlace (e : ℕ) : Type 0 where
    pub count : ℕ
    pub place : ℕ
    pub count_low : count < subframes s
    pub place_low : place < subframe_data s
    pub at : base + (count * period s + (7 + place)) ≡ e

  pub place_in_block : (e : ℕ) → base + 7 ≤ e → e < base + line_length s → MarkerPlace e ⊎ DataPlace e
  place_in_block e late early =
      let u : ℕ = e - base in
      let j : ℕ = u / period s in
      let r : ℕ = u % period s in
      let split : j * period s + r ≡ u = div-add-mod' u (period s) in
      let hr : r < period s = mod_below u (period s) (omega arith) in
      let hj : j < subframes s = div_below u (period s) (subframes s) (omega arith) (omega arith) in
      ⊎_elim
      (λ (low : r < 7).
      let some : 0 < j = ⊎_elim (λ (z : 0 < j). z) (λ (z : j ≤ 0). absurd (omega (arith, ap (λ (k : ℕ). k * period s) (none j z)))) (cases_lt 0 j) in
      inl (record { count = j; offset = r; not_first = some; count_low = hj; offset_is_low = low; at = omega arith }))
      (λ (high : 7 ≤ r). inr (record { count = j; place = r - 7; count_low = hj; place_low = omega arith; at = omega arith }))
      (cases_lt r 7)
    where
      none : (j : ℕ) → j ≤ 0 → j ≡ 0
      none j h = omega arith

module _ (s : Settings) where
  in_marker_no_end : (mode : Mode) → InMarker mode → block_ends s mode ≡ false
  in_marker_no_end (Hunting w) t = absurd t
  in_marker_no_end (Reading lock place) t = absurd t
  in_marker_no_end (Checking lock w) t = refl

  in_data_no_end : (j p : ℕ) (mode : Mode) → InData j p mode → (p + 1 < subframe_data s) ⊎ (j + 1 < subframes s) → block_ends s mode ≡ false
  in_data_no_end j p (Hunting w) t h = absurd t
  in_data_no_end j p (Reading lock place) (a, b, c) h =
      rw (a, b, c) (⊎_elim
      (λ (lt : p + 1 < subframe_data s). and_left (not (ltb (p + 1) (subframe_data s))) (not (ltb (j + 1) (subframes s))) (not_from_true (ltb (p + 1) (subframe_data s)) (lt-ltb (p + 1) (subframe_data s) lt)))
      (λ (lt : j + 1 < subframes s). and_right (not (ltb (p + 1) (subframe_data s))) (not (ltb (j + 1) (subframes s))) (not_from_true (ltb (j + 1) (subframes s)) (lt-ltb (j + 1) (subframes s) lt))) h)
  in_data_no_end j p (Checking lock w) t h = absurd t

  in_data_ends : (j p : ℕ) (mode : Mode) → InData j p mode → subframe_data s ≤ p + 1 → subframes s ≤ j + 1 → block_ends s mode ≡ true
  in_data_ends j p (Hunting w) t x y = absurd t
  in_data_ends j p (Reading lock place) (a, b, c) x y = rw (a, b, c, le-ltb (p + 1) (subframe_data s) x, le-ltb (j + 1) (subframes s) y)
  in_data_ends j p (Checking lock w) t x y = absurd t

module _ (s : Settings) (T : List ℕ) (base : ℕ)
    (reads_at : InDataAt s T base) (checks_at : InMarkersAt s T base) where
  pub no_end_within : (e : ℕ) → base + 7 ≤ e → e + 1 < base + line_length s → block_ends s (mode_at s T e) ≡ false
  no_end_within e late early =
      ⊎_elim
      (λ (q : MarkerPlace s base e).
      in_marker_no_end s (mode_at s T e) (subst (λ (k : ℕ). InMarker (mode_at s T k)) q.at (checks_at q.count q.offset q.not_first q.count_low q.offset_is_low)))
      (λ (q : DataPlace s base e).
      let not_last : (q.place + 1 < subframe_data s) ⊎ (q.count + 1 < subframes s) =
      ⊎_elim (λ (z : q.count + 1 < subframes s). inr z)
      (λ (z : subframes s ≤ q.count + 1).
      let top : subframes s ≡ q.count + 1 = omega (arith, q.count_low) in
      inl (omega (arith, q.at, ap (λ (k : ℕ). k * period s) top)))
      (cases_lt (q.count + 1) (subframes s)) in
      in_data_no_end s q.count q.place (mode_at s T e)
      (subst (λ (k : ℕ). InData q.count q.place (mode_at s T k)) q.at (reads_at q.count q.place q.count_low q.place_low)) not_last)
      (place_in_block s base e late (omega arith))

  pub last_ends : (e : ℕ) → e + 1 ≡ base + line_length s → block_ends s (mode_at s T e) ≡ true
  last_ends e at =
      let j : ℕ = subframes s - 1 in
      let p : ℕ = subframe_data s - 1 in
      let some : 0 < subframes s = subframes_some s in
      let data-some : 0 < subframe_data s = subframe_data_some s in
      let top : subframes s ≡ j + 1 = omega arith in
      let at' : base + (j * period s + (7 + p)) ≡ e = omega (arith, ap (λ (k : ℕ). k * period s) top) in
      in_data_ends s j p (mode_at s T e) (subst (λ (k : ℕ). InData j p (mode_at s T k)) at' (reads_at j p (omega arith) (omega arith))) (omega arith) (omega arith)
