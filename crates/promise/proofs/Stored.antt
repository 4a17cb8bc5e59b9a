-- The data of a block in progress is put to its sources, octet by octet.
use Rattle.std.proofs.Common.{◌≡◌, ℕ, zero, suc, ◌+◌, ◌*◌, ◌<◌, ◌≤◌, true, List, [], ◌∷◌, length, get_or, take, drop, set, sym, refl, ap, ◌∙◌, subst, ⊎_elim, add-zero, mul_comm, arith}
use lib.Bits.{bit_xor}
use Rattle.std.proofs.lemmas.Nat.{mul-add-lt}
use Rattle.std.proofs.lemmas.List.{get_or-set_same, get_or-set_other, drop_more}
use Rattle.std.proofs.lemmas.Bool.{cases_lt}
use Rattle.settings.specs.declared.Settings.{Settings}
use Rattle.settings.specs.Lengths.{subframes, subframe_data, period}
use Rattle.mapping.specs.Meaning.{MappingMeaning, MappingLaws, block_size}
use Rattle.link.specs.Line.{line_length}
use Rattle.link.specs.Refusal.{mapping_fits}
use Rattle.link.specs.Rules.{mode_after, memory_after}
use Rattle.link.specs.declared.receiving.Mode.{Mode}
use Rattle.link.specs.declared.receiving.Mode.TheVariants.{Hunting, Reading, Checking}
use Rattle.link.proofs.Lengths.{data_fills}
use Rattle.link.proofs.ModeFits.{memory_stays}
use Rattle.link.proofs.Tables.{mapping_sizes}
use Rattle.promise.proofs.Places.{same_marker}
use Rattle.promise.proofs.Modes.{memory_behind, mode_at, mode_at_more, InData, InMarker}
use Rattle.promise.proofs.Found.{Stored}
use Rattle.promise.proofs.BlockEnd.{InDataAt, InMarkersAt, MarkerPlace, DataPlace, place_in_block}

module _ (s : Settings) (m : MappingMeaning) where
  -- the octet of data place q, put to its source
  abbrev stored : ℕ → ℕ → List ℕ → List ℕ
  stored q x memory = set memory (m.source q) (bit_xor x (m.mask q))

  in_data_stores : (j p x : ℕ) (memory : List ℕ) (mode : Mode) → InData j p mode → memory_after s m mode memory x ≡ stored (j * subframe_data s + p) x memory
  in_data_stores j p x memory (Hunting w) t = absurd t
  in_data_stores j p x memory (Reading lock place) (a, b, c) = rw (a, b, c)
  in_data_stores j p x memory (Checking lock w) t = absurd t

  in_marker_keeps : (x : ℕ) (memory : List ℕ) (mode : Mode) → InMarker mode → memory_after s m mode memory x ≡ memory
  in_marker_keeps x memory (Hunting w) t = absurd t
  in_marker_keeps x memory (Reading lock place) t = absurd t
  in_marker_keeps x memory (Checking lock w) t = refl

  pub length_memory_behind : (mode : Mode) (memory xs : List ℕ) → length (memory_behind s m mode memory xs) ≡ length memory
  unfolding memory_behind
  length_memory_behind mode memory [] = refl
  length_memory_behind mode memory (x ∷ xs) = length_memory_behind (mode_after s mode x) (memory_after s m mode memory x) xs ∙ memory_stays s m mode memory x

module _ (s : Settings) (m : MappingMeaning) (laws : MappingLaws m) (fits : mapping_fits s m ≡ true) (T : List ℕ) (base : ℕ)
    (reads_at : InDataAt s T base) (checks_at : InMarkersAt s T base) where
  data_inside : (j p : ℕ) → j < subframes s → p < subframe_data s → j * subframe_data s + p < block_size m
  data_inside j p hj hp =
      omega (arith, mul-add-lt j (subframe_data s) p (subframes s) hj hp, mul_comm (subframe_data s) (subframes s), data_fills s, (mapping_sizes s m fits).block_is)

  module _ (e : ℕ) (memory : List ℕ) (room : length memory ≡ block_size m) (st : Stored s m T base e memory) where
    stored_at_marker : MarkerPlace s base e → Stored s m T base (e + 1) (memory_after s m (mode_at s T e) memory (get_or T e 0))
    stored_at_marker q j p hj hp lt =
        let mark : InMarker (mode_at s T e) = subst (λ (k : ℕ). InMarker (mode_at s T k)) q.at (checks_at q.count q.offset q.not_first q.count_low q.offset_is_low) in
        let apart : base + (j * period s + (7 + p)) ≡ e → ⊥ = λ same.
        let jj : j ≡ q.count = same_marker j q.count (period s) (7 + p) q.offset (omega (arith, q.at)) (omega arith) (omega (arith, q.offset_is_low)) in
        omega (arith, q.at, q.offset_is_low, ap (λ (k : ℕ). k * period s) jj) in
        ap (λ (l : List ℕ). get_or l (m.source (j * subframe_data s + p)) 0) (in_marker_keeps s m (get_or T e 0) memory (mode_at s T e) mark) ∙ st j p hj hp (omega arith)

    stored_at_data : DataPlace s base e → Stored s m T base (e + 1) (memory_after s m (mode_at s T e) memory (get_or T e 0))
    stored_at_data q j p hj hp lt =
        let D : ℕ = subframe_data s in
        let n : ℕ = q.count * D + q.place in
        let reads : InData q.count q.place (mode_at s T e) = subst (λ (k : ℕ). InData q.count q.place (mode_at s T k)) q.at (reads_at q.count q.place q.count_low q.place_low) in
        let low : n < block_size m = data_inside q.count q.place q.count_low q.place_low in
        ap (λ (l : List ℕ). get_or l (m.source (j * D + p)) 0) (in_data_stores s m q.count q.place (get_or T e 0) memory (mode_at s T e) reads)
        ∙ ⊎_elim
        (λ (before : base + (j * period s + (7 + p)) < e).
        let other : m.source (j * D + p) ≡ m.source n → ⊥ = λ same.
        let nn : j * D + p ≡ q.count * D + q.place = laws.once (j * D + p) n (data_inside j p hj hp) low same in
        let jj : j ≡ q.count = same_marker j q.count D p q.place nn hp q.place_low in
        let pp : p ≡ q.place = omega (arith, nn, ap (λ (k : ℕ). k * D) jj) in
        omega (arith, q.at, ap (λ (k : ℕ). k * period s) jj) in
        get_or-set_other memory (m.source n) (m.source (j * D + p)) (bit_xor (get_or T e 0) (m.mask n)) 0 other ∙ st j p hj hp before)
        (λ (here : e ≤ base + (j * period s + (7 + p))).
        let same : base + (j * period s + (7 + p)) ≡ e = omega arith in
        let jj : j ≡ q.count = same_marker j q.count (period s) (7 + p) (7 + q.place) (omega (arith, q.at)) (omega arith) (omega (arith, q.place_low)) in
        let pp : p ≡ q.place = omega (arith, q.at, ap (λ (k : ℕ). k * period s) jj) in
        let nn : j * D + p ≡ q.count * D + q.place = omega (arith, ap (λ (k : ℕ). k * D) jj) in
        ap (λ (k : ℕ). get_or (stored s m n (get_or T e 0) memory) (m.source k) 0) nn
        ∙ get_or-set_same memory (m.source n) (bit_xor (get_or T e 0) (m.mask n)) 0 (omega (arith, laws.inside n low))
        ∙ ap (λ (k : ℕ). bit_xor (get_or T e 0) (m.mask k)) (sym nn) ∙ ap (λ (k : ℕ). bit_xor (get_or T k 0) (m.mask (j * D + p))) (sym same))
        (cases_lt (base + (j * period s + (7 + p))) e)

    -- one octet more, before the block's end
    stored_more : e < base + line_length s → Stored s m T base (e + 1) (memory_after s m (mode_at s T e) memory (get_or T e 0))
    stored_more early =
        ⊎_elim
        (λ (none : e < base + 7). λ j p hj hp lt. absurd (omega arith))
        (λ (late : base + 7 ≤ e). ⊎_elim stored_at_marker stored_at_data (place_in_block s base e late early))
        (cases_lt e (base + 7))

  memory_step : (k e : ℕ) (memory : List ℕ) → e < length T
      → memory_behind s m (mode_at s T e) memory (take (suc k) (drop e T)) ≡ memory_behind s m (mode_at s T (e + 1)) (memory_after s m (mode_at s T e) memory (get_or T e 0)) (take k (drop (e + 1) T))
  unfolding memory_behind
  memory_step k e memory more =
      ap (λ (l : List ℕ). memory_behind s m (mode_at s T e) memory (take (suc k) l)) (drop_more T e 0 more)
      ∙ ap (λ (md : Mode). memory_behind s m md (memory_after s m (mode_at s T e) memory (get_or T e 0)) (take k (drop (e + 1) T))) (sym (mode_at_more s T e more))

  -- k octets more
  pub stored_on : (k e : ℕ) (memory : List ℕ) → length memory ≡ block_size m → e + k ≤ base + line_length s → e + k ≤ length T → Stored s m T base e memory
      → Stored s m T base (e + k) (memory_behind s m (mode_at s T e) memory (take k (drop e T)))
  unfolding memory_behind
  stored_on zero e memory room le lt st = subst (λ (n : ℕ). Stored s m T base n memory) (sym (add-zero e)) st
  stored_on (suc k) e memory room le lt st =
      let at : e + 1 + k ≡ e + suc k = omega arith in
      let next = stored_on k (e + 1) (memory_after s m (mode_at s T e) memory (get_or T e 0)) (memory_stays s m (mode_at s T e) memory (get_or T e 0) ∙ room) (omega arith) (omega arith) (stored_more e memory room st (omega arith)) in
      subst (Stored s m T base (e + suc k)) (sym (memory_step k e memory (omega arith)))
      (subst (λ (n : ℕ). Stored s m T base n (memory_behind s m (mode_at s T (e + 1)) (memory_after s m (mode_at s T e) memory (get_or T e 0)) (take k (drop (e + 1) T)))) at next)
