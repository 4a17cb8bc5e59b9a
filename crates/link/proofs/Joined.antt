-- Pieces one behind the other: their length, their octets, and a block on the line, which is made of them.
use Rattle.std.proofs.Common.{◌≡◌, ℕ, zero, suc, ◌+◌, ◌*◌, ◌<◌, List, [], ◌++◌, length, get_or, sym, refl, ap, ◌∙◌, ⊎_elim, eq-or-lt_of_le, add-one, arith, length-append}
use Rattle.std.proofs.lemmas.Nat.{mul-add-lt}
use Rattle.std.proofs.lemmas.List.FromFn.{length-map-range_with_len, get_or-map-range_with_len}
use Rattle.std.proofs.lemmas.List.{get_or_append_left, get_or-append-add}
use Rattle.settings.specs.declared.Settings.{Settings}
use Rattle.settings.specs.Lengths.{subframes, subframe_data, period}
use Rattle.mapping.specs.Meaning.{MappingMeaning}
use Rattle.mapping.specs.Bulk.{line_octet}
use Rattle.marker.specs.Marker.{marker}
use Rattle.marker.proofs.Markers.{length_marker}
use Rattle.link.specs.Line.{joined, line_length, subframe, block_line}

pub joined_more : (n : ℕ) (f : ℕ → List ℕ) → joined (n + 1) f ≡ joined n f ++ f n
unfolding joined
joined_more n f = rw add-one

pub joined_none : (f : ℕ → List ℕ) → joined 0 f ≡ []
unfolding joined
joined_none f = refl

-- pieces that agree are joined alike
pub joined_alike : (n : ℕ) (f g : ℕ → List ℕ) → ((i : ℕ) → i < n → f i ≡ g i) → joined n f ≡ joined n g
unfolding joined
joined_alike zero f g e = refl
joined_alike (suc n) f g e =
    let a : joined n f ≡ joined n g = joined_alike n f g (λ i h. e i (omega arith)) in
    let b : f n ≡ g n = e n (omega arith) in
    cc

-- pieces of one size
module _ (size : ℕ) (f : ℕ → List ℕ) (sized : (i : ℕ) → length (f i) ≡ size) where
  pub length_joined : (n : ℕ) → length (joined n f) ≡ n * size
  unfolding joined
  length_joined zero = omega arith
  length_joined (suc n) =
      let a = length_joined n in
      let b = sized n in
      length-append (joined n f) (f n) ∙ omega arith

  pub get_or_joined : (n i r d : ℕ) → i < n → r < size → get_or (joined n f) (i * size + r) d ≡ get_or (f i) r d
  unfolding joined
  get_or_joined zero i r d h k = absurd (omega arith)
  get_or_joined (suc n) i r d h k =
      ⊎_elim
      (λ (e : i ≡ n).
      let at : i * size + r ≡ length (joined n f) + r = omega (arith, length_joined n, ap (λ x. x * size) e) in
      ap (λ (x : ℕ). get_or (joined n f ++ f n) x d) at ∙ get_or-append-add (joined n f) (f n) r d ∙ ap (λ x. get_or (f x) r d) (sym e))
      (λ (lt : i < n).
      let inside : i * size + r < length (joined n f) = omega (arith, length_joined n, mul-add-lt i size r n lt k) in
      get_or_append_left (joined n f) (f n) d (i * size + r) inside ∙ get_or_joined n i r d lt k)
      (eq-or-lt_of_le (omega arith))

module _ (s : Settings) (m : MappingMeaning) (memory : List ℕ) where
  pub length_subframe : (j : ℕ) → length (subframe s m memory j) ≡ period s
  length_subframe j =
      length-append (marker j) _ ∙ omega (arith, length_marker j, length-map-range_with_len (λ r. line_octet m memory (j * subframe_data s + r)) 0 (subframe_data s))

  pub length_block_line : length (block_line s m memory) ≡ line_length s
  unfolding block_line
  length_block_line = length_joined (period s) (subframe s m memory) length_subframe (subframes s)

  -- the octets of marker j
  pub line_at_marker : (j r : ℕ) → j < subframes s → r < 7 → get_or (block_line s m memory) (j * period s + r) 0 ≡ get_or (marker j) r 0
  unfolding block_line
  line_at_marker j r h k =
      let small : r < period s = omega arith in
      let inside : r < length (marker j) = omega (arith, length_marker j) in
      get_or_joined (period s) (subframe s m memory) length_subframe (subframes s) j r 0 h small
      ∙ get_or_append_left (marker j) _ 0 r inside

  -- the data behind marker j
  pub line_at_data : (j r : ℕ) → j < subframes s → r < subframe_data s → get_or (block_line s m memory) (j * period s + (7 + r)) 0 ≡ line_octet m memory (j * subframe_data s + r)
  unfolding block_line
  line_at_data j r h k =
      let small : 7 + r < period s = omega arith in
      let at : 7 + r ≡ length (marker j) + r = omega (arith, length_marker j) in
      get_or_joined (period s) (subframe s m memory) length_subframe (subframes s) j (7 + r) 0 h small
      ∙ ap (λ (x : ℕ). get_or (subframe s m memory j) x 0) at
      ∙ get_or-append-add (marker j) _ r 0
      ∙ get_or-map-range_with_len (λ x. line_octet m memory (j * subframe_data s + x)) 0 (subframe_data s) r r 0 k (omega arith)
