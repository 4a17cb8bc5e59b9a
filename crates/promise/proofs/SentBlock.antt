-- A block of the line sent: its rows are the frames put, encoded.
use Rattle.std.proofs.Common.{◌≡◌, ℕ, ◌+◌, ◌*◌, ◌<◌, List, [], ◌++◌, length, get_or, take, drop, replicate, sym, ap, ◌∙◌, subst, arith, length-append, length-drop}
use lib.ListN.{length-replicate}
use Rattle.std.proofs.lemmas.Nat.{mul-add-lt, mul-le}
use Rattle.std.proofs.lemmas.List.{ext_get_or, get_or-take, get_or-drop, length-take-le, take_at}
use Rattle.settings.specs.declared.Settings.{Settings}
use Rattle.settings.specs.Lengths.{row_length}
use Rattle.code.specs.Meaning.{CodeMeaning}
use Rattle.mapping.specs.Meaning.{MappingMeaning}
use Rattle.link.specs.Frames.{EncodedFrame, row_at}
use Rattle.link.specs.Line.{joined, block_memory, BeginsLine}
use Rattle.link.proofs.Joined.{joined_alike, length_joined, get_or_joined}

-- n pieces of one size, joined; what is behind the n-th may be of any
module _ (n size : ℕ) (f : ℕ → List ℕ) (sized : (i : ℕ) → i < n → length (f i) ≡ size) where
  -- made that long
  padded : ℕ → List ℕ
  padded i = take size (f i ++ replicate size 0)

  padded_sized : (i : ℕ) → length (padded i) ≡ size
  unfolding padded
  padded_sized i = length-take-le size (f i ++ replicate size 0) (omega (arith, length-append (f i) (replicate size 0), length-replicate {A = ℕ} size 0))

  padded_same : (i : ℕ) → i < n → f i ≡ padded i
  unfolding padded
  padded_same i low = sym (take_at (f i) (replicate size 0) size (sized i low))

  -- piece i, cut out again
  pub piece_at : (i : ℕ) → i < n → take size (drop (i * size) (joined n f)) ≡ f i
  piece_at i low =
      let all : length (joined n f) ≡ n * size = ap length (joined_alike n f padded padded_same) ∙ length_joined size padded padded_sized n in
      let long : length (take size (drop (i * size) (joined n f))) ≡ size =
      length-take-le size (drop (i * size) (joined n f)) (simp length-drop (omega (arith, mul-le (i + 1) size n size (omega arith) (omega arith)))) in
      ext_get_or 0 (take size (drop (i * size) (joined n f))) (f i) (long ∙ sym (sized i low)) (λ x hx.
      let lx : x < size = subst (λ k. x < k) long hx in
      get_or-take size (drop (i * size) (joined n f)) x 0 lx
      ∙ get_or-drop (i * size) (joined n f) x 0
      ∙ ap (λ xs. get_or xs (i * size + x) 0) (joined_alike n f padded padded_same)
      ∙ get_or_joined size padded padded_sized n i x 0 low lx
      ∙ ap (λ xs. get_or xs x 0) (sym (padded_same i low)))

module _ (s : Settings) (code : CodeMeaning) (m : MappingMeaning) (frames : List (List ℕ)) (sent : List ℕ) (line : BeginsLine s code m frames sent) (b : ℕ) (filled : b < line.blocks) where
  encoded : (i : ℕ) → i < s.rows → EncodedFrame s.depth code (get_or frames (b * s.rows + i) []) (get_or line.rows (b * s.rows + i) [])
  encoded i low = line.encoded.each (b * s.rows + i) (omega (arith, line.full, mul-add-lt b s.rows i line.blocks filled low))

  -- row i of the block's memory is the frame put, encoded
  pub row_encoded : (i : ℕ) → i < s.rows → EncodedFrame s.depth code (get_or frames (b * s.rows + i) []) (row_at s i (block_memory s line.rows b))
  row_encoded i low =
      subst (EncodedFrame s.depth code (get_or frames (b * s.rows + i) []))
      (sym (piece_at s.rows (row_length s) (λ k. get_or line.rows (b * s.rows + k) []) (λ k h. (encoded k h).size) i low)) (encoded i low)
