-- The rows of a memory: one read, one replaced, one written as a part.
use Rattle.std.proofs.Common.{◌≡◌, ℕ, suc, ◌+◌, ◌-◌, ◌*◌, ◌<◌, ◌≤◌, ◌⊎◌, List, ◌++◌, length, get_or, take, drop, sym, ap, ◌∙◌, inl, inr, ⊎_elim, arith, length-append, length-drop, length-take}
use borrow.Rule.Slice.PartMut.{put_mid}
use Rattle.std.proofs.lemmas.Nat.{mul-le}
use Rattle.std.proofs.lemmas.List.{drop-drop, get_or_append_left, get_or-append_right, get_or-take, get_or-drop, ext_get_or, length-take-le, drop_at, take_at}
use Rattle.std.proofs.lemmas.Bool.{cases_lt}
use Rattle.settings.specs.declared.Settings.{Settings}
use Rattle.settings.specs.Lengths.{row_length, block_length}
use Rattle.link.specs.Frames.{row_at, with_row}

module _ (s : Settings) where
  -- a row that there is ends within the memory
  pub row_top : (i : ℕ) → i < s.rows → (i + 1) * row_length s ≤ block_length s
  row_top i h = omega (arith, mul-le (i + 1) (row_length s) s.rows (row_length s) (omega arith) (omega arith))

  pub length_with_row : (i : ℕ) (row memory : List ℕ) → i < s.rows → length row ≡ row_length s → length memory ≡ block_length s → length (with_row s i row memory) ≡ block_length s
  length_with_row i row memory h e l = simp (length-append, length-take, length-drop) (omega (arith, row_top i h))

  -- a part that comes back with another row
  pub row_put : (i start k : ℕ) (row memory : List ℕ) → start ≡ i * row_length s → k ≡ row_length s → put_mid start k memory row ≡ with_row s i row memory
  row_put i start k row memory e h =
      let at : i * row_length s + k ≡ suc i * row_length s = omega arith in
      ap (λ n. put_mid n k memory row) e
      ∙ ap (λ xs. take (i * row_length s) memory ++ (row ++ xs)) (drop-drop k (i * row_length s) memory ∙ ap (λ n. drop n memory) at)

  -- ---- a row of the memory, and a row replaced

  pub length_row_at : (i : ℕ) (memory : List ℕ) → i < s.rows → length memory ≡ block_length s → length (row_at s i memory) ≡ row_length s
  length_row_at i memory h e = simp (length-take, length-drop) (omega (arith, row_top i h))

  pub get_or_row_at : (i x : ℕ) (memory : List ℕ) → x < row_length s → get_or (row_at s i memory) x 0 ≡ get_or memory (i * row_length s + x) 0
  get_or_row_at i x memory h = get_or-take (row_length s) (drop (i * row_length s) memory) x 0 h ∙ get_or-drop (i * row_length s) memory x 0

  module _ (i : ℕ) (row memory : List ℕ) (hi : i < s.rows) (size : length row ≡ row_length s) (room : length memory ≡ block_length s) where
    length_front : length (take (i * row_length s) memory) ≡ i * row_length s
    length_front = length-take-le (i * row_length s) memory (omega (arith, row_top i hi))

    pub row_new : row_at s i (with_row s i row memory) ≡ row
    row_new =
        ap (take (row_length s)) (drop_at (take (i * row_length s) memory) (row ++ drop (suc i * row_length s) memory) (i * row_length s) length_front)
        ∙ take_at row (drop (suc i * row_length s) memory) (row_length s) size

    outside_row : (q : ℕ) → (q < i * row_length s) ⊎ ((i + 1) * row_length s ≤ q) → get_or (with_row s i row memory) q 0 ≡ get_or memory q 0
    outside_row q h =
        ⊎_elim
        (λ (lt : q < i * row_length s).
        get_or_append_left (take (i * row_length s) memory) (row ++ drop (suc i * row_length s) memory) 0 q (omega (arith, length_front)) ∙ get_or-take (i * row_length s) memory q 0 lt)
        (λ (ge : (i + 1) * row_length s ≤ q).
        let at : suc i * row_length s + (q - i * row_length s - row_length s) ≡ q = omega arith in
        get_or-append_right (take (i * row_length s) memory) (row ++ drop (suc i * row_length s) memory) (i * row_length s) q 0 length_front (omega arith)
        ∙ get_or-append_right row (drop (suc i * row_length s) memory) (row_length s) (q - i * row_length s) 0 size (omega arith)
        ∙ get_or-drop (suc i * row_length s) memory (q - i * row_length s - row_length s) 0
        ∙ ap (λ (k : ℕ). get_or memory k 0) at)
        h

    pub row_other : (k : ℕ) → k < s.rows → (k ≡ i → ⊥) → row_at s k (with_row s i row memory) ≡ row_at s k memory
    row_other k hk ne =
        let room' : length (with_row s i row memory) ≡ block_length s = length_with_row i row memory hi size room in
        ext_get_or 0 (row_at s k (with_row s i row memory)) (row_at s k memory) (length_row_at k (with_row s i row memory) hk room' ∙ sym (length_row_at k memory hk room))
        (λ x hx.
        let lx : x < row_length s = omega (arith, length_row_at k (with_row s i row memory) hk room') in
        let away : (k * row_length s + x < i * row_length s) ⊎ ((i + 1) * row_length s ≤ k * row_length s + x) =
        ⊎_elim (λ (lt : k < i). inl (omega (arith, mul-le (k + 1) (row_length s) i (row_length s) (omega arith) (omega arith))))
        (λ (ge : i ≤ k). inr (omega (arith, mul-le (i + 1) (row_length s) k (row_length s) (omega arith) (omega arith)))) (cases_lt k i) in
        get_or_row_at k x (with_row s i row memory) lx ∙ outside_row (k * row_length s + x) away ∙ sym (get_or_row_at k x memory lx))
