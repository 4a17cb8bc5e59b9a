-- The line sent is a beginning of the line of the frames put.
use Rattle.std.proofs.Common.{◌≡◌, ℕ, suc, ◌+◌, ◌*◌, ◌<◌, ◌≤◌, true, false, ltb, ◌⊎◌, List, [], ◌∷◌, ◌++◌, length, get_or, take, drop, Ok, Err, Result, sym, refl, ap, ◌∙◌, subst, inl, inr, ⊎_elim, append_assoc, append-nil, zero-mul, arith, length-append, length-drop, take-append-drop, length-take, take-add}
use Rattle.std.proofs.lemmas.Nat.{mul-add-lt, mul-le}
use Rattle.std.proofs.lemmas.List.{get_or_append_left, get_or_push, length_push, length-take-le, take_at, take_all}
use Rattle.std.proofs.lemmas.Bool.{lt-ltb, le-ltb, cases_lt}
use Rattle.settings.specs.declared.Settings.{Settings}
use Rattle.settings.specs.Lengths.{row_length, block_length}
use Rattle.code.specs.Meaning.{CodeMeaning}
use Rattle.mapping.specs.Meaning.{MappingMeaning}
use Rattle.link.specs.Frames.{EncodedFrame, with_row}
use Rattle.link.specs.Line.{joined, line_length, block_line, block_memory, line_of_rows, EncodedFrames}
use Rattle.link.specs.SenderSteps.{drawn_on, PutStep, DrawStep}
use Rattle.link.specs.SenderHistory.{SenderCall, put, draw, SenderHistory, made, put_next, draw_next, frames_put, line_sent}
use Rattle.link.specs.SenderLaws.{SendsLine}
use Rattle.link.specs.declared.fault.PutFault.{PutFault}
use Rattle.link.specs.declared.fault.DrawFault.{DrawFault}
use Rattle.link.specs.declared.state.SenderState.{SenderState}
use Rattle.link.proofs.Joined.{joined_more, joined_none, joined_alike, length_block_line}
use Rattle.link.proofs.Rows.{length_with_row}
use Rattle.link.proofs.Tables.{PutFits, put_fits, draw_fits}

module _ (s : Settings) (m : MappingMeaning) (rows : List (List ℕ)) (row : List ℕ) where
  -- a row more leaves whole blocks as they are
  line_kept : (n : ℕ) → n * s.rows ≤ length rows → line_of_rows s m (rows ++ (row ∷ [])) n ≡ line_of_rows s m rows n
  line_kept n h =
      joined_alike n (λ b. block_line s m (block_memory s (rows ++ (row ∷ [])) b)) (λ b. block_line s m (block_memory s rows b))
      (λ b hb. ap (block_line s m) (joined_alike s.rows (λ i. get_or (rows ++ (row ∷ [])) (b * s.rows + i) []) (λ i. get_or rows (b * s.rows + i) [])
      (λ i hi. get_or_append_left rows (row ∷ []) [] (b * s.rows + i) (omega (arith, mul-add-lt b s.rows i n hb hi)))))

  rows_more : (from n : ℕ) → length rows ≡ from + n → joined (n + 1) (λ i. get_or (rows ++ (row ∷ [])) (from + i) []) ≡ joined n (λ i. get_or rows (from + i) []) ++ row
  rows_more from n e =
      let last : get_or (rows ++ (row ∷ [])) (from + n) [] ≡ row = get_or_push rows row [] (from + n) e in
      let front : joined n (λ i. get_or (rows ++ (row ∷ [])) (from + i) []) ≡ joined n (λ i. get_or rows (from + i) []) =
      joined_alike n (λ i. get_or (rows ++ (row ∷ [])) (from + i) []) (λ i. get_or rows (from + i) []) (λ i hi. get_or_append_left rows (row ∷ []) [] (from + i) (omega arith)) in
      joined_more n (λ i. get_or (rows ++ (row ∷ [])) (from + i) []) ∙ ap (λ xs. xs ++ get_or (rows ++ (row ∷ [])) (from + n) []) front ∙ ap (λ xs. joined n (λ i. get_or rows (from + i) []) ++ xs) last

none_stored : (n : ℕ) (memory : List ℕ) (f : ℕ → List ℕ) → take (0 * n) memory ≡ joined 0 f
none_stored n memory f = ap (λ k. take k memory) (zero-mul n) ∙ sym (joined_none f)

-- the front of a memory with a row more
front_more : (s : Settings) (i : ℕ) (row memory : List ℕ) → length row ≡ row_length s → i * row_length s ≤ length memory → take ((i + 1) * row_length s) (with_row s i row memory) ≡ take (i * row_length s) memory ++ row
front_more s i row memory e h =
    let front : length (take (i * row_length s) memory) ≡ i * row_length s = length-take-le (i * row_length s) memory h in
    let size : length (take (i * row_length s) memory ++ row) ≡ (i + 1) * row_length s = length-append (take (i * row_length s) memory) row ∙ omega arith in
    ap (take ((i + 1) * row_length s)) (sym (append_assoc (take (i * row_length s) memory) row (drop (suc i * row_length s) memory))) ∙ take_at (take (i * row_length s) memory ++ row) (drop (suc i * row_length s) memory) ((i + 1) * row_length s) size

module _ (s : Settings) (code : CodeMeaning) (m : MappingMeaning) (some : 0 < line_length s) (a-row : 0 < s.rows) where
  -- What each history keeps: of the rows put, `blocks` whole blocks are drawn, and the others are in the memory.
  pub record Held (calls : List SenderCall) (a : SenderState) (memory : List ℕ) : Type 0 where
    pub rows : List (List ℕ)
    pub encoded : EncodedFrames s.depth code (frames_put calls) rows
    pub blocks : ℕ
    pub size : length rows ≡ blocks * s.rows + a.put
    pub most : a.put ≤ s.rows
    pub short : a.drawn < line_length s
    pub room : 0 < a.put → length memory ≡ block_length s
    pub phase : (a.drawn ≡ 0) ⊎ (a.put ≡ s.rows)
    pub stored : take (a.put * row_length s) memory ≡ joined a.put (λ i. get_or rows (blocks * s.rows + i) [])
    pub sent_is : line_sent calls ≡ line_of_rows s m rows blocks ++ take a.drawn (block_line s m memory)

  rows_push : (fs rows : List (List ℕ)) (frame row : List ℕ) → EncodedFrames s.depth code fs rows → EncodedFrame s.depth code frame row → EncodedFrames s.depth code (fs ++ (frame ∷ [])) (rows ++ (row ∷ []))
  rows_push fs rows frame row h e =
      record {
        size = length_push rows row ∙ ap (λ n. n + 1) h.size ∙ sym (length_push fs frame);
        each = λ i hi. ⊎_elim
            (λ (lt : i < length fs).
            let lt' : i < length rows = omega (arith, h.size) in
            subst (λ x. EncodedFrame s.depth code x (get_or (rows ++ (row ∷ [])) i [])) (sym (get_or_append_left fs (frame ∷ []) [] i lt))
            (subst (λ x. EncodedFrame s.depth code (get_or fs i []) x) (sym (get_or_append_left rows (row ∷ []) [] i lt')) (h.each i lt)))
            (λ (ge : length fs ≤ i).
            let at : length fs ≡ i = omega (arith, length_push fs frame) in
            subst (λ x. EncodedFrame s.depth code x (get_or (rows ++ (row ∷ [])) i [])) (sym (get_or_push fs frame [] i at))
            (subst (λ x. EncodedFrame s.depth code frame x) (sym (get_or_push rows row [] i (h.size ∙ at))) e))
            (cases_lt i (length fs));
      }

  put_held : (calls : List SenderCall) (a : SenderState) (memory frame row : List ℕ) (i : ℕ) → PutFits s code a.put memory frame → EncodedFrame s.depth code frame row → Held calls a memory
      → Held (put frame (Ok i) ∷ calls) (record { put = a.put + 1; drawn = a.drawn }) (with_row s a.put row memory)
  unfolding frames_put line_sent
  put_held calls a memory frame row i f e h =
      let idle : a.drawn ≡ 0 = ⊎_elim (λ z. z) (λ full. absurd (omega (arith, f.room))) h.phase in
      let room : a.put < s.rows = f.room in
      let inside : a.put * row_length s ≤ length memory = omega (arith, f.memory_size, mul-le a.put (row_length s) s.rows (row_length s) h.most (omega arith)) in
      record {
        rows = h.rows ++ (row ∷ []);
        encoded = rows_push (frames_put calls) h.rows frame row h.encoded e;
        blocks = h.blocks;
        size = length_push h.rows row ∙ omega (arith, h.size);
        most = omega arith;
        short = h.short;
        room = λ z. length_with_row s a.put row memory room e.size f.memory_size;
        phase = inl idle;
        stored = front_more s a.put row memory e.size inside ∙ ap (λ xs. xs ++ row) h.stored ∙ sym (rows_more s m h.rows row (h.blocks * s.rows) a.put h.size);
        sent_is = h.sent_is ∙ ap (λ xs. xs ++ take a.drawn (block_line s m memory)) (sym (line_kept s m h.rows row h.blocks (omega (arith, h.size))))
            ∙ ap (λ k. line_of_rows s m (h.rows ++ (row ∷ [])) h.blocks ++ take k (block_line s m memory)) idle ∙ sym (ap (λ k. line_of_rows s m (h.rows ++ (row ∷ [])) h.blocks ++ take k (block_line s m (with_row s a.put row memory))) idle);
      }

  -- a draw's part of the output
  drawn_part : (drawn n : ℕ) (memory out : List ℕ) → drawn + n ≤ line_length s → take n (take n (drop drawn (block_line s m memory)) ++ drop n out) ≡ take n (drop drawn (block_line s m memory))
  drawn_part drawn n memory out h =
      take_at (take n (drop drawn (block_line s m memory))) (drop n out) n (simp (length-take, length-drop) (omega (arith, length_block_line s m memory)))

  -- the memory is the block, where all its rows are put
  whole_block : (calls : List SenderCall) (a : SenderState) (memory : List ℕ) → length memory ≡ block_length s → a.put ≡ s.rows → (h : Held calls a memory) → memory ≡ block_memory s h.rows h.blocks
  whole_block calls a memory size full h =
      let all : length memory ≤ a.put * row_length s = omega (arith, ap (λ k. k * row_length s) full) in
      sym (take_all (a.put * row_length s) memory all) ∙ h.stored ∙ ap (λ k. joined k (λ i. get_or h.rows (h.blocks * s.rows + i) [])) full

  module _ (calls : List SenderCall) (a : SenderState) (memory before : List ℕ) (n : ℕ) (size : length memory ≡ block_length s) (full : a.put ≡ s.rows) (fits : a.drawn + n ≤ line_length s) (h : Held calls a memory) where
    sent_on : line_sent (draw before (take n (drop a.drawn (block_line s m memory)) ++ drop n before) (Ok n) ∷ calls) ≡ line_of_rows s m h.rows h.blocks ++ take (a.drawn + n) (block_line s m memory)
    unfolding line_sent
    sent_on =
        ap (λ xs. xs ++ take n (take n (drop a.drawn (block_line s m memory)) ++ drop n before)) h.sent_is
        ∙ ap (λ xs. (line_of_rows s m h.rows h.blocks ++ take a.drawn (block_line s m memory)) ++ xs) (drawn_part a.drawn n memory before fits)
        ∙ append_assoc (line_of_rows s m h.rows h.blocks) (take a.drawn (block_line s m memory)) (take n (drop a.drawn (block_line s m memory)))
        ∙ ap (λ xs. line_of_rows s m h.rows h.blocks ++ xs) (sym (take-add a.drawn n (block_line s m memory)))

    draw_held : Held (draw before (take n (drop a.drawn (block_line s m memory)) ++ drop n before) (Ok n) ∷ calls) (drawn_on s a n) memory
    unfolding frames_put
    draw_held =
        ⊎_elim
        (λ (lt : a.drawn + n < line_length s).
        let test : ltb (a.drawn + n) (line_length s) ≡ true = lt-ltb (a.drawn + n) (line_length s) lt in
        rw test (record {
          rows = h.rows;
          encoded = h.encoded;
          blocks = h.blocks;
          size = h.size;
          most = h.most;
          short = lt;
          room = h.room;
          phase = inr full;
          stored = h.stored;
          sent_is = sent_on;
        }))
        (λ (ge : line_length s ≤ a.drawn + n).
        let test : ltb (a.drawn + n) (line_length s) ≡ false = le-ltb (a.drawn + n) (line_length s) ge in
        let whole : take (a.drawn + n) (block_line s m memory) ≡ block_line s m (block_memory s h.rows h.blocks) =
        take_all (a.drawn + n) (block_line s m memory) (omega (arith, length_block_line s m memory)) ∙ ap (block_line s m) (whole_block calls a memory size full h) in
        rw test (record {
          rows = h.rows;
          encoded = h.encoded;
          blocks = h.blocks + 1;
          size = omega (arith, h.size, full);
          most = omega arith;
          short = some;
          room = λ z. absurd (omega arith);
          phase = inl refl;
          stored = none_stored (row_length s) memory _;
          sent_is = sent_on ∙ ap (λ xs. line_of_rows s m h.rows h.blocks ++ xs) whole ∙ sym (joined_more h.blocks (λ b. block_line s m (block_memory s h.rows b))) ∙ sym (append-nil _);
        }))
        (cases_lt (a.drawn + n) (line_length s))

  put_keeps : (calls : List SenderCall) (a b : SenderState) (memory memory' frame : List ℕ) (r : Result ℕ PutFault) → PutStep s code a memory frame r b memory' → Held calls a memory → Held (put frame r ∷ calls) b memory'
  unfolding frames_put line_sent
  put_keeps calls a b memory memory' frame (Ok i) p h =
      let to : memory' ≡ with_row s a.put p.row memory = p.stored ∙ ap (λ k. with_row s k p.row memory) p.answer in
      rw (p.after, to) (put_held calls a memory frame p.row i (put_fits s code a.put memory frame p.accepted) p.encoded h)
  put_keeps calls a b memory memory' frame (Err fault) (e, p, q) h =
      let at_b : Held calls b memory' = rw (p, q) h in
      record {
        rows = at_b.rows;
        encoded = rw append-nil at_b.encoded;
        blocks = at_b.blocks;
        size = at_b.size;
        most = at_b.most;
        short = at_b.short;
        room = at_b.room;
        phase = at_b.phase;
        stored = at_b.stored;
        sent_is = at_b.sent_is;
      }

  draw_keeps : (calls : List SenderCall) (a b : SenderState) (memory before after : List ℕ) (r : Result ℕ DrawFault) → DrawStep s m a memory before r b after → Held calls a memory → Held (draw before after r ∷ calls) b memory
  unfolding frames_put line_sent
  draw_keeps calls a b memory before after (Ok n) p h =
      let f = draw_fits s m a.put memory p.accepted in
      let full : a.put ≡ s.rows = omega (arith, f.filled, h.most) in
      rw (p.after, p.written) (draw_held calls a memory before n f.memory_size full (omega (arith, p.answer, h.short)) h)
  draw_keeps calls a b memory before after (Err fault) (e, p, q) h =
      let at_b : Held calls b memory = rw p h in
      record {
        rows = at_b.rows;
        encoded = at_b.encoded;
        blocks = at_b.blocks;
        size = at_b.size;
        most = at_b.most;
        short = at_b.short;
        room = at_b.room;
        phase = at_b.phase;
        stored = at_b.stored;
        sent_is = append-nil _ ∙ at_b.sent_is;
      }

  pub held : {calls : List SenderCall} {b : SenderState} {memory : List ℕ} → SenderHistory s code m calls b memory → Held calls b memory
  unfolding frames_put line_sent
  held (made memory) =
      record {
        rows = [];
        encoded = record { size = refl; each = λ i h. absurd (omega arith) };
        blocks = 0;
        size = omega arith;
        most = omega arith;
        short = some;
        room = λ z. absurd (omega arith);
        phase = inl refl;
        stored = none_stored (row_length s) memory _;
        sent_is = sym (joined_none _) ∙ sym (append-nil _);
      }
  held (put_next run p) = put_keeps _ _ _ _ _ _ _ p (held run)
  held (draw_next run p) = draw_keeps _ _ _ _ _ _ _ p (held run)

  pub sends_line : SendsLine s code m
  sends_line calls b memory run =
      let h = held run in
      ⊎_elim
      (λ (part : b.put < s.rows).
      let idle : b.drawn ≡ 0 = ⊎_elim (λ z. z) (λ full. omega arith) h.phase in
      record {
        rows = h.rows;
        encoded = h.encoded;
        blocks = h.blocks;
        full = omega (arith, h.size, h.encoded.size);
        rest = [];
        beginning = append-nil (line_sent calls) ∙ h.sent_is ∙ ap (λ k. line_of_rows s m h.rows h.blocks ++ take k (block_line s m memory)) idle ∙ append-nil _;
      })
      (λ (all : s.rows ≤ b.put).
      let full : b.put ≡ s.rows = omega (arith, h.most) in
      let size : length memory ≡ block_length s = h.room (omega arith) in
      record {
        rows = h.rows;
        encoded = h.encoded;
        blocks = h.blocks + 1;
        full = omega (arith, h.size, h.encoded.size);
        rest = drop b.drawn (block_line s m memory);
        beginning = ap (λ xs. xs ++ drop b.drawn (block_line s m memory)) h.sent_is
            ∙ append_assoc (line_of_rows s m h.rows h.blocks) (take b.drawn (block_line s m memory)) (drop b.drawn (block_line s m memory))
            ∙ ap (λ xs. line_of_rows s m h.rows h.blocks ++ xs) (take-append-drop b.drawn (block_line s m memory) ∙ ap (block_line s m) (whole_block calls b memory size full h))
            ∙ sym (joined_more h.blocks (λ k. block_line s m (block_memory s h.rows k)));
      })
      (cases_lt b.put s.rows)
