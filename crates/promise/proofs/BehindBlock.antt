-- What next and show find behind a block, and what of it the state and the memory keep.
use Rattle.std.proofs.Common.{◌≡◌, ℕ, ◌+◌, ◌-◌, ◌*◌, ◌<◌, ◌≤◌, true, false, ◌⊎◌, List, length, take, drop, Some, None, Ok, Err, Result, sym, ap, ◌∙◌, subst, inl, inr, ⊎_elim, arith}
use Rattle.std.proofs.lemmas.Nat.{mul-le}
use Rattle.std.proofs.lemmas.List.{take-take}
use Rattle.std.proofs.lemmas.Bool.{cases_lt, cases_Bool, eq-eqb}
use Rattle.settings.specs.declared.Settings.{Settings}
use Rattle.settings.specs.Lengths.{row_length, block_length}
use Rattle.code.specs.Meaning.{CodeMeaning}
use Rattle.mapping.specs.Meaning.{MappingMeaning}
use Rattle.link.specs.Frames.{frame_length, row_at, with_row}
use Rattle.link.specs.ReceiverRefusal.{next_refusal, show_refusal}
use Rattle.link.specs.RowMending.{MendedRow}
use Rattle.link.specs.ReceiverSteps.{NextStep, ShowStep, at_row}
use Rattle.link.specs.declared.receiving.ReceiverState.{ReceiverState}
use Rattle.link.specs.declared.reception.NextFault.{NextFault}
use Rattle.link.specs.declared.reception.ShowFault.{ShowFault}
use Rattle.link.specs.declared.reception.NextAnswer.{NextAnswer}
use Rattle.link.proofs.ReceiverTables.{next_accepted}
use Rattle.link.proofs.Rows.{length_with_row}
use Rattle.promise.specs.ReceiverHistory.{ReceiverCall, next, show, nexts, latest_is_next}
use Rattle.promise.proofs.Found.{Finds}
use Rattle.link.proofs.ReceiverTables.{next_fits, show_fits}
use Rattle.promise.proofs.RowsFound.{RowsFound, row_found, one_more_mended}

module _ (s : Settings) (m : MappingMeaning) (T : List ℕ) (base : ℕ) (code : CodeMeaning) where
  -- Behind the block, with i nexts accepted since: till all its rows are answered, and till a feed then, the state counts them, and the
  -- memory has the first i rows mended.
  pub record BehindBlock (i : ℕ) (a : ReceiverState) (memory : List ℕ) : Type 0 where
    pub room : length memory ≡ block_length s
    pub found : (i < s.rows) ⊎ ((i ≡ s.rows) × (a.after_next ≡ true)) → (a.answered ≡ i) × RowsFound s m T base code i memory

  -- an accepted next behind the block
  pub next_behind : (i : ℕ) (a b : ReceiverState) (memory memory' : List ℕ) (answer : NextAnswer) → NextStep s code a memory (Ok answer) b memory' → BehindBlock i a memory → BehindBlock (i + 1) b memory'
  next_behind i a b memory memory' answer p h =
      let fit = next_fits s a.answered memory p.accepted in
      let up : b.answered ≡ a.answered + 1 = ap (λ (v : ReceiverState). v.answered) p.after in
      record {
        room = ap length p.stored ∙ length_with_row s a.answered p.row_after memory fit.1 p.mended.size fit.0;
        found = λ z.
            let lt : i < s.rows = ⊎_elim (λ (low : i + 1 < s.rows). omega arith) (λ top. omega (arith, top.0)) z in
            let (at, rows) = h.found (inl lt) in
            let is : memory' ≡ with_row s i p.row_after memory = p.stored ∙ ap (λ (k : ℕ). with_row s k p.row_after memory) at in
            let now : MendedRow s.depth code (row_at s i memory) p.row_after answer.altered p.valid =
            subst (λ (k : ℕ). MendedRow s.depth code (row_at s k memory) p.row_after answer.altered p.valid) at p.mended in
            (up ∙ ap (λ (k : ℕ). k + 1) at, subst (RowsFound s m T base code (i + 1)) (sym is) (one_more_mended s m T base code i memory p.row_after answer.altered p.valid lt rows now));
      }

  pub next_finds : (between : List ReceiverCall) (a b : ReceiverState) (memory memory' : List ℕ) (r : Result NextAnswer NextFault) → NextStep s code a memory r b memory'
      → BehindBlock (nexts between) a memory → Finds s m T base code between (next r)
  next_finds between a b memory memory' (Ok answer) p h = λ lt.
      let (at, rows) = h.found (inl lt) in
      let now : MendedRow s.depth code (row_at s (nexts between) memory) p.row_after answer.altered p.valid =
      subst (λ (k : ℕ). MendedRow s.depth code (row_at s k memory) p.row_after answer.altered p.valid) at p.mended in
      (p.row_is ∙ at, (p.row_after, p.valid, row_found s m T base code (nexts between) memory p.row_after answer.altered p.valid lt rows now, p.valid_is ∙ ap (at_row p.valid) at))
  next_finds between a b memory memory' (Err fault) (e, p, q) h =
      ⊎_elim
      (λ (lt : nexts between < s.rows).
      let none : next_refusal s a.answered memory ≡ None = next_accepted s a.answered memory h.room (omega (arith, (h.found (inl lt)).0)) in
      let bad : Some fault ≡ None = sym e ∙ none in
      let z : ◌≡◌ {A = ℕ} 0 1 = cc in
      absurd (omega arith))
      (λ z. z)
      (cases_lt (nexts between) s.rows)

  pub show_finds : (between : List ReceiverCall) (a : ReceiverState) (memory : List ℕ) (r : Result (List ℕ) ShowFault) → code.information ≤ 255 → ShowStep s code a memory r
      → (a.after_next ≡ false → latest_is_next between ≡ false) → BehindBlock (nexts between) a memory → Finds s m T base code between (show r)
  show_finds between a memory (Ok octets) fits (accepted, is) latest h = λ i hi at.
      let on : a.after_next ≡ true = (show_fits s a.after_next memory accepted).1 in
      let (count, rows) = h.found (⊎_elim (λ lt. inl lt) (λ (top : s.rows ≤ nexts between). inr (omega arith, on)) (cases_lt (nexts between) s.rows)) in
      let (altered, valid, found) = rows.mended i (omega arith) in
      let i-is : a.answered - 1 ≡ i = omega arith in (
        row_at s i memory,
        altered,
        valid,
        found,
        is ∙ ap (λ (k : ℕ). take (frame_length s.depth code) (drop (k * row_length s) memory)) i-is
            ∙ sym (take-take (frame_length s.depth code) (row_length s) (drop (i * row_length s) memory) (mul-le code.information s.depth 255 s.depth fits (omega arith))),
      )
  show_finds between a memory (Err fault) fits e latest h =
      ⊎_elim
      (λ (on : a.after_next ≡ true).
      let none : show_refusal s a.after_next memory ≡ None = rw (eq-eqb (length memory) (block_length s) h.room, on) in
      let bad : Some fault ≡ None = sym e ∙ none in
      let z : ◌≡◌ {A = ℕ} 0 1 = cc in
      absurd (omega arith))
      (λ (off : a.after_next ≡ false). latest off)
      (cases_Bool a.after_next)
