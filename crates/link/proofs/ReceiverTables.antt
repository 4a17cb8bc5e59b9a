-- What it says that no check of a receiver's call fails, and what the invariants of a receiver say.
use Rattle.std.proofs.Common.{◌≡◌, ℕ, ◌*◌, ◌<◌, ◌≤◌, Bool, true, false, List, length, take, drop, None, Result, subst, ap₂, arith}
use Rattle.std.proofs.lemmas.Bool.{and_parts, eqb-true, eq-eqb, lt-ltb, ltb-true, ltb-false}
use Rattle.settings.specs.declared.Settings.{Settings}
use Rattle.settings.specs.Lengths.{row_length, block_length}
use Rattle.code.specs.Meaning.{CodeMeaning}
use Rattle.mapping.specs.Meaning.{MappingMeaning}
use Rattle.link.specs.Frames.{row_at}
use Rattle.link.specs.RowMending.{MendedRow}
use Rattle.link.specs.declared.mending.RowFault.{RowFault}
use Rattle.link.specs.Refusal.{memory_fits, mapping_fits, block_fits}
use Rattle.link.specs.ReceiverFits.{next_is_fit}
use Rattle.link.specs.ReceiverRefusal.{feed_refusal, next_refusal, show_refusal}
use Rattle.link.proofs.Tables.{none_first, none_only}

-- behind next some row is answered
pub answered_some : (after_next : Bool) (answered : ℕ) → next_is_fit after_next answered ≡ true → after_next ≡ true → 0 < answered
answered_some true answered fits e = ltb-true 0 answered fits
answered_some false answered fits e = let z : ◌≡◌ {A = ℕ} 0 1 = cc in absurd (omega arith)

module _ (s : Settings) where
  pub next_accepted : (answered : ℕ) (memory : List ℕ) → length memory ≡ block_length s → answered < s.rows → next_refusal s answered memory ≡ None
  next_accepted answered memory l h = rw (eq-eqb (length memory) (block_length s) l, lt-ltb answered s.rows h)

  -- a row mended as a part of the memory
  pub part_mended : (code : CodeMeaning) (i start k : ℕ) (memory row : List ℕ) (count : ℕ) (valid : Result Unit RowFault)
      → start ≡ i * row_length s → k ≡ row_length s
      → MendedRow s.depth code (take k (drop start memory)) row count valid → MendedRow s.depth code (row_at s i memory) row count valid
  part_mended code i start k memory row count valid e h m =
      let part : take k (drop start memory) ≡ row_at s i memory = ap₂ (λ a b. take a (drop b memory)) h e in
      subst (λ xs. MendedRow s.depth code xs row count valid) part m

  -- ---- what an accepted call says of the state and of the memory

  pub feed_fits : (m : MappingMeaning) (answered : ℕ) (memory : List ℕ) → feed_refusal s m answered memory ≡ None
      → (length memory ≡ block_length s) × (s.rows ≤ answered)
  feed_fits m answered memory e =
      let p = none_first (block_fits s m memory) _ _ e in
      (eqb-true (length memory) (block_length s) (and_parts (memory_fits s memory) (mapping_fits s m) p.0).0, ltb-false answered s.rows (none_only _ _ p.1))

  pub next_fits : (answered : ℕ) (memory : List ℕ) → next_refusal s answered memory ≡ None → (length memory ≡ block_length s) × (answered < s.rows)
  next_fits answered memory e =
      let p = none_first _ _ _ e in
      let q = none_first _ _ _ p.1 in
      (eqb-true (length memory) (block_length s) p.0, ltb-true answered s.rows q.0)

  pub show_fits : (after_next : Bool) (memory : List ℕ) → show_refusal s after_next memory ≡ None → (length memory ≡ block_length s) × (after_next ≡ true)
  show_fits after_next memory e =
      let p = none_first _ _ _ e in
      let q = none_first _ _ _ p.1 in
      (eqb-true (length memory) (block_length s) p.0, q.0)
