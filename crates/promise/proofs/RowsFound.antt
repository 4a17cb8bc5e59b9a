-- The rows of a block as it arrived, mended one after the other in the memory.
use Rattle.std.proofs.Common.{◌≡◌, ℕ, ◌+◌, ◌<◌, ◌≤◌, List, length, Result, sym, refl, ◌∙◌, subst, ⊎_elim, arith}
use Rattle.std.proofs.lemmas.Bool.{cases_lt}
use Rattle.settings.specs.declared.Settings.{Settings}
use Rattle.settings.specs.Lengths.{block_length}
use Rattle.code.specs.Meaning.{CodeMeaning}
use Rattle.mapping.specs.Meaning.{MappingMeaning}
use Rattle.link.specs.Frames.{row_at, with_row}
use Rattle.link.specs.RowMending.{MendedRow}
use Rattle.link.specs.declared.mending.RowFault.{RowFault}
use Rattle.link.proofs.Rows.{row_new, row_other, length_with_row}
use Rattle.promise.proofs.Found.{Arrived, RowFound}

module _ (s : Settings) (m : MappingMeaning) (T : List ℕ) (base : ℕ) (code : CodeMeaning) where
  -- the memory with the first i rows of the block mended, and the others as they arrived
  pub record RowsFound (i : ℕ) (memory : List ℕ) : Type 0 where
    pub as_arrived : List ℕ
    pub arrived : Arrived s m T base as_arrived
    pub room : length memory ≡ block_length s
    pub others : (k : ℕ) → i ≤ k → k < s.rows → row_at s k memory ≡ row_at s k as_arrived
    pub mended : (k : ℕ) → k < i → (altered : ℕ) × (valid : Result Unit RowFault) × RowFound s m T base code k (row_at s k memory) altered valid

  pub none_mended : (memory : List ℕ) → Arrived s m T base memory → RowsFound 0 memory
  none_mended memory h = record { as_arrived = memory; arrived = h; room = h.room; others = λ k lo hi. refl; mended = λ k lo. absurd (omega arith) }

  module _ (i : ℕ) (memory row : List ℕ) (altered : ℕ) (valid : Result Unit RowFault) (hi : i < s.rows) (h : RowsFound i memory) (now : MendedRow s.depth code (row_at s i memory) row altered valid) where
    -- one row more, mended as it arrived
    pub row_found : RowFound s m T base code i row altered valid
    row_found = record {
      memory = h.as_arrived;
      arrived = h.arrived;
      mended = subst (λ (l : List ℕ). MendedRow s.depth code l row altered valid) (h.others i (omega arith) hi) now;
    }

    pub one_more_mended : RowsFound (i + 1) (with_row s i row memory)
    one_more_mended = record {
      as_arrived = h.as_arrived;
      arrived = h.arrived;
      room = length_with_row s i row memory hi now.size h.room;
      others = λ k lo hk. row_other s i row memory hi now.size h.room k hk (λ z. omega arith) ∙ h.others k (omega arith) hk;
      mended = λ k lo. ⊎_elim
          (λ (old : k < i).
          let (a, v, found) = h.mended k old in
          (a, v, subst (λ (l : List ℕ). RowFound s m T base code k l a v) (sym (row_other s i row memory hi now.size h.room k (omega arith) (λ z. omega arith))) found))
          (λ (new : i ≤ k).
          let k-is : i ≡ k = omega arith in
          subst (λ (n : ℕ). (a : ℕ) × (v : Result Unit RowFault) × RowFound s m T base code n (row_at s n (with_row s i row memory)) a v) k-is
          (altered, valid, subst (λ (l : List ℕ). RowFound s m T base code i l altered valid) (sym (row_new s i row memory hi now.size h.room)) row_found))
          (cases_lt k i);
    }
