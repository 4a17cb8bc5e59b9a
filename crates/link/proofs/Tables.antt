-- What it says that no check of a call fails.
use Rattle.std.proofs.Common.{◌≡◌, ℕ, ◌<◌, ◌≤◌, Bool, true, false, cond, eqb, ltb, List, length, Some, None, Option, refl, arith}
use Rattle.std.proofs.lemmas.Bool.{eqb-true, eq-eqb, ltb-true, ltb-false, lt-ltb, le-ltb, and_parts, cond-true}
use Rattle.settings.specs.declared.Settings.{Settings}
use Rattle.settings.specs.Lengths.{block_length}
use Rattle.code.specs.Meaning.{CodeMeaning}
use Rattle.mapping.specs.Meaning.{MappingMeaning, block_size}
use Rattle.link.specs.Frames.{frame_length}
use Rattle.link.specs.declared.fault.DrawFault.TheVariants.{Unfilled}
use Rattle.link.specs.Refusal.{mapping_fits, put_refusal, draw_refusal, draw_refusal_by}

-- a check that passed, and what comes after it
pub none_first : {F : Type 0} (b : Bool) (fault : F) (rest : Option F) → cond b rest (Some fault) ≡ None → (b ≡ true) × (rest ≡ None)
none_first true fault rest e = (refl, e)
none_first false fault rest e = let z : ◌≡◌ {A = ℕ} 0 1 = cc in absurd (omega arith)

-- the last check, passed where its test does not hold
pub none_only : {F : Type 0} (b : Bool) (fault : F) → cond b (Some fault) None ≡ None → b ≡ false
none_only true fault e = let z : ◌≡◌ {A = ℕ} 0 1 = cc in absurd (omega arith)
none_only false fault e = refl

module _ (s : Settings) where
  pub put_accepted : (code : CodeMeaning) (put : ℕ) (memory frame : List ℕ) → length memory ≡ block_length s → length frame ≡ frame_length s.depth code → put < s.rows
      → put_refusal s code put memory frame ≡ None
  put_accepted code put memory frame m f p =
      rw (eq-eqb (length memory) (block_length s) m, eq-eqb (length frame) (frame_length s.depth code) f, lt-ltb put s.rows p)

  -- an accepted put
  pub record PutFits (code : CodeMeaning) (put : ℕ) (memory frame : List ℕ) : Type 0 where
    pub memory_size : length memory ≡ block_length s
    pub frame_size : length frame ≡ frame_length s.depth code
    pub room : put < s.rows

  pub put_fits : (code : CodeMeaning) (put : ℕ) (memory frame : List ℕ) → put_refusal s code put memory frame ≡ None → PutFits code put memory frame
  put_fits code put memory frame e =
      let a = none_first _ _ _ e in
      let b = none_first _ _ _ a.1 in
      let d = none_first _ _ _ b.1 in
      record {
        memory_size = eqb-true (length memory) (block_length s) a.0;
        frame_size = eqb-true (length frame) (frame_length s.depth code) b.0;
        room = ltb-true put s.rows d.0;
      }

  -- a mapping that fits
  pub record MappingSizes (m : MappingMeaning) : Type 0 where
    pub depth_is : m.depth ≡ s.depth
    pub rows_is : m.rows ≡ s.rows
    pub block_is : block_size m ≡ block_length s

  pub mapping_sizes : (m : MappingMeaning) → mapping_fits s m ≡ true → MappingSizes m
  mapping_sizes m e =
      let p = and_parts (eqb m.depth s.depth) (eqb m.rows s.rows) e in
      let d : m.depth ≡ s.depth = eqb-true m.depth s.depth p.0 in
      let r : m.rows ≡ s.rows = eqb-true m.rows s.rows p.1 in
      record { depth_is = d; rows_is = r; block_is = rw (d, r) }

  pub draw_accepted : (m : MappingMeaning) (put : ℕ) (memory : List ℕ) → length memory ≡ block_length s → mapping_fits s m ≡ true → s.rows ≤ put
      → draw_refusal_by s m put memory ≡ None
  draw_accepted m put memory l f p = rw (f, eq-eqb (length memory) (block_length s) l, le-ltb put s.rows p)

  -- an accepted draw
  pub record DrawFits (m : MappingMeaning) (put : ℕ) (memory : List ℕ) : Type 0 where
    pub mapping_is_fit : mapping_fits s m ≡ true
    pub memory_size : length memory ≡ block_length s
    pub filled : s.rows ≤ put

  pub draw_fits : (m : MappingMeaning) (put : ℕ) (memory : List ℕ) → draw_refusal_by s m put memory ≡ None → DrawFits m put memory
  draw_fits m put memory e =
      let a = none_first _ _ _ e in
      let b = none_first _ _ _ a.1 in
      record {
        mapping_is_fit = a.0;
        memory_size = eqb-true (length memory) (block_length s) b.0;
        filled = ltb-false put s.rows (none_only (ltb put s.rows) Unfilled b.1);
      }

  -- of a mapping that fits, the checks are the table's
  pub draw_by_table : (m : MappingMeaning) (put : ℕ) (memory : List ℕ) → mapping_fits s m ≡ true → draw_refusal_by s m put memory ≡ draw_refusal s put memory
  draw_by_table m put memory f = cond-true _ _ _ f
