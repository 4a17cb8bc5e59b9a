use Rattle.std.proofs.Common.{◌≡◌, ◌*◌, ◌<◌, Ok, ap, ◌∙◌, arith}
use Rattle.std.proofs.lemmas.Nat.{mod_below}
use Rattle.std.proofs.lemmas.Bool.{cond_below}
use Rattle.mapping.specs.Interleaver.{block_source, stepped_source, interleaved_source}
use Rattle.mapping.specs.Bounds.{cut_of, step_of_high, stepped_column_fits}
use Rattle.mapping.specs.InterleaverLemmas.{columns_pos, round_lt}
use Rattle.mapping.proofs.interleaved.Interleaved.source_of.Goals as goal
use Rattle.mapping.proofs.interleaved.Interleaved.source_of.Goals.{in-Block, in-Stepped}

pub overflow_add-column : goal.overflow_add-column
overflow_add-column c =
    let m = c.args.self.now in
    let high = rw c.in-Stepped.is at (step_of_high m.interleaver m.allowed) in
    simp (c.symbol-symbol.ensures, c.rows-rows.ensures)
    (omega (arith, stepped_column_fits m.settings c.in-Stepped.step c.args.p high (omega arith)))

pub symbol_place-requires-clause-column : goal.symbol_place-requires-clause-column
symbol_place-requires-clause-column c =
    let s = c.args.self.now.settings in
    let h : c.args.p < 255 * s.depth * s.rows = omega arith in
    elim c.match-self.branch [
      | in-Block w ↦ simp (w.column-is, c.symbol-symbol.ensures, c.rows-rows.ensures) (round_lt s.depth s.rows s.symbol 0 (cut_of s) c.args.p h)
      | in-Stepped w ↦ simp (w.column-is, w.row_length.ensures, c.symbol-symbol.ensures) (mod_below _ _ (columns_pos s.depth s.rows s.symbol 0 (cut_of s)))
    ]

pub returns : goal.returns
unfolding block_source stepped_source
returns c =
    let m = c.args.self.now in
    let s = m.settings in
    let h : c.args.p < 255 * s.depth * s.rows = omega arith in
    let e : c.symbol_place.result ≡ interleaved_source s m.interleaver c.args.p = elim c.match-self.branch [
      | in-Block w ↦ rw w.in-Block.is (cc)
      | in-Stepped w ↦ rw w.in-Stepped.is (cc)
    ] in
    ap Ok e ∙ cond_below c.args.p (255 * s.depth * s.rows) _ _ h
