use Rattle.std.proofs.Common.{ℕ, ◌+◌, length-take, sym, ◌∙◌, subst, add_assoc, arith}
use lib.Bits.{xor_zero_r}
use Rattle.mapping.specs.Interleaver.{interleaved, step_of}
use Rattle.mapping.specs.Walk.{At}
use Rattle.std.proofs.lemmas.List.{get_or-take}
use Rattle.mapping.specs.Laws.{interleaved_laws}
use Rattle.mapping.proofs.Stretching.{not_refused, stands, stored_more, stored_all}
use Rattle.mapping.proofs.interleaved.Interleaved.store_stretch.Goals as goal

pub bounds-memory-place : goal.bounds-memory-place
bounds-memory-place c =
    let s = c.args.self.now.settings in
    let i = c.args.self.now.interleaver in
    let p = c.args.start + c.loop-octet.octet-index in
    let here = stands s i _ c.args.start _ c.in_ok-taken.taken c.loop-octet.octet-index c.loop-octet.walk c.in_ok-taken.ensures (omega (arith, length-take c.in_ok-taken.taken c.args.line.now)) c.loop-octet.invariant.1 in
    omega (arith, here.0, c.loop-octet.invariant.0.size, here.2, c.place.ensures, (interleaved_laws s i).inside p here.1)

pub loop-octet-preserved : goal.loop-octet-preserved
loop-octet-preserved c =
    let s = c.args.self.now.settings in
    let i = c.args.self.now.interleaver in
    let step = step_of i in
    let p = c.args.start + c.loop-octet.octet-index in
    let here = stands s i _ c.args.start _ c.in_ok-taken.taken c.loop-octet.octet-index c.loop-octet.walk c.in_ok-taken.ensures (omega (arith, length-take c.in_ok-taken.taken c.args.line.now)) c.loop-octet.invariant.1 in
    let from = c.place.ensures ∙ here.2 in
    let On : ℕ → Type 0 = λ p. At s step p c.advance.new.self in (
      stored_more (interleaved s i) (interleaved_laws s i) _ c.args.start c.args.memory.now c.loop-octet.memory c.loop-octet.octet-index _ _
          c.loop-octet.invariant.0 here.0 here.1 from (get_or-take c.in_ok-taken.taken c.args.line.now _ 0 (omega (arith, length-take c.in_ok-taken.taken c.args.line.now)) ∙ sym (xor_zero_r _)),
      subst On (add_assoc c.args.start c.loop-octet.octet-index 1) (c.advance.ensures s step p c.loop-octet.invariant.1),
    )

pub returns : goal.returns
returns c =
    let m = interleaved c.args.self.now.settings c.args.self.now.interleaver in
    let answer = c.in_ok-taken.ensures in
    let begun = not_refused m _ c.args.start answer.0 in
    stored_all m c.args.line.now c.args.memory.now c.loop-octet.memory c.args.start _ c.loop-octet.octet-index
    begun.0 begun.1 answer.1 (omega (arith, answer.1, length-take c.in_ok-taken.taken c.args.line.now)) c.loop-octet.invariant.0
