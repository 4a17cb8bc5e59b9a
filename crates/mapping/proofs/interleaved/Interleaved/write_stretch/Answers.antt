use Rattle.std.proofs.lemmas.List.{length-take-le}
use Rattle.std.proofs.Common.{◌≡◌, ℕ, ◌+◌, length, length-take, get_or, sym, ap, ◌∙◌, subst, add_assoc, arith}
use lib.Bits.{xor_zero_r}
use Rattle.mapping.specs.Interleaver.{interleaved, step_of}
use Rattle.mapping.specs.Walk.{At}
use Rattle.mapping.specs.Laws.{interleaved_laws}
use Rattle.mapping.proofs.Stretching.{not_refused, stands, filled_more, written_front}
use Rattle.mapping.proofs.interleaved.Interleaved.write_stretch.Goals as goal

pub bounds-memory-place : goal.bounds-memory-place
bounds-memory-place c =
    let s = c.args.self.now.settings in
    let i = c.args.self.now.interleaver in
    let p = c.args.start + c.loop-octet.octet-index in
    let here = stands s i _ c.args.start _ c.in_ok-taken.taken c.loop-octet.octet-index c.loop-octet.walk c.in_ok-taken.ensures (omega (arith, length-take c.in_ok-taken.taken c.args.out.now)) c.loop-octet.invariant.1 in
    omega (arith, here.0, here.2, c.place.ensures, (interleaved_laws s i).inside p here.1)

pub loop-octet-preserved : goal.loop-octet-preserved
loop-octet-preserved c =
    let s = c.args.self.now.settings in
    let i = c.args.self.now.interleaver in
    let step = step_of i in
    let p = c.args.start + c.loop-octet.octet-index in
    let here = stands s i _ c.args.start _ c.in_ok-taken.taken c.loop-octet.octet-index c.loop-octet.walk c.in_ok-taken.ensures (omega (arith, length-take c.in_ok-taken.taken c.args.out.now)) c.loop-octet.invariant.1 in
    let from = c.place.ensures ∙ here.2 in
    let On : ℕ → Type 0 = λ p. At s step p c.advance.new.self in (
      filled_more _ _ c.loop-octet.octet-items c.loop-octet.octet-index _ c.loop-octet.invariant.0 (omega arith)
          (ap (λ q. get_or c.args.memory.now q 0) from ∙ sym (xor_zero_r _)),
      subst On (add_assoc c.args.start c.loop-octet.octet-index 1) (c.advance.ensures s step p c.loop-octet.invariant.1),
    )

pub returns : goal.returns
returns c =
    let m = interleaved c.args.self.now.settings c.args.self.now.interleaver in
    let answer = c.in_ok-taken.ensures in
    let begun = not_refused m _ c.args.start answer.0 in
    let size : length c.loop-octet.octet-items ≡ c.in_ok-taken.taken = c.loop-octet.invariant.0.size ∙ length-take-le c.in_ok-taken.taken c.args.out.now (omega (arith, answer.1)) in
    written_front m c.args.memory.now c.args.out.now c.loop-octet.octet-items c.args.start c.in_ok-taken.taken
    begun.0 begun.1 answer.1 size (λ j l. c.loop-octet.invariant.0.written j (omega (arith, size)))
