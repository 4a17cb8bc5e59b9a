use Rattle.std.proofs.Common.{ℕ, ◌<◌, List, length, get_or, set, take, sym, ap, ◌∙◌, arith}
use Rattle.std.proofs.lemmas.List.{take_more}
use Rattle.octets.specs.Words.{word_length, word_place, word_of}
use Rattle.octets.proofs.Words.{keeps_set, place_below, word_set}
use Rattle.rs16.specs.Mending.{corrected}
use Rattle.rs16.specs.declared.corrections.Correction.{Correction}
use Rattle.rs16.proofs.Correcting.{corrected_more}
use Rattle.rs16.proofs.weaving.Woven.store_corrections.Goals as goal

pub loop-correction-preserved : goal.loop-correction-preserved
loop-correction-preserved c =
    let d : ℕ = c.args.self.depth in
    let w : ℕ = c.args.self.word in
    let i : ℕ = c.loop-correction.correction-index in
    let none : Correction = record { place = 0; octet = 0 } in
    let cs : List Correction = c.args.corrections.now in
    let it : Correction = get_or cs i none in
    let before : List ℕ = c.args.row.now in
    let row : List ℕ = c.loop-correction.row in
    let among : w < d = c.args.self.among in
    let low : it.place < word_length = c.requires.corrects.inside i none c.loop-correction-test.true in
    let inside : word_place d w it.place < length row =
    omega (arith, place_below d w it.place 255 among low, c.requires.size, c.loop-correction.auto.row) in (
      word_set d w it.place it.octet row among low inside
          ∙ ap (λ v. set v it.place it.octet) c.loop-correction.invariant.0
          ∙ sym (corrected_more (take i cs) it (word_of d w before))
          ∙ ap (λ ds. corrected ds (word_of d w before)) (sym (take_more cs i none c.loop-correction-test.true)),
      keeps_set d w it.place it.octet before row among c.loop-correction.invariant.1,
    )
