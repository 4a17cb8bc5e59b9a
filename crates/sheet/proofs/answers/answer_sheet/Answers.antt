use Rattle.std.proofs.Common.{◌≡◌, [], ◌∷◌, ◌++◌, ◌==◌, take, string_bytes, ap, ◌∙◌, rules}
use Rattle.std.proofs.lemmas.Bool.Decides.{Decides-eqb}
use Rattle.std.proofs.lemmas.List.{take_min}
use Rattle.std.proofs.lemmas.List.Sorted.{answers_always}
use Rattle.std.proofs.lemmas.Slice.Eq.{strip_suffix_is}
use Rattle.sheet.specs.Answers.{sheet_limit, line_feed}
use Rattle.sheet.proofs.Lines.{FirstLine, piece_line, completes_none, completes_more, completes_all}
use Rattle.sheet.proofs.answers.answer_sheet.Goals as goal

pub loop-line-init : goal.loop-line-init
loop-line-init c =
    let whole : c.into_iter-line-iterator.result.rest.now ≡ take sheet_limit c.args.sheet.now =
    ap (λ s. s.rest.now) c.into_iter-line-iterator.ensures.into_iter_gives ∙ (c.split_inclusive-line-items.ensures.rest ∙ (ap (λ n. take n c.args.sheet.now) c.min.ensures ∙ take_min sheet_limit c.args.sheet.now)) in
    completes_none (take sheet_limit c.args.sheet.now) c.into_iter-line-iterator.result.rest.now (string_bytes c.new-answers.result) whole c.new-answers.ensures.bytes

pub loop-line-preserved : goal.loop-line-preserved
unfolding lib.Utf8.encode
loop-line-preserved c =
    let step = c.in-Some.ensures.steps in
    let first : FirstLine c.loop-line.line-iterator.rest.now c.unwrap_or-line.result.now c.next.new.self.rest.now =
    rw c.unwrap_or-line.ensures
    (piece_line _ _ c.in-Some.line step.1.0 c.strip_suffix.result (record { cut = step.0; size = step.1.1; first = (step.1.2 (λ x. x == line_feed) (answers_always _ _ _ (λ f a r g h. search rules))).1 })
    (strip_suffix_is Decides-eqb c.in-Some.line.now (line_feed ∷ []) c.strip_suffix.result c.strip_suffix.ensures.cases)) in
    let pushed : string_bytes c.push.new.self ≡ string_bytes c.loop-line.answers ++ string_bytes c.in_ok-answer_line.field-0 ++ (line_feed ∷ []) =
    c.in_ok-push.ensures.bytes ∙ ap (λ u. u ++ (line_feed ∷ [])) (c.in_ok-push_str.ensures.bytes ∙ ap (λ u. string_bytes c.loop-line.answers ++ u) c.as_str.ensures.value) in
    completes_more (take sheet_limit c.args.sheet.now) c.loop-line.line-iterator.rest.now _ _ (string_bytes c.loop-line.answers)
    (string_bytes c.in_ok-answer_line.field-0) (string_bytes c.push.new.self) c.loop-line.invariant step.2 first c.in_ok-answer_line.ensures pushed

pub returns : goal.returns
returns c = completes_all (take sheet_limit c.args.sheet.now) c.loop-line.line-iterator.rest.now (string_bytes c.loop-line.answers) c.loop-line.invariant c.in-None.ensures.steps.0
