use Rattle.std.proofs.Common.{[], ◌∷◌, sym, ◌∙◌}
use Rattle.std.proofs.lemmas.Bool.{true≢false}
use Rattle.std.proofs.lemmas.Bool.Decides.{Decides-eqb}
use Rattle.std.proofs.lemmas.Slice.Eq.{starts_is}
use Rattle.sheet.proofs.Names.{bare_stops, rs16_stops}
use Rattle.sheet.proofs.reader.Reader.code_name.Goals as goal

pub returns-in_err-word : goal.returns-in_err-word
returns-in_err-word c =
    let line = c.args.self.now.rest.now in
    rw c.from_residual.ensures (bare_stops line _ _ ((starts_is Decides-eqb line (98 ∷ []) _ c.starts_with.ensures.value).0 c.if-starts_with.true) c.in_err-word.ensures)

pub returns-in_err-word-2 : goal.returns-in_err-word-2
returns-in_err-word-2 c =
    let line = c.args.self.now.rest.now in
    rw c.from_residual-in_err-word-2.ensures
    (rs16_stops line _ (λ rest e. true≢false (sym ((starts_is Decides-eqb line (98 ∷ []) _ c.starts_with.ensures.value).1 rest e) ∙ c.if-starts_with.false)) c.in_err-word-2.ensures)
