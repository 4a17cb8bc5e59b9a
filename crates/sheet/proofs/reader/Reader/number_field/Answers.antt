use Rattle.std.proofs.Common.{[], ◌∷◌, ◌++◌, sym, ap, ◌∙◌, append_assoc}
use Rattle.sheet.proofs.Parts.{literal_begins, literal_behind, field_begins, field_reads}
use Rattle.sheet.proofs.reader.Reader.number_field.Goals as goal

pub returns-in_err-word : goal.returns-in_err-word
returns-in_err-word c =
    let name = c.args.name.now in
    rw c.from_residual.ensures (field_begins name _ _ (literal_begins (32 ∷ 40 ∷ []) (name ++ (32 ∷ [])) _ _ c.in_err-word.ensures))

pub returns-in_err-word-2 : goal.returns-in_err-word-2
returns-in_err-word-2 c =
    let name = c.args.name.now in
    rw c.from_residual-in_err-word-2.ensures
    (field_begins name _ _ (literal_behind (32 ∷ 40 ∷ []) (name ++ (32 ∷ [])) _ _ _ c.in_ok-word.ensures (literal_begins name (32 ∷ []) _ _ c.in_err-word-2.ensures)))

pub returns-in_err-word-3 : goal.returns-in_err-word-3
returns-in_err-word-3 c =
    let name = c.args.name.now in
    rw c.from_residual-in_err-word-3.ensures
    (field_begins name _ _ (literal_behind (32 ∷ 40 ∷ []) (name ++ (32 ∷ [])) _ _ _ c.in_ok-word.ensures (literal_behind name (32 ∷ []) _ _ _ c.in_ok-word-2.ensures c.in_err-word-3.ensures)))

pub returns : goal.returns
returns c =
    let name = c.args.name.now in
    field_reads name _ _ c.closed_number.result c.closed_number.new.self.rest.now
    (c.in_ok-word.ensures ∙ ap (λ u. 32 ∷ 40 ∷ u) (c.in_ok-word-2.ensures ∙ (ap (λ u. name ++ u) c.in_ok-word-3.ensures ∙ sym (append_assoc name (32 ∷ []) c.word-3.new.self.rest.now)))) c.closed_number.ensures
