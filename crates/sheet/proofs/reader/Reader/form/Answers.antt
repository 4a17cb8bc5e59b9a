use Rattle.std.proofs.Common.{[], ◌∷◌, codes, refl}
use Rattle.sheet.proofs.Forms.{BehindMisses, BehindSub, BehindRows, BehindSymbol, BehindDepth, some_sub, some_rows, some_symbol, some_depth, in_number, past_number, in_code, past_code, form_read}
use Rattle.sheet.proofs.reader.Reader.form.Goals as goal

pub returns-in_err-code : goal.returns-in_err-code
returns-in_err-code c = rw c.from_residual.ensures (in_code _ _ c.in_err-code.ensures)

pub returns-in_err-depth : goal.returns-in_err-depth
returns-in_err-depth c =
    rw c.from_residual-in_err-depth.ensures
    (past_code _ _ _ _ c.in_ok-code.ensures (in_number (codes "depth") BehindDepth some_depth _ _ c.in_err-depth.ensures))

pub returns-in_err-symbol : goal.returns-in_err-symbol
returns-in_err-symbol c =
    rw c.from_residual-in_err-symbol.ensures
    (past_code _ _ _ _ c.in_ok-code.ensures
    (past_number (codes "depth") BehindDepth _ _ _ _ c.in_ok-depth.ensures
    (in_number (codes "symbol") BehindSymbol some_symbol _ _ c.in_err-symbol.ensures)))

pub returns-in_err-rows : goal.returns-in_err-rows
returns-in_err-rows c =
    rw c.from_residual-in_err-rows.ensures
    (past_code _ _ _ _ c.in_ok-code.ensures
    (past_number (codes "depth") BehindDepth _ _ _ _ c.in_ok-depth.ensures
    (past_number (codes "symbol") BehindSymbol _ _ _ _ c.in_ok-symbol.ensures
    (in_number (codes "rows") BehindRows some_rows _ _ c.in_err-rows.ensures))))

pub returns-in_err-subframe_rows : goal.returns-in_err-subframe_rows
returns-in_err-subframe_rows c =
    rw c.from_residual-in_err-subframe_rows.ensures
    (past_code _ _ _ _ c.in_ok-code.ensures
    (past_number (codes "depth") BehindDepth _ _ _ _ c.in_ok-depth.ensures
    (past_number (codes "symbol") BehindSymbol _ _ _ _ c.in_ok-symbol.ensures
    (past_number (codes "rows") BehindRows _ _ _ _ c.in_ok-rows.ensures
    (in_number (codes "sub") BehindSub some_sub _ _ c.in_err-subframe_rows.ensures)))))

pub returns-in_err-miss_limit : goal.returns-in_err-miss_limit
returns-in_err-miss_limit c =
    rw c.from_residual-in_err-miss_limit.ensures
    (past_code _ _ _ _ c.in_ok-code.ensures
    (past_number (codes "depth") BehindDepth _ _ _ _ c.in_ok-depth.ensures
    (past_number (codes "symbol") BehindSymbol _ _ _ _ c.in_ok-symbol.ensures
    (past_number (codes "rows") BehindRows _ _ _ _ c.in_ok-rows.ensures
    (past_number (codes "sub") BehindSub _ _ _ _ c.in_ok-subframe_rows.ensures
    (in_number (codes "misses") BehindMisses (41 ∷ [], refl) _ _ c.in_err-miss_limit.ensures))))))

pub returns-in_err-close : goal.returns-in_err-close
returns-in_err-close c =
    rw c.from_residual-in_err-close.ensures
    (past_code _ _ _ _ c.in_ok-code.ensures
    (past_number (codes "depth") BehindDepth _ _ _ _ c.in_ok-depth.ensures
    (past_number (codes "symbol") BehindSymbol _ _ _ _ c.in_ok-symbol.ensures
    (past_number (codes "rows") BehindRows _ _ _ _ c.in_ok-rows.ensures
    (past_number (codes "sub") BehindSub _ _ _ _ c.in_ok-subframe_rows.ensures
    (past_number (codes "misses") BehindMisses _ _ _ _ c.in_ok-miss_limit.ensures
    c.in_err-close.ensures))))))

pub returns : goal.returns
returns c =
    form_read _ _ _ _ _ _ _ _ _
    c.in_ok-code.ensures c.in_ok-depth.ensures c.in_ok-symbol.ensures c.in_ok-rows.ensures c.in_ok-subframe_rows.ensures c.in_ok-miss_limit.ensures c.in_ok-close.ensures
