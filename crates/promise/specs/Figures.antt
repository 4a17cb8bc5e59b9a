-- How a quote is printed.
use Rattle.std.specs.Prelude.{ℕ, List, [], ◌∷◌, codes, decimal}
use Rattle.std.specs.List.{concat}
use Rattle.promise.specs.declared.figures.Quote.{Quote}

-- a quote in brackets, its figures in decimal, each behind its name
abbrev pub quote_text : Quote → List ℕ
quote_text q = concat (
    codes "(quote (frame " ∷ decimal q.frame
    ∷ codes ") (block " ∷ decimal q.block
    ∷ codes ") (fade " ∷ decimal q.fade
    ∷ codes ") (resync " ∷ decimal q.resync
    ∷ codes "))" ∷ []
    )
