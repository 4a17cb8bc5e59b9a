-- The text of the answers: one line for each line of the sheet.
use Rattle.std.specs.Prelude.{◌≡◌, ℕ, cond, List, [], ◌∷◌, ◌++◌, take, Option, Some, None, Ok, Err, codes, decimal, Result, ◌==◌}
use Rattle.std.specs.Io.KnownBytes.{Appends}
use Rattle.std.specs.List.{concat}
use Rattle.promise.specs.declared.figures.Quote.{Quote}
use Rattle.promise.specs.Figures.{quote_text}
use Rattle.sheet.specs.declared.line.LineFault.{LineFault}
use Rattle.sheet.specs.declared.line.LineFault.TheVariants.{Unfit, Refused}
use Rattle.sheet.specs.Line.{LineQuoted, number}

-- a refusal's number in brackets; with 18 goes the place
abbrev pub fault_text : LineFault → List ℕ
fault_text (Unfit m) = concat (codes "(refused " ∷ decimal (number (Unfit m)) ∷ codes " at " ∷ decimal m.place ∷ codes ")" ∷ [])
fault_text (Refused e) = concat (codes "(refused " ∷ decimal (number (Refused e)) ∷ codes ")" ∷ [])

-- the line that tells a quote or a refusal
abbrev pub answer_text : Result Quote LineFault → List ℕ
answer_text (Ok q) = quote_text q
answer_text (Err fault) = fault_text fault

-- what a line is answered
pub record AnswerTo (line answer : List ℕ) : Type 0 where
  pub quoted : Result Quote LineFault
  pub right : LineQuoted line quoted
  pub same : answer ≡ answer_text quoted

-- Lines end at a line feed or where the sheet does; a line feed at the very end begins no line.
abbrev pub line_feed : ℕ
line_feed = 10

-- an octet before the first of some lines
abbrev pub onto : ℕ → List (List ℕ) → List (List ℕ)
onto x [] = (x ∷ []) ∷ []
onto x (line ∷ lines) = (x ∷ line) ∷ lines

unfoldable pub lines_of : List ℕ → List (List ℕ)
lines_of [] = []
lines_of (x ∷ xs) = cond (x == line_feed) ([] ∷ lines_of xs) (onto x (lines_of xs))

-- one answer for each line, in order, each with a line feed
abbrev pub AnswersEach : List (List ℕ) → List ℕ → Type 0
AnswersEach [] out = out ≡ []
AnswersEach (line ∷ lines) out = (answer : List ℕ) × (rest : List ℕ) × AnswerTo line answer × (out ≡ answer ++ (line_feed ∷ rest)) × AnswersEach lines rest

-- the octets of a sheet that are read
abbrev pub sheet_limit : ℕ
sheet_limit = 65536

abbrev pub AnswersTo : List ℕ → List ℕ → Type 0
AnswersTo sheet out = AnswersEach (lines_of (take sheet_limit sheet)) out

-- Where the octets of the input are known, those that the output gains are the answers to them.
abbrev pub AnswersInput : Option (List ℕ) → Option (List ℕ) → Option (List ℕ) → Type 0
AnswersInput None before after = Unit {0}
AnswersInput (Some sheet) before after = (answers : List ℕ) × AnswersTo sheet answers × Appends before after answers
