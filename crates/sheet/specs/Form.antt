-- The text of a form, and where a line stops fitting any.
use Rattle.std.specs.Prelude.{◌≡◌, ℕ, ◌+◌, ◌<◌, ◌≤◌, List, [], ◌∷◌, ◌++◌, length, take, codes, decimal}
use Rattle.std.specs.List.{concat}
use Rattle.promise.specs.declared.kinds.CodeName.{CodeName}
use Rattle.promise.specs.declared.kinds.CodeName.TheVariants.{Rs16, Bare}
use Rattle.sheet.specs.declared.form.LinkForm.{LinkForm}

-- A typed number is 0, or a digit 1 to 9 and up to four more: what is written of each number below this.
abbrev pub typed_limit : ℕ
typed_limit = 100000

pub record Typed (f : LinkForm) : Type 0 where
  pub depth : f.depth < typed_limit
  pub symbol : f.symbol < typed_limit
  pub rows : f.rows < typed_limit
  pub subframe_rows : f.subframe_rows < typed_limit
  pub miss_limit : f.miss_limit < typed_limit

abbrev pub code_word : CodeName → List ℕ
code_word Rs16 = codes "rs16"
code_word Bare = codes "bare"

-- the octets of a form
unfoldable pub text : LinkForm → List ℕ
text f = concat (
    codes "(link (code " ∷ code_word f.code
    ∷ codes ") (depth " ∷ decimal f.depth
    ∷ codes ") (symbol " ∷ decimal f.symbol
    ∷ codes ") (rows " ∷ decimal f.rows
    ∷ codes ") (sub " ∷ decimal f.subframe_rows
    ∷ codes ") (misses " ∷ decimal f.miss_limit
    ∷ codes "))" ∷ []
    )

-- The line is exactly the form's text.
pub record WrittenFor (line : List ℕ) (f : LinkForm) : Type 0 where
  pub typed : Typed f
  pub same : line ≡ text f

-- Some form's text begins with these octets.
pub record FitsSome (front : List ℕ) : Type 0 where
  pub form : LinkForm
  pub typed : Typed form
  pub rest : List ℕ
  pub begins : text form ≡ front ++ rest

-- The place of the first octet that fits no form, or the line's length where each beginning fits and the line ends too soon.
pub record StopsFitting (line : List ℕ) (place : ℕ) : Type 0 where
  pub within : place ≤ length line
  pub before : (i : ℕ) → i < place → FitsSome (take (i + 1) line)
  pub here : place < length line → FitsSome (take (place + 1) line) → ⊥
  pub unwritten : (f : LinkForm) → WrittenFor line f → ⊥
