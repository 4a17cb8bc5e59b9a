-- What each part of the reader takes off the front of a line.
use Rattle.std.specs.Prelude.{◌≡◌, ℕ, ◌+◌, ◌<◌, ◌≤◌, List, [], ◌∷◌, ◌++◌, Some, None, codes, decimal, Option}
use Rattle.promise.specs.declared.kinds.CodeName.{CodeName}
use Rattle.sheet.specs.declared.form.LinkForm.{LinkForm}
use Rattle.sheet.specs.Form.{typed_limit, code_word, Typed, text}
use Rattle.sheet.specs.Language.{Texts, Just, StopsAt}

-- the octets of a form's brackets and spaces
abbrev pub opens : ℕ
opens = 40

abbrev pub closes : ℕ
closes = 41

abbrev pub space : ℕ
space = 32

-- a bracket, a name and a space
abbrev pub opening_of : List ℕ → List ℕ
opening_of name = opens ∷ (name ++ (space ∷ []))

-- the texts of some value
abbrev pub SomeOf : {V : Type 0} → (V → Texts) → Texts
SomeOf {V} T t = (v : V) × T v t

-- A part with one text: it is taken off, and the rest is left, or reading stops at what is left.
abbrev pub Passed : List ℕ → List ℕ → Option Unit → List ℕ → Type 0
Passed w line (Some u) rest = line ≡ w ++ rest
Passed w line None rest = StopsAt (Just w) line rest

-- A part with a text for each value: one is taken off, and the rest is left, or reading stops at what is left.
abbrev pub Read : {V : Type 0} → (V → Texts) → List ℕ → Option V → List ℕ → Type 0
Read T line (Some v) rest = (t : List ℕ) × T v t × (line ≡ t ++ rest)
Read T line None rest = StopsAt (SomeOf T) line rest

-- the name of a code
abbrev pub CodeText : CodeName → Texts
CodeText code t = t ≡ code_word code

abbrev pub Digit : ℕ → Type 0
Digit x = (48 ≤ x) × (x ≤ 57)

-- no digit comes next
abbrev pub NoDigit : List ℕ → Type 0
NoDigit [] = Unit {0}
NoDigit (x ∷ xs) = Digit x → ⊥

-- A digit is taken off, or none comes next.
abbrev pub DigitRead : List ℕ → Option ℕ → List ℕ → Type 0
DigitRead line (Some d) rest = (d < 10) × (line ≡ (48 + d) ∷ rest)
DigitRead line None rest = (rest ≡ line) × NoDigit line

-- The digits of a typed number are taken off, as many as there are: behind a number that is not 0 and has fewer than five, no digit is left.
pub record DigitsTaken (line : List ℕ) (n : ℕ) (rest : List ℕ) : Type 0 where
  pub typed : n < typed_limit
  pub cut : line ≡ decimal n ++ rest
  pub all_taken : 0 < n → n < 10000 → NoDigit rest

-- They are taken off, or the line begins with no digit.
abbrev pub DigitsRead : List ℕ → Option ℕ → List ℕ → Type 0
DigitsRead line (Some n) rest = DigitsTaken line n rest
DigitsRead line None rest = (rest ≡ line) × NoDigit line

-- a typed number, and the bracket that ends it
abbrev pub ClosedNumber : ℕ → Texts
ClosedNumber n t = (n < typed_limit) × (t ≡ decimal n ++ (closes ∷ []))

-- a space and a number in brackets, behind its name
abbrev pub field_text : List ℕ → ℕ → List ℕ
field_text name n = space ∷ (opening_of name ++ (decimal n ++ (closes ∷ [])))

abbrev pub NumberField : List ℕ → ℕ → Texts
NumberField name n t = (n < typed_limit) × (t ≡ field_text name n)

-- the form's beginning, up to the bracket behind the code
abbrev pub code_field_text : CodeName → List ℕ
code_field_text code = opening_of (codes "link") ++ (opening_of (codes "code") ++ (code_word code ++ (closes ∷ [])))

abbrev pub CodeField : CodeName → Texts
CodeField code t = t ≡ code_field_text code

abbrev pub FormText : LinkForm → Texts
FormText f t = Typed f × (t ≡ text f)
