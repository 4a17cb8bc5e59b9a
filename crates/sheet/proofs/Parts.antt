-- The parts of a form that are read one after the other.
use Rattle.std.proofs.Common.{◌≡◌, ℕ, List, [], ◌∷◌, ◌++◌, Some, None, codes, decimal, Option, sym, refl, ap, ◌∙◌, ap₂, append_assoc, arith}
use Rattle.promise.specs.declared.kinds.CodeName.{CodeName}
use Rattle.promise.specs.declared.kinds.CodeName.TheVariants.{Rs16, Bare}
use Rattle.sheet.specs.Form.{code_word}
use Rattle.sheet.specs.Language.{Texts, Just, Then, StopsAt, Distinct}
use Rattle.sheet.specs.Reading.{opening_of, SomeOf, Read, CodeText, ClosedNumber, field_text, NumberField, CodeField}
use Rattle.sheet.proofs.Language.{Behind, behind_stops, beginning_stops, behind_distinct, stops_at_alike, stops_at_in_first, stops_at_in_second, just_distinct, then_distinct}
use Rattle.sheet.proofs.Numbers.{closed_distinct}

-- ---- literals in parts

literal_out : (a b : List ℕ) (t : List ℕ) → Behind a (Just b) t → Just (a ++ b) t
literal_out a b t p = p.1 ∙ ap (λ u. a ++ u) p.2

literal_in : (a b : List ℕ) (t : List ℕ) → Just (a ++ b) t → Behind a (Just b) t
literal_in a b t e = (b, e, refl)

-- the first part of a literal stops
pub literal_begins : (a b line at : List ℕ) → StopsAt (Just a) line at → StopsAt (Just (a ++ b)) line at
literal_begins a b line at s = stops_at_alike (Behind a (Just b)) (Just (a ++ b)) (literal_out a b) (literal_in a b) line at (beginning_stops a (Just b) b refl line at s)

-- the first part of a literal is read, and the second stops
pub literal_behind : (a b line rest at : List ℕ) → line ≡ a ++ rest → StopsAt (Just b) rest at → StopsAt (Just (a ++ b)) line at
literal_behind a b line rest at e s = stops_at_alike (Behind a (Just b)) (Just (a ++ b)) (literal_out a b) (literal_in a b) line at (behind_stops a (Just b) line rest at e s)

-- ---- a number in brackets

field_out : (name t : List ℕ) → Behind (32 ∷ opening_of name) (SomeOf ClosedNumber) t → SomeOf (NumberField name) t
field_out name t p = (p.2.0, (p.2.1.0, p.1 ∙ ap (λ u. (32 ∷ opening_of name) ++ u) p.2.1.1))

field_in : (name t : List ℕ) → SomeOf (NumberField name) t → Behind (32 ∷ opening_of name) (SomeOf ClosedNumber) t
field_in name t p = (decimal p.0 ++ (41 ∷ []), p.1.1, (p.0, (p.1.0, refl)))

pub field_distinct : (name : List ℕ) → Distinct (SomeOf (NumberField name))
field_distinct name a b y z p q e = behind_distinct (32 ∷ opening_of name) (SomeOf ClosedNumber) closed_distinct a b y z (field_in name a p) (field_in name b q) e

-- the name before the number stops
pub field_begins : (name line at : List ℕ) → StopsAt (Just (32 ∷ opening_of name)) line at → StopsAt (SomeOf (NumberField name)) line at
field_begins name line at s =
    stops_at_alike (Behind (32 ∷ opening_of name) (SomeOf ClosedNumber)) (SomeOf (NumberField name)) (field_out name) (field_in name) line at
    (beginning_stops (32 ∷ opening_of name) (SomeOf ClosedNumber) (decimal 0 ++ (41 ∷ [])) (0, (omega arith, refl)) line at s)

-- the name is read, and the number is read or stops
pub field_reads : (name line rest : List ℕ) (r : Option ℕ) (left : List ℕ) → line ≡ (32 ∷ opening_of name) ++ rest → Read ClosedNumber rest r left → Read (NumberField name) line r left
field_reads name line rest (Some n) left e s =
    (field_text name n, (s.1.0, refl), e ∙ (ap (λ u. (32 ∷ opening_of name) ++ u) (s.2 ∙ ap (λ u. u ++ left) s.1.1) ∙ sym (append_assoc (32 ∷ opening_of name) (decimal n ++ (41 ∷ [])) left)))
field_reads name line rest None left e s =
    stops_at_alike (Behind (32 ∷ opening_of name) (SomeOf ClosedNumber)) (SomeOf (NumberField name)) (field_out name) (field_in name) line left
    (behind_stops (32 ∷ opening_of name) (SomeOf ClosedNumber) line rest left e s)

-- ---- the code

pub names_distinct : Distinct (SomeOf CodeText)
names_distinct a b y z p q e = elim p.0 as (λ v. a ≡ code_word v → a ≡ b) [
  | Rs16 ↦ λ f. elim q.0 as (λ w. b ≡ code_word w → a ≡ b) [ Rs16 ↦ λ g. f ∙ sym g | Bare ↦ λ g. apart f g ] q.1
  | Bare ↦ λ f. elim q.0 as (λ w. b ≡ code_word w → a ≡ b) [ Rs16 ↦ λ g. apart' f g | Bare ↦ λ g. f ∙ sym g ] q.1
] p.1
  where
    apart : a ≡ codes "rs16" → b ≡ codes "bare" → a ≡ b
    apart f g = let clash : ◌≡◌ {A = ℕ} 114 98 = cc in absurd (omega arith)

    apart' : a ≡ codes "bare" → b ≡ codes "rs16" → a ≡ b
    apart' f g = let clash : ◌≡◌ {A = ℕ} 98 114 = cc in absurd (omega arith)

-- a name and its bracket
abbrev Closed : Texts
Closed = Then (SomeOf CodeText) (Just (41 ∷ []))

abbrev pub code_front : List ℕ
code_front = opening_of (codes "link") ++ opening_of (codes "code")

code_out : (t : List ℕ) → Behind code_front Closed t → SomeOf CodeField t
code_out t p = (p.2.of_first.0, p.1 ∙ ap (λ u. code_front ++ u) (p.2.cut ∙ ap₂ (λ u v. u ++ v) p.2.of_first.1 p.2.of_second))

code_in : (t : List ℕ) → SomeOf CodeField t → Behind code_front Closed t
code_in t p = (code_word p.0 ++ (41 ∷ []), p.1, record { first = code_word p.0; second = 41 ∷ []; cut = refl; of_first = (p.0, refl); of_second = refl })

closed_code_distinct : Distinct Closed
closed_code_distinct = then_distinct (SomeOf CodeText) (Just (41 ∷ [])) names_distinct (just_distinct (41 ∷ []))

pub code_distinct : Distinct (SomeOf CodeField)
code_distinct a b y z p q e = behind_distinct code_front Closed closed_code_distinct a b y z (code_in a p) (code_in b q) e

stops_as_code : (line at : List ℕ) → StopsAt (Behind code_front Closed) line at → StopsAt (SomeOf CodeField) line at
stops_as_code line at s = stops_at_alike (Behind code_front Closed) (SomeOf CodeField) code_out code_in line at s

pub code_begins : (line at : List ℕ) → StopsAt (Just code_front) line at → StopsAt (SomeOf CodeField) line at
code_begins line at s =
    stops_as_code line at
    (beginning_stops code_front Closed (codes "rs16" ++ (41 ∷ [])) (record { first = codes "rs16"; second = 41 ∷ []; cut = refl; of_first = (Rs16, refl); of_second = refl }) line at s)

pub code_name_stops : (line rest at : List ℕ) → line ≡ code_front ++ rest → StopsAt (SomeOf CodeText) rest at → StopsAt (SomeOf CodeField) line at
code_name_stops line rest at e s =
    stops_as_code line at (behind_stops code_front Closed line rest at e (stops_at_in_first (SomeOf CodeText) (Just (41 ∷ [])) (41 ∷ []) refl rest at s))

pub code_bracket_stops : (line rest after at t : List ℕ) (code : CodeName) → line ≡ code_front ++ rest → CodeText code t → rest ≡ t ++ after → StopsAt (Just (41 ∷ [])) after at
    → StopsAt (SomeOf CodeField) line at
code_bracket_stops line rest after at t code e is f s =
    stops_as_code line at (behind_stops code_front Closed line rest at e (stops_at_in_second (SomeOf CodeText) (Just (41 ∷ [])) names_distinct rest t after at f (code, is) s))
