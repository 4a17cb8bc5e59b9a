-- The two names of codes: they begin with different letters, so the first letter decides which is read.
use Rattle.std.proofs.Common.{◌≡◌, ℕ, List, [], ◌∷◌, ◌++◌, codes, ap, ◌∙◌, arith}
use Rattle.promise.specs.declared.kinds.CodeName.TheVariants.{Rs16, Bare}
use Rattle.sheet.specs.Form.{code_word}
use Rattle.sheet.specs.Language.{Just, Stops, StopsAt}
use Rattle.sheet.specs.Reading.{SomeOf, CodeText}

-- a literal that begins with another octet than the line
stops_at_first : (y : ℕ) (w line fit at : List ℕ) → line ≡ fit ++ at → ((rest : List ℕ) → line ≡ y ∷ rest → ⊥) → Stops (Just (y ∷ w)) fit at
stops_at_first y w line [] [] e n = λ t more is f. let z : ◌≡◌ {A = ℕ} 0 1 = cc in omega arith
stops_at_first y w line [] (a ∷ at) e n = λ t more after is f. let same : a ≡ y = cc in n at (e ∙ ap (λ u. u ∷ at) same)
stops_at_first y w line (a ∷ fit) [] e n = λ t more is f. let same : a ≡ y = cc in n (fit ++ []) (e ∙ ap (λ u. u ∷ (fit ++ [])) same)
stops_at_first y w line (a ∷ fit) (b ∷ at) e n = λ t more after is f. let same : a ≡ y = cc in n (fit ++ (b ∷ at)) (e ∙ ap (λ u. u ∷ (fit ++ (b ∷ at))) same)

stops_both : (fit at : List ℕ) → Stops (Just (codes "rs16")) fit at → Stops (Just (codes "bare")) fit at → Stops (SomeOf CodeText) fit at
stops_both fit [] r b = λ t more is e. elim is.0 as (λ v. t ≡ code_word v → ⊥) [ Rs16 ↦ λ q. r t more q e | Bare ↦ λ q. b t more q e ] is.1
stops_both fit (x ∷ at) r b = λ t more after is e. elim is.0 as (λ v. t ≡ code_word v → ⊥) [ Rs16 ↦ λ q. r t more after q e | Bare ↦ λ q. b t more after q e ] is.1

pub bare_stops : (line at rest : List ℕ) → line ≡ 98 ∷ rest → StopsAt (Just (codes "bare")) line at → StopsAt (SomeOf CodeText) line at
bare_stops line at rest e s = record {
  fit = s.fit;
  cut = s.cut;
  rest = s.rest;
  begins = (Bare, s.begins);
  stops = stops_both s.fit at (stops_at_first 114 (codes "s16") line s.fit at s.cut (λ r f. let same : ◌≡◌ {A = ℕ} 98 114 = cc in omega (arith, same))) s.stops;
}

pub rs16_stops : (line at : List ℕ) → ((rest : List ℕ) → line ≡ 98 ∷ rest → ⊥) → StopsAt (Just (codes "rs16")) line at → StopsAt (SomeOf CodeText) line at
rs16_stops line at n s = record {
  fit = s.fit;
  cut = s.cut;
  rest = s.rest;
  begins = (Rs16, s.begins);
  stops = stops_both s.fit at s.stops (stops_at_first 98 (codes "are") line s.fit at s.cut n);
}
