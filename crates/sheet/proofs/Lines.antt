-- The lines of a sheet, taken off its front one after the other.
use Rattle.std.proofs.Common.{◌≡◌, ◌≢◌, ℕ, zero, suc, ◌+◌, ◌<◌, min, ◌==◌, List, [], ◌∷◌, ◌++◌, length, get_or, take, Option, Some, None, MatchOption, IfSome, option_map, unwrap_or, Bor, sym, refl, ap, ◌∙◌, ap₂, subst, inl, inr, append_assoc, append-nil, arith, length-append, take_all}
use Rattle.std.specs.Io.KnownBytes.{Appends}
use Rattle.std.specs.declared.io.Take.{Take}
use Rattle.std.specs.Io.Take.{take_limit, take_inner, take_remaining}
use Rattle.std.specs.List.{IsFirstMatchOrLen}
use Rattle.std.proofs.lemmas.Bool.{ne_eqb, eqb-true, true≢false, cases_lt}
use Rattle.std.proofs.lemmas.List.{length-take, take_at, take_more}
use Rattle.std.proofs.lemmas.List.{nil_from_length}
use Rattle.sheet.specs.Answers.{line_feed, onto, lines_of, sheet_limit, AnswerTo, AnswersEach, AnswersTo, AnswersInput}

-- no octet is a line feed
abbrev NoFeed : List ℕ → Type 0
NoFeed [] = Unit {0}
NoFeed (x ∷ xs) = (x ≡ line_feed → ⊥) × NoFeed xs

no_feed_before : (xs : List ℕ) (i : ℕ) → ((k : ℕ) → k < i → get_or xs k 0 ≡ line_feed → ⊥) → NoFeed (take i xs)
no_feed_before xs zero h = tt
no_feed_before [] (suc i) h = tt
no_feed_before (x ∷ xs) (suc i) h = (h 0 (omega arith), no_feed_before xs i (λ k l. h (suc k) (omega arith)))

lines_fed : (line rest : List ℕ) → NoFeed line → lines_of (line ++ (line_feed ∷ rest)) ≡ line ∷ lines_of rest
unfolding lines_of
lines_fed [] rest n = refl
lines_fed (x ∷ line) rest n = rw (ne_eqb x line_feed n.0, lines_fed line rest n.1)

lines_unfed : (x : ℕ) (line : List ℕ) → NoFeed (x ∷ line) → lines_of (x ∷ line) ≡ (x ∷ line) ∷ []
unfolding lines_of
lines_unfed x [] n = rw (ne_eqb x line_feed n.0)
lines_unfed x (y ∷ line) n = rw (ne_eqb x line_feed n.0) (ap (onto x) (lines_unfed y line n.1))

pub lines_none : lines_of [] ≡ []
unfolding lines_of
lines_none = refl

-- no line feed at all
lines_last : (sheet : List ℕ) → 0 < length sheet → NoFeed sheet → lines_of sheet ≡ sheet ∷ lines_of []
lines_last [] some none = absurd (omega arith)
lines_last (x ∷ sheet) some none = lines_unfed x sheet none ∙ ap (λ u. (x ∷ sheet) ∷ u) (sym lines_none)

-- the sheet's first line and what is behind its line feed
abbrev pub FirstLine : List ℕ → List ℕ → List ℕ → Type 0
FirstLine sheet line rest = 0 < length sheet → (lines_of sheet ≡ line ∷ lines_of rest) × (length rest < length sheet)

-- What a split behind each line feed takes off: the octets up to and with the first, at the place, or all where there is none.
pub record Piece (sheet piece rest : List ℕ) (place : ℕ) : Type 0 where
  pub cut : sheet ≡ piece ++ rest
  pub size : length piece ≡ min (place + 1) (length sheet)
  pub first : IsFirstMatchOrLen (λ x. x == line_feed) sheet place

unfed_before : (sheet piece rest : List ℕ) (place : ℕ) → Piece sheet piece rest place → (k : ℕ) → k < place → get_or sheet k 0 ≡ line_feed → ⊥
unfed_before sheet piece rest place p k low fed = true≢false (sym (ap (λ x. x == line_feed) fed) ∙ p.first.0 k 0 (omega arith) low)

-- a piece with its line feed
piece_fed : (sheet piece rest line : List ℕ) (place : ℕ) → Piece sheet piece rest place → piece ≡ line ++ (line_feed ∷ []) → FirstLine sheet line rest
piece_fed sheet piece rest line place p fed some =
    let whole : sheet ≡ line ++ (line_feed ∷ rest) = p.cut ∙ (ap (λ u. u ++ rest) fed ∙ append_assoc line (line_feed ∷ []) rest) in
    let long : length piece ≡ length line + 1 = ap length fed ∙ length-append line (line_feed ∷ []) in
    let front : take (length line) sheet ≡ line = ap (take (length line)) whole ∙ take_at line (line_feed ∷ rest) (length line) refl in
    let none : NoFeed line = subst (λ u. NoFeed u) front (no_feed_before sheet (length line) (λ k low. unfed_before sheet piece rest place p k (omega (arith, p.size)))) in
    (ap lines_of whole ∙ lines_fed line rest none, omega (arith, ap length p.cut ∙ length-append piece rest))

-- a piece that has none
piece_unfed : (sheet piece rest : List ℕ) (place : ℕ) → Piece sheet piece rest place → ((front : List ℕ) → piece ≡ front ++ (line_feed ∷ []) → ⊥) → FirstLine sheet piece rest
piece_unfed sheet piece rest place p unfed some = elim (cases_lt place (length sheet)) [
  | inl fed ↦
      let here : get_or sheet place 0 ≡ line_feed = eqb-true _ _ (p.first.1 fed 0) in
      absurd (unfed (take place sheet) (sym (take_at piece rest (place + 1) (omega (arith, p.size))) ∙ (ap (take (place + 1)) (sym p.cut) ∙ (take_more sheet place 0 fed ∙ ap (λ x. take place sheet ++ (x ∷ [])) here))))
  | inr last ↦
      let size : length sheet ≡ length piece + length rest = ap length p.cut ∙ length-append piece rest in
      let none : rest ≡ [] = nil_from_length rest (omega (arith, p.size)) in
      let whole : sheet ≡ piece = p.cut ∙ (ap (λ u. piece ++ u) none ∙ append-nil piece) in
      let calm : NoFeed sheet = subst (λ u. NoFeed u) (take_all (length sheet) sheet (omega arith)) (no_feed_before sheet (length sheet) (λ k low. unfed_before sheet piece rest place p k (omega arith))) in
      (lines_last sheet some calm ∙ (ap (λ u. u ∷ lines_of []) whole ∙ ap (λ u. piece ∷ lines_of u) (sym none)), omega (arith, p.size))
]

-- the line of a piece: what is before its line feed, if it ends with one
pub piece_line : (sheet rest : List ℕ) (piece : Bor (List ℕ)) (place : ℕ) (r : Option (Bor (List ℕ))) → Piece sheet piece.now rest place
    → MatchOption r ((front : List ℕ) → piece.now ≢ front ++ (line_feed ∷ [])) (λ x. piece.now ≡ x.now ++ (line_feed ∷ []))
    → FirstLine sheet (unwrap_or r piece).now rest
piece_line sheet rest piece place (Some line) p fed = piece_fed sheet piece.now rest line.now place p fed
piece_line sheet rest piece place None p unfed = piece_unfed sheet piece.now rest place p unfed

-- ---- the walk

-- Whatever answers the lines that are left completes the answers.
abbrev pub Completes : List ℕ → List ℕ → List ℕ → Type 0
Completes sheet rest answers = (more : List ℕ) → AnswersEach (lines_of rest) more → AnswersEach (lines_of sheet) (answers ++ more)

pub completes_none : (sheet rest answers : List ℕ) → rest ≡ sheet → answers ≡ [] → Completes sheet rest answers
completes_none sheet rest answers same none more m =
    let P : List ℕ → Type 0 = λ l. AnswersEach (lines_of l) (answers ++ more) in
    let Q : List ℕ → Type 0 = λ u. AnswersEach (lines_of rest) (u ++ more) in
    subst P same (subst Q (sym none) m)

pub completes_more : (sheet rest line after answers answer next : List ℕ) → Completes sheet rest answers → 0 < length rest → FirstLine rest line after → AnswerTo line answer
    → next ≡ answers ++ answer ++ (line_feed ∷ []) → Completes sheet after next
completes_more sheet rest line after answers answer next c some first a e more m =
    let P : List ℕ → Type 0 = AnswersEach (lines_of sheet) in
    let Q : List (List ℕ) → Type 0 = λ ls. AnswersEach ls (answer ++ (line_feed ∷ more)) in
    let both = c (answer ++ (line_feed ∷ more)) (subst Q (sym (first some).0) (answer, more, a, refl, m)) in
    let same : answers ++ (answer ++ (line_feed ∷ more)) ≡ next ++ more = rw e (simp append_assoc) in
    subst P same both

pub completes_all : (sheet rest answers : List ℕ) → Completes sheet rest answers → length rest ≡ 0 → AnswersEach (lines_of sheet) answers
completes_all sheet [] answers c none = let P : List ℕ → Type 0 = AnswersEach (lines_of sheet) in let Q : List (List ℕ) → Type 0 = λ ls. AnswersEach ls [] in subst P (append-nil answers) (c [] (subst Q (sym lines_none) refl))
completes_all sheet (x ∷ rest) answers c none = absurd (omega arith)

-- ---- what is read and written

-- the answers to what is read of a sheet are those to the sheet
pub answers_input : (input before after : Option (List ℕ)) (read answers : List ℕ) → IfSome (option_map (take sheet_limit) input) (λ xs. read ≡ xs) → AnswersTo read answers
    → Appends before after answers → AnswersInput input before after
answers_input None before after read answers known a more = tt
answers_input (Some sheet) before after read answers known a more =
    let once : take sheet_limit read ≡ take sheet_limit sheet = ap (take sheet_limit) known ∙ take_all sheet_limit (take sheet_limit sheet) (omega (arith, length-take sheet_limit sheet)) in
    (answers, subst (λ l. AnswersEach (lines_of l) answers) once a, more)

-- of a reader with a limit, whose octets are known, all are read up to the limit
pub read_known : {R : Type 0} (remaining : R → Option (List ℕ)) (t : Take R) (input : R) (start read : List ℕ) → take_limit t ≡ sheet_limit → take_inner t ≡ input → start ≡ []
    → IfSome (take_remaining remaining t) (λ xs. read ≡ start ++ xs) → IfSome (option_map (take sheet_limit) (remaining input)) (λ xs. read ≡ xs)
read_known remaining t input start read limit inner none h =
    let same : take_remaining remaining t ≡ option_map (take sheet_limit) (remaining input) = ap₂ (λ n r. option_map (take n) (remaining r)) limit inner in
    subst (λ o. IfSome o (λ xs. read ≡ xs)) same (subst (λ u. IfSome (take_remaining remaining t) (λ xs. read ≡ u ++ xs)) none h)
