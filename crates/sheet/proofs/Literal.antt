-- Reading the one text of a literal, octet by octet.
use Rattle.std.proofs.Common.{◌≡◌, ℕ, ◌+◌, ◌<◌, List, [], ◌∷◌, ◌++◌, length, get_or, take, drop, sym, ap, ◌∙◌, subst, arith, length-append, take-append-drop}
use Rattle.std.proofs.lemmas.List.{get_or_at, get_or_append_left, length-take-le}
use Rattle.sheet.specs.Language.{Just, Stops, StopsAt}

-- the line ends inside the literal, or goes on with another octet than the next of the literal
abbrev Other : List ℕ → ℕ → Type 0
Other [] y = Unit {0}
Other (x ∷ rest) y = x ≡ y → ⊥

stops_inside : (w : List ℕ) (i : ℕ) → i < length w → (rest : List ℕ) → Other rest (get_or w i 0) → Stops (Just w) (take i w) rest
stops_inside w i h [] o = λ t more is e.
    let n : length t + length more ≡ length (take i w) = sym (length-append t more) ∙ ap length e in
    omega (arith, length-take-le i w (omega arith), ap length is)
stops_inside w i h (x ∷ rest) o = λ t more after is e.
    let at_more : get_or (t ++ more) i 0 ≡ get_or w i 0 = ap (λ u. get_or (u ++ more) i 0) is ∙ get_or_append_left w more 0 i h in
    let at_x : get_or (take i w ++ (x ∷ after)) i 0 ≡ x = get_or_at (take i w) x after 0 i (length-take-le i w (omega arith)) in
    o (sym at_x ∙ (sym (ap (λ u. get_or u i 0) e) ∙ at_more))

literal_stops : (w line rest : List ℕ) (i : ℕ) → i < length w → line ≡ take i w ++ rest → Other rest (get_or w i 0) → StopsAt (Just w) line rest
literal_stops w line rest i h e o = record { fit = take i w; cut = e; rest = drop i w; begins = take-append-drop i w; stops = stops_inside w i h rest o }

pub ends_inside : (w line rest : List ℕ) (i : ℕ) → i < length w → line ≡ take i w ++ rest → rest ≡ [] → StopsAt (Just w) line rest
ends_inside w line rest i h e none =
    let P : List ℕ → Type 0 = λ r. Other r (get_or w i 0) in literal_stops w line rest i h e (subst P (sym none) tt)

pub other_inside : (w line rest : List ℕ) (i x : ℕ) (after : List ℕ) → i < length w → line ≡ take i w ++ rest → rest ≡ x ∷ after → (x ≡ get_or w i 0 → ⊥) → StopsAt (Just w) line rest
other_inside w line rest i x after h e here o =
    let P : List ℕ → Type 0 = λ r. Other r (get_or w i 0) in literal_stops w line rest i h e (subst P (sym here) o)
