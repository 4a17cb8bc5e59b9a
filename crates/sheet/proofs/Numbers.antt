-- Typed numbers behind which a bracket stands: no such text begins another, and where reading one stops.
use Rattle.std.proofs.Common.{◌≡◌, ℕ, zero, suc, ◌+◌, ◌*◌, ◌/◌, ◌%◌, ◌^◌, ◌<◌, ◌≤◌, ◌⊎◌, List, [], ◌∷◌, ◌++◌, length, get_or, decimal, sym, refl, ap, ◌∙◌, subst, inl, inr, append_assoc, pow-suc, arith, length-append}
use native.Mathlib.Nat.{pow-le-pow_right}
use Rattle.std.proofs.Math.Nat.{div-add-mod}
use Rattle.std.proofs.lemmas.Nat.{div-mul-add, mod-mul-add, mod_below}
use Rattle.std.proofs.lemmas.Fmt.{decimal_digit, decimal_step, decimal_by_steps, decimal_nonempty, first_decimal, length-decimal-le}
use Rattle.std.proofs.lemmas.List.{get_or_append_left}
use Rattle.std.proofs.lemmas.Bool.{cases_lt}
use Rattle.sheet.specs.Form.{typed_limit}
use Rattle.sheet.specs.Language.{Distinct, Just, Stops, StopsAt}
use Rattle.sheet.specs.Reading.{SomeOf, Digit, NoDigit, DigitsTaken, ClosedNumber}

abbrev AllDigits : List ℕ → Type 0
AllDigits [] = Unit {0}
AllDigits (d ∷ ds) = Digit d × AllDigits ds

digits_push : (ds : List ℕ) (d : ℕ) → AllDigits ds → Digit d → AllDigits (ds ++ (d ∷ []))
digits_push [] d a h = (h, tt)
digits_push (x ∷ ds) d a h = (a.0, digits_push ds d a.1 h)

digits_of : (n : ℕ) → n < 2 ^ 64 → AllDigits (decimal n)
digits_of =
    decimal_by_steps (λ n ds. AllDigits ds) (λ n h. ((omega arith, omega arith), tt))
    (λ n ds h a. digits_push ds (48 + n % 10) a (let m : n % 10 < 10 = mod_below n 10 (omega arith) in (omega arith, omega arith)))

-- one digit more
pub decimal_more : (n d : ℕ) → 0 < n → d < 10 → n < typed_limit → decimal (n * 10 + d) ≡ decimal n ++ ((48 + d) ∷ [])
decimal_more n d some h few =
    let q : (n * 10 + d) / 10 ≡ n = div-mul-add n 10 d h in
    let r : (n * 10 + d) % 10 ≡ d = mod-mul-add n 10 d h in
    decimal_step (n * 10 + d) (omega arith) (omega arith) ∙ rw (q, r)

-- Digits and a bracket against digits and another octet: that octet is a digit or the bracket.
meets : (a b y z : List ℕ) (x : ℕ) → AllDigits a → AllDigits b → a ++ (41 ∷ y) ≡ b ++ (x ∷ z) → Digit x ⊎ (x ≡ 41)
meets [] [] y z x da db e = inr (cc)
meets [] (d ∷ b) y z x da db e = let same : 41 ≡ d = cc in absurd (omega (arith, db.0.0))
meets (d ∷ a) [] y z x da db e = let P : ℕ → Type 0 = Digit in let same : d ≡ x = cc in inl (subst P same da.0)
meets (c ∷ a) (d ∷ b) y z x da db e = let rest : a ++ (41 ∷ y) ≡ b ++ (x ∷ z) = cc in meets a b y z x da.1 db.1 rest

-- with no more digits before the bracket than before the octet, it is the bracket
meets_short : (a b y z : List ℕ) (x : ℕ) → AllDigits b → length a ≤ length b → a ++ (41 ∷ y) ≡ b ++ (x ∷ z) → x ≡ 41
meets_short [] [] y z x db h e = cc
meets_short [] (d ∷ b) y z x db h e = let same : 41 ≡ d = cc in absurd (omega (arith, db.0.0))
meets_short (d ∷ a) [] y z x db h e = absurd (omega arith)
meets_short (c ∷ a) (d ∷ b) y z x db h e = let rest : a ++ (41 ∷ y) ≡ b ++ (x ∷ z) = cc in meets_short a b y z x db.1 (omega arith) rest

-- digits hold no bracket
no_bracket : (a b y : List ℕ) → AllDigits b → a ++ (41 ∷ y) ≡ b → ⊥
no_bracket [] [] y db e = let z : ◌≡◌ {A = ℕ} 0 1 = cc in omega arith
no_bracket [] (d ∷ b) y db e = let same : 41 ≡ d = cc in omega (arith, db.0.0)
no_bracket (c ∷ a) [] y db e = let z : ◌≡◌ {A = ℕ} 0 1 = cc in omega arith
no_bracket (c ∷ a) (d ∷ b) y db e = let rest : a ++ (41 ∷ y) ≡ b = cc in no_bracket a b y db.1 rest

same_digits : (a b y z : List ℕ) → AllDigits a → AllDigits b → a ++ (41 ∷ y) ≡ b ++ (41 ∷ z) → a ≡ b
same_digits [] [] y z da db e = refl
same_digits [] (d ∷ b) y z da db e = let same : 41 ≡ d = cc in absurd (omega (arith, db.0.0))
same_digits (d ∷ a) [] y z da db e = let same : d ≡ 41 = cc in absurd (omega (arith, da.0.0))
same_digits (c ∷ a) (d ∷ b) y z da db e =
    let head : c ≡ d = cc in
    let rest : a ++ (41 ∷ y) ≡ b ++ (41 ∷ z) = cc in
    let tail : a ≡ b = same_digits a b y z da.1 db.1 rest in cc

-- ---- where reading stops

-- no typed number and its bracket go on so
abbrev pub Blocked : List ℕ → List ℕ → Type 0
Blocked fit [] = Unit {0}
Blocked fit (x ∷ rest) = (m : ℕ) (y z : List ℕ) → m < typed_limit → decimal m ++ (41 ∷ y) ≡ fit ++ (x ∷ z) → ⊥

blocked_stops : (fit rest : List ℕ) → AllDigits fit → Blocked fit rest → Stops (SomeOf ClosedNumber) fit rest
blocked_stops fit [] d b = λ t more is e.
    no_bracket (decimal is.0) fit more d (sym (append_assoc (decimal is.0) (41 ∷ []) more) ∙ (sym (ap (λ u. u ++ more) is.1.1) ∙ e))
blocked_stops fit (x ∷ rest) d b = λ t more after is e.
    b is.0 more after is.1.0 (sym (append_assoc (decimal is.0) (41 ∷ []) more) ∙ (sym (ap (λ u. u ++ more) is.1.1) ∙ e))

-- some digits are read, and nothing fits behind them
number_stops : (n : ℕ) (whole rest : List ℕ) → n < typed_limit → whole ≡ decimal n ++ rest → Blocked (decimal n) rest → StopsAt (SomeOf ClosedNumber) whole rest
number_stops n whole rest h e b = record {
  fit = decimal n;
  cut = e;
  rest = 41 ∷ [];
  begins = (n, (h, refl));
  stops = blocked_stops (decimal n) rest (digits_of n (omega arith)) b;
}

-- behind digits only another digit or the bracket fits
other_blocks : (n : ℕ) → n < typed_limit → (x : ℕ) (rest : List ℕ) → (Digit x → ⊥) → (x ≡ 41 → ⊥) → Blocked (decimal n) (x ∷ rest)
other_blocks n h x rest no_digit no-close m y z few f =
    elim (meets (decimal m) (decimal n) y z x (digits_of m (omega arith)) (digits_of n (omega arith)) f) [ inl d ↦ no_digit d | inr c ↦ no-close c ]

-- behind five digits only the bracket fits
five_digits_block : (n : ℕ) → n < typed_limit → 4 < length (decimal n) → (x : ℕ) (rest : List ℕ) → (x ≡ 41 → ⊥) → Blocked (decimal n) (x ∷ rest)
five_digits_block n h five x rest no-close m y z few f =
    no-close (meets_short (decimal m) (decimal n) y z x (digits_of n (omega arith)) (omega (arith, length-decimal-le 5 m (omega arith) few (omega arith))) f)

-- and behind a leading 0
zero_blocks : (x : ℕ) (rest : List ℕ) → (x ≡ 41 → ⊥) → Blocked (decimal 0) (x ∷ rest)
zero_blocks x rest no-close m y z few f = elim (cases_lt m 10) [
  | inl small ↦ no-close (meets_short (decimal m) (decimal 0) y z x (digits_of 0 (omega arith)) (omega (arith, ap length (decimal_digit m small), ap length (decimal_digit 0 (omega arith)))) f)
  | inr large ↦
      let some = decimal_nonempty m (omega arith) in
      let first : get_or (decimal m ++ (41 ∷ y)) 0 0 ≡ 48 = ap (λ u. get_or u 0 0) (f ∙ ap (λ u. u ++ (x ∷ z)) (decimal_digit 0 (omega arith))) in
      omega (arith, first_decimal m (omega arith) (omega arith), get_or_append_left (decimal m) (41 ∷ y) 0 0 some, first)
]

-- the line ends, or goes on with another octet than the bracket
abbrev NoBracket : List ℕ → Type 0
NoBracket [] = Unit {0}
NoBracket (x ∷ rest) = x ≡ 41 → ⊥

-- where a bracket is looked for and is not there, the line is at that place
no_bracket_there : (rest at fit more : List ℕ) → fit ++ more ≡ 41 ∷ [] → rest ≡ fit ++ at → Stops (Just (41 ∷ [])) fit at → (rest ≡ at) × NoBracket rest
no_bracket_there rest [] [] more b e st =
    let P : List ℕ → Type 0 = NoBracket in (e, subst P (sym e) tt)
no_bracket_there rest (x ∷ at) [] more b e st =
    let P : List ℕ → Type 0 = NoBracket in (e, subst P (sym e) (λ c. st (41 ∷ []) [] [] refl (ap (λ u. u ∷ []) (sym c))))
no_bracket_there rest [] (y ∷ []) more b e st = let same : y ≡ 41 = cc in absurd (st (41 ∷ []) [] refl (ap (λ u. u ∷ []) (sym same)))
no_bracket_there rest (x ∷ at) (y ∷ []) more b e st = let same : y ≡ 41 = cc in absurd (st (41 ∷ []) (x ∷ []) [] refl (ap (λ u. u ∷ x ∷ []) (sym same)))
no_bracket_there rest [] (y ∷ w ∷ fit) more b e st = let z : ◌≡◌ {A = ℕ} 0 1 = cc in absurd (omega arith)
no_bracket_there rest (x ∷ at) (y ∷ w ∷ fit) more b e st = let z : ◌≡◌ {A = ℕ} 0 1 = cc in absurd (omega arith)

-- a number of that many digits
digits_above : (k n : ℕ) → n < 2 ^ 64 → 10 ^ k ≤ n → k < length (decimal n)
digits_above zero n h low = decimal_nonempty n h
digits_above (suc k) n h low =
    let low' : 10 ^ k * 10 ≤ n = omega (arith, pow-suc 10 k) in
    let some : 1 ≤ 10 ^ k = pow-le-pow_right {n = 10} (omega arith) {i = 0} {j = k} (omega arith) in
    let fewer : 10 ^ k ≤ n / 10 = omega (arith, div-add-mod n 10, mod_below n 10 (omega arith)) in
    omega (arith, digits_above k (n / 10) (omega arith) fewer, ap length (decimal_step n (omega arith) h) ∙ length-append (decimal (n / 10)) ((48 + n % 10) ∷ []))

-- behind all the digits of a typed number only a bracket fits
only_bracket : (n : ℕ) (rest : List ℕ) → n < typed_limit → (0 < n → n < 10000 → NoDigit rest) → NoBracket rest → Blocked (decimal n) rest
only_bracket n [] h all_taken b = tt
only_bracket n (x ∷ rest) h all_taken b = elim (cases_lt 0 n) [
  | inr none ↦ let zero : 0 ≡ n = omega arith in subst (λ k. Blocked (decimal k) (x ∷ rest)) zero (zero_blocks x rest b)
  | inl some ↦ elim (cases_lt n 10000) [
    | inl short ↦ other_blocks n h x rest (all_taken some short) b
    | inr five ↦ five_digits_block n h (digits_above 4 n (omega arith) five) x rest b
  ]
]

-- the digits are read, and there is no bracket behind them
pub number_unclosed : (n : ℕ) (line rest at : List ℕ) → DigitsTaken line n rest → StopsAt (Just (41 ∷ [])) rest at → StopsAt (SomeOf ClosedNumber) line at
number_unclosed n line rest at d s =
    let p = no_bracket_there rest at s.fit s.rest s.begins s.cut s.stops in
    let P : List ℕ → Type 0 = StopsAt (SomeOf ClosedNumber) line in
    subst P p.0 (number_stops n line rest d.typed d.cut (only_bracket n rest d.typed d.all_taken p.1))

-- nothing is read yet: the line is empty, or its first octet is no digit
number_none : (line : List ℕ) → Blocked [] line → StopsAt (SomeOf ClosedNumber) line line
number_none line b = record {
  fit = [];
  cut = refl;
  rest = decimal 0 ++ (41 ∷ []);
  begins = (0, (omega arith, refl));
  stops = blocked_stops [] line tt b;
}

pub no_number : (line : List ℕ) → NoDigit line → StopsAt (SomeOf ClosedNumber) line line
no_number line n = number_none line (blocked line n)
  where
    starts : (x : ℕ) → (Digit x → ⊥) → (ds y z : List ℕ) → AllDigits ds → 0 < length ds → ds ++ (41 ∷ y) ≡ x ∷ z → ⊥
    starts x no_digit [] y z a some f = omega arith
    starts x no_digit (d ∷ ds) y z a some f = let same : d ≡ x = cc in let Q : ℕ → Type 0 = Digit in no_digit (subst Q same a.0)

    blocked : (u : List ℕ) → NoDigit u → Blocked [] u
    blocked [] none = tt
    blocked (x ∷ u) none = λ m y z few f. starts x none (decimal m) y z (digits_of m (omega arith)) (decimal_nonempty m (omega arith)) f

-- ---- what is read

pub closed_distinct : Distinct (SomeOf ClosedNumber)
closed_distinct a b y z p q e =
    let joined : decimal p.0 ++ (41 ∷ y) ≡ decimal q.0 ++ (41 ∷ z) =
    sym (append_assoc (decimal p.0) (41 ∷ []) y) ∙ (sym (ap (λ u. u ++ y) p.1.1) ∙ (e ∙ (ap (λ u. u ++ z) q.1.1 ∙ append_assoc (decimal q.0) (41 ∷ []) z))) in
    let few-p = p.1.0 in
    let few-q = q.1.0 in
    let same : decimal p.0 ≡ decimal q.0 = same_digits (decimal p.0) (decimal q.0) y z (digits_of p.0 (omega arith)) (digits_of q.0 (omega arith)) joined in
    p.1.1 ∙ (ap (λ u. u ++ (41 ∷ [])) same ∙ sym q.1.1)

-- ---- the loop over the digits

-- What it keeps: the digits so far are those of the value, and no more than five.
pub record DigitsSoFar (line : List ℕ) (n : ℕ) (rest : List ℕ) : Type 0 where
  pub cut : line ≡ decimal n ++ rest
  pub typed : n < typed_limit

pub digits_begin : (line rest : List ℕ) (d : ℕ) → d < 10 → line ≡ (48 + d) ∷ rest → DigitsSoFar line d rest
digits_begin line rest d h e = record { cut = e ∙ sym (ap (λ u. u ++ rest) (decimal_digit d h)); typed = omega arith }

-- one digit more
pub digits_more : (line rest after : List ℕ) (n d : ℕ) → 0 < n → n < 10000 → DigitsSoFar line n rest → d < 10 → rest ≡ (48 + d) ∷ after → DigitsSoFar line (n * 10 + d) after
digits_more line rest after n d some short far low e =
    let step : decimal (n * 10 + d) ≡ decimal n ++ ((48 + d) ∷ []) = decimal_more n d some low (omega arith) in
    record {
      cut = far.cut ∙ (ap (λ u. decimal n ++ u) e ∙ (sym (append_assoc (decimal n) ((48 + d) ∷ []) after) ∙ sym (ap (λ u. u ++ after) step)));
      typed = omega arith;
    }

-- no digit is left
pub digits_end : (line rest left : List ℕ) (n : ℕ) → DigitsSoFar line n rest → left ≡ rest → NoDigit rest → DigitsTaken line n left
digits_end line rest left n far same none =
    rw same (record { typed = far.typed; cut = far.cut; all_taken = λ some short. none })

-- no digit may follow
pub digits_full : (line rest : List ℕ) (n : ℕ) → DigitsSoFar line n rest → (0 < n → n < 10000 → ⊥) → DigitsTaken line n rest
digits_full line rest n far full = record { typed = far.typed; cut = far.cut; all_taken = λ some short. absurd (full some short) }
