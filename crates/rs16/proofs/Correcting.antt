-- Corrections: what a word holds once they are made, how many octets they alter, and the steps of the loop that finds them.
use Rattle.std.proofs.Common.{◌≡◌, ℕ, zero, suc, ◌+◌, ◌-◌, ◌<◌, ◌≤◌, Bool, true, false, cond, not, ◌&&◌, eqb, List, [], ◌∷◌, ◌++◌, length, get_or, set, sym, refl, ap, ◌∙◌, subst, inl, inr, le_of_suc-le-suc, suc-le-suc, not-suc-le-zero, zero-add, arith}
use Rattle.std.specs.List.{All, AllPairs}
use Rattle.std.proofs.lemmas.List.{ext_get_or, length-set, length-append, get_or-set_same, get_or-set_other}
use Rattle.std.proofs.lemmas.List.Elements.{All-head, All-push, All-tail}
use Rattle.std.proofs.lemmas.List.Quantifiers.{all_pairs_push}
use Rattle.std.proofs.lemmas.List.Sums.{fold-append}
use Rattle.std.proofs.lemmas.Bool.{cases_eq, cases_lt, cond-true, cond-false, eq-eqb, ne_eqb}
use Rattle.octets.specs.Octets.{altered, differs}
use Rattle.octets.specs.Words.{word_length}
use Rattle.octets.proofs.Counting.{count_alike, count_except, except}
use Rattle.octets.proofs.Octets.{altered_self, differs_same}
use Rattle.rs16.specs.Field.{◌⊕◌}
use Rattle.rs16.specs.Mending.{chosen, change, changed, corrected, Corrects}
use Rattle.rs16.specs.declared.corrections.Correction.{Correction}
use Rattle.rs16.proofs.Chosen.{chosen_grows, chosen_yes}
use Rattle.rs16.proofs.Mending.{changed_length}
use Rattle.rs16.specs.PolynomialsLemmas.{add-zero, add_self_left}

-- one correction more
pub corrected_more : (cs : List Correction) (c : Correction) (w : List ℕ) → corrected (cs ++ c ∷ []) w ≡ set (corrected cs w) c.place c.octet
corrected_more cs c w = fold-append (λ octets d. set octets d.place d.octet) w cs (c ∷ [])

pub corrected_length : (cs : List Correction) (w : List ℕ) → length (corrected cs w) ≡ length w
corrected_length [] w = refl
corrected_length (c ∷ cs) w = corrected_length cs (set w c.place c.octet) ∙ length-set w c.place c.octet

-- a place that is none of the corrections' is as it was
pub corrected_free : (cs : List Correction) (w : List ℕ) (j : ℕ) → All (λ c. j ≡ c.place → ⊥) cs → get_or (corrected cs w) j 0 ≡ get_or w j 0
corrected_free [] w j free = refl
corrected_free (c ∷ cs) w j free =
    corrected_free cs (set w c.place c.octet) j (All-tail (λ c. j ≡ c.place → ⊥) c cs free)
    ∙ get_or-set_other w c.place j c.octet 0 (All-head (λ c. j ≡ c.place → ⊥) c cs free)

-- ---- how many octets they alter

and_true : (b : Bool) → (b && true) ≡ b
and_true true = refl
and_true false = refl

and_false : (b : Bool) → (b && false) ≡ false
and_false true = refl
and_false false = refl

-- one octet more, at a place that was not altered
altered_set : (n : ℕ) (w v : List ℕ) (x o : ℕ) → x < n → x < length v → get_or v x 0 ≡ get_or w x 0 → ¬ (o ≡ get_or w x 0)
    → altered n w (set v x o) ≡ suc (altered n w v)
altered_set n w v x o hx hv same other =
    let f : ℕ → Bool = differs w (set v x o) in
    let here : differs w (set v x o) x ≡ true =
    ap not (ne_eqb (get_or w x 0) (get_or (set v x o) x 0) (λ e. other (sym (get_or-set_same v x o 0 hv) ∙ sym e))) in
    count_except n f x hx here
    ∙ ap suc (count_alike n (except f x) (differs w v) (λ j l. elim (cases_eq j x) [
      | inl is ↦
          ap (λ b. f j && not b) (eq-eqb j x is) ∙ and_false (f j)
          ∙ sym (ap (differs w v) is ∙ differs_same w v x (sym same))
      | inr not_is ↦
          ap (λ b. f j && not b) (ne_eqb j x not_is) ∙ and_true (f j)
          ∙ ap (λ z. not (eqb (get_or w j 0) z)) (get_or-set_other v x j o 0 not_is)
    ]))

-- Corrections of a word alter as many octets as they are: v is the word with earlier ones made.
counted_on : (cs : List Correction) (w v : List ℕ) → length v ≡ word_length → All (λ c. c.place < word_length) cs → AllPairs (λ c d. c.place < d.place) cs
    → All (λ c. ¬ (c.octet ≡ get_or w c.place 0)) cs → All (λ c. get_or v c.place 0 ≡ get_or w c.place 0) cs
    → altered word_length w (corrected cs v) ≡ length cs + altered word_length w v
counted_on [] w v size inside rising other same = sym (zero-add (altered word_length w v))
counted_on (c ∷ cs) w v size inside rising other same =
    let low : c.place < word_length = inside 0 c (omega arith) in
    let one : altered word_length w (set v c.place c.octet) ≡ suc (altered word_length w v) =
    altered_set word_length w v c.place c.octet low (omega arith) (same 0 c (omega arith)) (other 0 c (omega arith)) in
    let rest : altered word_length w (corrected cs (set v c.place c.octet)) ≡ length cs + altered word_length w (set v c.place c.octet) =
    counted_on cs w (set v c.place c.octet) (length-set v c.place c.octet ∙ size)
    (All-tail (λ c. c.place < word_length) c cs inside)
    (λ i j d l u. rising (suc i) (suc j) d (suc-le-suc l) (suc-le-suc u))
    (All-tail (λ c. ¬ (c.octet ≡ get_or w c.place 0)) c cs other)
    (λ k d l.
    let e : Correction = get_or cs k d in
    let up : c.place < e.place = rising 0 (suc k) d (omega arith) (suc-le-suc l) in
    get_or-set_other v c.place e.place c.octet 0 (λ is. omega arith) ∙ same (suc k) d (suc-le-suc l)) in
    omega arith

pub counted : (w : List ℕ) (cs : List Correction) → length w ≡ word_length → Corrects w cs → altered word_length w (corrected cs w) ≡ length cs
counted w cs size h =
    let all : altered word_length w (corrected cs w) ≡ length cs + altered word_length w w = counted_on cs w w size h.inside h.rising h.other (λ k d l. refl) in
    omega (arith, altered_self word_length w)

-- there may be none
pub no_corrections : (w : List ℕ) → Corrects w []
no_corrections w = record {
  few = omega arith;
  inside = λ k d l. absurd (not-suc-le-zero l);
  rising = λ i j d l u. absurd (not-suc-le-zero u);
  other = λ k d l. absurd (not-suc-le-zero l);
}

-- ---- the changed word, octet by octet

changed_at : (test : ℕ → Bool) (p o w : List ℕ) (j : ℕ) → j < length w
    → get_or (changed test p o w) j 0 ≡ cond (test (length w - (j + 1))) (get_or w j 0 ⊕ change p o (length w - (j + 1))) (get_or w j 0)
unfolding changed
changed_at test p o [] j l = absurd (not-suc-le-zero l)
changed_at test p o (x ∷ w) zero l = ap (λ k. cond (test k) (x ⊕ change p o k) x) (omega arith)
changed_at test p o (x ∷ w) (suc j) l =
    changed_at test p o w j (le_of_suc-le-suc l) ∙ ap (λ k. cond (test k) (get_or w j 0 ⊕ change p o k) (get_or w j 0)) (omega arith)

-- ---- the loop that finds the corrections, from the first octet of a word to its last

module _ (test : ℕ → Bool) (p o w : List ℕ) where
  -- what it keeps: at octet j the corrections are all before j, and with them the word is as it should be up to j
  pub record Finding (j : ℕ) (cs : List Correction) : Type 0 where
    pub room : length cs + length (chosen test (word_length - j)) ≤ length (chosen test word_length)
    pub before : All (λ c. c.place < j) cs
    pub rising : AllPairs (λ c d. c.place < d.place) cs
    pub other : All (λ c. ¬ (c.octet ≡ get_or w c.place 0)) cs
    pub done : (k : ℕ) → k < j → get_or (corrected cs w) k 0 ≡ get_or (changed test p o w) k 0

  module _ (size : length w ≡ word_length) (j : ℕ) (cs : List Correction) (lj : j < 255) (h : Finding j cs) where
    power : length w - (j + 1) ≡ 254 - j
    power = omega arith

    octet_at_j : get_or (corrected cs w) j 0 ≡ get_or w j 0
    octet_at_j = corrected_free cs w j (λ k d l e. let low = h.before k d l in omega arith)

    -- an octet that stays as it is
    pub finding_kept : get_or w j 0 ≡ get_or (changed test p o w) j 0 → Finding (j + 1) cs
    finding_kept same = record {
      room = omega (arith, h.room, chosen_grows test (255 - (j + 1)) (255 - j) (omega arith));
      before = λ k d l. let low = h.before k d l in omega arith;
      rising = h.rising;
      other = h.other;
      done = λ k l. elim (cases_lt k j) [
        | inl lt ↦ h.done k lt
        | inr ge ↦
            let is : k ≡ j = omega arith in
            subst (λ i. get_or (corrected cs w) i 0 ≡ get_or (changed test p o w) i 0) (sym is) (octet_at_j ∙ same)
      ];
    }

    pub kept_untested : test (254 - j) ≡ false → get_or w j 0 ≡ get_or (changed test p o w) j 0
    kept_untested e =
        sym (changed_at test p o w j (omega arith) ∙ ap (λ k. cond (test k) (get_or w j 0 ⊕ change p o k) (get_or w j 0)) power
        ∙ cond-false (test (254 - j)) (get_or w j 0 ⊕ change p o (254 - j)) (get_or w j 0) e)

    changed_there : test (254 - j) ≡ true → get_or (changed test p o w) j 0 ≡ get_or w j 0 ⊕ change p o (254 - j)
    changed_there e =
        changed_at test p o w j (omega arith) ∙ ap (λ k. cond (test k) (get_or w j 0 ⊕ change p o k) (get_or w j 0)) power
        ∙ cond-true (test (254 - j)) (get_or w j 0 ⊕ change p o (254 - j)) (get_or w j 0) e

    pub kept_unchanged : test (254 - j) ≡ true → change p o (254 - j) ≡ 0 → get_or w j 0 ≡ get_or (changed test p o w) j 0
    kept_unchanged e z = sym (changed_there e ∙ ap (λ c. get_or w j 0 ⊕ c) z ∙ add-zero (get_or w j 0))

    one_fewer : test (254 - j) ≡ true → length (chosen test (255 - j)) ≡ suc (length (chosen test (255 - (j + 1))))
    one_fewer e =
        let up : 255 - j ≡ (254 - j) + 1 = omega arith in
        let down : 254 - j ≡ 255 - (j + 1) = omega arith in
        ap (λ k. length (chosen test k)) up ∙ ap length (chosen_yes test (254 - j) e) ∙ ap (λ k. suc (length (chosen test k))) down

    module _ (yes : test (254 - j) ≡ true) (c : Correction) (x : ℕ) (here : c.place ≡ j) (is : x ≡ change p o (254 - j)) (some : ¬ (x ≡ 0))
        (holds : c.octet ≡ get_or w j 0 ⊕ x) where
      differing : ¬ (c.octet ≡ get_or w c.place 0)
      differing e =
          some (sym (add_self_left (get_or w j 0) x) ∙ ap (λ z. get_or w j 0 ⊕ z) (sym holds ∙ e ∙ ap (λ z. get_or w z 0) here) ∙ self)
        where
          self : get_or w j 0 ⊕ get_or w j 0 ≡ 0
          self = sym (ap (λ z. get_or w j 0 ⊕ z) (add-zero (get_or w j 0))) ∙ add_self_left (get_or w j 0) 0

      word_now : corrected (cs ++ c ∷ []) w ≡ set (corrected cs w) j c.octet
      word_now = corrected_more cs c w ∙ ap (λ z. set (corrected cs w) z c.octet) here

      -- a correction more
      pub finding_put : Finding (j + 1) (cs ++ c ∷ [])
      finding_put = record {
        room = omega (arith, h.room, one_fewer yes, length-append cs (c ∷ []));
        before = All-push (λ d. d.place < j + 1) cs c (λ k d l. let low = h.before k d l in omega arith) (omega arith);
        rising = all_pairs_push (λ d e. d.place < e.place) cs c h.rising (λ k d l. let low = h.before k d l in omega arith);
        other = All-push (λ d. ¬ (d.octet ≡ get_or w d.place 0)) cs c h.other differing;
        done = λ k l. ap (λ u. get_or u k 0) word_now ∙ elim (cases_eq k j) [
          | inl same ↦
              subst (λ z. get_or (set (corrected cs w) j c.octet) z 0 ≡ get_or (changed test p o w) z 0) (sym same)
              (get_or-set_same (corrected cs w) j c.octet 0 (omega (arith, corrected_length cs w))
              ∙ holds ∙ ap (λ z. get_or w j 0 ⊕ z) is ∙ sym (changed_there yes))
          | inr less ↦ get_or-set_other (corrected cs w) j k c.octet 0 less ∙ h.done k (omega arith)
        ];
      }

  -- past the last octet the word is as it should be
  pub finding_all : (j : ℕ) (cs : List Correction) → length w ≡ word_length → j ≡ word_length → Finding j cs → corrected cs w ≡ changed test p o w
  finding_all j cs size end h =
      ext_get_or 0 (corrected cs w) (changed test p o w) (corrected_length cs w ∙ sym (changed_length test p o w))
      (λ k l. h.done k (omega (arith, corrected_length cs w)))
