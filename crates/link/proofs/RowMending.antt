-- Mending a row word by word.
use Rattle.std.proofs.Common.{◌≡◌, ℕ, ◌+◌, ◌*◌, ◌%◌, ◌<◌, ◌≤◌, List, length, get_or, None, Ok, Err, Result, sym, refl, ap, ◌∙◌, subst, inl, inr, arith}
use Rattle.std.proofs.lemmas.Bool.{ne_eqb, cases_eq}
use Rattle.std.specs.Result.{result_and}
use Rattle.octets.specs.Octets.{altered}
use Rattle.octets.specs.Words.{word_length, word_of, KeepsOthers}
use Rattle.octets.proofs.Octets.{altered_le, altered_self}
use Rattle.octets.proofs.Words.{keeps_self, other_word_kept}
use Rattle.code.specs.Meaning.{CodeMeaning, Reached}
use Rattle.code.specs.Refusal.{shape_refusal}
use Rattle.code.specs.Calls.{Mended, Mends, Beyond}
use Rattle.code.specs.declared.fault.MendFault.{MendFault}
use Rattle.code.specs.declared.fault.MendFault.TheVariants.{Shape, Reach}
use Rattle.link.specs.RowMending.{WordAfter, FirstMended, Verdict}
use Rattle.link.specs.declared.mending.RowFault.{RowFault}
use Rattle.link.proofs.WovenCounts.{altered_in_word, altered_adds}

-- One word of a row is mended, and the octets altered are added to `count`; refused, the row and the count are as they were.
abbrev pub MendsWord : CodeMeaning → ℕ → ℕ → List ℕ → ℕ → Result Unit RowFault → List ℕ → ℕ → Type 0
MendsWord code depth word before count (Ok _) after count' = (n : ℕ) × Mended code depth word n before after × (count' ≡ count + n)
MendsWord code depth word before count (Err fault) after count' =
    (fault ≡ record { word = word; fault = Reach }) × Beyond code (word_of depth word before) × (after ≡ before) × (count' ≡ count)

pub word_mended : (code : CodeMeaning) (depth word : ℕ) (before : List ℕ) (count n : ℕ) (after : List ℕ)
    → Mends code depth word before (Ok n) after → MendsWord code depth word before count (Ok tt) after (count + n)
word_mended code depth word before count n after (e, m) = (n, m, refl)

pub word_left : (code : CodeMeaning) (depth word : ℕ) (before : List ℕ) (count : ℕ) (after : List ℕ) (fault : MendFault)
    → shape_refusal depth word before ≡ None → Mends code depth word before (Err fault) after
    → MendsWord code depth word before count (Err (record { word = word; fault = fault })) after count
word_left code depth word before count after (Shape fault) there (e, same) = let z : ◌≡◌ {A = ℕ} 0 1 = cc in absurd (omega arith)
word_left code depth word before count after Reach there (e, beyond, same) = (refl, beyond, same, refl)

-- a row whose first `upto` words are mended; the octets of the others are as they were
pub record MendedUpTo (depth : ℕ) (code : CodeMeaning) (before : List ℕ) (upto : ℕ) (after : List ℕ) (count : ℕ) (valid : Result Unit RowFault) : Type 0 where
  pub size : length after ≡ word_length * depth
  pub words : (w : ℕ) → w < upto → WordAfter code (word_of depth w before) (word_of depth w after)
  pub rest : (q : ℕ) → upto ≤ q % depth → get_or after q 0 ≡ get_or before q 0
  pub rest_words : (w : ℕ) → upto ≤ w → w < depth → word_of depth w after ≡ word_of depth w before
  pub few : count ≤ 255 * upto
  pub counted : count ≡ altered (word_length * depth) before after
  pub verdict : Verdict code depth upto before after valid

-- no word mended yet
pub mended_none : (depth : ℕ) (code : CodeMeaning) (row : List ℕ) → length row ≡ word_length * depth → MendedUpTo depth code row 0 row 0 (Ok tt)
mended_none depth code row size = record {
  size = size;
  words = λ w l. absurd (omega arith);
  rest = λ q l. refl;
  rest_words = λ w l h. refl;
  few = omega arith;
  counted = sym (altered_self (word_length * depth) row);
  verdict = λ w l. absurd (omega arith);
}

module _ (depth : ℕ) (code : CodeMeaning) (before : List ℕ) (w : ℕ) (low : w < depth) where
  -- what the answer of one word says of it, whichever it is: the octets that it altered, what it became, and what it kept
  pub record OneMended (row : List ℕ) (count : ℕ) (answer : Result Unit RowFault) (row' : List ℕ) (count' : ℕ) : Type 0 where
    pub after : WordAfter code (word_of depth w row) (word_of depth w row')
    pub counted : count' ≡ count + altered word_length (word_of depth w row) (word_of depth w row')
    pub keeps : KeepsOthers depth w row row'

  pub one_mended : (row : List ℕ) (count : ℕ) (answer : Result Unit RowFault) (row' : List ℕ) (count' : ℕ)
      → MendsWord code depth w row count answer row' count' → OneMended row count answer row' count'
  one_mended row count (Ok u) row' count' (n, m, e) = record {
    after = inl m.reached;
    counted = e ∙ ap (λ k. count + k) m.counted;
    keeps = m.keeps;
  }
  one_mended row count (Err fault) row' count' (f, b, same, e) =
      let alike : word_of depth w row' ≡ word_of depth w row = ap (word_of depth w) same in
      record {
        after = inr (b, alike);
        counted = omega (arith, e, ap (λ xs. altered word_length (word_of depth w row) xs) alike, altered_self word_length (word_of depth w row));
        keeps = subst (λ xs. KeepsOthers depth w row xs) (sym same) (keeps_self depth w row);
      }

  module _ (row : List ℕ) (count : ℕ) (valid : Result Unit RowFault) (held : MendedUpTo depth code before w row count valid)
      (row' : List ℕ) (count' : ℕ) (answer : Result Unit RowFault) (done : MendsWord code depth w row count answer row' count') where
    one : OneMended row count answer row' count'
    one = one_mended row count answer row' count' done

    -- the word was as before
    was : word_of depth w row ≡ word_of depth w before
    was = held.rest_words w (omega arith) low

    -- a word mended before this one stays
    stays : (v : ℕ) → v < w → word_of depth v row' ≡ word_of depth v row
    stays v l = other_word_kept depth w v row row' one.keeps (omega arith) (λ e. omega arith)

    word_next : (v : ℕ) → v < w + 1 → WordAfter code (word_of depth v before) (word_of depth v row')
    word_next v l = elim (cases_eq v w) [
      | inl e ↦ subst (λ u. WordAfter code (word_of depth u before) (word_of depth u row')) (sym e)
          (subst (λ xs. WordAfter code xs (word_of depth w row')) was one.after)
      | inr ne ↦ subst (λ xs. WordAfter code (word_of depth v before) xs) (sym (stays v (omega arith))) (held.words v (omega arith))
    ]

    octet_rest : (q : ℕ) → w + 1 ≤ q % depth → get_or row' q 0 ≡ get_or before q 0
    octet_rest q l = one.keeps.others q (ne_eqb (q % depth) w (λ e. omega arith)) ∙ held.rest q (omega arith)

    word_rest : (v : ℕ) → w + 1 ≤ v → v < depth → word_of depth v row' ≡ word_of depth v before
    word_rest v l h = other_word_kept depth w v row row' one.keeps h (λ e. omega arith) ∙ held.rest_words v (omega arith) h

    count_next : count' ≡ altered (word_length * depth) before row'
    count_next =
        let add : altered (word_length * depth) before row' ≡ altered (word_length * depth) before row + altered (word_length * depth) row row' =
        altered_adds (word_length * depth) before row row' (λ q l. elim (cases_eq (q % depth) w) [
          | inl e ↦ inl (held.rest q (omega arith))
          | inr ne ↦ inr (one.keeps.others q (ne_eqb (q % depth) w ne))
        ]) in
        omega (arith, add, altered_in_word depth w row row' low one.keeps, one.counted, held.counted)

    -- words mended before this one are mended still
    first_kept : (n : ℕ) → n ≤ w → FirstMended code depth n before row → FirstMended code depth n before row'
    first_kept n l h v k = subst (λ xs. Reached code (word_of depth v before) xs) (sym (stays v (omega arith))) (h v k)

  -- one word more, and the first refusal stays
  verdict_next : (row row' : List ℕ) (count count' : ℕ) (valid answer : Result Unit RowFault)
      → MendedUpTo depth code before w row count valid → MendsWord code depth w row count answer row' count'
      → Verdict code depth (w + 1) before row' (result_and valid answer)
  verdict_next row row' count count' (Ok u) (Ok u') held (n, m, e) = λ v l. elim (cases_eq v w) [
    | inl same ↦ subst (λ x. Reached code (word_of depth x before) (word_of depth x row')) (sym same)
        (subst (λ xs. Reached code xs (word_of depth w row')) (held.rest_words w (omega arith) low) m.reached)
    | inr ne ↦ first_kept row count (Ok u) held row' count' (Ok u') (n, m, e) w (omega arith) held.verdict v (omega arith)
  ]
  verdict_next row row' count count' (Ok u) (Err fault) held (f, b, same, e) =
      let at : fault.word ≡ w = cc in
      let why : fault.fault ≡ Reach = cc in (
        omega arith,
        why,
        subst (λ x. Beyond code (word_of depth x before)) (sym at) (subst (λ xs. Beyond code xs) (held.rest_words w (omega arith) low) b),
        first_kept row count (Ok u) held row' count' (Err fault) (f, b, same, e) fault.word (omega arith) (λ x l. held.verdict x (omega arith)),
      )
  verdict_next row row' count count' (Err fault) answer held done =
      let h = held.verdict in
      (omega (arith, h.0), h.1, h.2, first_kept row count (Err fault) held row' count' answer done fault.word (omega (arith, h.0)) h.3)

  -- a word more
  pub mended_more : (row row' : List ℕ) (count count' : ℕ) (valid answer : Result Unit RowFault)
      → MendedUpTo depth code before w row count valid → MendsWord code depth w row count answer row' count'
      → MendedUpTo depth code before (w + 1) row' count' (result_and valid answer)
  mended_more row row' count count' valid answer held done =
      let one : OneMended row count answer row' count' = one_mended row count answer row' count' done in
      record {
        size = one.keeps.size ∙ held.size;
        words = word_next row count valid held row' count' answer done;
        rest = octet_rest row count valid held row' count' answer done;
        rest_words = word_rest row count valid held row' count' answer done;
        few = omega (arith, one.counted, held.few, altered_le word_length (word_of depth w row) (word_of depth w row'));
        counted = count_next row count valid held row' count' answer done;
        verdict = verdict_next row row' count count' valid answer held done;
      }

-- Ok is no refusal to be kept
and_ok : (valid : Result Unit RowFault) → result_and valid (Ok tt) ≡ valid
and_ok (Ok u) = refl
and_ok (Err fault) = refl

pub mends_at : (code : CodeMeaning) (d depth w : ℕ) (row : List ℕ) (r r' : Result ℕ MendFault) (row' : List ℕ)
    → d ≡ depth → r ≡ r' → Mends code d w row r row' → Mends code depth w row r' row'
mends_at code d depth w row r r' row' e f m = subst (λ x. Mends code depth w row x row') f (subst (λ k. Mends code k w row r row') e m)

-- what mend answers of the next word, as it is taken up in the loop
module _ (depth : ℕ) (code : CodeMeaning) (before : List ℕ) (w : ℕ) (low : w < depth) (row row' : List ℕ) (count : ℕ) (valid : Result Unit RowFault)
    (held : MendedUpTo depth code before w row count valid) where
  pub mended_ok : (n : ℕ) → Mends code depth w row (Ok n) row' → MendedUpTo depth code before (w + 1) row' (count + n) valid
  mended_ok n m =
      subst (MendedUpTo depth code before (w + 1) row' (count + n)) (and_ok valid)
      (mended_more depth code before w low row row' count (count + n) valid (Ok tt) held (word_mended code depth w row count n row' m))

  pub mended_err : (fault : MendFault) → shape_refusal depth w row ≡ None → Mends code depth w row (Err fault) row'
      → MendedUpTo depth code before (w + 1) row' count (result_and valid (Err (record { word = w; fault = fault })))
  mended_err fault there m =
      mended_more depth code before w low row row' count count valid (Err (record { word = w; fault = fault })) held
      (word_left code depth w row count row' fault there m)
