-- Counting the places of a row word by word.
use Rattle.std.proofs.Common.{◌≡◌, ℕ, zero, suc, ◌+◌, ◌*◌, ◌%◌, ◌<◌, Bool, false, cond, not, eqb, ◌⊎◌, List, get_or, sym, ap, ◌∙◌, ap₂, inl, inr, suc-mul, zero-mul, arith}
use Rattle.std.proofs.lemmas.Nat.{mod-mul-add}
use Rattle.std.proofs.lemmas.Bool.{cases_Bool, cases_eq, ne_eqb, eq-eqb, and_left, and_right}
use Rattle.octets.specs.Counting.{count}
use Rattle.octets.specs.Octets.{differs, altered}
use Rattle.octets.specs.Words.{word_length, word_place, word_of, of_word, KeepsOthers}
use Rattle.octets.proofs.Counting.{count_zero, count_suc, count_split, count_none, count_except, count_alike, sum_alike, sum_of_sums, except}
use Rattle.octets.proofs.Octets.{differs_same}
use Rattle.octets.proofs.Words.{word_at}

-- 1 for a place that passes, 0 for another
abbrev pub tick : Bool → ℕ
tick b = cond b 1 0

-- a test that passes at no place but x
pub count_single : (n x : ℕ) (f : ℕ → Bool) → x < n → ((i : ℕ) → i < n → (i ≡ x → ⊥) → f i ≡ false) → count n f ≡ tick (f x)
count_single n x f low off = elim (cases_Bool (f x)) [
  | inl t ↦
      let rest : count n (except f x) ≡ 0 = count_none n (except f x) (λ i l. elim (cases_eq i x) [
        | inl e ↦ and_right (f i) (not (eqb i x)) (ap not (eq-eqb i x e))
        | inr ne ↦ and_left (f i) (not (eqb i x)) (off i l ne)
      ]) in
      let one : tick (f x) ≡ 1 = ap tick t in
      omega (arith, count_except n f x low t, rest, one)
  | inr t ↦
      let none : count n f ≡ 0 = count_none n f (λ i l. elim (cases_eq i x) [
        | inl e ↦ ap f e ∙ t
        | inr ne ↦ off i l ne
      ]) in
      let gone : tick (f x) ≡ 0 = ap tick t in
      omega (arith, none, gone)
]

-- a test that passes only at places of word w counts as many in n octets of each word as in those of word w alone
pub count_of_word : (depth w n : ℕ) (f : ℕ → Bool) → w < depth → ((q : ℕ) → of_word depth w q ≡ false → f q ≡ false)
    → count (n * depth) f ≡ count n (λ j. f (word_place depth w j))
count_of_word depth w zero f low off =
    ap (λ k. count k f) (zero-mul depth) ∙ count_zero f ∙ sym (count_zero (λ j. f (word_place depth w j)))
count_of_word depth w (suc n) f low off =
    let cut : count (suc n * depth) f ≡ count (n * depth) f + count depth (λ i. f (n * depth + i)) =
    ap (λ k. count k f) (suc-mul n depth) ∙ count_split (n * depth) depth f in
    let here : count depth (λ i. f (n * depth + i)) ≡ tick (f (n * depth + w)) =
    count_single depth w (λ i. f (n * depth + i)) low (λ i l ne.
    off (n * depth + i) (ne_eqb ((n * depth + i) % depth) w (λ e. ne (sym (mod-mul-add n depth i l) ∙ e)))) in
    omega (arith, cut, here, count_of_word depth w n f low off, count_suc n (λ j. f (word_place depth w j)))

-- rows alike but for word w differ in as many places as that word
pub altered_in_word : (depth w : ℕ) (a b : List ℕ) → w < depth → KeepsOthers depth w a b
    → altered (word_length * depth) a b ≡ altered word_length (word_of depth w a) (word_of depth w b)
altered_in_word depth w a b low keeps =
    count_of_word depth w word_length (differs a b) low (λ q other. differs_same a b q (sym (keeps.others q other)))
    ∙ count_alike word_length (λ j. differs a b (word_place depth w j)) (differs (word_of depth w a) (word_of depth w b)) (λ j l.
    ap₂ (λ x y. not (eqb x y)) (sym (word_at depth w a j l)) (sym (word_at depth w b j l)))

-- where no place is altered twice, the octets altered add up
pub altered_adds : (n : ℕ) (a b c : List ℕ) → ((q : ℕ) → q < n → (get_or b q 0 ≡ get_or a q 0) ⊎ (get_or c q 0 ≡ get_or b q 0))
    → altered n a c ≡ altered n a b + altered n b c
altered_adds n a b c once =
    sum_alike n (λ q. tick (differs a c q)) (λ q. tick (differs a b q) + tick (differs b c q)) each
    ∙ sum_of_sums n (λ q. tick (differs a b q)) (λ q. tick (differs b c q))
  where
    each : (q : ℕ) → q < n → tick (differs a c q) ≡ tick (differs a b q) + tick (differs b c q)
    each q l = elim (once q l) [
      | inl e ↦
          let kept : tick (differs a b q) ≡ 0 = ap tick (differs_same a b q (sym e)) in
          let same : tick (differs a c q) ≡ tick (differs b c q) = ap (λ x. tick (not (eqb x (get_or c q 0)))) (sym e) in
          omega (arith, kept, same)
      | inr e ↦
          let kept : tick (differs b c q) ≡ 0 = ap tick (differs_same b c q (sym e)) in
          let same : tick (differs a c q) ≡ tick (differs a b q) = ap (λ x. tick (not (eqb (get_or a q 0) x))) e in
          omega (arith, kept, same)
    ]
