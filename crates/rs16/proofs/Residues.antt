-- The remainder of a whole word has the word's syndromes as its values at the roots.
use Rattle.std.proofs.Common.{◌≡◌, ℕ, zero, suc, ◌+◌, ◌-◌, ◌<◌, List, [], ◌∷◌, length, get_or, take, drop, sym, refl, ap, ◌∙◌, subst, ap₂, suc-ne-zero, one-add, arith}
use native.Mathlib.Nat.{suc_inj}
use Rattle.std.proofs.lemmas.List.FromFn.{fill_by_all, get_or-map-range_with_len, length-map-range_with_len}
use Rattle.std.proofs.lemmas.List.{take-append-drop, length-drop, ext_get_or, get_or-drop}
use Rattle.octets.specs.Counting.{tabulate}
use Rattle.octets.specs.Words.{word_length}
use Rattle.rs16.specs.Field.{◌⊕◌, ◌⊗◌, pow}
use Rattle.rs16.specs.DualBasis.{element}
use Rattle.rs16.specs.Codewords.{value, root, syndrome}
use Rattle.rs16.specs.Division.{checks, plus, residue}
use Rattle.rs16.specs.Arithmetic.{interchange}
use Rattle.rs16.specs.DualBasisLemmas.{element_add}
use Rattle.rs16.specs.PolynomialsLemmas.{add-mul}
use Rattle.rs16.specs.Remainders.{checks_length, checks_value, value_append}

pub plus_length : (a b : List ℕ) → length (plus a b) ≡ length a
unfolding plus
plus_length [] b = refl
plus_length (x ∷ a) b = ap suc (plus_length a (drop 1 b))

pub plus_at : (a b : List ℕ) (k : ℕ) → k < length a → get_or (plus a b) k 0 ≡ get_or a k 0 ⊕ get_or b k 0
unfolding plus
plus_at [] b k l = absurd (let z : k < 0 = l in omega arith)
plus_at (x ∷ a) b zero l = refl
plus_at (x ∷ a) b (suc k) l =
    plus_at a (drop 1 b) k (let s : suc k < suc (length a) = l in omega arith)
    ∙ ap (λ z. get_or a k 0 ⊕ z) (get_or-drop 1 b k 0 ∙ ap (λ n. get_or b n 0) (one-add k))

-- the value of a sum is the sum of the values
plus_value : (a b : List ℕ) (x : ℕ) → length a ≡ length b → value (plus a b) x ≡ value a x ⊕ value b x
unfolding plus value
plus_value [] [] x l = refl
plus_value [] (v ∷ b) x l = absurd (suc-ne-zero (length b) (sym l))
plus_value (u ∷ a) [] x l = absurd (suc-ne-zero (length a) l)
plus_value (u ∷ a) (v ∷ b) x l =
    let p : ℕ = pow x (length a) in
    ap₂ (λ n z. element (u ⊕ v) ⊗ pow x n ⊕ z) (plus_length a b) (plus_value a b x (suc_inj l))
    ∙ ap (λ z. z ⊕ (value a x ⊕ value b x)) (ap (λ z. z ⊗ p) (element_add u v) ∙ add-mul (element u) (element v) p)
    ∙ interchange (element u ⊗ p) (element v ⊗ p) (value a x) (value b x)
    ∙ ap (λ n. element u ⊗ p ⊕ value a x ⊕ (element v ⊗ pow x n ⊕ value b x)) (suc_inj l)

module _ (w : List ℕ) (size : length w ≡ word_length) where
  tail_length : length (drop 223 w) ≡ 32
  tail_length = length-drop 223 w ∙ ap (λ n. n - 223) size

  pub residue_length : length (residue w) ≡ 32
  unfolding residue
  residue_length = plus_length (checks (take 223 w)) (drop 223 w) ∙ checks_length (take 223 w)

  pub residue_syndrome : (m : ℕ) → m < 32 → value (residue w) (root m) ≡ syndrome w m
  unfolding residue syndrome
  residue_syndrome m l =
      let x : ℕ = root m in
      let h : List ℕ = take 223 w in
      plus_value (checks h) (drop 223 w) x (checks_length h ∙ sym tail_length)
      ∙ ap (λ z. z ⊕ value (drop 223 w) x) (checks_value h m l)
      ∙ ap (λ n. value h x ⊗ pow x n ⊕ value (drop 223 w) x) (sym tail_length)
      ∙ sym (ap (λ v. value v x) (sym (take-append-drop 223 w)) ∙ value_append h (drop 223 w) x)

  pub residue_syndromes : tabulate 32 (λ m. value (residue w) (root m)) ≡ tabulate 32 (syndrome w)
  residue_syndromes =
      fill_by_all (syndrome w) (tabulate 32 (λ m. value (residue w) (root m))) 32 0 (length-map-range_with_len (λ m. value (residue w) (root m)) 0 32)
      (λ m l. get_or-map-range_with_len (λ m. value (residue w) (root m)) 0 32 m m 0 l (omega arith) ∙ residue_syndrome m l)

-- what a loop that adds the last 32 octets of a word to its check octets has written
pub residue_all : (w r : List ℕ) → length r ≡ 32
    → ((k : ℕ) → k < 32 → get_or r k 0 ≡ get_or (checks (take 223 w)) k 0 ⊕ get_or w (223 + k) 0) → r ≡ residue w
unfolding residue
residue_all w r lr h =
    let c : List ℕ = checks (take 223 w) in
    ext_get_or 0 r (plus c (drop 223 w)) (lr ∙ sym (plus_length c (drop 223 w) ∙ checks_length (take 223 w))) (λ k lk.
    let low : k < 32 = subst (λ n. k < n) lr lk in
    h k low ∙ ap (λ z. get_or c k 0 ⊕ z) (sym (get_or-drop 223 w k 0))
    ∙ sym (plus_at c (drop 223 w) k (subst (λ n. k < n) (sym (checks_length (take 223 w))) low)))
