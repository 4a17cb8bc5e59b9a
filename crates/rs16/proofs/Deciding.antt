-- The check decides: the remainder is 0 just for codewords, so the word with its changes is the codeword within reach, or there is none.
use Rattle.std.proofs.Common.{◌≡◌, ℕ, suc, ◌<◌, ◌≤◌, List, [], ◌∷◌, length, get_or, take, drop, sym, refl, ap, ◌∙◌, subst, ap₂, arith}
use Rattle.std.proofs.lemmas.List.FromFn.{get_or-map-range_with_len}
use Rattle.std.proofs.lemmas.List.{drop_at}
use Rattle.octets.specs.Counting.{tabulate}
use Rattle.octets.specs.Octets.{Octets, altered}
use Rattle.octets.specs.Words.{word_length, max_reach}
use Rattle.octets.proofs.Octets.{altered_self, octets_take}
use Rattle.code.specs.Calls.{Beyond}
use Rattle.code.specs.Meaning.{Reached}
use Rattle.rs16.specs.Codewords.{value, root, syndrome, Codeword, rs16}
use Rattle.rs16.specs.Division.{checks, plus, residue}
use Rattle.rs16.specs.DualBasis.{element}
use Rattle.rs16.specs.Field.{◌⊕◌, ◌⊗◌, pow}
use Rattle.rs16.specs.Mending.{chosen, zero_at, evaluator, changed, Solution, Values}
use Rattle.rs16.specs.Polynomials.{from_roots}
use Rattle.rs16.specs.Alterations.{all_octets}
use Rattle.rs16.proofs.Chosen.{octet_at_lem, root_at, chosen_alike, root_at_value}
use Rattle.rs16.specs.DualBasisLemmas.{element_zero}
use Rattle.rs16.proofs.Mending.{SyndromesOf, changed_alike, changed_length, changed_octets, mended_right}
use Rattle.rs16.specs.PolynomialsLemmas.{add_self, zero-mul}
use Rattle.rs16.proofs.Quotients.{Alike}
use Rattle.rs16.specs.Remainders.{completed, completed_codeword, completed_begins, one_codeword}
use Rattle.rs16.proofs.Residues.{plus_at, plus_length, residue_syndrome, residue_syndromes}

-- each octet is 0
abbrev pub Nought : List ℕ → Type 0
Nought r = (k : ℕ) → k < length r → get_or r k 0 ≡ 0

value_nought : (r : List ℕ) (x : ℕ) → Nought r → value r x ≡ 0
unfolding value
value_nought [] x h = refl
value_nought (o ∷ r) x h =
    ap₂ (λ a b. element a ⊗ pow x (length r) ⊕ b) (h 0 (let some : 0 < suc (length r) = omega arith in some))
    (value_nought r x (λ k l. h (suc k) (let more : suc k < suc (length r) = omega arith in more)))
    ∙ ap (λ z. z ⊗ pow x (length r) ⊕ 0) element_zero ∙ ap (λ z. z ⊕ 0) (zero-mul (pow x (length r)))

-- a word whose remainder is 0 is a codeword
pub nought_codeword : (w : List ℕ) → Octets word_length w → Nought (residue w) → Codeword w
nought_codeword w hw z = record { octets = hw; zeros = λ m l. sym (residue_syndrome w hw.size m l) ∙ value_nought (residue w) (root m) z }

-- a codeword's remainder is 0
pub codeword_nought : (c : List ℕ) → Codeword c → Nought (residue c)
unfolding residue
codeword_nought c cc k l =
    let h : List ℕ = take 223 c in
    let ho : Octets 223 (take 223 c) = octets_take word_length 223 c (omega arith) cc.octets in
    let is : c ≡ completed (take 223 c) = one_codeword c (completed h) cc (completed_codeword h ho) (sym (completed_begins h ho)) in
    let end : drop 223 c ≡ checks (take 223 c) = ap (drop 223) is ∙ drop_at h (checks h) 223 ho.size in
    let low : k < length (checks h) = subst (λ n. k < n) (plus_length (checks h) (drop 223 c)) l in
    ap (λ e. get_or (plus (checks h) e) k 0) end ∙ plus_at (checks h) (checks h) k low ∙ add_self (get_or (checks h) k 0)

-- the values of a word's remainder at the roots are the word's syndromes
pub syndromes_of : (w r s : List ℕ) → length w ≡ word_length → r ≡ residue w → s ≡ tabulate 32 (λ m. value r (root m)) → SyndromesOf w s
syndromes_of w r s size is-residue is m l =
    ap (λ z. get_or z m 0) (is ∙ ap (λ z. tabulate 32 (λ m. value z (root m))) is-residue ∙ residue_syndromes w size)
    ∙ get_or-map-range_with_len (syndrome w) 0 32 m m 0 l (omega arith)

-- a codeword is within reach of itself
pub clean : (w : List ℕ) → Octets word_length w → Nought (residue w) → Reached rs16 w w
clean w hw z = record { is_codeword = nought_codeword w hw z; near = omega (arith, altered_self word_length w) }

module _ (w q v p s new : List ℕ) (hw : Octets word_length w) (syndromes : SyndromesOf w s) (sol : Solution max_reach q s) (values : Values q v)
    (short : length p ≤ 33) (product : Alike p (from_roots (chosen (zero_at v) word_length)))
    (made : new ≡ changed (zero_at v) p (evaluator (drop 1 p) s) w) where
  new_octets : Octets word_length new
  new_octets =
      let o : List ℕ = evaluator (drop 1 p) s in
      record {
        size = ap length made ∙ changed_length (zero_at v) p o w ∙ hw.size;
        octet = λ j l. subst (λ u. get_or u j 0 < 256) (sym made)
            (octet_at_lem (changed (zero_at v) p o w) (changed_octets (zero_at v) p o w (all_octets word_length w hw)) j);
      }

  -- what passes the check is the codeword within reach
  pub good : altered word_length w new ≤ max_reach → Nought (residue new) → Reached rs16 w new
  good near z = record { is_codeword = nought_codeword new new_octets z; near = near }

  -- what does not pass shows that there is none
  pub bad : (Nought (residue new) → ⊥) → Beyond rs16 w
  bad fails c reached =
      let o : List ℕ = evaluator (drop 1 p) s in
      let agree : (k : ℕ) → k < 255 → zero_at v k ≡ root_at q k = root_at_value q v values in
      let whole : Alike p (from_roots (chosen (root_at q) 255)) = subst (λ zs. Alike p (from_roots zs)) (chosen_alike (zero_at v) (root_at q) 255 agree) product in
      let is : new ≡ c =
      made ∙ changed_alike (zero_at v) (root_at q) p o w (λ k l. agree k (subst (λ n. k < n) hw.size l))
      ∙ mended_right max_reach (omega arith) w c q p s hw syndromes reached.is_codeword reached.near sol short whole in
      fails (subst (λ u. Nought (residue u)) (sym is) (codeword_nought c reached.is_codeword))
