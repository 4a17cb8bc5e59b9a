-- The mending: where each altered octet's power passes a test, the evaluator polynomial gives what was altered.
use Rattle.std.proofs.Common.{◌≡◌, ℕ, suc, ◌+◌, ◌<◌, ◌≤◌, Bool, true, cond, ◌⊎◌, List, [], ◌∷◌, length, get_or, drop, sym, refl, ap, ◌∙◌, subst, ap₂, inl, inr, suc-le-suc, le_trans, le_refl, zero-lt-suc, suc-ne-zero, arith}
use native.Mathlib.Nat.{le-suc, suc_inj}
use Rattle.std.specs.List.{AllByRecursion}
use Rattle.std.proofs.lemmas.List.{length-drop}
use Rattle.std.proofs.lemmas.Bool.{cond_both, both_ways, eq-eqb}
use Rattle.octets.specs.Octets.{Octets, altered}
use Rattle.octets.specs.Words.{word_length}
use Rattle.rs16.specs.Field.{◌⊕◌, ◌⊗◌, IsOctet, pow, inv}
use Rattle.rs16.specs.DualBasis.{line_octet, element}
use Rattle.rs16.specs.Codewords.{syndrome, Codeword}
use Rattle.rs16.specs.Polynomials.{eval, apply, from_roots, horner, slope}
use Rattle.rs16.specs.Mending.{locator, chosen, evaluator, change, changed, Solution}
use Rattle.rs16.specs.Alterations.{by_eq, gap, gaps, gaps_sum, alterations, alterations_sum, alterations_length, alterations_octets, alterations_distinct, alterations_weighty, all_octets}
use Rattle.rs16.proofs.Chosen.{Separates, root_at, separates}
use Rattle.rs16.specs.DualBasisLemmas.{element_octet, line_octet_add, line_octet_element, line_octet_octet}
use Rattle.rs16.proofs.Inverses.{inverse}
use Rattle.rs16.specs.Locators.{locator_distinct, locator_octet, locator_not_zero, mul_not_zero, pow_not_zero, weight, weight_zero}
use Rattle.rs16.specs.PolynomialsLemmas.{length_horner, add_self, add_self_left, add-zero, zero-add, mul_assoc, mul_comm, mul_one, mul-zero, zero-mul, octet_add, octet_mul, octet_pow, power_sum, weighed, apply_sum, other_root, locates}
use Rattle.rs16.proofs.Quotients.{Alike, evaluator_value, octet_slope}

pub apply_same : (p : List ℕ) (S R : ℕ → ℕ) → ((m : ℕ) → m < length p → S m ≡ R m) → apply p S ≡ apply p R
unfolding apply
apply_same [] S R h = refl
apply_same (c ∷ p) S R h =
    ap₂ (λ a b. c ⊗ a ⊕ b) (h 0 (zero-lt-suc (length p))) (apply_same p (λ m. S (suc m)) (λ m. R (suc m)) (λ m l. h (suc m) (suc-le-suc l)))

no_quotient : (x y : ℕ) → eval (horner x []) y ≡ 0
unfolding horner eval
no_quotient x y = refl

module _ (test : ℕ → Bool) where
  -- the power of each octet that was altered passes the test
  abbrev pub Found : List ℕ → List ℕ → Type 0
  Found [] b = Unit
  Found (x ∷ a) [] = Unit
  Found (x ∷ a) (y ∷ b) = ((x ≡ y) ⊎ (test (length a) ≡ true)) × Found a b

  module _ (p : List ℕ) (sep : Separates test p) where
    -- p divided by its factor at power k
    abbrev quotient : ℕ → List ℕ
    quotient k = horner (locator k) (drop 1 p)

    -- the quotient is 0 at each other power that passes
    quotient_zero : (q : List ℕ) → p ≡ q → (k j : ℕ) → k < 255 → j < 255 → ¬ (j ≡ k) → test k ≡ true → test j ≡ true
        → eval (horner (locator k) (drop 1 q)) (locator j) ≡ 0
    quotient_zero [] e k j hk hj n tk tj = no_quotient (locator k) (locator j)
    quotient_zero (c ∷ q) e k j hk hj n tk tj =
        other_root (locator k) c q (locator j) (locator_octet k) (locator_octet j) (subst (AllByRecursion IsOctet) e sep.octets).1
        (λ same. n (locator_distinct j k hj hk same))
        (subst (λ r. eval r (locator k) ≡ 0) e (sep.root k hk tk)) (subst (λ r. eval r (locator j) ≡ 0) e (sep.root j hj tj))

    -- an octet of another power adds nothing
    other : (k j x y : ℕ) → k < 255 → j < 255 → ¬ (j ≡ k) → test k ≡ true → (x ≡ y) ⊎ (test j ≡ true)
        → weight j (element x ⊕ element y) ⊗ eval (quotient k) (locator j) ≡ 0
    other k j x y hk hj n tk (inl e) =
        ap (λ z. weight j (element z ⊕ element y) ⊗ eval (quotient k) (locator j)) e
        ∙ ap (λ z. weight j z ⊗ eval (quotient k) (locator j)) (add_self (element y))
        ∙ ap (λ z. z ⊗ eval (quotient k) (locator j)) (weight_zero j) ∙ zero-mul (eval (quotient k) (locator j))
    other k j x y hk hj n tk (inr e) =
        ap (λ z. weight j (element x ⊕ element y) ⊗ z) (quotient_zero p refl k j hk hj n tk e)
        ∙ mul-zero (weight j (element x ⊕ element y))

    below_none : (a b : List ℕ) (k : ℕ) → length a ≤ k → k < 255 → test k ≡ true → Found a b → weighed (gaps a b) (quotient k) ≡ 0
    unfolding gaps weighed
    below_none [] b k l hk tk f = refl
    below_none (x ∷ a) [] k l hk tk f = refl
    below_none (x ∷ a) (y ∷ b) k l hk tk f =
        ap₂ ◌⊕◌ (other k (length a) x y hk (omega arith) (λ e. omega arith) tk f.0) (below_none a b k (omega arith) hk tk f.1)

    -- the octet at power k gives its weight times the slope
    head_sum : (x y : ℕ) (a b : List ℕ) → length a < 255 → test (length a) ≡ true → Found a b
        → weighed (gaps (x ∷ a) (y ∷ b)) (quotient (length a)) ≡ weight (length a) (element x ⊕ element y) ⊗ slope p (locator (length a))
    unfolding gaps weighed
    head_sum x y a b l tk f =
        ap (λ z. weight (length a) (element x ⊕ element y) ⊗ slope p (locator (length a)) ⊕ z) (below_none a b (length a) (le_refl (length a)) l tk f)
        ∙ add-zero (weight (length a) (element x ⊕ element y) ⊗ slope p (locator (length a)))

    tail_sum : (k x y : ℕ) (a b : List ℕ) → k < length a → length a < 255 → test k ≡ true → (x ≡ y) ⊎ (test (length a) ≡ true)
        → weighed (gaps (x ∷ a) (y ∷ b)) (quotient k) ≡ weighed (gaps a b) (quotient k)
    unfolding gaps weighed
    tail_sum k x y a b lk l tk s =
        ap (λ z. z ⊕ weighed (gaps a b) (quotient k)) (other k (length a) x y (omega arith) l (λ e. omega arith) tk s)
        ∙ zero-add (weighed (gaps a b) (quotient k))

    -- the change is the difference
    right_change : (k x y : ℕ) (o : List ℕ) → k < 255 → test k ≡ true → IsOctet x → IsOctet y
        → eval o (locator k) ≡ weight k (element x ⊕ element y) ⊗ slope p (locator k) → x ⊕ change p o k ≡ y
    unfolding change weight
    right_change k x y o hk tk hx hy h =
        let e : ℕ = element x ⊕ element y in
        let a : ℕ = slope p (locator k) in
        let q : ℕ = pow (locator k) 112 in
        let one : (a ⊗ q) ⊗ inv (a ⊗ q) ≡ 1 =
        inverse (a ⊗ q) (octet_mul a q)
        (mul_not_zero a q (octet_slope p (locator k) sep.octets) (octet_pow (locator k) 112) (sep.simple k hk tk)
        (pow_not_zero (locator k) 112 (locator_octet k) (locator_not_zero k))) in
        let value : eval o (locator k) ⊗ inv (a ⊗ q) ≡ e =
        ap (λ z. z ⊗ inv (a ⊗ q)) (h ∙ mul_assoc e q a ∙ ap (λ z. e ⊗ z) (mul_comm q a))
        ∙ mul_assoc e (a ⊗ q) (inv (a ⊗ q)) ∙ ap (λ z. e ⊗ z) one
        ∙ mul_one e (octet_add (element x) (element y) (element_octet x) (element_octet y)) in
        ap (λ z. x ⊕ line_octet z) value
        ∙ ap (λ z. x ⊕ z) (line_octet_add (element x) (element y) ∙ ap₂ ◌⊕◌ (line_octet_element x hx) (line_octet_element y hy))
        ∙ add_self_left x y

    put_right : (x y : ℕ) (a b o : List ℕ) → IsOctet x → IsOctet y → length a < 255 → (x ≡ y) ⊎ (test (length a) ≡ true) → Found a b
        → (test (length a) ≡ true → eval o (locator (length a)) ≡ weighed (gaps (x ∷ a) (y ∷ b)) (quotient (length a)))
        → cond (test (length a)) (x ⊕ change p o (length a)) x ≡ y
    put_right x y a b o hx hy l s f h =
        cond_both (test (length a)) (x ⊕ change p o (length a)) x (λ z. z ≡ y)
        (λ e. right_change (length a) x y o l e hx hy (h e ∙ head_sum x y a b l e f))
        (λ n. elim s [ inl e ↦ e | inr e ↦ absurd (both_ways (test (length a)) n e) ])

    pub changed_is : (a b o : List ℕ) → length a ≡ length b → length a ≤ 255 → AllByRecursion IsOctet a → AllByRecursion IsOctet b → Found a b
        → ((k : ℕ) → k < length a → test k ≡ true → eval o (locator k) ≡ weighed (gaps a b) (quotient k)) → changed test p o a ≡ b
    unfolding changed
    changed_is [] [] o e l ha hb f h = refl
    changed_is [] (y ∷ b) o e l ha hb f h = absurd (suc-ne-zero (length b) (sym e))
    changed_is (x ∷ a) [] o e l ha hb f h = absurd (suc-ne-zero (length a) e)
    changed_is (x ∷ a) (y ∷ b) o e l ha hb f h =
        ap₂ (λ z t. z ∷ t)
        (put_right x y a b o ha.0 hb.0 l f.0 f.1 (h (length a) (le_refl (suc (length a)))))
        (changed_is a b o (suc_inj e) (omega arith) ha.1 hb.1 f.1
        (λ k lk tk. h k (le_trans lk (le-suc (length a))) tk ∙ tail_sum k x y a b lk l tk f.0))

  pub changed_length : (p o a : List ℕ) → length (changed test p o a) ≡ length a
  unfolding changed
  changed_length p o [] = refl
  changed_length p o (x ∷ a) = ap suc (changed_length p o a)

  pub change_octet : (p o : List ℕ) (k : ℕ) → IsOctet (change p o k)
  unfolding change
  change_octet p o k = line_octet_octet (eval o (locator k) ⊗ inv (slope p (locator k) ⊗ pow (locator k) 112))

  pub changed_octets : (p o a : List ℕ) → AllByRecursion IsOctet a → AllByRecursion IsOctet (changed test p o a)
  unfolding changed
  changed_octets p o [] h = tt
  changed_octets p o (x ∷ a) h = (
    cond_both (test (length a)) (x ⊕ change p o (length a)) x IsOctet (λ e. octet_add x (change p o (length a)) h.0 (change_octet p o (length a))) (λ n. h.0),
    changed_octets p o a h.1,
  )

-- tests that agree change alike
pub changed_alike : (test other : ℕ → Bool) (p o w : List ℕ) → ((k : ℕ) → k < length w → test k ≡ other k) → changed test p o w ≡ changed other p o w
unfolding changed
changed_alike test other p o [] h = refl
changed_alike test other p o (x ∷ w) h =
    ap₂ (λ b v. cond b (x ⊕ change p o (length w)) x ∷ v) (h (length w) (le_refl (suc (length w))))
    (changed_alike test other p o w (λ k l. h k (omega arith)))

-- ---- the theorem

-- a polynomial that is 0 at the locator of each altered octet finds them
found_from : (q a b : List ℕ) → AllByRecursion (λ t. eval q t.0 ≡ 0) (alterations a b) → Found (root_at q) a b
unfolding alterations
found_from q [] b h = tt
found_from q (x ∷ a) [] h = tt
found_from q (x ∷ a) (y ∷ b) h =
    by_eq x y (alterations a b) (gap (length a) x y ∷ alterations a b)
    (λ ts. AllByRecursion (λ t. eval q t.0 ≡ 0) ts → Found (root_at q) (x ∷ a) (y ∷ b))
    (λ e f. (inl e, found_from q a b f))
    (λ n f. (inr (eq-eqb (eval q (locator (length a))) 0 f.0), found_from q a b f.1)) h

-- s holds the syndromes of w
abbrev pub SyndromesOf : List ℕ → List ℕ → Type 0
SyndromesOf w s = (m : ℕ) → m < 32 → get_or s m 0 ≡ syndrome w m

-- With any solution q of bound t, and the product p over its roots, the changes give the codeword that lies within t places.
module _ (t : ℕ) (room : t + t ≤ 32) (w c q p s : List ℕ) (hw : Octets word_length w) (syndromes : SyndromesOf w s) (cc : Codeword c)
    (near : altered word_length w c ≤ t) (sol : Solution t q s) (short : length p ≤ 33) (product : Alike p (from_roots (chosen (root_at q) 255))) where
  lengths : length w ≡ length c
  lengths = hw.size ∙ sym cc.octets.size

  sums : (m : ℕ) → m < 32 → get_or s m 0 ≡ power_sum (gaps w c) m
  sums m l = syndromes m l ∙ sym (gaps_sum w c m lengths ∙ ap (λ z. syndrome w m ⊕ z) (cc.zeros m l) ∙ add-zero (syndrome w m))

  found : Found (root_at q) w c
  found =
      let size : length w ≡ word_length = hw.size in
      let count : length (alterations w c) ≡ altered word_length w c = alterations_length w c lengths ∙ ap (λ n. altered n w c) size in
      let qsize : length q ≡ t + 1 = sol.size in
      found_from q w c
      (locates q (alterations w c) sol.octets (alterations_weighty w c (all_octets word_length w hw) (all_octets word_length c cc.octets))
      (alterations_octets w c) (alterations_distinct w c (omega arith))
      (λ i l. let low : i < t = omega arith in
      apply_same q (λ m. power_sum (alterations w c) (i + m)) (λ m. get_or s (i + m) 0)
      (λ m lm. alterations_sum w c (i + m) ∙ sym (sums (i + m) (omega arith)))
      ∙ sol.solves i low))

  value : (k : ℕ) → eval (evaluator (drop 1 p) s) (locator k) ≡ weighed (gaps w c) (horner (locator k) (drop 1 p))
  value k =
      let g : List ℕ = horner (locator k) (drop 1 p) in
      let size : length (horner (locator k) (drop 1 p)) < 33 = omega (arith, length_horner (locator k) (drop 1 p), length-drop 1 p) in
      evaluator_value (drop 1 p) s (locator k)
      ∙ apply_same g (λ m. get_or s m 0) (power_sum (gaps w c)) (λ m l. sums m (omega arith))
      ∙ apply_sum (gaps w c) g

  pub mended_right : changed (root_at q) p (evaluator (drop 1 p) s) w ≡ c
  mended_right =
      let size : length w ≡ word_length = hw.size in
      changed_is (root_at q) p (separates (root_at q) p product) w c (evaluator (drop 1 p) s) lengths (omega arith)
      (all_octets word_length w hw) (all_octets word_length c cc.octets) found (λ k l e. value k)
