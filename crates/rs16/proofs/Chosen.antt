-- The powers that pass a test, as a list of their locators; and the roots of a polynomial among them.
use Rattle.std.proofs.Common.{◌≡◌, ℕ, zero, suc, ◌+◌, ◌<◌, ◌≤◌, Bool, true, false, cond, eqb, List, [], ◌∷◌, length, get_or, sym, refl, ap, ◌∙◌, subst, inl, inr, le_refl, le_of_suc-le-suc, not-suc-le-zero, eq-or-lt_of_le, add-one, arith}
use Rattle.std.specs.List.{AllByRecursion}
use Rattle.std.proofs.ByRecursion.{All-from_get_or}
use Rattle.std.proofs.lemmas.Bool.{cond_both, cases_lt, eqb-true}
use Rattle.rs16.specs.Field.{IsOctet}
use Rattle.rs16.specs.Polynomials.{eval, from_roots, slope}
use Rattle.rs16.specs.Mending.{locator, chosen, zero_at, Solution, Values}
use Rattle.rs16.specs.Alterations.{Under, under_more, under_apart, under_octets}
use Rattle.rs16.specs.Locators.{locator_octet}
use Rattle.rs16.specs.PolynomialsLemmas.{Member, Distinct, at_root, few_roots, octet_zero}
use Rattle.rs16.proofs.Quotients.{Alike, eval_alike, octets_from_roots, simple_root, slope_alike}

module _ (test : ℕ → Bool) where
  pub chosen_under : (n : ℕ) → Under n (chosen test n)
  unfolding chosen
  chosen_under zero = tt
  chosen_under (suc k) =
      cond_both (test k) (locator k ∷ chosen test k) (chosen test k) (Under (suc k))
      (λ e. ((k, le_refl (suc k), refl), under_more k (chosen test k) (chosen_under k)))
      (λ n. under_more k (chosen test k) (chosen_under k))

  pub chosen_octets : (n : ℕ) → AllByRecursion IsOctet (chosen test n)
  chosen_octets n = under_octets n (chosen test n) (chosen_under n)

  pub chosen_distinct : (n : ℕ) → n ≤ 255 → Distinct (chosen test n)
  unfolding chosen
  chosen_distinct zero l = tt
  chosen_distinct (suc k) l =
      let rest : Distinct (chosen test k) = chosen_distinct k (omega arith) in
      cond_both (test k) (locator k ∷ chosen test k) (chosen test k) Distinct (λ e. (under_apart k l (chosen test k) (chosen_under k), rest)) (λ n. rest)

  pub chosen_member : (n k : ℕ) → k < n → test k ≡ true → Member (locator k) (chosen test n)
  unfolding chosen
  chosen_member zero k l e = absurd (not-suc-le-zero l)
  chosen_member (suc j) k l e = elim (eq-or-lt_of_le (le_of_suc-le-suc l)) [
    | inl same ↦ rw (sym (ap test same) ∙ e) (inl (ap locator same))
    | inr less ↦
        let rest : Member (locator k) (chosen test j) = chosen_member j k less e in
        cond_both (test j) (locator j ∷ chosen test j) (chosen test j) (Member (locator k)) (λ r. inr rest) (λ r. rest)
  ]

  pub chosen_yes : (k : ℕ) → test k ≡ true → chosen test (k + 1) ≡ locator k ∷ chosen test k
  unfolding chosen
  chosen_yes k e = ap (chosen test) (add-one k) ∙ ap (λ b. cond b (locator k ∷ chosen test k) (chosen test k)) e

  pub chosen_no : (k : ℕ) → test k ≡ false → chosen test (k + 1) ≡ chosen test k
  unfolding chosen
  chosen_no k e = ap (chosen test) (add-one k) ∙ ap (λ b. cond b (locator k ∷ chosen test k) (chosen test k)) e

  pub chosen_none : chosen test 0 ≡ []
  unfolding chosen
  chosen_none = refl

  one_more : (k : ℕ) → length (chosen test k) ≤ length (chosen test (suc k))
  unfolding chosen
  one_more k =
      cond_both (test k) (locator k ∷ chosen test k) (chosen test k) (λ zs. length (chosen test k) ≤ length zs) (λ e. omega arith) (λ e. omega arith)

  -- more powers, no fewer locators
  pub chosen_grows : (n m : ℕ) → n ≤ m → length (chosen test n) ≤ length (chosen test m)
  chosen_grows n zero l = subst (λ k. length (chosen test n) ≤ length (chosen test k)) (let e : n ≡ 0 = omega arith in e) (omega arith)
  chosen_grows n (suc m) l = elim (cases_lt n (suc m)) [
    | inl less ↦ omega (arith, chosen_grows n m (omega arith), one_more m)
    | inr more ↦ let same : n ≡ suc m = omega arith in subst (λ k. length (chosen test n) ≤ length (chosen test k)) same (omega arith)
  ]

-- tests that agree choose alike
pub chosen_alike : (test other : ℕ → Bool) (n : ℕ) → ((k : ℕ) → k < n → test k ≡ other k) → chosen test n ≡ chosen other n
unfolding chosen
chosen_alike test other zero h = refl
chosen_alike test other (suc n) h =
    ap (λ b. cond b (locator n ∷ chosen test n) (chosen test n)) (h n (le_refl (suc n)))
    ∙ ap (λ zs. cond (other n) (locator n ∷ zs) zs) (chosen_alike test other n (λ k l. h k (omega arith)))

-- ---- the roots of a polynomial

-- whether p is 0 at the locator of power k
abbrev pub root_at : List ℕ → ℕ → Bool
root_at p k = eqb (eval p (locator k)) 0

pub root_at_value : (p v : List ℕ) → Values p v → (k : ℕ) → k < 255 → zero_at v k ≡ root_at p k
root_at_value p v h k l = ap (λ z. eqb z 0) (h.1 k l)

chosen_roots : (p : List ℕ) (n : ℕ) → AllByRecursion (λ x. eval p x ≡ 0) (chosen (root_at p) n)
unfolding chosen
chosen_roots p zero = tt
chosen_roots p (suc k) =
    cond_both (root_at p k) (locator k ∷ chosen (root_at p) k) (chosen (root_at p) k) (AllByRecursion (λ x. eval p x ≡ 0))
    (λ e. (eqb-true (eval p (locator k)) 0 e, chosen_roots p k)) (λ n. chosen_roots p k)

-- a solution of bound t has at most t roots
few_chosen : (t : ℕ) (p s : List ℕ) → Solution t p s → length (chosen (root_at p) 255) ≤ t
few_chosen t p s sol = elim (cases_lt (length (chosen (root_at p) 255)) (length p)) [
  | inl less ↦ let size : length p ≡ t + 1 = sol.size in omega arith
  | inr many ↦
      absurd (sol.other (few_roots (chosen (root_at p) 255) p (chosen_octets (root_at p) 255) sol.octets (chosen_distinct (root_at p) 255 (le_refl 255))
      (chosen_roots p 255) many))
]

-- the same, by the values at the locators
pub few_zeros : (t : ℕ) (p v s : List ℕ) → Solution t p s → Values p v → length (chosen (zero_at v) 255) ≤ t
few_zeros t p v s sol values =
    subst (λ zs. length zs ≤ t) (sym (chosen_alike (zero_at v) (root_at p) 255 (root_at_value p v values))) (few_chosen t p s sol)

-- ---- the product over the powers that pass

-- A polynomial that is 0 at the locator of each power that passes, and has it as a root just once.
pub record Separates (test : ℕ → Bool) (p : List ℕ) : Type 0 where
  pub octets : AllByRecursion IsOctet p
  pub root : (k : ℕ) → k < 255 → test k ≡ true → eval p (locator k) ≡ 0
  pub simple : (k : ℕ) → k < 255 → test k ≡ true → ¬ (slope p (locator k) ≡ 0)

pub octet_at_lem : (p : List ℕ) → AllByRecursion IsOctet p → (k : ℕ) → IsOctet (get_or p k 0)
octet_at_lem [] h k = octet_zero
octet_at_lem (c ∷ p) h zero = h.0
octet_at_lem (c ∷ p) h (suc k) = octet_at_lem p h.1 k

pub separates : (test : ℕ → Bool) (p : List ℕ) → Alike p (from_roots (chosen test 255)) → Separates test p
separates test p alike =
    let zs : List ℕ = chosen test 255 in
    record {
      octets = All-from_get_or IsOctet p 0 (λ k l. subst IsOctet (sym (alike k)) (octet_at_lem (from_roots zs) (octets_from_roots zs) k));
      root = λ k l e. eval_alike p (from_roots zs) (locator k) alike ∙ at_root zs (locator k) (chosen_member test 255 k l e);
      simple = λ k l e z. simple_root zs (locator k) (locator_octet k) (chosen_octets test 255) (chosen_distinct test 255 (le_refl 255)) (chosen_member test 255 k l e)
          (sym (slope_alike p (from_roots zs) (locator k) alike) ∙ z);
    }
