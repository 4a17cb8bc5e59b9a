-- What the folds of the code come to: Horner's rule from the highest coefficient down, and sums of products.
use Rattle.std.proofs.Common.{◌≡◌, ℕ, ◌≤◌, ◌⊎◌, inl, inr, List, [], ◌∷◌, ◌++◌, length, reverse, slice_index, sym, refl, ap, ap₂, subst, ◌∙◌, append_assoc, append-nil, le_of_suc-le-suc, suc-ne-zero, arith}
use Rattle.std.specs.List.{fold}
use Rattle.std.proofs.lemmas.List.{reverse-append}
use Rattle.std.proofs.lemmas.List.Sums.{fold-append}
use Rattle.rs16.specs.Field.{◌⊕◌, ◌⊗◌, IsOctet, pow}
use Rattle.rs16.specs.DualBasis.{element}
use Rattle.rs16.specs.Codewords.{value}
use Rattle.rs16.specs.DualBasisLemmas.{element_octet}
use Rattle.rs16.specs.Polynomials.{eval, apply, horner}
use Rattle.rs16.specs.PolynomialsLemmas.{ring, add_assoc, add-zero, mul_comm, mul_one, octet_add, octet_mul, octet_zero, zero-add, zero-mul}

-- a fold from the last item on ends with the first
folded_last : {A B : Type 0} (f : B → A → B) (a : B) (c : A) (p : List A) → fold f a (reverse (c ∷ p)) ≡ f (fold f a (reverse p)) c
folded_last f a c p = ap (fold f a) (reverse-append (c ∷ []) p) ∙ fold-append f a (reverse p) (c ∷ [])

-- ---- Horner's rule
abbrev pub horner_step : ℕ → ℕ → ℕ → ℕ
horner_step x sum c = c ⊕ x ⊗ sum

pub eval_by_fold : (p : List ℕ) (x : ℕ) → fold (horner_step x) 0 (reverse p) ≡ eval p x
unfolding eval
eval_by_fold [] x = refl
eval_by_fold (c ∷ p) x = folded_last (horner_step x) 0 c p ∙ ap (λ z. c ⊕ x ⊗ z) (eval_by_fold p x)

-- the same, where the product is written the other way
abbrev pub horner_step_right : ℕ → ℕ → ℕ → ℕ
horner_step_right x sum c = c ⊕ sum ⊗ x

pub eval_by_fold_right : (p : List ℕ) (x : ℕ) → fold (horner_step_right x) 0 (reverse p) ≡ eval p x
unfolding eval
eval_by_fold_right [] x = refl
eval_by_fold_right (c ∷ p) x =
    folded_last (horner_step_right x) 0 c p ∙ ap (λ z. c ⊕ z) (ap (λ z. z ⊗ x) (eval_by_fold_right p x) ∙ mul_comm (eval p x) x)

-- ---- division by z + x, from the highest coefficient down: of q, `rest` is left, and `done` is done
abbrev pub Divided : List ℕ → List ℕ → ℕ → ℕ → ℕ → Type 0
Divided q rest x value sum = (done : List ℕ) × (q ≡ rest ++ done) × (value ≡ eval done x) × (sum ≡ eval (horner x done) x)

pub slope_none : (q rest : List ℕ) (x : ℕ) → rest ≡ q → Divided q rest x 0 0
unfolding eval horner
slope_none q rest x all = ([], sym (append-nil rest ∙ all), refl, refl)

pub slope_more : (q rest next : List ℕ) (x c value sum v s : ℕ) → rest ≡ next ++ c ∷ [] → v ≡ x ⊗ value → s ≡ x ⊗ sum → Divided q rest x value sum
    → Divided q next x (c ⊕ v) (c ⊕ v ⊕ s)
unfolding eval horner
slope_more q rest next x c value sum v s last ev es (done, whole, is_value, is_sum) =
    let new_value : c ⊕ v ≡ c ⊕ x ⊗ eval done x = ap (λ z. c ⊕ z) (ev ∙ ap (λ z. x ⊗ z) is_value) in (
      c ∷ done,
      whole ∙ ap (λ r. r ++ done) last ∙ append_assoc next (c ∷ []) done,
      new_value,
      ap₂ ◌⊕◌ new_value (es ∙ ap (λ z. x ⊗ z) is_sum),
    )

pub slope_all : (q rest : List ℕ) (x value sum : ℕ) → length rest ≡ 0 → Divided q rest x value sum → sum ≡ eval (horner x q) x
slope_all q [] x value sum end (done, whole, is_value, is_sum) = is_sum ∙ ap (λ d. eval (horner x d) x) (sym whole)
slope_all q (c ∷ rest) x value sum end d = absurd (suc-ne-zero (length rest) end)

-- ---- products with the syndromes: a and b are what is left of the coefficients and of the syndromes
abbrev pub Applied : List ℕ → List ℕ → ℕ → ℕ → Type 0
Applied a b sum whole = (length a ≤ length b) × (sum ⊕ apply a (λ m. slice_index b m) ≡ whole)

pub applied_more : (a b a' b' : List ℕ) (c s sum product whole : ℕ) → (a ≡ c ∷ a') × (b ≡ s ∷ b') → product ≡ c ⊗ s → Applied a b sum whole
    → Applied a' b' (sum ⊕ product) whole
unfolding apply
applied_more a b a' b' c s sum product whole (ea, eb) ep (room, is) = (
  let short : length (c ∷ a') ≤ length (s ∷ b') = subst (λ z. length z ≤ length (s ∷ b')) ea (subst (λ z. length a ≤ length z) eb room) in le_of_suc-le-suc short,
  add_assoc sum product (apply a' (λ m. slice_index b' m))
      ∙ ap (λ z. sum ⊕ (z ⊕ apply a' (λ m. slice_index b' m))) ep
      ∙ sym (ap₂ (λ (u v : List ℕ). sum ⊕ apply u (λ m. slice_index v m)) ea eb) ∙ is,
)

pub applied_all : (a b : List ℕ) (sum whole : ℕ) → (length a ≡ 0) ⊎ (length b ≡ 0) → Applied a b sum whole → sum ≡ whole
unfolding apply
applied_all [] b sum whole end (room, is) = sym (add-zero sum) ∙ is
applied_all (c ∷ a) b sum whole (inl end) d = absurd (suc-ne-zero (length a) end)
applied_all (c ∷ a) b sum whole (inr end) (room, is) = absurd (omega arith)

-- ---- the value of line octets
abbrev pub value_step : ℕ → ℕ → ℕ → ℕ
value_step x sum octet = sum ⊗ x ⊕ element octet

regroup : (a x e p v : ℕ) → (a ⊗ x ⊕ e) ⊗ p ⊕ v ≡ a ⊗ (x ⊗ p) ⊕ (e ⊗ p ⊕ v)
regroup a x e p v = simp ring

valued_on : (w : List ℕ) (x a : ℕ) → IsOctet a → fold (value_step x) a w ≡ a ⊗ pow x (length w) ⊕ value w x
unfolding value pow
valued_on [] x a h = sym (add-zero (a ⊗ 1) ∙ mul_one a h)
valued_on (o ∷ w) x a h =
    valued_on w x (value_step x a o) (octet_add (a ⊗ x) (element o) (octet_mul a x) (element_octet o))
    ∙ regroup a x (element o) (pow x (length w)) (value w x)

pub value_by_fold : (w : List ℕ) (x : ℕ) → fold (value_step x) 0 w ≡ value w x
value_by_fold w x = valued_on w x 0 octet_zero ∙ ap (λ z. z ⊕ value w x) (zero-mul (pow x (length w))) ∙ zero-add (value w x)
