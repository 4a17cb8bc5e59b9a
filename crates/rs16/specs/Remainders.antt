-- The remainder of the division by the generator: its value at each root of the code, and the codeword that it completes.
use Rattle.std.specs.Prelude.{◌≡◌, ℕ, zero, suc, ◌+◌, ◌*◌, ◌%◌, ◌<◌, T, List, [], ◌∷◌, ◌++◌, length, take, drop, replicate, nat_eq, slice_index, slice_index_or, refl}
use Rattle.std.proofs.Common.{ap, sym, ◌∙◌, suc-ne-zero, arith, eqb→eq, lit<, length-append}
use Rattle.std.proofs.Math.Path.{ap₂}
use Rattle.std.proofs.Math.Nat.{suc_inj}
use Rattle.std.specs.List.{AllByRecursion}
use Rattle.std.proofs.ByRecursion.{All-get_or, All-append, All-drop}
use Rattle.std.proofs.lemmas.List.{get_or-take, take_at}
use Rattle.octets.specs.Octets.{Octets}
use Rattle.octets.specs.Words.{word_length}
use Rattle.octets.proofs.Octets.{altered_behind}
use Rattle.code.specs.Meaning.{CodeLaws}
use Rattle.rs16.specs.Field.{◌⊕◌, ◌⊗◌, IsOctet, mul, mul_digits, times_alpha, pow}
use Rattle.rs16.specs.DualBasis.{element}
use Rattle.rs16.specs.Codewords.{value, root, syndrome, Codeword, rs16}
use Rattle.rs16.specs.Division.{generator, multiple, plus_multiple, divide_step, remainder, checks}
use Rattle.rs16.specs.Below.{all, below}
use Rattle.rs16.specs.Powers.{exp}
use Rattle.rs16.specs.PolynomialsLemmas.{ring, add-zero, add_self, zero-mul, mul_one, one-mul, octet_mul, octet_add, octet_zero, octet_pow, pow_add, difference}
use Rattle.rs16.specs.DualBasisLemmas.{element_add, element_zero, element_line_octet, line_octet_octet}
use Rattle.rs16.specs.Locators.{root_exp}
use Rattle.rs16.specs.Alterations.{all_octets, near_codewords, distance_33}

pub pow-suc : (x k : ℕ) → pow x (suc k) ≡ x ⊗ pow x k
unfolding pow
pow-suc x k = refl

pub value_octet : (w : List ℕ) (x : ℕ) → IsOctet (value w x)
unfolding value
value_octet [] x = octet_zero
value_octet (o ∷ w) x = octet_add (element o ⊗ pow x (length w)) (value w x) (octet_mul (element o) (pow x (length w))) (value_octet w x)

value_cons : (o : ℕ) (w : List ℕ) (x : ℕ) → element o ⊗ pow x (length w) ⊕ value w x ≡ value (o ∷ w) x
unfolding value
value_cons o w x = refl

-- ---- the generator

-- the value of a list of elements, the highest power first
unfoldable worth : List ℕ → ℕ → ℕ
worth [] x = 0
worth (e ∷ g) x = e ⊗ pow x (length g) ⊕ worth g x

-- a, and then each of the elements after a product by x
unfoldable nested : ℕ → List ℕ → ℕ → ℕ
nested a [] x = a
nested a (c ∷ g) x = nested (a ⊗ x ⊕ c) g x

step_nested : (a c x p w : ℕ) → (a ⊗ x ⊕ c) ⊗ p ⊕ w ≡ a ⊗ (x ⊗ p) ⊕ (c ⊗ p ⊕ w)
step_nested a c x p w = simp ring

nested_worth : (a : ℕ) (g : List ℕ) (x : ℕ) → IsOctet a → AllByRecursion IsOctet g → nested a g x ≡ a ⊗ pow x (length g) ⊕ worth g x
unfolding nested worth pow
nested_worth a [] x ha hg = sym (mul_one a ha) ∙ sym (add-zero (a ⊗ 1))
nested_worth a (c ∷ g) x ha hg =
    nested_worth (a ⊗ x ⊕ c) g x (octet_add (a ⊗ x) c (octet_mul a x) hg.0) hg.1 ∙ step_nested a c x (pow x (length g)) (worth g x)

-- the generator is 0 at each root
roots_test : T (all (λ m. nat_eq (nested 1 generator (exp ((11 * (112 + m)) % 255))) 0) 32)
unfolding nested generator mul mul_digits times_alpha exp all
roots_test = tt

pub generator_length : length generator ≡ 32
unfolding generator
generator_length = refl

generator_octets : AllByRecursion IsOctet generator
unfolding generator
generator_octets = (lit< tt, (lit< tt, (lit< tt, (lit< tt, (lit< tt, (lit< tt, (lit< tt, (lit< tt, (lit< tt, (lit< tt, (lit< tt, (lit< tt, (lit< tt, (lit< tt, (lit< tt, (lit< tt, (lit< tt, (lit< tt, (lit< tt, (lit< tt, (lit< tt, (lit< tt, (lit< tt, (lit< tt, (lit< tt, (lit< tt, (lit< tt, (lit< tt, (lit< tt, (lit< tt, (lit< tt, (lit< tt, tt))))))))))))))))))))))))))))))))

-- so at a root its lower part is the root to the power 32
generator_root : (m : ℕ) → m < 32 → worth generator (root m) ≡ pow (root m) 32
generator_root m l =
    let x : ℕ = root m in
    let zero-there : nested 1 generator x ≡ 0 =
    ap (nested 1 generator) (sym (root_exp m)) ∙ eqb→eq _ _ (below (λ m. nat_eq (nested 1 generator (exp ((11 * (112 + m)) % 255))) 0) 32 roots_test m l) in
    let sum : 1 ⊗ pow x 32 ⊕ worth generator x ≡ 0 =
    ap (λ n. 1 ⊗ pow x n ⊕ worth generator x) (sym generator_length) ∙ sym (nested_worth 1 generator x (lit< tt) generator_octets) ∙ zero-there in
    sym (sym (one-mul (pow x 32) (octet_pow x 32)) ∙ difference (1 ⊗ pow x 32) (worth generator x) sum)

-- ---- one step

pub plus_multiple_length : (f : ℕ) (g r : List ℕ) → length (plus_multiple f g r) ≡ length g
unfolding plus_multiple
plus_multiple_length f [] r = refl
plus_multiple_length f (c ∷ g) r = ap suc (plus_multiple_length f g (drop 1 r))

-- the element of a sum with a multiple
element_multiple : (b f c : ℕ) → element (b ⊕ multiple f c) ≡ element b ⊕ element f ⊗ c
element_multiple b f c =
    element_add b (multiple f c) ∙ ap (λ z. element b ⊕ z) (element_line_octet (element f ⊗ c) (octet_mul (element f) c))

step_multiple : (b f c x p u v : ℕ) → (b ⊕ f ⊗ c) ⊗ (x ⊗ p) ⊕ (x ⊗ u ⊕ f ⊗ v) ≡ x ⊗ (b ⊗ p ⊕ u) ⊕ f ⊗ (c ⊗ (x ⊗ p) ⊕ v)
step_multiple b f c x p u v = simp ring

last_multiple : (f c x : ℕ) → (f ⊗ c) ⊗ 1 ⊕ 0 ≡ x ⊗ 0 ⊕ f ⊗ (c ⊗ 1 ⊕ 0)
last_multiple f c x = simp ring

plus_multiple_value : (f x : ℕ) (g r : List ℕ) → length g ≡ suc (length r)
    → value (plus_multiple f g r) x ≡ x ⊗ value r x ⊕ element f ⊗ worth g x
unfolding plus_multiple value worth pow
plus_multiple_value f x [] r l = absurd (suc-ne-zero (length r) (sym l))
plus_multiple_value f x (c ∷ []) [] l =
    ap (λ z. z ⊗ 1 ⊕ 0) (element_multiple 0 f c ∙ ap (λ z. z ⊕ element f ⊗ c) element_zero) ∙ last_multiple (element f) c x
plus_multiple_value f x (c ∷ d ∷ g) [] l = absurd (suc-ne-zero (length g) (suc_inj l))
plus_multiple_value f x (c ∷ g) (b ∷ r) l =
    let size : length (plus_multiple f g r) ≡ suc (length r) = plus_multiple_length f g r ∙ suc_inj l in
    ap₂ (λ z n. z ⊗ pow x n ⊕ value (plus_multiple f g r) x) (element_multiple b f c) size
    ∙ ap (λ z. (element b ⊕ element f ⊗ c) ⊗ (x ⊗ pow x (length r)) ⊕ z) (plus_multiple_value f x g r (suc_inj l))
    ∙ step_multiple (element b) (element f) c x (pow x (length r)) (value r x) (worth g x)
    ∙ ap (λ n. x ⊗ (element b ⊗ pow x (length r) ⊕ value r x) ⊕ element f ⊗ (c ⊗ pow x n ⊕ worth g x)) (sym (suc_inj l))

pub divide_step_length : (o : ℕ) (r : List ℕ) → length (divide_step o r) ≡ 32
unfolding divide_step
divide_step_length o r = plus_multiple_length (slice_index_or r 0 0 ⊕ o) generator (drop 1 r) ∙ generator_length

-- x is a root, and t is x to the power 32
abbrev Root : ℕ → ℕ → Type 0
Root x t = (worth generator x ≡ t) × (t ≡ x ⊗ pow x 31)

step_divide : (a e x p w : ℕ) → x ⊗ w ⊕ (a ⊕ e) ⊗ (x ⊗ p) ≡ x ⊗ (a ⊗ p ⊕ w) ⊕ e ⊗ (x ⊗ p)
step_divide a e x p w = simp ring

divide_step_value : (o x t : ℕ) (r : List ℕ) → length r ≡ 32 → Root x t → value (divide_step o r) x ≡ x ⊗ value r x ⊕ element o ⊗ t
unfolding divide_step
divide_step_value o x t [] l g = absurd (suc-ne-zero 31 (sym l))
divide_step_value o x t (a ∷ r) l g =
    plus_multiple_value (a ⊕ o) x generator r (generator_length ∙ sym l)
    ∙ ap₂ (λ e z. x ⊗ value r x ⊕ e ⊗ z) (element_add a o) (g.0 ∙ g.1)
    ∙ step_divide (element a) (element o) x (pow x 31) (value r x)
    ∙ ap₂ (λ n z. x ⊗ (element a ⊗ pow x n ⊕ value r x) ⊕ element o ⊗ z) (sym (suc_inj l)) (sym g.1)
    ∙ ap (λ z. x ⊗ z ⊕ element o ⊗ t) (value_cons a r x)

-- ---- all steps

step_remainder : (x r e t p w : ℕ) → (x ⊗ r ⊕ e ⊗ t) ⊗ p ⊕ w ⊗ t ≡ r ⊗ (x ⊗ p) ⊕ (e ⊗ p ⊕ w) ⊗ t
step_remainder x r e t p w = simp ring

remainder_value : (x t : ℕ) (r w : List ℕ) → length r ≡ 32 → Root x t → value (remainder r w) x ≡ value r x ⊗ pow x (length w) ⊕ value w x ⊗ t
unfolding remainder value pow
remainder_value x t r [] l g =
    sym (ap₂ ◌⊕◌ (mul_one (value r x) (value_octet r x)) (zero-mul t) ∙ add-zero (value r x))
remainder_value x t r (o ∷ w) l g =
    remainder_value x t (divide_step o r) w (divide_step_length o r) g
    ∙ ap (λ z. z ⊗ pow x (length w) ⊕ value w x ⊗ t) (divide_step_value o x t r l g)
    ∙ step_remainder x (value r x) (element o) t (pow x (length w)) (value w x)

remainder_length : (r w : List ℕ) → length r ≡ 32 → length (remainder r w) ≡ 32
unfolding remainder
remainder_length r [] l = l
remainder_length r (o ∷ w) l = remainder_length (divide_step o r) w (divide_step_length o r)

plus_multiple_octets : (f : ℕ) (g r : List ℕ) → AllByRecursion IsOctet r → AllByRecursion IsOctet (plus_multiple f g r)
unfolding plus_multiple
plus_multiple_octets f [] r h = tt
plus_multiple_octets f (c ∷ g) r h =
    (octet_add (slice_index r 0) (multiple f c) (at r 0 h) (line_octet_octet (element f ⊗ c)), plus_multiple_octets f g (drop 1 r) (All-drop IsOctet 1 r h))
  where
    at : (r : List ℕ) (k : ℕ) → AllByRecursion IsOctet r → IsOctet (slice_index r k)
    at [] k h = octet_zero
    at (x ∷ r) zero h = h.0
    at (x ∷ r) (suc k) h = at r k h.1

remainder_octets : (r w : List ℕ) → AllByRecursion IsOctet r → AllByRecursion IsOctet (remainder r w)
unfolding remainder divide_step
remainder_octets r [] h = h
remainder_octets r (o ∷ w) h =
    remainder_octets (divide_step o r) w (plus_multiple_octets (slice_index_or r 0 0 ⊕ o) generator (drop 1 r) (All-drop IsOctet 1 r h))

zeros_octets : (n : ℕ) → AllByRecursion IsOctet (replicate n 0)
zeros_octets zero = tt
zeros_octets (suc n) = (octet_zero, zeros_octets n)

pub get_or_zeros : (n k : ℕ) → ◌≡◌ {A = ℕ} (slice_index (replicate n 0) k) 0
get_or_zeros zero k = refl
get_or_zeros (suc n) zero = refl
get_or_zeros (suc n) (suc k) = get_or_zeros n k

pub value_zeros : (n x : ℕ) → value (replicate n 0) x ≡ 0
unfolding value
value_zeros zero x = refl
value_zeros (suc n) x =
    let rest : List ℕ = replicate n 0 in
    ap₂ ◌⊕◌ (ap (λ z. z ⊗ pow x (length rest)) element_zero ∙ zero-mul (pow x (length rest))) (value_zeros n x)

-- ---- the check octets

pub checks_length : (h : List ℕ) → length (checks h) ≡ 32
unfolding checks
checks_length h = remainder_length (replicate 32 0) h refl

pub checks_octets : (h : List ℕ) → AllByRecursion IsOctet (checks h)
unfolding checks
checks_octets h = remainder_octets (replicate 32 0) h (zeros_octets 32)

-- at a root they have the value of the octets before them, moved up by 32 powers
pub checks_value : (h : List ℕ) (m : ℕ) → m < 32 → value (checks h) (root m) ≡ value h (root m) ⊗ pow (root m) 32
unfolding checks
checks_value h m l =
    let x : ℕ = root m in
    let t : ℕ = pow x 32 in
    remainder_value x t (replicate 32 0) h refl (generator_root m l, pow-suc x 31)
    ∙ ap (λ z. z ⊗ pow x (length h) ⊕ value h x ⊗ t) (value_zeros 32 x) ∙ ap (λ z. z ⊕ value h x ⊗ t) (zero-mul (pow x (length h)))

step_append : (e p q u v : ℕ) → e ⊗ (p ⊗ q) ⊕ (u ⊗ q ⊕ v) ≡ (e ⊗ p ⊕ u) ⊗ q ⊕ v
step_append e p q u v = simp ring

pub value_append : (a b : List ℕ) (x : ℕ) → value (a ++ b) x ≡ value a x ⊗ pow x (length b) ⊕ value b x
unfolding value
value_append [] b x = sym (ap (λ z. z ⊕ value b x) (zero-mul (pow x (length b))))
value_append (o ∷ a) b x =
    ap₂ (λ n z. element o ⊗ pow x n ⊕ z) (length-append a b) (value_append a b x)
    ∙ ap (λ z. element o ⊗ z ⊕ (value a x ⊗ pow x (length b) ⊕ value b x)) (pow_add x (length a) (length b))
    ∙ step_append (element o) (pow x (length a)) (pow x (length b)) (value a x) (value b x)

-- the word that information octets and their check octets make
abbrev pub completed : List ℕ → List ℕ
completed h = h ++ checks h

module _ (h : List ℕ) (ho : Octets 223 h) where
  zero_at_lem : (m : ℕ) → m < 32 → syndrome (completed h) m ≡ 0
  unfolding syndrome
  zero_at_lem m l =
      let x : ℕ = root m in
      value_append h (checks h) x
      ∙ ap₂ (λ n z. value h x ⊗ pow x n ⊕ z) (checks_length h) (checks_value h m l) ∙ add_self (value h x ⊗ pow x 32)

  size : length (completed h) ≡ word_length
  size = length-append h (checks h) ∙ ap₂ ◌+◌ ho.size (checks_length h)

  pub completed_codeword : Codeword (completed h)
  completed_codeword = record {
    octets = record {
      size = size;
      octet = λ j l. All-get_or IsOctet (completed h) j 0 (omega (arith, size)) (All-append IsOctet h (checks h) (all_octets 223 h ho) (checks_octets h));
    };
    zeros = zero_at_lem;
  }

  pub completed_begins : take 223 (completed h) ≡ h
  completed_begins = take_at h (checks h) 223 ho.size

-- ---- just one codeword

-- codewords that begin alike differ in at most the 32 octets behind
pub one_codeword : (a b : List ℕ) → Codeword a → Codeword b → take 223 a ≡ take 223 b → a ≡ b
one_codeword a b ca cb e =
    near_codewords a b ca cb (altered_behind 223 32 a b (λ j l. sym (get_or-take 223 a j 0 l) ∙ ap (λ w. slice_index w j) e ∙ get_or-take 223 b j 0 l))

pub lawful : CodeLaws rs16
lawful = record {
  some_information = omega arith;
  information_fits = omega arith;
  reach_bounded = omega arith;
  octets = λ word c. c.octets;
  apart = distance_33;
  begins = λ h ho. record {
    codeword = completed h;
    is_codeword = completed_codeword h ho;
    begins = completed_begins h ho;
    only = λ other c e. one_codeword other (completed h) c (completed_codeword h ho) (e ∙ sym (completed_begins h ho));
  };
}
