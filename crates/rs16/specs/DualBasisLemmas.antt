-- The dual basis: `line_octet` and `element` are additive, give octets, and invert each other.
use Rattle.std.specs.Prelude.{◌≡◌, ℕ, ◌*◌, ◌/◌, ◌%◌, ◌^◌, List, [], ◌∷◌, length, bit_xor, nat_eq, refl}
use Rattle.std.proofs.Common.{ap, ap₂, sym, ◌∙◌, eqb→eq, lit<}
use Rattle.std.proofs.lemmas.Nat.{xor_mod, xor_shr, xor_lt}
use Rattle.std.specs.List.{AllByRecursion}
use Rattle.rs16.specs.Field.{◌⊕◌, IsOctet}
use Rattle.rs16.specs.DualBasis.{combine, line_basis, line_octet, element_basis, element}
use Rattle.rs16.specs.Below.{all, below}
use Rattle.rs16.specs.Arithmetic.{digit, digit_scale, digit_lt, interchange}
use Rattle.rs16.specs.PolynomialsLemmas.{difference}

combine_add : (bs : List ℕ) (a c : ℕ) → combine bs (bit_xor a c) ≡ bit_xor (combine bs a) (combine bs c)
unfolding combine
combine_add [] a c = refl
combine_add (b ∷ bs) a c =
    let p : ℕ = 2 ^ length bs in
    ap₂ bit_xor
    (ap (λ x. x % 2 * b) (xor_shr a c (length bs)) ∙ ap (λ x. x * b) (xor_mod (a / p) (c / p) 1)
    ∙ digit_scale (a / p % 2) (c / p % 2) b (digit (a / p)) (digit (c / p)))
    (combine_add bs a c)
    ∙ interchange (a / p % 2 * b) (c / p % 2 * b) (combine bs a) (combine bs c)

combine_octet : (bs : List ℕ) (a : ℕ) → AllByRecursion IsOctet bs → IsOctet (combine bs a)
unfolding combine
combine_octet [] a h = lit< tt
combine_octet (b ∷ bs) a h =
    let d : ℕ = a / 2 ^ length bs in
    xor_lt 8 (d % 2 * b) (combine bs a) (digit_lt (d % 2) b (digit d) h.0) (combine_octet bs a h.1)

pub element_add : (a c : ℕ) → element (a ⊕ c) ≡ element a ⊕ element c
unfolding element
element_add = combine_add element_basis

pub line_octet_add : (a c : ℕ) → line_octet (a ⊕ c) ≡ line_octet a ⊕ line_octet c
unfolding line_octet
line_octet_add = combine_add line_basis

pub element_octet : (a : ℕ) → IsOctet (element a)
unfolding element
element_octet a = combine_octet element_basis a (lit< tt, (lit< tt, (lit< tt, (lit< tt, (lit< tt, (lit< tt, (lit< tt, (lit< tt, tt))))))))

pub line_octet_octet : (a : ℕ) → IsOctet (line_octet a)
unfolding line_octet
line_octet_octet a = combine_octet line_basis a (lit< tt, (lit< tt, (lit< tt, (lit< tt, (lit< tt, (lit< tt, (lit< tt, (lit< tt, tt))))))))

pub line_octet_element : (o : ℕ) → IsOctet o → line_octet (element o) ≡ o
line_octet_element o h = eqb→eq _ _ (below (λ x. nat_eq (line_octet (element x)) x) 256 (unfold line_octet element combine all in tt) o h)

pub element_line_octet : (e : ℕ) → IsOctet e → element (line_octet e) ≡ e
element_line_octet e h = eqb→eq _ _ (below (λ x. nat_eq (element (line_octet x)) x) 256 (unfold line_octet element combine all in tt) e h)

pub element_zero : element 0 ≡ 0
unfolding element combine
element_zero = refl

-- octets of equal elements are equal
pub same_octet : (a b : ℕ) → IsOctet a → IsOctet b → element a ⊕ element b ≡ 0 → a ≡ b
same_octet a b ha hb e =
    sym (line_octet_element a ha) ∙ ap line_octet (difference (element a) (element b) e) ∙ line_octet_element b hb
