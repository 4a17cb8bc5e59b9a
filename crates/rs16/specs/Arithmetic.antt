-- The laws of the field. Products are additive in each factor, so the laws follow from tests at 1, 2, 4, .., 128.
use Rattle.std.specs.Prelude.{◌≡◌, ℕ, zero, suc, ◌*◌, ◌/◌, ◌%◌, ◌^◌, ◌<◌, T, bit_xor, nat_eq, refl}
use Rattle.std.proofs.Common.{ap, ap₂, sym, ◌∙◌, le_of_suc-le-suc, one-mul, zero-mul, mod-lt, add-zero, eqb→eq, lit<}
use Rattle.std.proofs.Math.Nat.{mod-mod}
use Rattle.std.proofs.lemmas.Nat.{xor_mod, xor_shr, xor_comm, xor_lt, xor_block}
use Rattle.std.specs.Int.Bits.{xor_assoc, xor_zero_r, xor_self}
use Rattle.rs16.specs.Field.{times_alpha, mul_digits, mul, squares, inv}
use Rattle.rs16.specs.Below.{all, below, below₂}
use Rattle.rs16.specs.Additive.{agree, not_digit, at_zero}

pub interchange : (p q r s : ℕ) → bit_xor (bit_xor p q) (bit_xor r s) ≡ bit_xor (bit_xor p r) (bit_xor q s)
interchange p q r s =
    xor_assoc p q (bit_xor r s) ∙ ap (bit_xor p) (sym (xor_assoc q r s) ∙ ap (λ x. bit_xor x s) (xor_comm q r) ∙ xor_assoc r q s)
    ∙ sym (xor_assoc p r (bit_xor q s))

pub small : (x : ℕ) → x % 256 < 256
small x = mod-lt x (lit< tt)

pub digit : (x : ℕ) → x % 2 < 2
digit x = mod-lt x (lit< tt)

pub digit_scale : (x y b : ℕ) → x < 2 → y < 2 → bit_xor x y * b ≡ bit_xor (x * b) (y * b)
digit_scale zero y b hx hy = rw zero-mul
digit_scale (suc zero) zero b hx hy = rw (zero-mul, one-mul) (sym (xor_zero_r b))
digit_scale (suc zero) (suc zero) b hx hy = rw (zero-mul, one-mul) (sym (xor_self b))
digit_scale (suc zero) (suc (suc y)) b hx hy = not_digit hy
digit_scale (suc (suc x)) y b hx hy = not_digit hx

digit_add : (x b c : ℕ) → x < 2 → x * bit_xor b c ≡ bit_xor (x * b) (x * c)
digit_add zero b c h = simp zero-mul
digit_add (suc zero) b c h = simp one-mul
digit_add (suc (suc x)) b c h = not_digit h

double_add : (b c : ℕ) → bit_xor b c * 2 ≡ bit_xor (b * 2) (c * 2)
double_add b c =
    sym (ap₂ bit_xor (sym (add-zero (b * 2))) (sym (add-zero (c * 2))) ∙ xor_block 1 b c 0 0 (lit< tt) (lit< tt)
    ∙ add-zero (bit_xor b c * 2))

times_alpha_add : (b c : ℕ) → times_alpha (bit_xor b c) ≡ bit_xor (times_alpha b) (times_alpha c)
unfolding times_alpha
times_alpha_add b c =
    ap₂ bit_xor
    (ap (λ x. x % 256) (double_add b c) ∙ xor_mod (b * 2) (c * 2) 8)
    (ap (λ x. x % 2 * 0x87) (xor_shr b c 7) ∙ ap (λ x. x * 0x87) (xor_mod (b / 128) (c / 128) 1)
    ∙ digit_scale (b / 128 % 2) (c / 128 % 2) 0x87 (digit (b / 128)) (digit (c / 128)))
    ∙ interchange (b * 2 % 256) (c * 2 % 256) (b / 128 % 2 * 0x87) (c / 128 % 2 * 0x87)

left_add : (n a c b : ℕ) → mul_digits n (bit_xor a c) b ≡ bit_xor (mul_digits n a b) (mul_digits n c b)
unfolding mul_digits
left_add zero a c b = refl
left_add (suc n) a c b =
    ap₂ bit_xor
    (ap (λ x. x * b) (xor_mod a c 1) ∙ digit_scale (a % 2) (c % 2) b (digit a) (digit c))
    (ap (λ x. mul_digits n x (times_alpha b)) (xor_shr a c 1) ∙ left_add n (a / 2) (c / 2) (times_alpha b))
    ∙ interchange (a % 2 * b) (c % 2 * b) (mul_digits n (a / 2) (times_alpha b)) (mul_digits n (c / 2) (times_alpha b))

right_add : (n a b c : ℕ) → mul_digits n a (bit_xor b c) ≡ bit_xor (mul_digits n a b) (mul_digits n a c)
unfolding mul_digits
right_add zero a b c = refl
right_add (suc n) a b c =
    ap₂ bit_xor (digit_add (a % 2) b c (digit a))
    (ap (mul_digits n (a / 2)) (times_alpha_add b c) ∙ right_add n (a / 2) (times_alpha b) (times_alpha c))
    ∙ interchange (a % 2 * b) (a % 2 * c) (mul_digits n (a / 2) (times_alpha b)) (mul_digits n (a / 2) (times_alpha c))

pub mul_add_left : (a c b : ℕ) → mul (bit_xor a c) b ≡ bit_xor (mul a b) (mul c b)
unfolding mul
mul_add_left a c b = ap (λ x. mul_digits 8 x (b % 256)) (xor_mod a c 8) ∙ left_add 8 (a % 256) (c % 256) (b % 256)

pub mul_add_right : (a b c : ℕ) → mul a (bit_xor b c) ≡ bit_xor (mul a b) (mul a c)
unfolding mul
mul_add_right a b c = ap (mul_digits 8 (a % 256)) (xor_mod b c 8) ∙ right_add 8 (a % 256) (b % 256) (c % 256)

pub mul_mod_left : (a b : ℕ) → mul (a % 256) b ≡ mul a b
unfolding mul
mul_mod_left a b = ap (λ x. mul_digits 8 x (b % 256)) (mod-mod a 256)

pub mul_mod_right : (a b : ℕ) → mul a (b % 256) ≡ mul a b
unfolding mul
mul_mod_right a b = ap (mul_digits 8 (a % 256)) (mod-mod b 256)

comm_test : T (all (λ i. all (λ j. nat_eq (mul (2 ^ i) (2 ^ j)) (mul (2 ^ j) (2 ^ i))) 8) 8)
unfolding mul mul_digits times_alpha all
comm_test = tt

pub mul_comm : (a b : ℕ) → mul a b ≡ mul b a
mul_comm a b =
    sym (mul_mod_left a b) ∙ sym (mul_mod_right (a % 256) b)
    ∙ agree (λ x. mul x (b % 256)) (λ x. mul (b % 256) x) (λ x y. mul_add_left x y (b % 256)) (λ x y. mul_add_right (b % 256) x y) 8
    (λ i h. agree (mul (2 ^ i)) (λ x. mul x (2 ^ i)) (mul_add_right (2 ^ i)) (λ x y. mul_add_left x y (2 ^ i)) 8
    (λ j l. eqb→eq _ _ (below₂ (λ x y. nat_eq (mul (2 ^ x) (2 ^ y)) (mul (2 ^ y) (2 ^ x))) 8 8 comm_test i j h l))
    (b % 256) (small b))
    (a % 256) (small a)
    ∙ mul_mod_left b (a % 256) ∙ mul_mod_right b a

assoc_test : T (all (λ i. all (λ j. all (λ k. nat_eq (mul (mul (2 ^ i) (2 ^ j)) (2 ^ k)) (mul (2 ^ i) (mul (2 ^ j) (2 ^ k)))) 8) 8) 8)
unfolding mul mul_digits times_alpha all
assoc_test = tt

-- at a power of two, then at any octet, factor after factor
assoc₁ : (i j : ℕ) → i < 8 → j < 8 → (c : ℕ) → c < 256 → mul (mul (2 ^ i) (2 ^ j)) c ≡ mul (2 ^ i) (mul (2 ^ j) c)
assoc₁ i j h l =
    agree (mul (mul (2 ^ i) (2 ^ j))) (λ x. mul (2 ^ i) (mul (2 ^ j) x)) (mul_add_right (mul (2 ^ i) (2 ^ j)))
    (λ x y. ap (mul (2 ^ i)) (mul_add_right (2 ^ j) x y) ∙ mul_add_right (2 ^ i) (mul (2 ^ j) x) (mul (2 ^ j) y)) 8
    (λ k m. eqb→eq _ _ (below (λ z. nat_eq (mul (mul (2 ^ i) (2 ^ j)) (2 ^ z)) (mul (2 ^ i) (mul (2 ^ j) (2 ^ z)))) 8
    (below₂ (λ x y. all (λ z. nat_eq (mul (mul (2 ^ x) (2 ^ y)) (2 ^ z)) (mul (2 ^ x) (mul (2 ^ y) (2 ^ z)))) 8) 8 8 assoc_test i j h l) k m))

assoc₂ : (i : ℕ) → i < 8 → (b : ℕ) → b < 256 → (c : ℕ) → c < 256 → mul (mul (2 ^ i) b) c ≡ mul (2 ^ i) (mul b c)
assoc₂ i h b hb c hc =
    agree (λ x. mul (mul (2 ^ i) x) c) (λ x. mul (2 ^ i) (mul x c))
    (λ x y. ap (λ z. mul z c) (mul_add_right (2 ^ i) x y) ∙ mul_add_left (mul (2 ^ i) x) (mul (2 ^ i) y) c)
    (λ x y. ap (mul (2 ^ i)) (mul_add_left x y c) ∙ mul_add_right (2 ^ i) (mul x c) (mul y c)) 8
    (λ j l. assoc₁ i j h l c hc) b hb

assoc₃ : (a : ℕ) → a < 256 → (b : ℕ) → b < 256 → (c : ℕ) → c < 256 → mul (mul a b) c ≡ mul a (mul b c)
assoc₃ a ha b hb c hc =
    agree (λ x. mul (mul x b) c) (λ x. mul x (mul b c))
    (λ x y. ap (λ z. mul z c) (mul_add_left x y b) ∙ mul_add_left (mul x b) (mul y b) c)
    (λ x y. mul_add_left x y (mul b c)) 8 (λ i h. assoc₂ i h b hb c hc) a ha

pub mul_assoc : (a b c : ℕ) → mul (mul a b) c ≡ mul a (mul b c)
mul_assoc a b c =
    sym (mul_mod_right (mul a b) c) ∙ ap (λ x. mul x (c % 256)) (sym (mul_mod_left a b) ∙ sym (mul_mod_right (a % 256) b))
    ∙ assoc₃ (a % 256) (small a) (b % 256) (small b) (c % 256) (small c)
    ∙ mul_mod_left a (mul (b % 256) (c % 256)) ∙ ap (mul a) (mul_mod_left b (c % 256) ∙ mul_mod_right b c)

pub digit_lt : (x b : ℕ) → x < 2 → b < 256 → x * b < 256
digit_lt zero b h l = rw zero-mul (lit< tt)
digit_lt (suc zero) b h l = rw one-mul l
digit_lt (suc (suc x)) b h l = not_digit h

pub times_alpha_octet : (b : ℕ) → times_alpha b < 256
unfolding times_alpha
times_alpha_octet b = xor_lt 8 (b * 2 % 256) (b / 128 % 2 * 0x87) (small (b * 2)) (digit_lt (b / 128 % 2) 0x87 (digit (b / 128)) (lit< tt))

mul_digits_octet : (n a b : ℕ) → b < 256 → mul_digits n a b < 256
unfolding mul_digits
mul_digits_octet zero a b h = lit< tt
mul_digits_octet (suc n) a b h = xor_lt 8 (a % 2 * b) (mul_digits n (a / 2) (times_alpha b)) (digit_lt (a % 2) b (digit a) h) (mul_digits_octet n (a / 2) (times_alpha b) (times_alpha_octet b))

pub mul_lt : (a b : ℕ) → mul a b < 256
unfolding mul
mul_lt a b = mul_digits_octet 8 (a % 256) (b % 256) (small b)

pub mul_one : (a : ℕ) → a < 256 → mul a 1 ≡ a
mul_one a h = eqb→eq _ _ (below (λ x. nat_eq (mul x 1) x) 256 (unfold mul mul_digits times_alpha all in tt) a h)

pub mul-zero : (a : ℕ) → mul a 0 ≡ 0
mul-zero a = at_zero (mul a) (mul_add_right a)

inv_test : T (all (λ a. nat_eq (mul (suc a) (inv (suc a))) 1) 255)
unfolding mul mul_digits times_alpha all inv squares
inv_test = tt

pub mul_inv : (a : ℕ) → suc a < 256 → mul (suc a) (inv (suc a)) ≡ 1
mul_inv a h = eqb→eq _ _ (below (λ x. nat_eq (mul (suc x) (inv (suc x))) 1) 255 inv_test a (le_of_suc-le-suc h))

pub no_divisors : (a b : ℕ) → suc a < 256 → b < 256 → mul (suc a) b ≡ 0 → b ≡ 0
no_divisors a b ha hb e =
    sym (mul_one b hb) ∙ ap (mul b) (sym (mul_inv a ha)) ∙ sym (mul_assoc b (suc a) (inv (suc a)))
    ∙ ap (λ x. mul x (inv (suc a))) (mul_comm b (suc a) ∙ e) ∙ mul_comm 0 (inv (suc a)) ∙ mul-zero (inv (suc a))

pub inv_octet : (a : ℕ) → inv a < 256
unfolding inv squares
inv_octet a = mul_lt (mul a a) (squares 6 (mul (mul a a) (mul a a)))
