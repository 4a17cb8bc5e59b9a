-- What is written to the line and stored from it is the same again.
use Rattle.std.proofs.Common.{◌≡◌, ℕ, ◌+◌, ◌<◌, get_or, sym, ap, ◌∙◌, zero-add, arith}
use lib.Bits.{bit_xor, xor_assoc, xor_self, xor_zero_r}
use Rattle.std.proofs.lemmas.List.{same_lists, get_or_default}
use Rattle.mapping.specs.Bulk.{line_octet}
use Rattle.mapping.specs.ComesBack.{ComesBack}
use Rattle.mapping.specs.Meaning.{MappingMeaning, MappingLaws, block_size}

-- a mask added twice is none
pub mask_twice : (x y : ℕ) → bit_xor (bit_xor x y) y ≡ x
mask_twice x y = xor_assoc x y y ∙ ap (bit_xor x) (xor_self y) ∙ xor_zero_r x

pub comes_back : (m : MappingMeaning) → MappingLaws m → ComesBack m
comes_back m laws memory before line old new full room other written stored =
    let at : (p : ℕ) → p < block_size m → get_or new (m.source p) 0 ≡ get_or memory (m.source p) 0 = λ p l.
    let here : 0 + p ≡ p = zero-add p in
    let sent : get_or line p 0 ≡ line_octet m memory p = written.written p l ∙ ap (line_octet m memory) here in
    ap (λ q. get_or new (m.source q) 0) (sym here) ∙ stored.stored p l ∙ ap (λ q. bit_xor (get_or line p 0) (m.mask q)) here
    ∙ ap (λ x. bit_xor x (m.mask p)) sent ∙ mask_twice (get_or memory (m.source p) 0) (m.mask p) in
    same_lists new memory (stored.size ∙ other ∙ sym full)
    (λ k d h.
    let x = laws.onto k (omega (arith, stored.size)) in
    get_or_default new k d 0 h ∙ ap (λ q. get_or new q 0) (sym x.2) ∙ at x.0 x.1 ∙ ap (λ q. get_or memory q 0) x.2
    ∙ get_or_default memory k 0 d (omega (arith, stored.size)))
