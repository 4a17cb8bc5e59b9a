use Rattle.std.proofs.Common.{◌≡◌, ◌%◌, ap, ◌∙◌, ap₂, arith}
use lib.Bits.{bit_xor}
use Rattle.std.proofs.lemmas.Nat.{and_mask}
use Rattle.rs16.specs.Rows.{octet_at, wide, octets_of, packed, multiples}
use Rattle.rs16.proofs.WideNumbers.{wide_divided}
use Rattle.rs16.proofs.rows.Row.divided.Goals as goal

pub returns : goal.returns
unfolding octets_of
returns c =
    let r = c.args.self in
    let o = c.args.octet in
    let leads : bit_xor (r.a % 256) o ≡ bit_xor (octet_at (wide r) 0) o = ap (λ n. bit_xor n o) (omega arith) in
    wide_divided o (wide r) (wide c.plus.result) (omega arith)
    (c.plus.ensures ∙ ap₂ bit_xor c.shifted.ensures (c.multiples_of.ensures ∙ ap (λ f. packed (multiples f)) (ap (λ n. bit_xor n o) (and_mask r.a 8) ∙ leads)))
