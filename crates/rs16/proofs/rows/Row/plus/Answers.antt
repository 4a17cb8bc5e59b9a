use Rattle.std.proofs.Common.{◌+◌, ◌*◌, ◌^◌, sym, ap, ◌∙◌, arith}
use lib.Bits.{bit_xor}
use Rattle.rs16.proofs.WideNumbers.{xor_join}
use Rattle.rs16.proofs.rows.Row.plus.Goals as goal

pub returns : goal.returns
returns c =
    let r = c.args.self in
    let s = c.args.other in
    sym (xor_join r.a (r.b + 2 ^ 64 * (r.c + 2 ^ 64 * r.d)) s.a (s.b + 2 ^ 64 * (s.c + 2 ^ 64 * s.d)) (omega arith) (omega arith)
    ∙ ap (λ n. bit_xor r.a s.a + 2 ^ 64 * n)
    (xor_join r.b (r.c + 2 ^ 64 * r.d) s.b (s.c + 2 ^ 64 * s.d) (omega arith) (omega arith)
    ∙ ap (λ n. bit_xor r.b s.b + 2 ^ 64 * n) (xor_join r.c r.d s.c s.d (omega arith) (omega arith))))
