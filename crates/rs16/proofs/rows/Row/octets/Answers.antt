use Rattle.std.proofs.Common.{◌≡◌, ◌∙◌, arith}
use Rattle.octets.specs.Counting.{tabulate}
use Rattle.rs16.specs.Rows.{octet_at, octets_of}
use Rattle.rs16.proofs.WideNumbers.{joined_octets, le_octets}
use Rattle.rs16.proofs.rows.Row.octets.Goals as goal

pub returns : goal.returns
unfolding octets_of
returns c =
    let r = c.args.self in
    let a : c.copy_from_slice.new.self ≡ tabulate 8 (octet_at r.a) = c.copy_from_slice.ensures.after ∙ c.to_le_bytes.ensures ∙ le_octets r.a in
    let b : c.copy_from_slice-2.new.self ≡ tabulate 8 (octet_at r.b) = c.copy_from_slice-2.ensures.after ∙ c.to_le_bytes-2.ensures ∙ le_octets r.b in
    let d : c.copy_from_slice-3.new.self ≡ tabulate 8 (octet_at r.c) = c.copy_from_slice-3.ensures.after ∙ c.to_le_bytes-3.ensures ∙ le_octets r.c in
    let e : c.copy_from_slice-4.new.self ≡ tabulate 8 (octet_at r.d) = c.copy_from_slice-4.ensures.after ∙ c.to_le_bytes-4.ensures ∙ le_octets r.d in
    rw (a, b, d, e) (joined_octets r.a r.b r.c r.d (omega arith) (omega arith) (omega arith))
