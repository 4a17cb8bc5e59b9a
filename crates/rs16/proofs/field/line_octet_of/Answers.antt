use Rattle.std.proofs.Common.{ap, ◌∙◌, arith, rules}
use Rattle.std.proofs.lemmas.List.FromFn.{get_or-map-range_with_len}
use Rattle.rs16.specs.DualBasis.{combine, line_octet, element}
use Rattle.rs16.specs.DualBasisLemmas.{element_line_octet}
use Rattle.rs16.proofs.field.line_octet_of.Goals as goal

pub returns : goal.returns
unfolding line_octet combine
returns c =
    let value = get_or-map-range_with_len line_octet 0 256 c.args.a c.args.a 0 (search rules) (omega arith) in
    record { value = value; back = ap element value ∙ element_line_octet c.args.a (search rules) }
