use Rattle.std.proofs.Common.{ap, ◌∙◌, arith, rules}
use Rattle.std.proofs.lemmas.List.FromFn.{get_or-map-range_with_len}
use Rattle.rs16.specs.DualBasis.{combine, line_octet, element}
use Rattle.rs16.specs.DualBasisLemmas.{line_octet_element}
use Rattle.rs16.proofs.field.element_of.Goals as goal

pub returns : goal.returns
unfolding element combine
returns c =
    let value = get_or-map-range_with_len element 0 256 c.args.octet c.args.octet 0 (search rules) (omega arith) in
    record { value = value; back = ap line_octet value ∙ line_octet_element c.args.octet (search rules) }
