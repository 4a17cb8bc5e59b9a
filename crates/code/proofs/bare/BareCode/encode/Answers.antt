use Rattle.std.proofs.Common.{ℕ, ◌<◌, slice_index, rules}
use Rattle.code.specs.EveryWord.{encodes_as_is}
use Rattle.code.proofs.bare.BareCode.encode.Goals as goal

pub returns : goal.returns
returns c =
    let octets : (place : ℕ) → slice_index c.args.row.now place < 256 = search rules in
    encodes_as_is c.args.depth c.args.word c.args.row.now octets c.check_shape.result c.check_shape.ensures
