use Rattle.std.proofs.Common.{arith}
use Rattle.rs16.specs.Rows.{multiples}
use Rattle.rs16.proofs.rows.Row.multiples_of.Goals as goal

pub returns : goal.returns
unfolding multiples
returns c = omega (arith, c.multiples_part.ensures, c.multiples_part-2.ensures, c.multiples_part-3.ensures, c.multiples_part-4.ensures)
