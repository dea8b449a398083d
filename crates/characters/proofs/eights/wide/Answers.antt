-- `wide` reads a byte. Assumes nothing.
use Rattle.std.proofs.Common.{refl, arith}
use Rattle.characters.proofs.eights.wide.Goals as goal

pub overflow_cast-result : goal.overflow_cast-result
overflow_cast-result c = omega (arith, c.type_inv.text c.args.i)

pub returns : goal.returns
returns c = record { is = refl; small = omega (arith, c.type_inv.text c.args.i) }
