-- `six_more`: the byte is below 256, so that nothing wraps. Assumes nothing.
use Rattle.std.proofs.Common.{arith}
use Rattle.characters.proofs.utf8.six_more.Goals as goal

pub overflow_cast-b : goal.overflow_cast-b
overflow_cast-b c = omega (arith, c.type_inv.text c.args.at)

pub overflow_add-result : goal.overflow_add-result
overflow_add-result c = omega (arith, c.type_inv.text c.args.at)
