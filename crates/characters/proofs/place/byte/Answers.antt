-- `byte` reads the byte at an offset, or 256. Assumes nothing.
use Rattle.std.proofs.Common.{sym, arith}
use Rattle.characters.specs.PlaceLaws.{get_d_any, at_end}
use Rattle.characters.proofs.place.byte.Goals as goal

pub overflow_cast-result : goal.overflow_cast-result
overflow_cast-result c = omega (arith, c.type_inv.text c.args.at)

pub returns-then-i-text : goal.returns-then-i-text
returns-then-i-text c = record { is = get_d_any c.args.text.now c.args.at 0 256 c.if-i-text.true; inside = λ h. omega (arith, c.type_inv.text c.args.at) }

pub returns-else-i-text : goal.returns-else-i-text
returns-else-i-text c = record { is = sym (at_end c.args.text.now c.args.at c.if-i-text.false); inside = λ h. absurd (omega arith) }
