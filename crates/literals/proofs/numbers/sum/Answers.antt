-- `sum` holds the sum at 2^63: beyond the room the product passes it, within the room nothing wraps. Assumes nothing.
use Rattle.std.proofs.Common.{rules}
use Rattle.literals.proofs.NumberRuns.{sum_over, product_small}
use Rattle.literals.proofs.numbers.sum.Goals as goal

pub returns-then-room-value : goal.returns-then-room-value
returns-then-room-value c = search (sum_over, rules)

pub overflow_mul-product : goal.overflow_mul-product
overflow_mul-product c = let z = product_small c.args.value c.args.radix c.args.room c.requires.0 c.if-room-value.false in search rules

pub overflow_add-total : goal.overflow_add-total
overflow_add-total c = let z = product_small c.args.value c.args.radix c.args.room c.requires.0 c.if-room-value.false in search rules
