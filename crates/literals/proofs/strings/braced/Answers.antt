-- `braced` reads the digits of `\u{}`. What is left of them answers for the whole; at most six are read. Assumes nothing.
use Rattle.std.proofs.Common.{rules}
use Rattle.literals.specs.StringLaws.{digits_over, digits_room, digits_shut, digits_start, digits_step, unopened}
use Rattle.literals.proofs.strings.braced.Goals as goal

pub returns-then-open-ne123 : goal.returns-then-open-ne123
returns-then-open-ne123 c = search (unopened, rules)

pub loop-at-init : goal.loop-at-init
loop-at-init c = search (digits_start, rules)

pub returns-then-d-ge16 : goal.returns-then-d-ge16
returns-then-d-ge16 c = search (digits_shut, rules)

pub returns-then-n-eq6 : goal.returns-then-n-eq6
returns-then-n-eq6 c = search (digits_over, rules)

pub overflow_mul-v : goal.overflow_mul-v
overflow_mul-v c = let z = digits_room c.loop-at.invariant c.if-n-eq6.false in search rules

pub overflow_add-v : goal.overflow_add-v
overflow_add-v c = let z = digits_room c.loop-at.invariant c.if-n-eq6.false in search rules

pub loop-at-preserved : goal.loop-at-preserved
loop-at-preserved c = search (digits_step, rules)
