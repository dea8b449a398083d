-- `size_at` reads a number: the invariant holds at the start and after each digit, and each way out gives the number. Assumes nothing.
use Rattle.cases.proofs.Sizing.{sizing_starts, sizing_on, sized_here, sized_full}
use Rattle.cases.proofs.size_at.Goals as goal

pub loop-value-init : goal.loop-value-init
loop-value-init c = sizing_starts _ _

pub loop-value-preserved : goal.loop-value-preserved
loop-value-preserved c = sizing_on c.loop-value.invariant c.loop-value-test.true c.if-has_digit.ensures

pub returns-else-has_digit : goal.returns-else-has_digit
returns-else-has_digit c = sized_here c.loop-value.invariant c.if-has_digit.ensures

pub returns-after-loop-value : goal.returns-after-loop-value
returns-after-loop-value c = sized_full c.loop-value.invariant c.loop-value-test.false
