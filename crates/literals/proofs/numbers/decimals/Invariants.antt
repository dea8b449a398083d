-- `decimals` reads a run of decimal digits. The invariant: what is left, with the sum so far, answers for the whole. The measure is what is
-- left of the text. Assumes nothing.
use Rattle.std.proofs.Common.{false, ◌-◌, length, drop}
use Rattle.literals.specs.Numbers.{run}
use Rattle.literals.specs.NumberSums.{held_run}
use Rattle.literals.proofs.NumberRuns.{Going}
use Rattle.literals.proofs.numbers.decimals.Given as goal

abbrev pub invariant-loop-value : goal.invariant-loop-value
invariant-loop-value l = Going false 10 l.text (held_run (run false 10 0 (drop l.initial.p.offset l.text) l.initial.p)) l.value 1 l.p

abbrev pub decreases-loop-value : goal.decreases-loop-value
decreases-loop-value l = length l.text - l.p.offset
