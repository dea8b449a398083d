-- `limited` reads the digits of `0x` and `0b`. The invariant is that of `decimals`, and the count of digits that may follow is right.
-- Assumes nothing.
use Rattle.std.proofs.Common.{true, ◌-◌, length, drop}
use Rattle.literals.specs.Numbers.{run}
use Rattle.literals.specs.NumberSums.{held_run}
use Rattle.literals.proofs.NumberRuns.{Going}
use Rattle.literals.proofs.numbers.limited.Given as goal

abbrev pub invariant-loop-p : goal.invariant-loop-p
invariant-loop-p l = Going true l.radix l.text (held_run (run true l.radix 0 (drop l.initial.p.offset l.text) l.initial.p)) l.value l.left l.p

abbrev pub decreases-loop-p : goal.decreases-loop-p
decreases-loop-p l = length l.text - l.p.offset
