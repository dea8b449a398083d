-- The loop of `size_at`: what is left of the digits leads to the same answer, and each turn leaves less of the list. Assumes nothing.
use Rattle.std.proofs.Common.{◌-◌, length}
use Rattle.cases.proofs.Sizing.{Sizing}
use Rattle.cases.proofs.size_at.Given as goal

abbrev pub invariant-loop-value : goal.invariant-loop-value
invariant-loop-value l = Sizing l.list l.at l.value l.after

abbrev pub decreases-loop-value : goal.decreases-loop-value
decreases-loop-value l = length l.list - l.after
