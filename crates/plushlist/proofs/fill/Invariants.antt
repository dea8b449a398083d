-- `fill` ends: each turn leaves less of the buffer. Assumes nothing.
use Rattle.std.proofs.Common.{◌-◌, ◌≤◌, length}
use Rattle.plushlist.proofs.fill.Given as goal

abbrev pub invariant-loop-count : goal.invariant-loop-count
invariant-loop-count l = l.count ≤ length l.space

abbrev pub decreases-loop-count : goal.decreases-loop-count
decreases-loop-count l = length l.space - l.count
