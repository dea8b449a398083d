-- `same_bytes` compares byte by byte. Assumes nothing.
use Rattle.std.proofs.Common.{◌-◌, length}
use Rattle.makers.specs.Laws.NamesWalk.{Matching}
use Rattle.makers.proofs.names.same_bytes.Given as goal

abbrev pub invariant-loop-i : goal.invariant-loop-i
invariant-loop-i l = Matching l.a l.b l.i

abbrev pub decreases-loop-i : goal.decreases-loop-i
decreases-loop-i l = length l.a - l.i
