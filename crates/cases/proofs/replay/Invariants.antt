-- The loop of `replay`: as the walk from here on ends, so does the walk from the front; and each turn leaves less of the list. Assumes nothing.
use Rattle.std.specs.Prelude.{Result, ◌-◌, length}
use Rattle.cases.specs.declared.BadCase.{BadCase}
use Rattle.cases.specs.Walks.{Walked}
use Rattle.cases.proofs.replay.Given as goal

abbrev pub invariant-loop-answer : goal.invariant-loop-answer
invariant-loop-answer g l = (r : Result Unit BadCase) → Walked l.list l.at r → Walked l.list 0 r

abbrev pub decreases-loop-answer : goal.decreases-loop-answer
decreases-loop-answer g l = length l.list - l.at
