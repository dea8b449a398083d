-- `same` walks over two texts at once. What is left of them compares as they do; each turn leaves less of the first. Assumes nothing.
use Rattle.std.proofs.Common.{◌-◌, length}
use Rattle.literals.specs.SpellingLaws.{Comparing}
use Rattle.literals.proofs.strings.same.Given as goal

abbrev pub invariant-loop-x : goal.invariant-loop-x
invariant-loop-x l = Comparing l.a l.b l.i l.j

abbrev pub decreases-loop-x : goal.decreases-loop-x
decreases-loop-x l = length l.a - l.i
