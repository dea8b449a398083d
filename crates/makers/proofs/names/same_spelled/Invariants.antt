-- `same_spelled` compares byte by byte while bytes are characters. What is left of both texts compares as they do. Assumes nothing.
use Rattle.std.proofs.Common.{◌-◌, length}
use Rattle.literals.specs.SpellingLaws.{Comparing}
use Rattle.makers.proofs.names.same_spelled.Given as goal

abbrev pub invariant-loop-i : goal.invariant-loop-i
invariant-loop-i l = Comparing l.a l.b l.i l.i

abbrev pub decreases-loop-i : goal.decreases-loop-i
decreases-loop-i l = length l.a - l.i
