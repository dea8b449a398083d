-- `spaces` counts spaces: what is counted and what is left make up the whole run. Assumes nothing.
use Rattle.std.proofs.Common.{◌-◌, length}
use Rattle.characters.proofs.Passing.{InSpaces}
use Rattle.characters.proofs.blanks.spaces.Given as goal

abbrev pub invariant-loop-o : goal.invariant-loop-o
invariant-loop-o l = InSpaces l.text l.from l.o

abbrev pub decreases-loop-o : goal.decreases-loop-o
decreases-loop-o l = length l.text - l.o
