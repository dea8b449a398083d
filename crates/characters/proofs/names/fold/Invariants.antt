-- `fold` makes one number of at most eight bytes. Assumes nothing.
use Rattle.std.proofs.Common.{◌-◌}
use Rattle.characters.proofs.Naming.{Folding}
use Rattle.characters.proofs.names.fold.Given as goal

abbrev pub invariant-loop-i : goal.invariant-loop-i
invariant-loop-i l = Folding l.text l.from l.to l.v l.i

abbrev pub decreases-loop-i : goal.decreases-loop-i
decreases-loop-i l = l.to - l.i
