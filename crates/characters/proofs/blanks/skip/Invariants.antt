-- `skip` goes past blanks. Assumes nothing.
use Rattle.std.proofs.Common.{◌-◌, length}
use Rattle.characters.proofs.Passing.{InBlanks}
use Rattle.characters.proofs.blanks.skip.Given as goal

abbrev pub invariant-loop-n : goal.invariant-loop-n
invariant-loop-n l = InBlanks l.text l.at l.p

abbrev pub decreases-loop-n : goal.decreases-loop-n
decreases-loop-n l = length l.text - l.p.offset
