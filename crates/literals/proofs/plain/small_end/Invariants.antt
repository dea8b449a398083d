-- `small_end` goes along small letters: from each of them the run has the same end. Assumes nothing.
use Rattle.std.proofs.Common.{◌-◌, length}
use Rattle.characters.specs.Names.{is_small}
use Rattle.characters.specs.CountLaws.{In}
use Rattle.literals.proofs.plain.small_end.Given as goal

abbrev pub invariant-loop-i : goal.invariant-loop-i
invariant-loop-i l = In is_small l.text l.from l.i

abbrev pub decreases-loop-i : goal.decreases-loop-i
decreases-loop-i l = length l.text - l.i

abbrev pub invariant-loop-i-2 : goal.invariant-loop-i-2
invariant-loop-i-2 l = In is_small l.text l.from l.i

abbrev pub decreases-loop-i-2 : goal.decreases-loop-i-2
decreases-loop-i-2 l = length l.text - l.i
