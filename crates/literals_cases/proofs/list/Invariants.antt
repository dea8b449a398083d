-- `list` goes as the reading of a bytearray does, step by step, and each step leaves less of the text. Assumes nothing.
use Rattle.std.proofs.Common.{◌-◌, length}
use Rattle.literals.specs.ByteArrayLaws.{Reading}
use Rattle.literals_cases.proofs.list.Given as goal

abbrev pub invariant-loop-seen : goal.invariant-loop-seen
invariant-loop-seen l = Reading l.text l.initial.p l.p l.mode l.last

abbrev pub decreases-loop-seen : goal.decreases-loop-seen
decreases-loop-seen l = length l.text - l.p.offset
