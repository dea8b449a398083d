-- `bytearray` goes step by step up to the `]`. What is left of the text answers for the whole; each step leaves less of it. Assumes nothing.
use Rattle.std.proofs.Common.{◌-◌, length}
use Rattle.literals.specs.ByteArrayLaws.{Reading}
use Rattle.literals.proofs.bytearrays.bytearray.Given as goal

abbrev pub invariant-loop-value : goal.invariant-loop-value
invariant-loop-value l = Reading l.text l.at l.p l.mode l.last

abbrev pub decreases-loop-value : goal.decreases-loop-value
decreases-loop-value l = length l.text - l.p.offset
