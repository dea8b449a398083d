-- `last_line` goes along a line to the end of the text. Assumes nothing.
use Rattle.std.proofs.Common.{◌-◌, length}
use Rattle.characters.proofs.Passing.{InLine}
use Rattle.characters.proofs.blanks.last_line.Given as goal

abbrev pub invariant-loop-p : goal.invariant-loop-p
invariant-loop-p l = InLine l.text l.initial.p l.p

abbrev pub decreases-loop-p : goal.decreases-loop-p
decreases-loop-p l = length l.text - l.p.offset
