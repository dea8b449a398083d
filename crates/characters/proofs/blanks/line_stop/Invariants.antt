-- `line_stop` goes along a line, to its LF. Assumes nothing.
use Rattle.std.proofs.Common.{◌-◌, length}
use Rattle.characters.specs.Blanks.{is_in_line}
use Rattle.characters.specs.CountLaws.{In}
use Rattle.characters.proofs.blanks.line_stop.Given as goal

abbrev pub invariant-loop-i : goal.invariant-loop-i
invariant-loop-i l = In is_in_line l.text l.from l.i

abbrev pub decreases-loop-i : goal.decreases-loop-i
decreases-loop-i l = length l.text - l.i

abbrev pub invariant-loop-j : goal.invariant-loop-j
invariant-loop-j l = In is_in_line l.text l.from l.j
