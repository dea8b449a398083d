-- `ascii_end` goes along ASCII bytes, by eights and then one by one. Assumes nothing.
use Rattle.std.proofs.Common.{◌-◌, length}
use Rattle.characters.specs.Text.{is_ascii}
use Rattle.characters.specs.CountLaws.{In}
use Rattle.characters.proofs.eights.ascii_end.Given as goal

abbrev pub invariant-loop-i : goal.invariant-loop-i
invariant-loop-i l = In is_ascii l.text l.from l.i

abbrev pub decreases-loop-i : goal.decreases-loop-i
decreases-loop-i l = length l.text - l.i

abbrev pub invariant-loop-j : goal.invariant-loop-j
invariant-loop-j l = In is_ascii l.text l.from l.j
