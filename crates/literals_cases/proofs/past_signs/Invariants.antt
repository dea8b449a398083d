-- `past_signs` stays in the text, and each turn leaves less of it. Assumes nothing.
use Rattle.std.proofs.Common.{◌-◌, length}
use Rattle.characters.specs.Text.{Stands}
use Rattle.literals_cases.proofs.past_signs.Given as goal

abbrev pub invariant-loop-p : goal.invariant-loop-p
invariant-loop-p l = Stands l.text l.p

abbrev pub decreases-loop-p : goal.decreases-loop-p
decreases-loop-p l = length l.text - l.p.offset
