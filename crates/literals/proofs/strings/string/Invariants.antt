-- `string` reads up to the closing quote. What is left of the text answers for the whole; each turn leaves less of it. Assumes nothing.
use Rattle.std.proofs.Common.{◌-◌, length}
use Rattle.literals.specs.StringLaws.{Scanning}
use Rattle.literals.proofs.strings.string.Given as goal

abbrev pub invariant-loop-at : goal.invariant-loop-at
invariant-loop-at l = Scanning l.text l.at l.quote l.p

abbrev pub decreases-loop-at : goal.decreases-loop-at
decreases-loop-at l = length l.text - l.p.offset
