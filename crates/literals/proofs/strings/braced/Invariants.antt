-- `braced` reads the digits of `\u{}`. What is left of them answers for the whole; at most six are read. Assumes nothing.
use Rattle.std.proofs.Common.{◌-◌}
use Rattle.literals.specs.StringLaws.{Digits}
use Rattle.literals.proofs.strings.braced.Given as goal

abbrev pub invariant-loop-at : goal.invariant-loop-at
invariant-loop-at l = Digits l.text l.at l.o l.n l.v

abbrev pub decreases-loop-at : goal.decreases-loop-at
decreases-loop-at l = 6 - l.n
