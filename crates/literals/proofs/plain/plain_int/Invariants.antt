-- `plain_int` sums up digits: the value so far and the digits left make the whole. Assumes nothing.
use Rattle.literals.proofs.Plains.{Valued}
use Rattle.literals.proofs.plain.plain_int.Given as goal

abbrev pub invariant-loop-i : goal.invariant-loop-i
invariant-loop-i l = Valued l.text l.from l.to l.value l.i
