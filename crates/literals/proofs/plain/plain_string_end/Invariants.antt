-- `plain_string_end` goes along plain bytes, over a run of small letters in one step, to the byte that ends them. Assumes nothing.
use Rattle.std.proofs.Common.{◌-◌, length}
use Rattle.literals.proofs.Plains.{InString}
use Rattle.literals.proofs.plain.plain_string_end.Given as goal

abbrev pub invariant-loop-i : goal.invariant-loop-i
invariant-loop-i l = InString l.text l.from l.i

abbrev pub decreases-loop-i : goal.decreases-loop-i
decreases-loop-i l = length l.text - l.i
