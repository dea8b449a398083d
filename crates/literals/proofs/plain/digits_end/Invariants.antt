-- `digits_end` goes along digits. Assumes nothing.
use Rattle.characters.specs.Names.{is_digit}
use Rattle.characters.specs.CountLaws.{In}
use Rattle.literals.proofs.plain.digits_end.Given as goal

abbrev pub invariant-loop-i : goal.invariant-loop-i
invariant-loop-i l = In is_digit l.text l.from l.i
