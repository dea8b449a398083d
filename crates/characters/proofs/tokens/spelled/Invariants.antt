-- `spelled` compares byte by byte. Assumes nothing.
use Rattle.characters.proofs.Looking.{Spelling}
use Rattle.characters.proofs.tokens.spelled.Given as goal

abbrev pub invariant-loop-i : goal.invariant-loop-i
invariant-loop-i l = Spelling l.text l.from l.w l.i
