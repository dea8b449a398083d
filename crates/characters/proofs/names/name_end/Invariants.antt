-- `name_end` goes along the bytes of a name. Assumes nothing.
use Rattle.characters.specs.Names.{is_name_byte}
use Rattle.characters.specs.CountLaws.{In}
use Rattle.characters.proofs.names.name_end.Given as goal

abbrev pub invariant-loop-i : goal.invariant-loop-i
invariant-loop-i l = In is_name_byte l.text l.from l.i
