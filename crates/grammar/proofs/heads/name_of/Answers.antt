-- `name_of` skips the blanks and reads the name. Assumes nothing.
use Rattle.std.proofs.Common.{rules}
use Rattle.grammar.specs.Heads.{name_of}
use Rattle.grammar.proofs.Leafing.{passed}
use Rattle.grammar.proofs.heads.name_of.Goals as goal

pub returns-in_err-front : goal.returns-in_err-front
unfolding name_of
returns-in_err-front c = search rules

pub free_name-requires : goal.free_name-requires
free_name-requires c = passed c.requires c.in_ok-front.ensures.0

pub returns : goal.returns
unfolding name_of
returns c = search rules
