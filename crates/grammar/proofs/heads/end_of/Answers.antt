-- `end_of` looks for the end of the text before it skips any blanks. Assumes nothing.
use Rattle.std.proofs.Common.{rules}
use Rattle.grammar.specs.Heads.{end_of}
use Rattle.grammar.proofs.heads.end_of.Goals as goal

pub returns-then-b-eq256 : goal.returns-then-b-eq256
unfolding end_of
returns-then-b-eq256 c = search rules

pub returns : goal.returns
unfolding end_of
returns c = search rules
