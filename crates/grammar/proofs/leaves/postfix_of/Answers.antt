-- `postfix_of` skips the blanks. Assumes nothing.
use Rattle.std.proofs.Common.{rules}
use Rattle.grammar.specs.Leaves.{postfix_of}
use Rattle.grammar.proofs.Leafing.{passed}
use Rattle.grammar.proofs.leaves.postfix_of.Goals as goal

pub returns-in_err-front : goal.returns-in_err-front
unfolding postfix_of
returns-in_err-front c = search rules

pub postfix_at-requires : goal.postfix_at-requires
postfix_at-requires c = (passed c.requires.0 c.in_ok-front.ensures.0, c.in_ok-front.ensures.1, c.requires.1)

pub returns : goal.returns
unfolding postfix_of
returns c = search rules
