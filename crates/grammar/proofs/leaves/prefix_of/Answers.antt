-- `prefix_of` skips the blanks. Assumes nothing.
use Rattle.std.proofs.Common.{rules}
use Rattle.grammar.specs.Leaves.{prefix_of}
use Rattle.grammar.proofs.Leafing.{passed}
use Rattle.grammar.proofs.leaves.prefix_of.Goals as goal

pub returns-in_err-front : goal.returns-in_err-front
unfolding prefix_of
returns-in_err-front c = search rules

pub prefix_at-requires : goal.prefix_at-requires
prefix_at-requires c = (passed c.requires c.in_ok-front.ensures.0, c.in_ok-front.ensures.1)

pub returns : goal.returns
unfolding prefix_of
returns c = search rules
