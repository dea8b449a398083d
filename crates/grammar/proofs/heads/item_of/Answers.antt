-- `item_of` skips the blanks and looks at one byte. Assumes nothing.
use Rattle.std.proofs.Common.{rules}
use Rattle.grammar.specs.Heads.{item_of}
use Rattle.grammar.proofs.Leafing.{passed}
use Rattle.grammar.proofs.heads.item_of.Goals as goal

pub returns-in_err-front : goal.returns-in_err-front
unfolding item_of
returns-in_err-front c = search rules

pub item_at-requires : goal.item_at-requires
item_at-requires c = (passed c.requires c.in_ok-front.ensures.0, c.in_ok-front.ensures.1)

pub returns : goal.returns
unfolding item_of
returns c = search rules
