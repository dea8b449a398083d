-- `head_of` skips the blanks and looks at one byte. Assumes nothing.
use Rattle.std.proofs.Common.{rules}
use Rattle.grammar.specs.Heads.{head_of}
use Rattle.grammar.proofs.Leafing.{passed}
use Rattle.grammar.proofs.heads.head_of.Goals as goal

pub returns-in_err-front : goal.returns-in_err-front
unfolding head_of
returns-in_err-front c = search rules

pub head_at-requires : goal.head_at-requires
head_at-requires c = passed c.requires c.in_ok-front.ensures.0

pub returns : goal.returns
unfolding head_of
returns c = search rules
