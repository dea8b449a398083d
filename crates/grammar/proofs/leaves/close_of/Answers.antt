-- `close_of` skips the blanks and compares one byte. Assumes nothing.
use Rattle.std.proofs.Common.{rules, arith}
use Rattle.characters.specs.PlaceLaws.{room}
use Rattle.grammar.specs.Leaves.{close_of}
use Rattle.grammar.proofs.Leafing.{passed}
use Rattle.grammar.proofs.leaves.close_of.Goals as goal

pub returns-in_err-front : goal.returns-in_err-front
unfolding close_of
returns-in_err-front c = search rules

pub close_at-requires : goal.close_at-requires
close_at-requires c = let h = room (passed c.requires c.in_ok-front.ensures.0) in (omega arith, omega arith)

pub returns : goal.returns
unfolding close_of
returns c = search rules
