-- `follow_of` skips the blanks and compares one byte. Assumes nothing.
use Rattle.std.proofs.Common.{rules, arith}
use Rattle.characters.specs.PlaceLaws.{room}
use Rattle.characters.specs.Tokens.{token}
use Rattle.grammar.specs.Leaves.{follow_of}
use Rattle.grammar.proofs.Leafing.{passed, follow_past}
use Rattle.grammar.proofs.leaves.follow_of.Goals as goal

pub returns-in_err-front : goal.returns-in_err-front
unfolding follow_of token
returns-in_err-front c = search rules

pub follow_at-requires : goal.follow_at-requires
follow_at-requires c = let h = room (passed c.requires c.in_ok-front.ensures.0) in (omega arith, omega arith)

pub returns : goal.returns
returns c = follow_past c.requires c.in_ok-front.ensures.0 c.in_ok-front.ensures.1 (omega arith) c.follow_at.ensures
