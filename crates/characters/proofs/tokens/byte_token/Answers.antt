-- `byte_token` compares one byte past the blanks, which mostly are spaces. Assumes nothing.
use Rattle.std.proofs.Common.{refl, arith}
use borrow.Author.Tests.{not-true}
use Rattle.characters.specs.PlaceLaws.{room}
use Rattle.characters.specs.BlankLaws.{only_spaces, spaced_stands}
use Rattle.characters.proofs.Looking.{passed, sign_by}
use Rattle.characters.proofs.tokens.byte_token.Goals as goal

pub on-near-requires : goal.on-near-requires
on-near-requires c = let h = room (spaced_stands c.requires c.spaces-n.ensures refl) in (omega arith, omega arith)

pub sign_at-requires : goal.sign_at-requires
sign_at-requires c = let h = room (spaced_stands c.requires c.spaces-n.ensures c.on-near.ensures) in (omega arith, omega arith)

pub returns-then-not-opens_blank : goal.returns-then-not-opens_blank
returns-then-not-opens_blank c = sign_by c.requires (only_spaces c.spaces-n.ensures c.on-near.ensures c.byte-first.ensures c.opens_blank.ensures (not-true _ c.if-not-opens_blank.true-raw)) (omega arith) c.byte-first.ensures c.sign_at.ensures

pub sign_at-requires-2 : goal.sign_at-requires-2
sign_at-requires-2 c = let h = room (passed c.requires c.in_ok-here.ensures).stands in (omega arith, omega arith)

pub returns : goal.returns
returns c = sign_by c.requires c.in_ok-here.ensures (omega arith) c.byte-stands.ensures c.sign_at-2.ensures
