-- `past` takes plain spaces, after which one byte tells that no other blank follows. Assumes nothing.
use Rattle.std.proofs.Common.{refl, arith}
use Rattle.characters.specs.PlaceLaws.{room}
use Rattle.characters.specs.BlankLaws.{only_spaces, spaced_stands}
use Rattle.grammar.proofs.Leafing.{begun}
use Rattle.grammar.proofs.blanks.past.Goals as goal

pub on-near-requires : goal.on-near-requires
on-near-requires c = let h = room (spaced_stands c.requires c.spaces-n.ensures refl) in (omega arith, omega arith)

pub returns-then-not-opens_blank : goal.returns-then-not-opens_blank
returns-then-not-opens_blank c = (only_spaces c.spaces-n.ensures c.on-near.ensures c.byte-first.ensures c.opens_blank.ensures c.if-not-opens_blank.true, c.byte-first.ensures)

pub returns : goal.returns
returns c = (begun c.requires c.in_ok-here.ensures, c.byte-b.ensures)
