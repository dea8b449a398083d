-- `name` tests the first letter and steps to where the name's bytes end. Assumes nothing.
use Rattle.std.proofs.Common.{arith}
use Rattle.characters.proofs.Naming.{letter_inside, name_room, name_ends, name_none}
use Rattle.characters.proofs.names.name.Goals as goal

pub returns-then-not-is_letter : goal.returns-then-not-is_letter
returns-then-not-is_letter c = name_none c.byte-b.ensures c.is_letter.ensures c.if-not-is_letter.true-raw

pub name_end-end-requires : goal.name_end-end-requires
name_end-end-requires c = let i = letter_inside c.byte-b.ensures c.is_letter.ensures c.if-not-is_letter.false-raw in (omega arith, c.requires.short)

pub on-next-requires : goal.on-next-requires
on-next-requires c = name_room c.requires c.byte-b.ensures c.is_letter.ensures c.if-not-is_letter.false-raw c.name_end-end.ensures

pub returns : goal.returns
returns c = name_ends c.byte-b.ensures c.is_letter.ensures c.if-not-is_letter.false-raw c.name_end-end.ensures c.on-next.ensures
