-- `member` steps over the dot, reads a name and makes its span. Assumes nothing.
use Rattle.grammar.proofs.Leafing.{name_fits, member_stands}
use Rattle.grammar.proofs.leaves.member.Goals as goal

pub name-requires : goal.name-requires
name-requires c = member_stands c.requires.0 c.on-from.ensures c.requires.1

pub name_word-span-requires : goal.name_word-span-requires
name_word-span-requires c = name_fits (member_stands c.requires.0 c.on-from.ensures c.requires.1) c.requires.2 c.in_ok-read.ensures
