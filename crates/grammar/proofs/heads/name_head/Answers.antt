-- `name_head` reads a name and looks at its word. Assumes nothing.
use Rattle.std.proofs.Common.{refl}
use Rattle.characters.specs.WordNumbers.{numbered_back}
use Rattle.grammar.proofs.Atomic.{name_ends}
use Rattle.grammar.proofs.Heading.{named_head}
use Rattle.grammar.proofs.heads.name_head.Goals as goal

pub word-requires : goal.word-requires
word-requires c = name_ends c.requires c.in_ok-read.ensures

pub returns-in-Some : goal.returns-in-Some
returns-in-Some c = named_head c.args.text.now c.args.at c.in_ok-read.ensures (numbered_back _ c.in-Some.ensures) c.word_head.ensures

pub returns-in-None : goal.returns-in-None
returns-in-None c = named_head c.args.text.now c.args.at c.in_ok-read.ensures (numbered_back _ c.in-None.ensures) refl
