-- `parent` reads the name, makes its span and takes the brace. Assumes nothing.
use Rattle.grammar.proofs.Heading.{named_stands, named_fits}
use Rattle.grammar.proofs.declarations.parent.Goals as goal

pub name_word-span-requires : goal.name_word-span-requires
name_word-span-requires c = named_fits c.requires.0 c.in_ok-name.ensures c.requires.1

pub opened-requires : goal.opened-requires
opened-requires c = named_stands c.requires.0 c.in_ok-name.ensures
