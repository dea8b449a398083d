-- `let_named` reads the name, takes the `=` and makes the span. Assumes nothing.
use Rattle.grammar.proofs.Heading.{named_stands, named_fits}
use Rattle.grammar.proofs.declarations.let_named.Goals as goal

pub need-requires : goal.need-requires
need-requires c = named_stands c.requires.0 c.in_ok-name.ensures

pub name_word-span-requires : goal.name_word-span-requires
name_word-span-requires c = named_fits c.requires.0 c.in_ok-name.ensures c.requires.1
