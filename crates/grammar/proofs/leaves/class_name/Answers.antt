-- `class_name` reads a name and makes its span. Assumes nothing.
use Rattle.grammar.proofs.Leafing.{name_fits}
use Rattle.grammar.proofs.leaves.class_name.Goals as goal

pub name_word-span-requires : goal.name_word-span-requires
name_word-span-requires c = name_fits c.requires.0 c.requires.1 c.in_ok-read.ensures
