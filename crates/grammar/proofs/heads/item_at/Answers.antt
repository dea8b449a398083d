-- `item_at` goes by the first byte. Assumes nothing.
use Rattle.grammar.proofs.Heading.{item_rest}
use Rattle.grammar.proofs.heads.item_at.Goals as goal

pub returns-in_default : goal.returns-in_default
returns-in_default c = item_rest _ c.requires.1 c.in_default.in_default-own.rest
