-- `postfix_at` goes by one byte, and by a second where the first could double. Assumes nothing.
use Rattle.grammar.proofs.Leafing.{postfix_none, postfix_double, postfix_single}
use Rattle.grammar.proofs.leaves.postfix_at.Goals as goal

pub returns-then-c-b : goal.returns-then-c-b
returns-then-c-b c = postfix_double c.requires.0 c.requires.1 c.in-43.is c.byte-c.ensures c.if-c-b.true c.on-next-then-c-b.ensures

pub returns-else-c-b : goal.returns-else-c-b
returns-else-c-b c = postfix_single c.requires.0 c.requires.1 c.in-43.is c.byte-c.ensures c.if-c-b.false

pub returns-in_default : goal.returns-in_default
returns-in_default c = postfix_none c.requires.0 c.requires.1 c.in_default.in_default-own.rest.0.0.0.0.1 c.in_default.in_default-own.rest.0.0.0.1 c.in_default.in_default-own.rest.0.0.1 c.in_default.in_default-own.rest.0.1 c.in_default.in_default-own.rest.1
