-- `compound` compares one byte. Assumes nothing.
use Rattle.grammar.proofs.Heading.{compound_none, compound_taken}
use Rattle.grammar.proofs.assignments.compound.Goals as goal

pub returns-then-b-ne61 : goal.returns-then-b-ne61
returns-then-b-ne61 c = compound_none c.args.op c.requires c.byte-b.ensures c.if-b-ne61.true

pub returns : goal.returns
returns c = compound_taken c.args.op c.requires c.byte-b.ensures c.if-b-ne61.false c.on-next.ensures
