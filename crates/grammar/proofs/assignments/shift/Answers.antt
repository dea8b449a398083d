-- `shift` compares two bytes. Assumes nothing.
use Rattle.grammar.proofs.Heading.{shift_none, shift_alone, shift_taken}
use Rattle.grammar.proofs.assignments.shift.Goals as goal

pub returns-then-b-a : goal.returns-then-b-a
returns-then-b-a c = shift_none c.args.op c.requires.0 c.byte-b.ensures c.args.a c.requires.1 c.if-b-a.true

pub returns-then-c-ne61 : goal.returns-then-c-ne61
returns-then-c-ne61 c = shift_alone c.args.op c.requires.0 c.byte-b.ensures c.args.a c.requires.1 c.if-b-a.false c.byte-c.ensures c.if-c-ne61.true

pub returns : goal.returns
returns c = shift_taken c.args.op c.requires.0 c.byte-b.ensures c.args.a c.requires.1 c.if-b-a.false c.byte-c.ensures c.if-c-ne61.false c.on-next.ensures
