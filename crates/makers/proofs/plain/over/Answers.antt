-- `over` looks at one byte, and past a `=` at a second. Assumes nothing.
use Rattle.std.proofs.Common.{arith}
use borrow.Author.Tests.{not-false}
use Rattle.makers.specs.Laws.PlainEnds.{over_shut, over_colon, over_assign}
use Rattle.makers.proofs.plain.over.Goals as goal

pub returns-else-not-assigning : goal.returns-else-not-assigning
returns-else-not-assigning c = over_assign c.byte-b.ensures c.in-61.is (not-false _ c.if-not-assigning.false-raw) c.byte-c.ensures

pub returns-in-41 : goal.returns-in-41
returns-in-41 c = over_shut c.byte-b.ensures c.in-41.is

pub returns-in-41-2 : goal.returns-in-41-2
returns-in-41-2 c = over_colon c.byte-b.ensures (omega arith) (omega arith)
