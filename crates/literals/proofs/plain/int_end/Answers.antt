-- `int_end` tests how many digits there are, and the byte behind them. Assumes nothing.
use Rattle.std.proofs.Common.{arith}
use Rattle.literals.specs.PlainLaws.{end_none, end_some}
use Rattle.literals.proofs.Plains.{int_none, int_long, int_more, int_ends, behind}
use Rattle.literals.proofs.plain.int_end.Goals as goal

pub returns-then-end-from : goal.returns-then-end-from
returns-then-end-from c = end_none (int_none c.args.text.now c.args.from c.requires.2 c.if-end-from.true)

pub returns-then-from-end : goal.returns-then-from-end
returns-then-from-end c = end_none (int_long c.args.text.now c.args.from c.requires.2 c.if-end-from.false c.if-from-end.true)

pub returns-then-goes_on : goal.returns-then-goes_on
returns-then-goes_on c = end_none (int_more c.args.text.now c.args.from c.requires.2 c.if-end-from.false c.if-from-end.false (behind c.byte-b.ensures c.goes_on.ensures c.if-goes_on.true))

pub returns : goal.returns
returns c = end_some _ _ (let h = c.if-end-from.false in omega arith) (int_ends c.args.text.now c.args.from c.requires.2 c.if-end-from.false c.if-from-end.false (behind c.byte-b.ensures c.goes_on.ensures c.if-goes_on.false))
