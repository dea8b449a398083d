-- `float_end` tests the byte behind the digits, how many follow it, and the byte behind those. Assumes nothing.
use Rattle.std.proofs.Common.{arith, rules}
use Rattle.literals.specs.PlainLaws.{end_none, end_some}
use Rattle.literals.proofs.Plains.{float_none, float_undotted, dot_inside, float_bare, float_more, float_ends, behind}
use Rattle.literals.proofs.plain.float_end.Goals as goal

pub returns-then-dot-from : goal.returns-then-dot-from
returns-then-dot-from c = end_none (float_none c.args.text.now c.args.from c.requires.2 c.if-dot-from.true)

pub returns-then-b-ne46 : goal.returns-then-b-ne46
returns-then-b-ne46 c = end_none (float_undotted c.args.text.now c.args.from c.requires.2 c.if-dot-from.false c.byte-b.ensures c.if-b-ne46.true)

pub overflow_add-first : goal.overflow_add-first
overflow_add-first c = let z = dot_inside c.args.text.now c.args.from c.requires.2 c.if-dot-from.false c.byte-b.ensures c.if-b-ne46.false in omega arith

pub digits_end-end-requires : goal.digits_end-end-requires
digits_end-end-requires c = let z = dot_inside c.args.text.now c.args.from c.requires.2 c.if-dot-from.false c.byte-b.ensures c.if-b-ne46.false in search rules

pub returns-then-end-first : goal.returns-then-end-first
returns-then-end-first c = end_none (float_bare c.args.text.now c.args.from c.requires.2 c.if-dot-from.false c.byte-b.ensures c.if-b-ne46.false c.digits_end-end.ensures c.if-end-first.true)

pub returns-then-goes_on : goal.returns-then-goes_on
returns-then-goes_on c = end_none (float_more c.args.text.now c.args.from c.requires.2 c.if-dot-from.false c.byte-b.ensures c.if-b-ne46.false c.digits_end-end.ensures c.if-end-first.false (behind c.byte-c.ensures c.goes_on.ensures c.if-goes_on.true))

pub returns : goal.returns
returns c = end_some _ _ (let h = c.if-end-first.false in omega arith) (float_ends c.args.text.now c.args.from c.requires.2 c.if-dot-from.false c.byte-b.ensures c.if-b-ne46.false c.digits_end-end.ensures c.if-end-first.false (behind c.byte-c.ensures c.goes_on.ensures c.if-goes_on.false))
