-- `plain_string_end` goes along plain bytes, over a run of small letters in one step, to the byte that ends them. Assumes nothing.
use Rattle.std.proofs.Common.{arith}
use Rattle.characters.specs.CountLaws.{run_starts}
use Rattle.literals.specs.PlainLaws.{end_none, end_some}
use Rattle.literals.proofs.Plains.{quote_inside, string_over, string_out, string_shut, string_on, string_not}
use Rattle.literals.proofs.plain.plain_string_end.Goals as goal

pub bounds-text-at : goal.bounds-text-at
bounds-text-at c = quote_inside c.args.text.now c.args.from c.requires.0

pub overflow_add-i : goal.overflow_add-i
overflow_add-i c = let h = quote_inside c.args.text.now c.args.from c.requires.0 in omega arith

pub loop-i-init : goal.loop-i-init
loop-i-init c = let h = quote_inside c.args.text.now c.args.from c.requires.0 in run_starts _ c.args.text.now (omega arith)

pub returns-then-n-i : goal.returns-then-n-i
returns-then-n-i c = end_none (string_out c.args.text.now c.args.from c.requires.0 (string_over c.args.text.now c.args.from c.requires.0 c.loop-i.invariant c.small_end-i.ensures) c.if-n-i.true)

pub overflow_cast-end : goal.overflow_cast-end
overflow_cast-end c = let v = (string_over c.args.text.now c.args.from c.requires.0 c.loop-i.invariant c.small_end-i.ensures).inside in omega arith

pub overflow_add-result : goal.overflow_add-result
overflow_add-result c = let v = (string_over c.args.text.now c.args.from c.requires.0 c.loop-i.invariant c.small_end-i.ensures).inside in omega arith

pub returns-then-b-quote : goal.returns-then-b-quote
returns-then-b-quote c = end_some _ _ (omega arith) (string_shut c.args.text.now c.args.from c.requires.0 (string_over c.args.text.now c.args.from c.requires.0 c.loop-i.invariant c.small_end-i.ensures) c.if-n-i.false c.if-b-quote.true)

pub returns-then-not-is_itself : goal.returns-then-not-is_itself
returns-then-not-is_itself c = end_none (string_not c.args.text.now c.args.from c.requires.0 (string_over c.args.text.now c.args.from c.requires.0 c.loop-i.invariant c.small_end-i.ensures) c.if-n-i.false c.if-b-quote.false c.is_itself.ensures c.if-not-is_itself.true-raw)

pub overflow_add-i-in-loop-i : goal.overflow_add-i-in-loop-i
overflow_add-i-in-loop-i c = let v = (string_over c.args.text.now c.args.from c.requires.0 c.loop-i.invariant c.small_end-i.ensures).inside in omega arith

pub loop-i-smaller : goal.loop-i-smaller
loop-i-smaller c = let v = (string_over c.args.text.now c.args.from c.requires.0 c.loop-i.invariant c.small_end-i.ensures).begun in omega arith

pub loop-i-preserved : goal.loop-i-preserved
loop-i-preserved c = string_on c.args.text.now c.args.from c.requires.0 (string_over c.args.text.now c.args.from c.requires.0 c.loop-i.invariant c.small_end-i.ensures) c.if-n-i.false c.if-b-quote.false c.is_itself.ensures c.if-not-is_itself.false-raw
