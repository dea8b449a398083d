-- `prefix` adds up characters: the length passed, and the prefix of what is left, are the prefix of the text. Assumes nothing.
use Rattle.std.proofs.Common.{arith, rules}
use Rattle.characters.proofs.Utf8Steps.{answers_start, answers_ascii, answers_more, answers_stop}
use Rattle.characters.proofs.utf8.prefix.Goals as goal

pub loop-at-init : goal.loop-at-init
loop-at-init c = answers_start _

pub ascii_end-at-requires : goal.ascii_end-at-requires
ascii_end-at-requires c = c.loop-at.invariant.within

pub returns-then-width-eq0 : goal.returns-then-width-eq0
returns-then-width-eq0 c = answers_stop c.args.text.now c.ascii_end-at.result c.sequence-width.result (answers_ascii c.loop-at.invariant c.ascii_end-at.ensures) c.sequence-width.ensures c.if-width-eq0.true

pub overflow_add-at : goal.overflow_add-at
overflow_add-at c = let v = (answers_more c.args.text.now c.ascii_end-at.result c.sequence-width.result (answers_ascii c.loop-at.invariant c.ascii_end-at.ensures) c.sequence-width.ensures).within in search rules

pub loop-at-smaller : goal.loop-at-smaller
loop-at-smaller c = let v = (answers_more c.args.text.now c.ascii_end-at.result c.sequence-width.result (answers_ascii c.loop-at.invariant c.ascii_end-at.ensures) c.sequence-width.ensures).within in omega arith

pub loop-at-preserved : goal.loop-at-preserved
loop-at-preserved c = answers_more c.args.text.now c.ascii_end-at.result c.sequence-width.result (answers_ascii c.loop-at.invariant c.ascii_end-at.ensures) c.sequence-width.ensures
