-- `small_end` goes along small letters: from each of them the run has the same end. Assumes nothing.
use Rattle.std.proofs.Common.{refl, sym, ◌∙◌, arith}
use Rattle.characters.specs.Names.{is_small}
use Rattle.characters.specs.CountLaws.{run_starts, run_on, past_one, past_two, past_three, past_four, run_ends, run_out}
use Rattle.literals.proofs.plain.small_end.Goals as goal

pub loop-i-init : goal.loop-i-init
loop-i-init c = run_starts is_small _ c.requires.0

pub returns-then-not-is_small : goal.returns-then-not-is_small
returns-then-not-is_small c = run_ends is_small c.args.text.now _ c.loop-i.invariant c.is_small.ensures c.if-not-is_small.true-raw refl (omega arith)

pub returns-then-not-is_small-2 : goal.returns-then-not-is_small-2
returns-then-not-is_small-2 c = run_ends is_small c.args.text.now _ (past_one is_small c.args.text.now c.loop-i.invariant c.loop-i-test.true (sym c.is_small.ensures ∙ c.if-not-is_small.false)) c.is_small-in-loop-i.ensures c.if-not-is_small-2.true-raw refl (omega arith)

pub returns-then-not-is_small-3 : goal.returns-then-not-is_small-3
returns-then-not-is_small-3 c = run_ends is_small c.args.text.now _ (past_two is_small c.args.text.now c.loop-i.invariant c.loop-i-test.true (sym c.is_small.ensures ∙ c.if-not-is_small.false) (sym c.is_small-in-loop-i.ensures ∙ c.if-not-is_small-2.false)) c.is_small-in-loop-i-2.ensures c.if-not-is_small-3.true-raw refl (omega arith)

pub returns-then-not-is_small-4 : goal.returns-then-not-is_small-4
returns-then-not-is_small-4 c = run_ends is_small c.args.text.now _ (past_three is_small c.args.text.now c.loop-i.invariant c.loop-i-test.true (sym c.is_small.ensures ∙ c.if-not-is_small.false) (sym c.is_small-in-loop-i.ensures ∙ c.if-not-is_small-2.false) (sym c.is_small-in-loop-i-2.ensures ∙ c.if-not-is_small-3.false)) c.is_small-in-loop-i-3.ensures c.if-not-is_small-4.true-raw refl (omega arith)

pub loop-i-preserved : goal.loop-i-preserved
loop-i-preserved c = past_four is_small c.args.text.now c.loop-i.invariant c.loop-i-test.true (sym c.is_small.ensures ∙ c.if-not-is_small.false) (sym c.is_small-in-loop-i.ensures ∙ c.if-not-is_small-2.false) (sym c.is_small-in-loop-i-2.ensures ∙ c.if-not-is_small-3.false) (sym c.is_small-in-loop-i-3.ensures ∙ c.if-not-is_small-4.false)

pub loop-i-2-init : goal.loop-i-2-init
loop-i-2-init c = c.loop-i.invariant

pub returns-then-not-is_small-5 : goal.returns-then-not-is_small-5
returns-then-not-is_small-5 c = run_ends is_small c.args.text.now _ c.loop-i-2.invariant c.is_small-in-loop-i-2-2.ensures c.if-not-is_small-5.true-raw refl c.loop-i-2-test.true

pub loop-i-2-preserved : goal.loop-i-2-preserved
loop-i-2-preserved c = run_on is_small c.args.text.now _ c.loop-i-2.invariant c.is_small-in-loop-i-2-2.ensures c.if-not-is_small-5.false-raw refl c.loop-i-2-test.true

pub returns : goal.returns
returns c = run_out is_small c.args.text.now _ c.loop-i-2.invariant refl c.loop-i-2-test.false
