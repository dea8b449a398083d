-- `line_stop` goes along a line, to its LF. Assumes nothing.
use Rattle.std.proofs.Common.{◌≡◌, ◌∙◌, length, refl, sym, arith}
use Rattle.characters.specs.Blanks.{is_in_line}
use Rattle.characters.specs.BlankLaws.{in_line, no_line}
use Rattle.characters.specs.CountLaws.{run_starts, run_on, past_one, past_two, past_three, past_four, run_ends, run_out}
use Rattle.characters.proofs.blanks.line_stop.Goals as goal

pub loop-i-init : goal.loop-i-init
loop-i-init c = run_starts is_in_line _ c.requires.0

pub returns-then-text-i-eq10 : goal.returns-then-text-i-eq10
returns-then-text-i-eq10 c = run_ends is_in_line c.args.text.now _ c.loop-i.invariant (sym (no_line _ c.if-text-i-eq10.true)) refl refl (omega arith)

pub returns-then-text-i-eq10-2 : goal.returns-then-text-i-eq10-2
returns-then-text-i-eq10-2 c = run_ends is_in_line c.args.text.now _ (past_one is_in_line c.args.text.now c.loop-i.invariant c.loop-i-test.true (in_line _ c.if-text-i-eq10.false)) (sym (no_line _ c.if-text-i-eq10-2.true)) refl refl (omega arith)

pub returns-then-text-i-eq10-3 : goal.returns-then-text-i-eq10-3
returns-then-text-i-eq10-3 c = run_ends is_in_line c.args.text.now _ (past_two is_in_line c.args.text.now c.loop-i.invariant c.loop-i-test.true (in_line _ c.if-text-i-eq10.false) (in_line _ c.if-text-i-eq10-2.false)) (sym (no_line _ c.if-text-i-eq10-3.true)) refl refl (omega arith)

pub returns-then-text-i-eq10-4 : goal.returns-then-text-i-eq10-4
returns-then-text-i-eq10-4 c = run_ends is_in_line c.args.text.now _ (past_three is_in_line c.args.text.now c.loop-i.invariant c.loop-i-test.true (in_line _ c.if-text-i-eq10.false) (in_line _ c.if-text-i-eq10-2.false) (in_line _ c.if-text-i-eq10-3.false)) (sym (no_line _ c.if-text-i-eq10-4.true)) refl refl (omega arith)

pub loop-i-preserved : goal.loop-i-preserved
loop-i-preserved c = past_four is_in_line c.args.text.now c.loop-i.invariant c.loop-i-test.true (in_line _ c.if-text-i-eq10.false) (in_line _ c.if-text-i-eq10-2.false) (in_line _ c.if-text-i-eq10-3.false) (in_line _ c.if-text-i-eq10-4.false)

pub loop-j-init : goal.loop-j-init
loop-j-init c = c.loop-i.invariant

pub returns-then-text-j-eq10 : goal.returns-then-text-j-eq10
returns-then-text-j-eq10 c = run_ends is_in_line c.args.text.now _ c.loop-j.invariant (sym (no_line _ c.if-text-j-eq10.true)) refl refl c.loop-j-test.true

pub loop-j-preserved : goal.loop-j-preserved
loop-j-preserved c = run_on is_in_line c.args.text.now _ c.loop-j.invariant (sym (in_line _ c.if-text-j-eq10.false)) refl refl c.loop-j-test.true

pub returns : goal.returns
returns c = (let e : length c.args.text.now ≡ c.loop-j.j = omega arith in e) ∙ run_out is_in_line c.args.text.now _ c.loop-j.invariant refl c.loop-j-test.false
