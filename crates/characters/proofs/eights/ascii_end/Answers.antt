-- `ascii_end` goes along ASCII bytes, by eights and then one by one. Assumes nothing.
use Rattle.std.proofs.Common.{◌≡◌, ◌∙◌, length, refl, sym, arith, lt-ltb, le-ltb}
use borrow.Author.Tests.{not-false}
use Rattle.characters.specs.Text.{is_ascii}
use Rattle.characters.specs.CountLaws.{run_starts, run_on, run_many, run_ends, run_out}
use Rattle.characters.proofs.eights.ascii_end.Goals as goal

pub loop-i-init : goal.loop-i-init
loop-i-init c = run_starts is_ascii _ c.requires

pub loop-i-preserved : goal.loop-i-preserved
loop-i-preserved c = run_many is_ascii c.args.text.now 8 c.loop-i.invariant (omega arith) (c.low_eight.ensures (not-false _ c.if-not-low_eight.false-raw)).each

pub loop-j-init : goal.loop-j-init
loop-j-init c = c.loop-i.invariant

pub returns-then-text-j-ge128 : goal.returns-then-text-j-ge128
returns-then-text-j-ge128 c = run_ends is_ascii c.args.text.now _ c.loop-j.invariant (sym (le-ltb _ 128 c.if-text-j-ge128.true)) refl refl c.loop-j-test.true

pub loop-j-preserved : goal.loop-j-preserved
loop-j-preserved c = run_on is_ascii c.args.text.now _ c.loop-j.invariant (sym (lt-ltb _ 128 c.if-text-j-ge128.false)) refl refl c.loop-j-test.true

pub returns : goal.returns
returns c = (let e : length c.args.text.now ≡ c.loop-j.j = omega arith in e) ∙ run_out is_ascii c.args.text.now _ c.loop-j.invariant refl c.loop-j-test.false
