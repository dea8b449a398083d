-- `digits_end` goes along digits. Assumes nothing.
use Rattle.std.proofs.Common.{◌≡◌, refl, ◌∙◌, arith, length}
use Rattle.characters.specs.Names.{is_digit}
use Rattle.characters.specs.CountLaws.{run_starts, run_on, run_ends, run_out}
use Rattle.literals.proofs.plain.digits_end.Goals as goal

pub loop-i-init : goal.loop-i-init
loop-i-init c = run_starts is_digit _ c.requires.0

pub returns-then-not-is_digit : goal.returns-then-not-is_digit
returns-then-not-is_digit c = run_ends is_digit c.args.text.now _ c.loop-i.invariant c.is_digit.ensures c.if-not-is_digit.true-raw refl c.loop-i-test.true

pub loop-i-preserved : goal.loop-i-preserved
loop-i-preserved c = run_on is_digit c.args.text.now _ c.loop-i.invariant c.is_digit.ensures c.if-not-is_digit.false-raw refl c.loop-i-test.true

pub returns : goal.returns
returns c = (let z : length c.args.text.now ≡ c.loop-i.i = omega arith in z) ∙ run_out is_digit c.args.text.now _ c.loop-i.invariant refl c.loop-i-test.false
