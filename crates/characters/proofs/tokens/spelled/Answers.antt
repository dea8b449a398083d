-- `spelled` compares a short word byte by byte. Assumes nothing.
use Rattle.std.proofs.Common.{arith}
use Rattle.characters.proofs.Looking.{spelling_starts, spelling_on, spelling_off, spelled_all, no_room}
use Rattle.characters.proofs.tokens.spelled.Goals as goal

pub returns-then-left-w : goal.returns-then-left-w
returns-then-left-w c = no_room c.args.text.now c.args.from c.args.w.now c.if-left-w.true

pub loop-i-init : goal.loop-i-init
loop-i-init c = spelling_starts _ _ _

pub returns-then-text-start : goal.returns-then-text-start
returns-then-text-start c = spelling_off c.loop-i.invariant c.loop-i-test.true (omega arith) c.if-text-start.true

pub loop-i-preserved : goal.loop-i-preserved
loop-i-preserved c = spelling_on c.loop-i.invariant c.loop-i-test.true (omega arith) c.if-text-start.false

pub returns : goal.returns
returns c = spelled_all c.loop-i.invariant c.loop-i-test.false
