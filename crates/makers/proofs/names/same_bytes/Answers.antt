-- `same_bytes` compares byte by byte. Assumes nothing.
use Rattle.makers.specs.Laws.NamesWalk.{match_none, match_on, match_off, match_all}
use Rattle.makers.proofs.names.same_bytes.Goals as goal

pub returns-then-b-n : goal.returns-then-b-n
returns-then-b-n c = match_none _ _ c.if-b-n.true

pub returns-then-a-i : goal.returns-then-a-i
returns-then-a-i c = match_off c.loop-i.invariant c.loop-i-test.true c.if-a-i.true

pub loop-i-preserved : goal.loop-i-preserved
loop-i-preserved c = match_on c.loop-i.invariant c.loop-i-test.true c.if-a-i.false

pub returns : goal.returns
returns c = match_all c.loop-i.invariant c.loop-i-test.false
