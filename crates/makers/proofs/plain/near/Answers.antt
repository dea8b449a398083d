-- `near` looks at one byte. Assumes nothing.
use Rattle.makers.specs.Laws.PlainEnds.{near_space, near_here}
use Rattle.makers.proofs.plain.near.Goals as goal

pub returns-then-b-eq32 : goal.returns-then-b-eq32
returns-then-b-eq32 c = near_space c.args.at c.byte-b.ensures c.if-b-eq32.true c.on.ensures

pub returns : goal.returns
returns c = near_here c.args.at c.byte-b.ensures c.if-b-eq32.false
