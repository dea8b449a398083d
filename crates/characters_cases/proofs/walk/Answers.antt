-- `walk` ends: the place stands in the text, and what is left of the text falls. Assumes nothing.
use Rattle.std.proofs.Common.{arith}
use Rattle.cases.specs.WalkLaws.{less}
use Rattle.characters_cases.proofs.Walking.{next_advances}
use Rattle.characters_cases.proofs.walk.Goals as goal

pub loop-p-smaller : goal.loop-p-smaller
loop-p-smaller c = less (next_advances c.loop-p.invariant.0 (omega (arith, c.loop-p-test.true, c.loop-p.invariant.1)) c.next-p.ensures)

pub loop-p-preserved : goal.loop-p-preserved
loop-p-preserved c = ((next_advances c.loop-p.invariant.0 (omega (arith, c.loop-p-test.true, c.loop-p.invariant.1)) c.next-p.ensures).stands, c.loop-p.invariant.1)
