-- `copy` puts byte after byte. What is left to copy leads to the whole. Assumes nothing.
use Rattle.listing.specs.Laws.Sheets.{going_on, going_end, from_byte, from_none}
use Rattle.listing.proofs.sheet.copy.Goals as goal

pub loop-b-preserved : goal.loop-b-preserved
loop-b-preserved c = going_on c.loop-b.invariant c.put-next.ensures (from_byte _ _ c.loop-b-test.true) c.put-next.auto.out

pub returns : goal.returns
returns c = going_end c.loop-b.invariant (from_none _ _ c.loop-b-test.false)
