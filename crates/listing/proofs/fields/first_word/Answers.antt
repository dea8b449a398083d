-- `first_word` puts byte after byte, up to a space. What is left of the word leads to the whole. Assumes nothing.
use Rattle.listing.specs.Laws.Words.{upto_space, upto_other, upto_end}
use Rattle.listing.specs.Laws.Sheets.{going_on, going_end}
use Rattle.listing.proofs.fields.first_word.Goals as goal

pub returns-then-b-eq32 : goal.returns-then-b-eq32
returns-then-b-eq32 c = going_end c.loop-b.invariant (upto_space _ _ c.loop-b-test.true c.if-b-eq32.true)

pub loop-b-preserved : goal.loop-b-preserved
loop-b-preserved c = going_on c.loop-b.invariant c.put-next.ensures (upto_other _ _ c.loop-b-test.true c.if-b-eq32.false) c.put-next.auto.out

pub returns : goal.returns
returns c = going_end c.loop-b.invariant (upto_end _ _ c.loop-b-test.false)
