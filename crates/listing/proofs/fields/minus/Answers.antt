-- `minus` prints a minus where the mark is set. Assumes nothing.
use Rattle.listing.specs.Laws.Texts.{minus_set, minus_unset}
use Rattle.listing.specs.Laws.Sheets.{said, none}
use Rattle.listing.proofs.fields.minus.Goals as goal

pub returns-then-mark-eq1 : goal.returns-then-mark-eq1
returns-then-mark-eq1 c = said (minus_set _ c.if-mark-eq1.true) c.put.ensures

pub returns : goal.returns
returns c = said (minus_unset _ c.if-mark-eq1.false) none
