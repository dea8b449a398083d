-- `place` prints a line, a colon and a column. Assumes nothing.
use Rattle.listing.specs.Laws.Sheets.{then}
use Rattle.listing.proofs.numbers.place.Goals as goal

pub returns : goal.returns
returns c = then c.decimal-first.ensures (then c.put-next.ensures c.decimal.ensures)
