-- `plain` prints a space and a number. Assumes nothing.
use Rattle.listing.specs.Laws.Sheets.{then}
use Rattle.listing.proofs.fields.plain.Goals as goal

pub returns : goal.returns
returns c = then c.put-next.ensures c.decimal.ensures
