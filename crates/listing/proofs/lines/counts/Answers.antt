-- `counts` prints both counts and the line end. Assumes nothing.
use Rattle.listing.specs.Laws.Sheets.{then}
use Rattle.listing.proofs.lines.counts.Goals as goal

pub returns : goal.returns
returns c = then (then c.decimal-records.ensures c.plain-next.ensures) c.put.ensures
