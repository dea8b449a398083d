-- `line_of` prints number, kind, position and fields, one after the other. Assumes nothing.
use Rattle.listing.specs.Laws.Sheets.{then}
use Rattle.listing.specs.Listing.{line_of}
use Rattle.listing.proofs.lines.line_of.Goals as goal

pub returns : goal.returns
unfolding line_of
returns c = then (then (then (then c.decimal-numbered.ensures c.title-named.ensures) c.position-placed.ensures) c.fields-filled.ensures) c.put.ensures
