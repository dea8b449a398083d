-- `line` prints the row that the pool has. Assumes nothing.
use Rattle.std.proofs.Common.{sym, ◌∙◌}
use Rattle.listing.specs.Laws.Lines.{line_here, line_lacking}
use Rattle.listing.specs.Laws.Sheets.{said, then}
use Rattle.listing.proofs.lines.line.Goals as goal

pub returns-in-Some : goal.returns-in-Some
returns-in-Some c = said (line_here _ _ _ c.in-Some.ensures) c.line_of.ensures

pub returns-in-None : goal.returns-in-None
returns-in-None c = said (line_lacking _ _ _ (sym c.in-None.is ∙ c.row_at.ensures)) (then c.decimal-next.ensures c.copy.ensures)
