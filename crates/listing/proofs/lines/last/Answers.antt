-- `last` prints the last line, by the answer's number. Assumes nothing.
use Rattle.listing.specs.Laws.Lines.{last_ok, last_refused}
use Rattle.listing.specs.Laws.Sheets.{said, then}
use Rattle.listing.proofs.lines.last.Goals as goal

pub returns-then-answer-eq0 : goal.returns-then-answer-eq0
returns-then-answer-eq0 c = said (last_ok _ c.if-answer-eq0.true) (then c.copy-next.ensures c.counts.ensures)

pub returns : goal.returns
returns c = said (last_refused _ c.if-answer-eq0.false) (then (then (then c.copy-first.ensures c.decimal-number.ensures) (then c.put-before.ensures c.place-placed.ensures)) (then c.put-next.ensures c.counts-2.ensures))
