-- `count`: the calculus's comparison, where there is room and where there is none. Assumes nothing.
use Rattle.reading.proofs.Laws.Does.{compares_one, compares_none}
use Rattle.records.proofs.comparisons.count.Goals as goal

pub returns-then-tally-limit : goal.returns-then-tally-limit
returns-then-tally-limit c = rw c.plain.ensures (compares_one c.if-tally-limit.true)

pub returns : goal.returns
returns c = compares_none c.if-tally-limit.false
