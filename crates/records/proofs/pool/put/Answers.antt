-- `put`: the calculus's record, laid where there is room, and 6 where there is none. Assumes nothing.
use Rattle.reading.proofs.Laws.Does.{makes_none}
use Rattle.records.proofs.Laws.Rows.{put_made}
use Rattle.records.proofs.pool.put.Goals as goal

pub returns-then-made-cap : goal.returns-then-made-cap
returns-then-made-cap c = put_made c.if-made-cap.true c.lay-kind.ensures

pub returns : goal.returns
returns c = makes_none c.if-made-cap.false
