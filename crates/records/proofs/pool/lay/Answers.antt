-- `lay`: eight stores are the row's layout. Assumes nothing.
use Rattle.records.proofs.Laws.Rows.{lays}
use Rattle.records.proofs.pool.lay.Goals as goal

pub returns : goal.returns
returns c = lays _ _ _ _ c.from-number.ensures
