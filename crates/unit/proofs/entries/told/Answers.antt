-- `told` by cases. Assumes nothing.
use Rattle.unit.specs.Laws.Entering.{told_read, told_refused}
use Rattle.makers.specs.Laws.Acts.{got_read, got_err}
use Rattle.unit.proofs.entries.told.Goals as goal

pub returns-in-Ok : goal.returns-in-Ok
returns-in-Ok c = told_read (got_read c.in-Ok.is)

pub returns-in-Err : goal.returns-in-Err
returns-in-Err c = told_refused (got_err c.in-Err.is) c.number-number.ensures
