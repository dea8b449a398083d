-- `stated` makes an item. Assumes nothing.
use Rattle.makers.specs.Laws.Acts.{acts_make}
use Rattle.makers.proofs.endings.stated.Goals as goal

pub returns-clause-acts : goal.returns-clause-acts
returns-clause-acts c = acts_make c.row-made.ensures c.make.ensures.makes
