-- `held` makes an item. Assumes nothing.
use Rattle.makers.specs.Laws.Acts.{acts_make}
use Rattle.makers.proofs.endings.held.Goals as goal

pub returns-clause-acts : goal.returns-clause-acts
returns-clause-acts c = acts_make c.item-made.ensures c.make.ensures.makes
