-- `refused` has made nothing. Assumes nothing.
use Rattle.unit.specs.Laws.Entering.{told_before}
use Rattle.unit.proofs.entries.refused.Goals as goal

pub returns : goal.returns
returns c = told_before c.args.refusal c.args.at c.start.ensures c.told.ensures
