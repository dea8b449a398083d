-- `unit` by its rule: no `from`, then its items. Assumes nothing.
use Rattle.characters.specs.Answers.{handed}
use Rattle.unit.specs.Laws.Items.{unit_here, unit_halts, unit_from, unit_read}
use Rattle.makers.specs.Laws.Acts.{ok_as}
use Rattle.unit.proofs.items.unit.Goals as goal

pub returns-in_err-here-clause-reads : goal.returns-in_err-here-clause-reads
returns-in_err-here-clause-reads c = rw (handed c.from_residual.ensures) (unit_halts c.keyword.ensures c.in_err-here.was)

pub returns-in-Found-clause-reads : goal.returns-in-Found-clause-reads
returns-in-Found-clause-reads c = unit_from c.keyword.ensures (ok_as c.in_ok-here.was c.in-Found.is)

pub items-requires : goal.items-requires
items-requires c = unit_here c.requires c.keyword.ensures (ok_as c.in_ok-here.was c.in-Missing.is)

pub returns-in-Missing-clause-reads : goal.returns-in-Missing-clause-reads
returns-in-Missing-clause-reads c = unit_read c.keyword.ensures c.requires (ok_as c.in_ok-here.was c.in-Missing.is) c.items.ensures.reads
