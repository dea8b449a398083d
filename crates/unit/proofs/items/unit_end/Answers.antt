-- `unit_end` by its rule: a block, then a function. Assumes nothing.
use Rattle.std.proofs.Common.{◌∙◌}
use Rattle.unit.specs.Laws.Exits.{still_refused}
use Rattle.unit.specs.Laws.Items.{block_full, block_room, unit_ended}
use Rattle.makers.specs.Laws.Acts.{got_read, got_err}
use Rattle.unit.proofs.items.unit_end.Goals as goal

pub returns-in_err-q-clause-acts : goal.returns-in_err-q-clause-acts
returns-in_err-q-clause-acts c = rw (still_refused c.from_residual.ensures c.in_err-q.was) (block_full c.args.from c.args.last c.row-block.ensures c.make.ensures.makes (got_err c.in_err-q.was))

pub make_fun-requires : goal.make_fun-requires
make_fun-requires c = block_room c.args.from c.args.last c.row-block.ensures c.make.ensures.makes (got_read c.in_ok-q.was) c.requires

pub returns-clause-acts : goal.returns-clause-acts
returns-clause-acts c = unit_ended c.args.from c.args.last c.row-block.ensures c.make.ensures.makes (got_read c.in_ok-q.was) c.make_fun.ensures.acts

pub returns-in_err-q-clause-sized : goal.returns-in_err-q-clause-sized
returns-in_err-q-clause-sized c = c.make.ensures.sized

pub returns-clause-sized : goal.returns-clause-sized
returns-clause-sized c = c.make_fun.ensures.sized ∙ c.make.ensures.sized
