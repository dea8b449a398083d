-- `statement_item`: a statement, then its item. Assumes nothing.
use Rattle.std.proofs.Common.{◌∙◌}
use Rattle.records.proofs.Laws.Nodes.{does_length}
use Rattle.unit.specs.Laws.Exits.{still_refused}
use Rattle.unit.specs.Laws.Items.{statement_refused, statement_begun, statement_few, statement_itemed}
use Rattle.makers.specs.Laws.Acts.{got_read, got_err}
use Rattle.unit.proofs.items.statement_item.Goals as goal

pub returns-in_err-q-clause-reads : goal.returns-in_err-q-clause-reads
returns-in_err-q-clause-reads c = rw (still_refused c.from_residual.ensures c.in_err-q.was) (statement_refused c.args.globals.now c.requires.0 c.requires.1 c.statement.ensures.reads (got_err c.in_err-q.was))

pub statement_end-requires : goal.statement_end-requires
statement_end-requires c = let z = statement_begun c.args.globals.now c.requires.0 c.requires.1 c.statement.ensures.reads (got_read c.in_ok-q.was) in (z.0, z.1, statement_few c.args.globals.now c.requires.0 c.requires.1 c.statement.ensures.reads (got_read c.in_ok-q.was) c.requires.2, z.2)

pub returns-clause-reads : goal.returns-clause-reads
returns-clause-reads c = statement_itemed c.args.globals.now c.requires.0 c.requires.1 c.statement.ensures.reads (got_read c.in_ok-q.was) c.statement_end.ensures.makes

pub returns-in_err-q-clause-sized : goal.returns-in_err-q-clause-sized
returns-in_err-q-clause-sized c = does_length c.statement.ensures.reads.does

pub returns-clause-sized : goal.returns-clause-sized
returns-clause-sized c = c.statement_end.ensures.sized ∙ does_length c.statement.ensures.reads.does
