-- `class_item`: a class, its declaration and its item. Assumes nothing.
use Rattle.std.proofs.Common.{◌∙◌}
use Rattle.records.proofs.Laws.Nodes.{does_length}
use Rattle.makers.specs.Laws.Acts.{room_of, got_read, got_err}
use Rattle.unit.specs.Laws.Exits.{still_refused}
use Rattle.unit.specs.Laws.Items.{class_item_refused, class_lent, class_full, class_next, class_itemed}
use Rattle.unit.proofs.items.class_item.Goals as goal

pub class-requires : goal.class-requires
class-requires c = (c.requires.0, c.requires.1.classes)

pub returns-in_err-q-clause-reads : goal.returns-in_err-q-clause-reads
returns-in_err-q-clause-reads c = rw (still_refused c.from_residual.ensures c.in_err-q.was) (class_item_refused c.requires.0 c.requires.1 c.class.ensures.reads (got_err c.in_err-q.was))

pub make-requires : goal.make-requires
make-requires c = class_lent c.requires.0 c.requires.1 c.class.ensures.reads (got_read c.in_ok-q.was)

pub returns-in_err-r-clause-reads : goal.returns-in_err-r-clause-reads
returns-in_err-r-clause-reads c = rw (still_refused c.from_residual-in_err-r.ensures c.in_err-r.was) (class_full c.requires.0 c.requires.1 c.class.ensures.reads (got_read c.in_ok-q.was) c.row-declared.ensures c.make.ensures.makes (got_err c.in_err-r.was))

pub stated-requires : goal.stated-requires
stated-requires c = room_of (class_next c.requires.0 c.requires.1 c.class.ensures.reads (got_read c.in_ok-q.was) c.row-declared.ensures c.make.ensures.makes (got_read c.in_ok-r.was))

pub returns-clause-reads : goal.returns-clause-reads
returns-clause-reads c = class_itemed c.requires.0 c.requires.1 c.class.ensures.reads (got_read c.in_ok-q.was) c.row-declared.ensures c.make.ensures.makes (got_read c.in_ok-r.was) c.stated.ensures.acts

pub returns-in_err-q-clause-sized : goal.returns-in_err-q-clause-sized
returns-in_err-q-clause-sized c = does_length c.class.ensures.reads.does

pub returns-in_err-r-clause-sized : goal.returns-in_err-r-clause-sized
returns-in_err-r-clause-sized c = c.make.ensures.sized ∙ does_length c.class.ensures.reads.does

pub returns-clause-sized : goal.returns-clause-sized
returns-clause-sized c = c.stated.ensures.sized ∙ c.make.ensures.sized ∙ does_length c.class.ensures.reads.does
