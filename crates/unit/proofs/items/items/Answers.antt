-- `items`: each turn reads one item, and what is left of the text falls. Assumes nothing.
use Rattle.std.proofs.Common.{refl, ◌∙◌}
use Rattle.characters.specs.Answers.{handed}
use Rattle.makers.specs.Laws.Acts.{room_of, got_read, got_err, ok_as}
use Rattle.makers.specs.Laws.Turns.{turn_less}
use Rattle.unit.specs.Laws.Exits.{still_refused}
use Rattle.unit.specs.Laws.Items.{items_first, items_wrong, items_end, items_class, items_statement, items_refused, items_further, items_on}
use Rattle.unit.proofs.items.items.Goals as goal

pub loop-q-init : goal.loop-q-init
loop-q-init c = record { lent = refl; turns = items_first c.requires }

pub item_of-requires : goal.item_of-requires
item_of-requires c = c.loop-q.invariant.turns.ready.stands

pub returns-in_err-q-clause-reads : goal.returns-in_err-q-clause-reads
returns-in_err-q-clause-reads c = rw (handed c.from_residual.ensures) (items_wrong c.loop-q.invariant.turns c.item_of.ensures c.in_err-q.was)

pub unit_end-requires : goal.unit_end-requires
unit_end-requires c = room_of c.loop-q.invariant.turns.ready

pub returns-in-End-clause-reads : goal.returns-in-End-clause-reads
returns-in-End-clause-reads c = items_end c.loop-q.invariant.turns c.item_of.ensures (ok_as c.in_ok-q.was c.in-End.is) c.unit_end.ensures.acts

pub class_item-requires : goal.class_item-requires
class_item-requires c = ((items_class c.loop-q.invariant.turns c.item_of.ensures (ok_as c.in_ok-q.was c.in-Class.is)).0, c.loop-q.invariant.turns.well)

pub returns-in_err-here-in-Class-clause-reads : goal.returns-in_err-here-in-Class-clause-reads
returns-in_err-here-in-Class-clause-reads c =
    let f = ok_as c.in_ok-q.was c.in-Class.is in
    rw (still_refused c.from_residual-in_err-here-in-Class.ensures c.in_err-here-in-Class.was) (items_refused c.loop-q.invariant.turns c.item_of.ensures f (items_class c.loop-q.invariant.turns c.item_of.ensures f).1 (c.class_item.ensures.reads.itemed c.loop-q.globals) (got_err c.in_err-here-in-Class.was))

pub loop-q-smaller-in-Class : goal.loop-q-smaller-in-Class
loop-q-smaller-in-Class c =
    let f = ok_as c.in_ok-q.was c.in-Class.is in
    turn_less (items_further c.loop-q.invariant.turns c.item_of.ensures f (items_class c.loop-q.invariant.turns c.item_of.ensures f).1 (c.class_item.ensures.reads.itemed c.loop-q.globals) (got_read c.in_ok-here-in-Class.was))

pub loop-q-preserved-in-Class : goal.loop-q-preserved-in-Class
loop-q-preserved-in-Class c =
    let f = ok_as c.in_ok-q.was c.in-Class.is in
    record {
      lent = c.class_item.ensures.lent ∙ c.loop-q.invariant.lent;
      turns = items_on c.loop-q.invariant.turns c.item_of.ensures f (items_class c.loop-q.invariant.turns c.item_of.ensures f).1 (c.class_item.ensures.reads.itemed c.loop-q.globals) (got_read c.in_ok-here-in-Class.was) c.class_item.ensures.sized;
    }

pub statement_item-requires : goal.statement_item-requires
statement_item-requires c = ((items_statement c.loop-q.invariant.turns c.item_of.ensures (ok_as c.in_ok-q.was c.in-Statement.is)).0, c.loop-q.invariant.turns.well, c.loop-q.invariant.turns.few)

pub returns-in_err-here-in-Statement-clause-reads : goal.returns-in_err-here-in-Statement-clause-reads
returns-in_err-here-in-Statement-clause-reads c =
    let f = ok_as c.in_ok-q.was c.in-Statement.is in
    rw (still_refused c.from_residual-in_err-here-in-Statement.ensures c.in_err-here-in-Statement.was) (items_refused c.loop-q.invariant.turns c.item_of.ensures f (items_statement c.loop-q.invariant.turns c.item_of.ensures f).1 c.statement_item.ensures.reads (got_err c.in_err-here-in-Statement.was))

pub loop-q-smaller : goal.loop-q-smaller
loop-q-smaller c =
    let f = ok_as c.in_ok-q.was c.in-Statement.is in
    turn_less (items_further c.loop-q.invariant.turns c.item_of.ensures f (items_statement c.loop-q.invariant.turns c.item_of.ensures f).1 c.statement_item.ensures.reads (got_read c.in_ok-here-in-Statement.was))

pub loop-q-preserved : goal.loop-q-preserved
loop-q-preserved c =
    let f = ok_as c.in_ok-q.was c.in-Statement.is in
    record {
      lent = c.statement_item.ensures.lent ∙ c.loop-q.invariant.lent;
      turns = items_on c.loop-q.invariant.turns c.item_of.ensures f (items_statement c.loop-q.invariant.turns c.item_of.ensures f).1 c.statement_item.ensures.reads (got_read c.in_ok-here-in-Statement.was) c.statement_item.ensures.sized;
    }
