-- `items`: each turn reads one item, and what is left of the text falls. Assumes nothing.
use Rattle.std.proofs.Common.{◌-◌, ◌≡◌, length}
use Rattle.unit.specs.Laws.Items.{ItemTurns}
use Rattle.unit.proofs.items.items.Given as goal

abbrev pub invariant-loop-q : goal.invariant-loop-q
invariant-loop-q l = record {
  lent : l.book.pool.ghost_name ≡ l.initial.book.pool.ghost_name;
  turns : ItemTurns l.reader.text.now l.initial.book.pool.now l.reader.cap l.reader.comps l.left l.at l.initial.book.tally l.book.pool.now l.here l.book.tally l.last l.globals;
}

abbrev pub decreases-loop-q : goal.decreases-loop-q
decreases-loop-q l = length l.reader.text.now - l.here.offset
