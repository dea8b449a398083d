-- `methods`: each turn reads one method, and what is left of the text falls. Assumes nothing.
use Rattle.std.proofs.Common.{◌-◌, ◌≡◌, length}
use Rattle.unit.specs.Laws.Classes.{MethodTurns}
use Rattle.unit.proofs.classes.methods.Given as goal

abbrev pub invariant-loop-next : goal.invariant-loop-next
invariant-loop-next l = record {
  lent : l.book.pool.ghost_name ≡ l.initial.book.pool.ghost_name;
  turns : MethodTurns l.reader.text.now l.initial.book.pool.now l.reader.cap l.reader.comps l.left l.initial.here l.initial.book.tally l.book.pool.now l.here l.book.tally l.last;
}

abbrev pub decreases-loop-next : goal.decreases-loop-next
decreases-loop-next l = length l.reader.text.now - l.here.offset
