-- `params`: each turn reads one parameter, and what is left of the text falls. Assumes nothing.
use Rattle.std.proofs.Common.{◌-◌, length, ◌≡◌}
use Rattle.makers.specs.Laws.NamesRead.{Gathering}
use Rattle.makers.proofs.names.params.Given as goal

abbrev pub invariant-loop-close : goal.invariant-loop-close
invariant-loop-close l =
    record {
      lent : l.book.pool.ghost_name ≡ l.initial.book.pool.ghost_name;
      turns : Gathering l.text l.initial.book.pool.now l.cap l.comps l.end l.initial.here l.initial.book.tally l.book.pool.now l.here l.book.tally l.last l.count;
    }

abbrev pub decreases-loop-close : goal.decreases-loop-close
decreases-loop-close l = length l.text - l.here.offset
