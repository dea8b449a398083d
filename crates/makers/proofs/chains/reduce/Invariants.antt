-- `reduce` goes with the rule, one binary at a time. Assumes nothing.
use Rattle.std.proofs.Common.{◌≡◌}
use Rattle.makers.proofs.Reducing.{Reducing}
use Rattle.makers.proofs.chains.reduce.Given as goal

abbrev pub invariant-loop-len : goal.invariant-loop-len
invariant-loop-len l =
    record {
      lent : l.book.pool.ghost_name ≡ l.initial.book.pool.ghost_name;
      turns : Reducing l.cap l.new l.at l.chain l.initial.book.pool.now l.initial.book.tally l.book.pool.now l.len l.book.tally;
    }

abbrev pub decreases-loop-len : goal.decreases-loop-len
decreases-loop-len l = l.len
