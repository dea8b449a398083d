-- `words_from` counts spaces. So many words are still to pass. Assumes nothing.
use Rattle.listing.specs.Laws.Words.{Passing}
use Rattle.listing.proofs.fields.words_from.Given as goal

abbrev pub invariant-loop-i : goal.invariant-loop-i
invariant-loop-i l = Passing l.words l.n l.left l.i
