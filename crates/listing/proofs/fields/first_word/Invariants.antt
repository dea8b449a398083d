-- `first_word` puts byte after byte, up to a space. What is left of the word leads to the whole. Assumes nothing.
use Rattle.std.proofs.Common.{drop}
use Rattle.listing.specs.Laws.Words.{up_to_space}
use Rattle.listing.specs.Laws.Sheets.{Going}
use Rattle.listing.specs.Sheets.{sheet}
use Rattle.listing.proofs.fields.first_word.Given as goal

abbrev pub invariant-loop-b : goal.invariant-loop-b
invariant-loop-b l = Going (up_to_space (drop l.b-index l.words)) (up_to_space l.words) (sheet l.initial.out l.at) (sheet l.out l.next)
