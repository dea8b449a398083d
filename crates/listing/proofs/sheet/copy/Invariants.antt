-- `copy` puts byte after byte. What is left to copy leads to the whole. Assumes nothing.
use Rattle.std.proofs.Common.{drop}
use Rattle.listing.specs.Sheets.{sheet}
use Rattle.listing.specs.Laws.Sheets.{Going}
use Rattle.listing.proofs.sheet.copy.Given as goal

abbrev pub invariant-loop-b : goal.invariant-loop-b
invariant-loop-b l = Going (drop l.b-index l.bytes) l.bytes (sheet l.initial.out l.at) (sheet l.out l.next)
