-- `pairs` prints byte after byte. What is left of the bytearray leads to the whole; each step leaves less of it. Assumes nothing.
use Rattle.std.proofs.Common.{◌-◌, length}
use Rattle.listing.specs.Laws.Texts.{Printing, pairs_from}
use Rattle.listing.specs.Sheets.{sheet}
use Rattle.listing.proofs.texts.pairs.Given as goal

abbrev pub invariant-loop-seen : goal.invariant-loop-seen
invariant-loop-seen l = Printing l.text (pairs_from l.text l.initial.p) (sheet l.initial.out l.at) (sheet l.out l.next) l.mode l.last l.p

abbrev pub decreases-loop-seen : goal.decreases-loop-seen
decreases-loop-seen l = length l.text - l.p.offset
