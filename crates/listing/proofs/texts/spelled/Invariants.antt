-- `spelled` prints character after character. What is left to spell leads to the whole; each turn leaves less of it. Assumes nothing.
use Rattle.std.proofs.Common.{◌-◌, ◌≤◌, length}
use Rattle.listing.specs.Laws.Sheets.{Going}
use Rattle.listing.specs.Listing.{characters}
use Rattle.listing.specs.Sheets.{sheet}
use Rattle.literals.specs.SpellingLaws.{decoded_from}
use Rattle.listing.proofs.texts.spelled.Given as goal

abbrev pub invariant-loop-found : goal.invariant-loop-found
invariant-loop-found l = Going (characters (decoded_from l.inner l.i)) (characters (decoded_from l.inner 0)) (sheet l.initial.out l.at) (sheet l.out l.next) × (l.i ≤ length l.inner)

abbrev pub decreases-loop-found : goal.decreases-loop-found
decreases-loop-found l = length l.inner - l.i
