-- `spelled` prints character after character. What is left to spell leads to the whole; each turn leaves less of it. Assumes nothing.
use Rattle.std.proofs.Common.{arith}
use Rattle.listing.specs.Laws.Texts.{spelled_on, spelled_end}
use Rattle.listing.specs.Laws.Sheets.{going_on, going_end}
use Rattle.literals.specs.SpellingLaws.{piece_inside}
use Rattle.listing.proofs.texts.spelled.Goals as goal

pub loop-found-smaller : goal.loop-found-smaller
loop-found-smaller c = let z = piece_inside _ _ _ c.in-Some.ensures in omega arith

pub loop-found-preserved : goal.loop-found-preserved
loop-found-preserved c = (going_on c.loop-found.invariant.0 c.character-next.ensures (spelled_on _ _ _ c.in-Some.ensures) c.character-next.auto.out, (piece_inside _ _ _ c.in-Some.ensures).1)

pub returns : goal.returns
returns c = going_end c.loop-found.invariant.0 (spelled_end _ _ c.in_default.ensures)
