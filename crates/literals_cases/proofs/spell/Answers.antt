-- `spell` ends: each character that a string spells leaves less of it. Assumes nothing.
use Rattle.std.proofs.Common.{arith}
use Rattle.literals.specs.SpellingLaws.{piece_inside}
use Rattle.literals_cases.proofs.spell.Goals as goal

pub loop-found-smaller : goal.loop-found-smaller
loop-found-smaller c = let h = piece_inside _ _ _ c.in-Some.ensures in omega (arith, h.0, h.1)

pub loop-found-preserved : goal.loop-found-preserved
loop-found-preserved c = (piece_inside _ _ _ c.in-Some.ensures).1
