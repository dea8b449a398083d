-- `part` lends the bytes between two offsets, as far as there are any. Assumes nothing.
use Rattle.literals.specs.SpellingLaws.{part_empty, part_long, part_past}
use Rattle.literals.proofs.strings.part.Goals as goal

pub returns-then-n-x : goal.returns-then-n-x
returns-then-n-x c = part_past _ _ _ c.if-n-x.true

pub returns-then-y-x : goal.returns-then-y-x
returns-then-y-x c = part_empty _ _ _ c.if-y-x.true

pub returns-then-n-y : goal.returns-then-n-y
returns-then-n-y c = part_long _ _ _ c.if-n-y.true
