-- `walk` ends: the place stands in the text, and what is left of the text falls. Assumes nothing.
use Rattle.std.proofs.Common.{◌-◌, ◌≡◌, length}
use Rattle.characters.specs.Text.{Stands}
use Rattle.characters_cases.proofs.walk.Given as goal

abbrev pub invariant-loop-p : goal.invariant-loop-p
invariant-loop-p l = (Stands l.text l.p) × (l.n ≡ length l.text)

abbrev pub decreases-loop-p : goal.decreases-loop-p
decreases-loop-p l = length l.text - l.p.offset
