-- `prefix_place` steps over the bytes of the prefix, one by one. Assumes nothing.
use Rattle.std.proofs.Common.{◌≡◌, ◌-◌, ◌≤◌, take}
use Rattle.characters.specs.Text.{start}
use Rattle.characters.specs.Utf8.{place_after}
use Rattle.characters.proofs.utf8.prefix_place.Given as goal

abbrev pub invariant-loop-at : goal.invariant-loop-at
invariant-loop-at l = (l.at ≤ l.end) × (l.p ≡ place_after (take l.at l.text) start)

abbrev pub decreases-loop-at : goal.decreases-loop-at
decreases-loop-at l = l.end - l.at
