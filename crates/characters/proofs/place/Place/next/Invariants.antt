-- `Place::next` steps over one character: its first byte, then the tails. Assumes nothing.
use Rattle.std.proofs.Common.{◌-◌, length}
use Rattle.characters.proofs.Places.{Tailing}
use Rattle.characters.proofs.place.Place.next.Given as goal

abbrev pub invariant-loop-p : goal.invariant-loop-p
invariant-loop-p l = Tailing l.text l.initial.p l.p

abbrev pub decreases-loop-p : goal.decreases-loop-p
decreases-loop-p l = length l.text - l.p.offset
