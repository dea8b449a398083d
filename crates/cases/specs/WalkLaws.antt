-- What a walk over the text of a case ends by. Assumes nothing.
use Rattle.std.specs.Prelude.{◌-◌, ◌≤◌, ◌<◌, length}
use Rattle.std.proofs.Common.{arith}
use Rattle.characters.specs.declared.place.Place.{Place}
use Rattle.characters.specs.Text.{Text}
use Rattle.characters.specs.PlaceLaws.{Advanced}

-- a step further on leaves less of the text
pub less : {s : Text} {p q : Place} → Advanced s p q → length s - q.offset < length s - p.offset
less {s} {p} {q} h =
    let i : q.offset ≤ length s = h.stands.inside in
    let j : p.offset < q.offset = h.further in
    omega arith
