-- What a reader of a unit answers: read up to a place, or refused there; either with the tally reached. No node crosses a call. What was
-- read is the last record made: its number is the count of records, and the pool holds the rest. Assumes nothing.
use Rattle.std.specs.Prelude.{Result, Ok, Err}
use Rattle.characters.specs.declared.place.Place.{Place}
use Rattle.characters.specs.declared.refusal.Refusal.{Refusal}
use Rattle.characters.specs.declared.refusal.Refused.{Refused as Refusing}
use Rattle.reading.specs.declared.tally.Tally.{Tally}

pub data Got : Type 0 where
  Read : Place → Tally → Got
  Refused : Refusal → Place → Tally → Got

-- The answer of code that has read up to a place, or a refusal; and the tally that it leaves.
abbrev pub got_of : Result Place Refusing → Tally → Got
got_of (Ok p) u = Read p u
got_of (Err e) u = Refused e.refusal e.at u
