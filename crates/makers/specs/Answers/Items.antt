-- A list: its last item and how many there are, or a refusal; with the tally reached. Assumes nothing.
use Rattle.std.specs.Prelude.{ℕ, Result, Ok, Err}
use Rattle.characters.specs.declared.place.Place.{Place}
use Rattle.characters.specs.declared.refusal.Refusal.{Refusal}
use Rattle.characters.specs.declared.refusal.Refused as struct
use Rattle.reading.specs.declared.tally.Tally.{Tally}
use Rattle.makers.specs.declared.answers.Items as code

pub data Items : Type 0 where
  Read : Place → ℕ → ℕ → Tally → Items
  Refused : Refusal → Place → Tally → Items

-- what the code answers, with the tally that it leaves
abbrev pub items_by : Result code.Items struct.Refused → Tally → Items
items_by (Ok i) u = Read i.at i.last i.count u
items_by (Err e) u = Refused e.refusal e.at u
