-- A part that may be left out: its record or 0, or a refusal; with the tally reached. Assumes nothing.
use Rattle.std.specs.Prelude.{ℕ, Result, Ok, Err}
use Rattle.characters.specs.declared.place.Place.{Place}
use Rattle.characters.specs.declared.refusal.Refusal.{Refusal}
use Rattle.characters.specs.declared.refusal.Refused as struct
use Rattle.reading.specs.declared.tally.Tally.{Tally}
use Rattle.makers.specs.declared.answers.Part as code

pub data Part : Type 0 where
  Read : Place → ℕ → Tally → Part
  Refused : Refusal → Place → Tally → Part

-- what the code answers, with the tally that it leaves
abbrev pub part_by : Result code.Part struct.Refused → Tally → Part
part_by (Ok p) u = Read p.at p.number u
part_by (Err e) u = Refused e.refusal e.at u
