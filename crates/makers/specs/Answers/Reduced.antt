-- How many operators are left, the oldest ones, and the answer; none are left where it is refused. Assumes nothing.
use Rattle.std.specs.Prelude.{ℕ, Result, Ok, Err}
use Rattle.characters.specs.declared.place.Place.{Place}
use Rattle.characters.specs.declared.refusal.Refused.{Refused}
use Rattle.reading.specs.declared.tally.Tally.{Tally}
use Rattle.reading.specs.Gots as gots

pub record Reduced : Type 0 where
  pub len : ℕ
  pub got : gots.Got

-- what the code answers at a place, with the tally that it leaves
abbrev pub reduced_by : Place → Result ℕ Refused → Tally → Reduced
reduced_by p (Ok n) u = record { len = n; got = gots.Read p u }
reduced_by p (Err e) u = record { len = 0; got = gots.Refused e.refusal e.at u }
