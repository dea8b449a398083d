-- A public entry over any grammar: refusals 1, 2 and 3 before reading, then the reading. Assumes nothing.
use Rattle.std.specs.Prelude.{Bool, true, false, ◌&&◌, leb}
use Rattle.characters.specs.declared.place.Place.{Place}
use Rattle.characters.specs.declared.refusal.Refusal.TheVariants.{TooLong, BadNesting, NotUtf8}
use Rattle.reading.specs.Events.{Stop, Outcome, ended}
use Rattle.reading.specs.Limits.{Limits}
use Rattle.reading.specs.Process.{Process, Grammar, reading}

-- What is looked at before reading.
pub record Opening : Type 0 where
  pub short : Bool  -- "text is at most 65,535 bytes"
  pub sound : Bool  -- the text is UTF-8
  pub prefix : Place  -- the place after its well-formed prefix

-- "nesting limit (1 to 256)"
abbrev pub permitted : Limits → Bool
permitted L = leb 1 L.levels && leb L.levels 256

-- 0:0
abbrev pub nowhere : Place
nowhere = record { offset = 0; line = 0; column = 0 }

-- "1, 2, 3 are checked in that order, before reading, with both counts 0."
abbrev pub gated : Bool → Bool → Bool → Place → Outcome → Outcome
gated false n u q o = ended (Stop TooLong nowhere)
gated true false u q o = ended (Stop BadNesting nowhere)
gated true true false q o = ended (Stop NotUtf8 q)
gated true true true q o = o

-- A call whose reading is this one.
abbrev pub opened : Opening → Limits → Outcome → Outcome
opened o L = gated o.short (permitted L) o.sound o.prefix

-- What a call answers: a function of every text and every set of limits.
unfoldable pub entry : {N : Type 0} → Grammar N → Process N → Opening → Limits → Outcome
entry G P o L = opened o L (reading G L P)
