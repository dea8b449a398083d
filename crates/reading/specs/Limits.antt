-- The limits of a reading, what it is for an event to be over one, and a reading CUT at the first event that is. Assumes nothing.
use Rattle.std.specs.Prelude.{ℕ, List, [], ◌∷◌, Bool, true, false, ltb, leb}
use Rattle.characters.specs.declared.place.Place.{Place}
use Rattle.reading.specs.declared.tally.Tally.{Tally}
use Rattle.reading.specs.Events.{Event, entered, recorded, compared, numbered, Which, levels, records, comparisons, End, Crossed, Outcome, ended, cons, step}

-- A limit on records or comparisons; the unlimited reading has none.
pub data Bound : Type 0 where
  upto : ℕ → Bound
  none : Bound

-- The limits of a call. The nesting limit is a number in every reading: it is what the recursion is measured by.
pub record Limits : Type 0 where
  pub levels : ℕ
  pub records : Bound
  pub comparisons : Bound

-- The limits of a call: nesting limit, record limit, comparison limit.
abbrev pub limited : ℕ → ℕ → ℕ → Limits
limited nest cap comps = record { levels = nest; records = upto cap; comparisons = upto comps }

-- No limit but this many levels.
abbrev pub free : ℕ → Limits
free n = record { levels = n; records = none; comparisons = none }

-- Is there room for one more?
unfoldable pub room : Bound → ℕ → Bool
room (upto n) k = ltb k n
room none k = true

-- An event goes on, or is over a limit at its place.
pub data Verdict : Type 0 where
  goes : Verdict
  over : Which → Place → Verdict

unfoldable pub verdict : Bool → Which → Place → Verdict
verdict true w p = goes
verdict false w p = over w p

-- 5, 6, 7: "one more level, record or comparison would pass its limit".
unfoldable pub judge : Limits → Tally → Event → Verdict
unfolding verdict room
judge L t (entered n p) = verdict (leb n L.levels) levels p
judge L t (recorded r p) = verdict (room L.records t.records) records p
judge L t (compared p) = verdict (room L.comparisons t.comparisons) comparisons p
judge L t (numbered p) = goes

unfoldable pub judged : Verdict → Event → Outcome → Outcome
judged goes e o = cons e o
judged (over w p) e o = ended (Crossed w p)

-- An event and what follows it, unless the event is over a limit.
unfoldable pub guarded : Limits → Tally → Event → Outcome → Outcome
unfolding judged judge
guarded L t e o = judged (judge L t e) e o

unfoldable pub cutting : Limits → Tally → End → List Event → Outcome
unfolding guarded step
cutting L t end [] = ended end
cutting L t end (e ∷ es) = guarded L t e (cutting L (step e t) end es)

-- CUT: a reading, stopped at the first event that is over a limit.
unfoldable pub cut : Limits → Tally → Outcome → Outcome
unfolding cutting
cut L t o = cutting L t o.end o.events
