-- The words in which the theorems are stated: limits no lower than others, what a second reading keeps of a first, the first event
-- over a limit, and counts within their limits. Assumes nothing.
use Rattle.std.specs.Prelude.{◌≡◌, List, [], ◌∷◌, ◌++◌, Bool, true, false, ℕ, ◌+◌, ◌≤◌, length}
use Rattle.characters.specs.declared.place.Place.{Place}
use Rattle.reading.specs.declared.tally.Tally.{Tally}
use Rattle.reading.specs.Events.{Rec, Earlier, Event, Which, End, Done, Stop, Crossed, Spent, Outcome, records_of, comparisons_of, deepest, start, step, steps}
use Rattle.reading.specs.Limits.{Bound, upto, none, Limits, goes, over, judge}

-- A bound that is no lower.
infix 50 ◌⊑◌
abbrev pub ◌⊑◌ : Bound → Bound → Type 0
upto a ⊑ upto b = a ≤ b
upto a ⊑ none = Unit
none ⊑ upto b = ⊥
none ⊑ none = Unit

-- Two sets of limits, the second's each at least the first's.
pub record Below (L L' : Limits) : Type 0 where
  pub levels : L.levels ≤ L'.levels
  pub records : L.records ⊑ L'.records
  pub comparisons : L.comparisons ⊑ L'.comparisons

-- Refused by a limit: 5, 6 or 7.
abbrev pub by_limit : End → Bool
by_limit (Done p n) = false
by_limit (Stop k p) = false
by_limit (Crossed w p) = true
by_limit (Spent p) = false

-- The first list opens the second.
abbrev pub Opens : {A : Type 0} → List A → List A → Type 0
Opens {A} xs ys = (more : List A) × (ys ≡ xs ++ more)

-- What a second reading keeps of a first.
pub record Grows (o o' : Outcome) : Type 0 where
  pub same : by_limit o.end ≡ false → o ≡ o'  -- an answer that no limit gave never changes
  pub opens : Opens (records_of o.events) (records_of o'.events)  -- the first's records open the second's
  pub no_fewer_records : length (records_of o.events) ≤ length (records_of o'.events)
  pub no_fewer_comparisons : comparisons_of o.events ≤ comparisons_of o'.events
  pub no_shallower : deepest o.events ≤ deepest o'.events

-- Every event is within the limits.
abbrev pub Inside : Limits → Tally → List Event → Type 0
Inside L t [] = Unit
Inside L t (e ∷ es) = (judge L t e ≡ goes) × Inside L (step e t) es

-- The first event over a limit is over this one, at this place: no event before it is over any.
pub record Crosses (L : Limits) (t : Tally) (es : List Event) (w : Which) (p : Place) : Type 0 where
  pub before : List Event
  pub event : Event
  pub rest : List Event
  pub split : es ≡ before ++ (event ∷ rest)
  pub inside : Inside L t before
  pub crossing : judge L (steps before t) event ≡ over w p

-- A count that does not pass its limit.
abbrev pub AtMost : ℕ → Bound → Type 0
AtMost k (upto n) = k ≤ n
AtMost k none = Unit

-- The counts of a reading: the tally that the code carries holds them, and none passes its limit.
pub record Counted (L : Limits) (o : Outcome) : Type 0 where
  pub records : (steps o.events start).records ≡ length (records_of o.events)
  pub comparisons : (steps o.events start).comparisons ≡ comparisons_of o.events
  pub records_within : AtMost (length (records_of o.events)) L.records
  pub comparisons_within : AtMost (comparisons_of o.events) L.comparisons
  pub levels_within : deepest o.events ≤ L.levels

-- Each record refers only to earlier ones; so many stand before the first of the list.
abbrev pub AllEarlier : ℕ → List Rec → Type 0
AllEarlier made [] = Unit
AllEarlier made (r ∷ rs) = Earlier made r.fields × AllEarlier (made + 1) rs
