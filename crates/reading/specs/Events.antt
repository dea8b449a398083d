-- What happens in a reading: the records it makes, its events, its ending, and the counts that are read off its events.
-- Nothing here knows a grammar. Assumes nothing.
use Rattle.std.specs.Prelude.{ℕ, suc, ◌+◌, ◌≤◌, max, List, [], ◌∷◌}
use Rattle.characters.specs.declared.place.Place.{Place}
use Rattle.characters.specs.declared.refusal.Refusal.{Refusal}
use Rattle.reading.specs.declared.node.Node.{Node}
use Rattle.reading.specs.declared.tally.Tally.{Tally}

-- A field of a record: a plain word, or the number of a record (0: none).
pub data Field : Type 0 where
  word : ℕ → Field
  ref : ℕ → Field

-- A record of the tree. Its kinds and the meaning of its fields are the grammar's affair.
pub record Rec : Type 0 where
  pub kind : ℕ
  pub position : Place
  pub fields : List Field

-- "A record refers only to earlier ones": each reference is to one of the records made before.
abbrev pub Earlier : ℕ → List Field → Type 0
Earlier made [] = Unit
Earlier made (word k ∷ fs) = Earlier made fs
Earlier made (ref k ∷ fs) = (k ≤ made) × Earlier made fs

-- What happens in a reading, each with the place reached: there a limit would refuse it.
pub data Event : Type 0 where
  entered : ℕ → Place → Event  -- a level, counted from 1; "the level is 0 outside"
  recorded : Rec → Place → Event  -- a record
  compared : Place → Event  -- a comparison of two names
  numbered : Place → Event  -- an id given out, which no limit refuses

-- The three limits of a reading, behind refusals 5, 6 and 7.
pub data Which : Type 0 where
  levels : Which
  records : Which
  comparisons : Which

-- How a reading ends.
pub data End : Type 0 where
  Done : Place → Node → End  -- read, up to this place
  Stop : Refusal → Place → End  -- refused by a rule
  Crossed : Which → Place → End  -- refused by a limit
  Spent : Place → End  -- a loop of a rule ran out of turns; no grammar that suits ends so

-- A reading: its ending, and the events before it.
pub record Outcome : Type 0 where
  pub end : End
  pub events : List Event

-- An ending with nothing before it.
abbrev pub ended : End → Outcome
ended e = record { end = e; events = [] }

-- One event more, in front.
abbrev pub cons : Event → Outcome → Outcome
cons e o = record { end = o.end; events = e ∷ o.events }

-- The records made, in their order: record 1 stands first.
unfoldable pub records_of : List Event → List Rec
records_of [] = []
records_of (entered n p ∷ es) = records_of es
records_of (recorded r p ∷ es) = r ∷ records_of es
records_of (compared p ∷ es) = records_of es
records_of (numbered p ∷ es) = records_of es

-- The number of comparisons made.
unfoldable pub comparisons_of : List Event → ℕ
comparisons_of [] = 0
comparisons_of (entered n p ∷ es) = comparisons_of es
comparisons_of (recorded r p ∷ es) = comparisons_of es
comparisons_of (compared p ∷ es) = suc (comparisons_of es)
comparisons_of (numbered p ∷ es) = comparisons_of es

-- The deepest level entered, 0 where none was.
unfoldable pub deepest : List Event → ℕ
deepest [] = 0
deepest (entered n p ∷ es) = max n (deepest es)
deepest (recorded r p ∷ es) = deepest es
deepest (compared p ∷ es) = deepest es
deepest (numbered p ∷ es) = deepest es

-- The tally that a reading begins with: nothing made, nothing compared, no id given out.
abbrev pub start : Tally
start = record { records = 0; comparisons = 0; ids = 0 }

-- One more record, one more comparison, one more id.
abbrev pub with_record : Tally → Tally
with_record t = record { records = t.records + 1; comparisons = t.comparisons; ids = t.ids }

abbrev pub with_comparison : Tally → Tally
with_comparison t = record { records = t.records; comparisons = t.comparisons + 1; ids = t.ids }

abbrev pub with_id : Tally → Tally
with_id t = record { records = t.records; comparisons = t.comparisons; ids = t.ids + 1 }

-- The tally after an event.
unfoldable pub step : Event → Tally → Tally
step (entered n p) t = t
step (recorded r p) t = with_record t
step (compared p) t = with_comparison t
step (numbered p) t = with_id t

-- The tally after several.
unfoldable pub steps : List Event → Tally → Tally
unfolding step
steps [] t = t
steps (e ∷ es) t = steps es (step e t)
