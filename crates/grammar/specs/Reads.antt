-- What the readers of a unit owe, which hand on no node: what was read is the last record made. Assumes nothing.
use Rattle.std.specs.Prelude.{List, ℕ, ◌≤◌, length}
use Rattle.characters.specs.declared.place.Place.{Place}
use Rattle.characters.specs.Text.{Text, Stands}
use Rattle.characters.specs.PlaceLaws.{Reached}
use Rattle.reading.specs.declared.tally.Tally.{Tally}
use Rattle.reading.specs.Gots.{Got, Read, Refused}
use Rattle.reading.specs.Process.{Process}
use Rattle.reading.specs.Says.{Does}
use Rattle.records.specs.Rows.{Lent, layout}
use Rattle.records.specs.Nodes.{out_of}
use Rattle.grammar.specs.Expressions.{Routine}
use Rattle.grammar.specs.Grammar.{grammar}

-- what a reader is called with: a text of at most 65,535 bytes, a pool lent with room for `cap` records, a place in the text, and no more
-- records made than there is room for. Each id is followed at once by its record, so no more ids were given out than records made
pub record Ready (s pool : List ℕ) (cap : ℕ) (at : Place) (t : Tally) : Type 0 where
  pub short : length s ≤ 65535
  pub small : cap ≤ 65535
  pub lent : Lent pool cap
  pub stands : Stands s at
  pub room : t.records ≤ cap
  pub ids : t.ids ≤ t.records

-- where what was read ends: at `from` or further on in the text, with a record made, and again no more ids than records
pub record Ends (s : Text) (from p : Place) (u : Tally) : Type 0 where
  pub reached : Reached s from p
  pub made : 1 ≤ u.records
  pub ids : u.ids ≤ u.records

abbrev pub EndsBy : Text → Place → Got → Type 0
EndsBy s from (Read p u) = Ends s from p u
EndsBy s from (Refused k p u) = Unit

-- THE CONTRACT of a reader: its rule, run by the calculus over the whole grammar, determines the answer and every word of the pool. `from`
-- is what the answer has reached, the reader's place or one past it (`on_by 1`) where it moves on
pub record Reads (s : Text) (cap comps left : ℕ) (from : Place) (t : Tally) (P : Process Routine) (r : Got) (before later : List ℕ) : Type 0 where
  pub does : Does layout (grammar s) cap comps left t P (out_of later r) before later
  pub ends : EndsBy s from r
