-- What a reader is called with, and what it owes, where it isn't `Reads` of the grammar's specs alone. Assumes nothing.
use Rattle.std.specs.Prelude.{Bool, ◌||◌, List, ℕ, zero, suc, ◌≤◌, eqb, Result, Ok, Err}
use Rattle.characters.specs.declared.place.Place.{Place}
use Rattle.characters.specs.declared.refusal.Refusal.TheVariants.{ExpectedToken}
use Rattle.characters.specs.declared.refusal.Refused as struct
use Rattle.characters.specs.Answers.{Must}
use Rattle.characters.specs.Text.{Text}
use Rattle.characters.specs.PlaceLaws.{Reached}
use Rattle.reading.specs.declared.node.Node.{Node}
use Rattle.reading.specs.declared.tally.Tally.{Tally}
use Rattle.reading.specs.Gots.{Got, Refused, got_of}
use Rattle.reading.specs.Outs.{Out}
use Rattle.reading.specs.Outs as out
use Rattle.reading.specs.Process.{Process, plain}
use Rattle.reading.specs.Says.{Does}
use Rattle.records.specs.declared.book.Book.{Book}
use Rattle.records.specs.declared.kind.Kind.TheVariants as kinds
use Rattle.records.specs.Kinds.{number_of}
use Rattle.records.specs.Rows.{Lent, layout}
use Rattle.records.specs.Nodes.{node_at}
use Rattle.grammar.specs.Expressions.{Routine, list_node}
use Rattle.grammar.specs.Grammar.{grammar}
use Rattle.grammar.specs.Reads.{Ready, Reads}
use Rattle.makers.specs.Answers.Items.{Items, items_by}
use Rattle.makers.specs.Answers.Items as items
use Rattle.makers.specs.Answers.Part.{Part}
use Rattle.makers.specs.Answers.Part as part
use Rattle.makers.specs.declared.answers.Items as code

-- ---- what goes on from the last record made

-- what such a reader is called with
pub record Begun (s pool : List ℕ) (cap : ℕ) (at : Place) (t : Tally) : Type 0 where
  pub ready : Ready s pool cap at t
  pub some : 1 ≤ t.records

-- the node that it goes on from
abbrev pub last_of : List ℕ → Tally → Node
last_of pool t = node_at pool t.records

-- ---- rules that call no routine

-- what makes records and reads no text is called with this,
pub record Room (pool : List ℕ) (cap : ℕ) (t : Tally) : Type 0 where
  pub small : cap ≤ 65535
  pub lent : Lent pool cap
  pub room : t.records ≤ cap
  pub ids : t.ids ≤ t.records

-- and its contract holds of every text, at every level and under every limit of comparisons
pub record Acts (cap : ℕ) (at : Place) (t : Tally) (P : Process Routine) (r : Got) (before later : List ℕ) : Type 0 where
  pub reads : (s : Text) → Ready s before cap at t → (comps left : ℕ) → Reads s cap comps left at t P r before later

-- the same of a reader of this text; `from` is what its answer has reached
pub record Alone (s : Text) (cap : ℕ) (from : Place) (t : Tally) (P : Process Routine) (r : Got) (before later : List ℕ) : Type 0 where
  pub reads : (comps left : ℕ) → Reads s cap comps left from t P r before later

-- ---- the same of a book: what it has room for, the node of its last record, and what is owed from the book that was to the book that is

abbrev pub HasRoom : Book → ℕ → Type 0
HasRoom b cap = Room b.pool.now cap b.tally

abbrev pub last_in : Book → Node
last_in b = last_of b.pool.now b.tally

abbrev pub Acting : ℕ → Place → Book → Process Routine → Result Place struct.Refused → Book → Type 0
Acting cap at old P r new = Acts cap at old.tally P (got_of r new.tally) old.pool.now new.pool.now

abbrev pub ActingAlone : Text → ℕ → Place → Book → Process Routine → Result Place struct.Refused → Book → Type 0
ActingAlone s cap from old P r new = Alone s cap from old.tally P (got_of r new.tally) old.pool.now new.pool.now

-- a token that had to be there and is not
abbrev pub refused_by : Must → Tally → Got
refused_by (Ok k) t = Refused ExpectedToken k.next t
refused_by (Err e) t = Refused e.refusal e.at t

-- "Targets are names, members, indexes": by the kind's number
abbrev pub target_kind : ℕ → Bool
target_kind k = eqb k (number_of kinds.Name) || eqb k (number_of kinds.Member) || eqb k (number_of kinds.Index)

-- ---- answers that are not the last record

-- where they end
pub record Comes (s : Text) (from p : Place) (u : Tally) : Type 0 where
  pub reached : Reached s from p
  pub ids : u.ids ≤ u.records

-- a list: its last item, and how many there are
abbrev pub items_of : Items → Out
items_of (items.Read p last count u) = out.Read p (list_node last count p) u
items_of (items.Refused k p u) = out.Refused k p u

abbrev pub ItemsBy : Text → Place → Items → Type 0
ItemsBy s from (items.Read p last count u) = Comes s from p u
ItemsBy s from (items.Refused k p u) = Unit

-- THE CONTRACT of a reader of lists
pub record Lists (s : Text) (cap comps left : ℕ) (from : Place) (t : Tally) (P : Process Routine) (r : Items) (before later : List ℕ) : Type 0 where
  pub does : Does layout (grammar s) cap comps left t P (items_of r) before later
  pub ends : ItemsBy s from r

-- and of one whose rule calls no routine
pub record ListsAlone (s : Text) (cap comps : ℕ) (from : Place) (t : Tally) (P : Process Routine) (r : Items) (before later : List ℕ) : Type 0 where
  pub lists : (left : ℕ) → Lists s cap comps left from t P r before later

-- the same of a book
abbrev pub Listing : Text → ℕ → ℕ → Place → Book → Process Routine → Result code.Items struct.Refused → Book → Type 0
Listing s cap comps from old P r new = ListsAlone s cap comps from old.tally P (items_by r new.tally) old.pool.now new.pool.now

-- a part that may be left out: 0 is none
abbrev pub part_at : List ℕ → Place → ℕ → Node
part_at pool p zero = plain 0 p
part_at pool p (suc n) = node_at pool (suc n)

abbrev pub part_of : List ℕ → Part → Out
part_of pool (part.Read p number u) = out.Read p (part_at pool p number) u
part_of pool (part.Refused k p u) = out.Refused k p u

abbrev pub PartBy : Text → Place → Part → Type 0
PartBy s from (part.Read p number u) = Comes s from p u
PartBy s from (part.Refused k p u) = Unit

-- THE CONTRACT of a reader of such a part
pub record Parts (s : Text) (cap comps left : ℕ) (from : Place) (t : Tally) (P : Process Routine) (r : Part) (before later : List ℕ) : Type 0 where
  pub does : Does layout (grammar s) cap comps left t P (part_of later r) before later
  pub ends : PartBy s from r
