-- WHAT THE READERS OF CLASSES AND OF THE UNIT'S ITEMS OWE, where it is more than the reading by a rule. Assumes nothing.
use Rattle.std.specs.Prelude.{◌≡◌, true, false, List, ℕ, ◌≤◌, Ok, Result}
use Rattle.characters.specs.declared.place.Place.{Place}
use Rattle.characters.specs.declared.refusal.Refusal.{Refusal}
use Rattle.characters.specs.declared.refusal.Refused as struct
use Rattle.characters.specs.Text.{Text, on_by}
use Rattle.reading.specs.declared.node.Node.{Node}
use Rattle.reading.specs.declared.tally.Tally.{Tally}
use Rattle.reading.specs.Gots.{Got, Read, Refused, got_of}
use Rattle.reading.specs.Outs as out
use Rattle.reading.specs.Says.{Does}
use Rattle.records.specs.declared.book.Book.{Book}
use Rattle.records.specs.Rows.{layout}
use Rattle.grammar.specs.declared.heads.ItemHead.{ItemHead}
use Rattle.grammar.specs.declared.heads.ItemHead.TheVariants.{Class, Statement}
use Rattle.grammar.specs.Expressions.{Rule}
use Rattle.grammar.specs.Units.{Declared, is_function, is_constant, declared_name, declares, unit_item_p, item_as}
use Rattle.grammar.specs.Grammar.{grammar}
use Rattle.grammar.specs.Reads.{Ready, EndsBy, Reads}
use Rattle.makers.specs.declared.names.Naming.TheVariants.{Functions, Classes}
use Rattle.makers.specs.Duties.{last_of}
use Rattle.makers.specs.Names.{names_of, Well, Method}
use Rattle.readers.specs.declared.cycle.Reader.{Reader}
use Rattle.unit.specs.declared.items.Role.{Role}
use Rattle.unit.specs.declared.items.Role.TheVariants.{Function, Constant, Other}

-- ---- methods

-- a method: its rule and the methods then; and it moves on
pub record MethodRead (s : Text) (cap comps left last : ℕ) (at : Place) (t : Tally) (r : Got) (before later : List ℕ) : Type 0 where
  pub method : Method s cap comps left last at t r before later
  pub moves : EndsBy s (on_by 1 at) r

abbrev pub ReadingMethod : Reader → Book → ℕ → ℕ → Place → Result Place struct.Refused → Book → Type 0
ReadingMethod r old left last at res new =
    MethodRead r.text.now r.cap r.comps left last at old.tally (got_of res new.tally) old.pool.now new.pool.now

-- ---- items of the unit

-- what the items from `last` back declare, as the pool alone gives it, and the next global number
abbrev pub declared_at : List ℕ → ℕ → ℕ → Declared
declared_at pool last globals = record { funs = names_of Functions pool last; classes = names_of Classes pool last; globals = globals }

-- what the reader of an item is called with
pub record WellDeclared (pool : List ℕ) (t : Tally) (last : ℕ) : Type 0 where
  pub funs : Well Functions pool t last
  pub classes : Well Classes pool t last

-- what a statement declares, as the code tells it apart
abbrev pub role_in : Node → Role
role_in x = elim (is_function x) [ true ↦ Function (declared_name x) | false ↦ elim (is_constant x) [ true ↦ Constant | false ↦ Other ] ]

-- the item of the statement that is the last record: its rule, and what is declared then. Each global number is given with a record
pub record ItemMade (s : Text) (cap comps last globals : ℕ) (at : Place) (t : Tally) (r : Got) (next : ℕ) (before later : List ℕ) : Type 0 where
  pub reads : (left : ℕ) → Reads s cap comps left at t (unit_item_p s (declared_at before last globals) (last_of before t) last at) r before later
  pub declared : {p : Place} {u : Tally} → r ≡ Read p u
      → declared_at later u.records next ≡ declares (last_of before t) (declared_at before last globals)
  pub well : {p : Place} {u : Tally} → r ≡ Read p u → WellDeclared later u u.records
  pub few : {p : Place} {u : Tally} → r ≡ Read p u → globals ≤ t.records → next ≤ u.records

-- how the unit's rule goes on after an item
abbrev pub Again : Type 0
Again = Declared → ℕ → Place → Rule

-- ITEMED: what the reader of an item owes, whatever the unit's rule goes on to do. All that the rule knows of what is declared stands in the
-- pool before and after
pub record Itemed (s : Text) (cap comps left last globals : ℕ) (head : ItemHead) (from : Place) (t : Tally) (r : Got) (next : ℕ) (before later : List ℕ) : Type 0 where
  pub stops : (unit : Place) (again : Again) {k : Refusal} {p : Place} {u : Tally} → r ≡ Refused k p u
      → Does layout (grammar s) cap comps left t (item_as s unit (declared_at before last globals) last (Ok head) again) (out.Refused k p u) before later
  pub goes : (unit : Place) (again : Again) {p : Place} {u : Tally} → r ≡ Read p u → {a : out.Out} {after : List ℕ}
      → Does layout (grammar s) cap comps left u (again (declared_at later u.records next) u.records p) a later after
      → Does layout (grammar s) cap comps left t (item_as s unit (declared_at before last globals) last (Ok head) again) a before after
  pub well : {p : Place} {u : Tally} → r ≡ Read p u → WellDeclared later u u.records
  pub few : {p : Place} {u : Tally} → r ≡ Read p u → globals ≤ t.records → next ≤ u.records
  pub ready : {p : Place} {u : Tally} → r ≡ Read p u → Ready s later cap p u
  pub ends : EndsBy s from r

-- the same of a class, whose item has no global number
pub record ClassItemed (s : Text) (cap comps left last : ℕ) (from at : Place) (t : Tally) (r : Got) (before later : List ℕ) : Type 0 where
  pub itemed : (globals : ℕ) → Itemed s cap comps left last globals (Class from at) at t r globals before later

-- ---- the same of a book

-- what the items from `last` back declare is what a reader of an item is called with
abbrev pub IsDeclared : Book → ℕ → Type 0
IsDeclared b last = WellDeclared b.pool.now b.tally last

abbrev pub MakingItem : Reader → Book → ℕ → ℕ → Place → Result Place struct.Refused → ℕ → Book → Type 0
MakingItem r old last globals at res next new =
    ItemMade r.text.now r.cap r.comps last globals at old.tally (got_of res new.tally) next old.pool.now new.pool.now

abbrev pub ReadingStatement : Reader → Book → ℕ → ℕ → ℕ → Place → Result Place struct.Refused → ℕ → Book → Type 0
ReadingStatement r old left last globals at res next new =
    Itemed r.text.now r.cap r.comps left last globals (Statement at) (on_by 1 at) old.tally (got_of res new.tally) next old.pool.now new.pool.now

abbrev pub ReadingClass : Reader → Book → ℕ → ℕ → Place → Place → Result Place struct.Refused → Book → Type 0
ReadingClass r old left last from at res new =
    ClassItemed r.text.now r.cap r.comps left last from at old.tally (got_of res new.tally) old.pool.now new.pool.now
