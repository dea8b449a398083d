-- The rules of the unit, each headed by its production, and the entries: what a call answers to every text and limits. Assumes nothing.
use Rattle.std.specs.Prelude.{Bool, true, false, ◌&&◌, List, [], ◌∷◌, ℕ, zero, suc, ◌+◌, leb, eqb, length, Err, Ok, Result}
use Rattle.characters.specs.declared.place.Place.{Place}
use Rattle.characters.specs.declared.place.Span.{Span}
use Rattle.characters.specs.declared.refusal.Refusal.TheVariants.{LeadingFrom}
use Rattle.characters.specs.declared.refusal.Refused.{Refused}
use Rattle.characters.specs.Text.{Text, ascii, start}
use Rattle.characters.specs.Blanks.{file_start}
use Rattle.characters.specs.Tokens.{keyword}
use Rattle.characters.specs.Utf8.{well_formed, prefix_place}
use Rattle.reading.specs.declared.node.Node.{Node}
use Rattle.reading.specs.Events.{Outcome}
use Rattle.reading.specs.Limits.{Limits, limited}
use Rattle.reading.specs.Process.{stop, spent, make, fresh, call, test, look, bind, reading}
use Rattle.reading.specs.Entry.{nowhere, Opening, entry}
use Rattle.records.specs.declared.kind.Kind.TheVariants as kinds
use Rattle.records.specs.declared.row.Row.{Row}
use Rattle.records.specs.Rows.{record_of}
use Rattle.records.specs.Words.{span_of, low_of, high_of}
use Rattle.records.specs.Nodes.{constant, functional}
use Rattle.grammar.specs.declared.heads.ItemHead.TheVariants.{End, Class, Statement}
use Rattle.grammar.specs.declared.heads.ItemHead.{ItemHead}
use Rattle.grammar.specs.Leaves.{row_of}
use Rattle.grammar.specs.Heads.{item_of}
use Rattle.grammar.specs.Expressions.{Rule, statement, class, turns, is, stated_row}
use Rattle.grammar.specs.Functions.{new_name, block_row, fun_row}
use Rattle.grammar.specs.Grammar.{grammar}

-- what the unit has declared so far: names newest first, and the next global number
pub record Declared : Type 0 where
  pub funs : List Span
  pub classes : List Span
  pub globals : ℕ

-- what it has declared at its start
abbrev pub nothing : Declared
nothing = record { funs = []; classes = []; globals = 0 }

-- ---- item: class | statement

-- a `let` whose value is a function
abbrev pub is_function : Node → Bool
is_function x = is kinds.Let x && eqb (high_of x.value) functional

-- "Each unit-level `let` without `var`, unless its value is a function"
abbrev pub is_constant : Node → Bool
is_constant x = is kinds.Let x && eqb (high_of x.value) constant

-- its name
abbrev pub declared_name : Node → Span
declared_name x = span_of (low_of x.value)

-- one more function name, class name or global number
abbrev pub with_function : Span → Declared → Declared
with_function n d = record { funs = n ∷ d.funs; classes = d.classes; globals = d.globals }

abbrev pub with_class : Span → Declared → Declared
with_class n d = record { funs = d.funs; classes = n ∷ d.classes; globals = d.globals }

abbrev pub with_global : Declared → Declared
with_global d = record { funs = d.funs; classes = d.classes; globals = d.globals + 1 }

-- what is declared after a statement
unfoldable pub declares : Node → Declared → Declared
declares x d =
    elim (is_function x) [
      | true ↦ with_function (declared_name x) d
      | false ↦ elim (is_constant x) [ true ↦ with_global d | false ↦ d ]
    ]

-- "gets the next global number from 0"
abbrev pub global_row : Node → ℕ → ℕ → Row
global_row x last number = row_of kinds.Global nowhere x.number last number

-- a statement's item, after the tests on it. "30 the .. function statement's start"
unfoldable pub unit_item_p : Text → Declared → Node → ℕ → Place → Rule
unfolding new_name
unit_item_p s d x last q =
    test (is_function x) (new_name s q x.position (declared_name x) d.funs (make q (record_of (stated_row x last)) 0))
    (test (is_constant x) (make q (record_of (global_row x last d.globals)) 0) (make q (record_of (stated_row x last)) 0))

-- a class's declaration and its item
unfoldable pub class_item_p : Place → Node → ℕ → Place → Rule
class_item_p from c last q =
    bind (make q (record_of (row_of kinds.ClassDecl from c.number 0 0)) 0) (λ p x. make p (record_of (stated_row x last)) 0)

-- ---- unit: { item }

-- "The unit ends with its block and its function."
unfoldable pub unit_end_p : Place → ℕ → Place → Rule
unit_end_p from last p =
    bind (make p (record_of (block_row from last)) 0)
    (λ q b. bind (fresh q) (λ r i. make r (record_of (fun_row from i.number 0 0 b.number)) 0))

-- by what the item begins with, and then on
abbrev pub item_as : Text → Place → Declared → ℕ → Result ItemHead Refused → (Declared → ℕ → Place → Rule) → Rule
item_as s from d last (Ok (End h)) again = unit_end_p from last h
item_as s from d last (Ok (Class h n)) again =
    bind (call (class h d.classes) n) (λ q c. bind (class_item_p h c last q) (λ r i. again (with_class (span_of c.value) d) i.number r))
item_as s from d last (Ok (Statement h)) again =
    bind (call statement h) (λ q x. bind (unit_item_p s d x last q) (λ r i. again (declares x d) i.number r))
item_as s from d last (Err e) again = stop e.refusal e.at

-- the items of the unit that stands at `from`
unfoldable pub items_p : ℕ → Text → Place → Declared → ℕ → Place → Rule
unfolding item_of class_item_p unit_item_p declares unit_end_p
items_p zero s from d last p = spent p
items_p (suc f) s from d last p = item_as s from d last (item_of s p) (λ e i q. items_p f s from e i q)

-- "first token of the unit is the keyword `from`": 4 at the keyword's start. The unit's position is past the blanks
unfoldable pub unit_p : Text → Place → Rule
unfolding items_p
unit_p s p = look (keyword s p (ascii "from")) (λ h n. stop LeadingFrom h) (λ h. items_p (turns s) s h nothing 0 h)

-- ---- the entries

-- "a mark: string form, or file form, which first skips a line opening with `#!`"
abbrev pub start_of : Bool → Text → Place
start_of true s = file_start s
start_of false s = start

-- "Text is at most 65,535 bytes", and is UTF-8
abbrev pub opening : Text → Opening
opening s = record { short = leb (length s) 65535; sound = well_formed s; prefix = prefix_place s }

-- THE READING of a unit, with limits, from a place on
unfoldable pub read : Text → Limits → Place → Outcome
unfolding reading grammar unit_p
read s L p = reading (grammar s) L (unit_p s p)

-- THE FULL ENTRY: text, record limit, nesting limit, comparison limit, and true for the file form
unfoldable pub full : Text → ℕ → ℕ → ℕ → Bool → Outcome
unfolding entry reading grammar unit_p file_start
full s cap nest comps file = entry (grammar s) (unit_p s (start_of file s)) (opening s) (limited nest cap comps)

-- "The short entry uses the string form, nesting 64 and 100,000 comparisons."
abbrev pub short : Text → ℕ → Outcome
short s cap = full s cap 64 100000 false
