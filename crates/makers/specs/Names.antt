-- NAMES THAT ARE COMPARED: the names of a list as they stand in the pool, from its last item back, the rule of a new one, and what the
-- walk over them and the readers of such lists owe. Assumes nothing.
use Rattle.std.specs.Prelude.{◌≡◌, Bool, true, false, ◌&&◌, ◌||◌, List, [], ◌∷◌, ◌++◌, ℕ, zero, suc, ◌≤◌, ◌<◌, leb, ltb, eqb, None, Option, Some}
use Rattle.characters.specs.declared.place.Place.{Place}
use Rattle.characters.specs.declared.place.Span.{Span}
use Rattle.characters.specs.declared.refusal.Refusal.{Refusal}
use Rattle.characters.specs.declared.refusal.Refusal.TheVariants.{Duplicate}
use Rattle.characters.specs.Text.{Text}
use Rattle.characters.specs.Names.{name, free_name, part, same}
use Rattle.literals.specs.Strings.{decoded, key_of}
use Rattle.reading.specs.declared.tally.Tally.{Tally}
use Rattle.reading.specs.Gots.{Got, Read, Refused}
use Rattle.reading.specs.Outs.{Out}
use Rattle.reading.specs.Outs as out
use Rattle.reading.specs.Process.{Grammar, stop, compare, test, bind}
use Rattle.reading.specs.Says.{Does}
use Rattle.records.specs.declared.kind.Kind.TheVariants as kinds
use Rattle.records.specs.Kinds.{number_of}
use Rattle.records.specs.Rows.{layout}
use Rattle.records.specs.Words.{span_of}
use Rattle.records.specs.Nodes.{Stored, kind_at, held_at, before_at, node_at, out_of}
use Rattle.grammar.specs.Leaves.{key_at}
use Rattle.grammar.specs.Expressions.{Routine, Rule, pair_p, with_key}
use Rattle.grammar.specs.Functions.{param_p, with_name}
use Rattle.grammar.specs.Classes.{method_p}
use Rattle.grammar.specs.Units.{Declared, is_function, declared_name}
use Rattle.grammar.specs.Grammar.{grammar}
use Rattle.grammar.specs.Reads.{EndsBy}
use Rattle.makers.specs.declared.names.Naming.{Naming}
use Rattle.makers.specs.declared.names.Naming.TheVariants.{Keys, Parameters, Methods, Functions, Classes}

-- ---- which names an item holds: one, or of the unit's items perhaps none

abbrev pub held_if : Bool → Span → List Span
held_if b k = elim b [ true ↦ k ∷ [] | false ↦ [] ]

-- a unit's item declares a function where its statement is a `let` whose value is a function,
abbrev pub function_of : List ℕ → ℕ → List Span
function_of pool x = held_if (is_function (node_at pool x)) (declared_name (node_at pool x))

-- and a class where it is the declaration of one that was made before
abbrev pub is_declared : List ℕ → ℕ → Bool
is_declared pool x = eqb (kind_at pool x) (number_of kinds.ClassDecl) && (ltb 0 (held_at pool x 0) && ltb (held_at pool x 0) x)

abbrev pub class_of : List ℕ → ℕ → List Span
class_of pool x = held_if (is_declared pool x) (span_of (held_at pool (held_at pool x 0) 1))

-- by the first field of the item and its third, as the table of kinds has them: a pair's key, a parameter's name, the name of a method's
-- function, a function or a class of the unit
abbrev pub held_by : Naming → List ℕ → ℕ → ℕ → List Span
held_by Keys pool a c = span_of c ∷ []
held_by Parameters pool a c = span_of a ∷ []
held_by Methods pool a c = span_of (held_at pool a 1) ∷ []
held_by Functions pool a c = function_of pool a
held_by Classes pool a c = class_of pool a

unfoldable pub names_at : Naming → List ℕ → ℕ → List Span
names_at nm pool item = held_by nm pool (held_at pool item 0) (held_at pool item 2)

-- ---- the names of a list

unfoldable pub names_by : Naming → ℕ → List ℕ → ℕ → List Span
unfolding names_at
names_by nm zero pool item = []
names_by nm (suc f) pool zero = []
names_by nm (suc f) pool (suc i) = names_at nm pool (suc i) ++ names_by nm f pool (before_at pool (suc i))

-- from its last item back, newest first, as the pool alone gives them; 0 is no item
unfoldable pub names_of : Naming → List ℕ → ℕ → List Span
unfolding names_by
names_of nm pool last = names_by nm last pool last

-- what an item refers to, where its name stands in that record: one that was made before
abbrev pub Refers : Naming → ℕ → ℕ → Type 0
Refers Keys a item = Unit
Refers Parameters a item = Unit
Refers Methods a item = (1 ≤ a) × (a < item)
Refers Functions a item = (1 ≤ a) × (a < item)
Refers Classes a item = (1 ≤ a) × (a < item)

-- an item of the pool: it refers to earlier records, so a walk back ends
pub record Linked (nm : Naming) (pool : List ℕ) (item : ℕ) : Type 0 where
  pub stored : Stored pool item
  pub earlier : before_at pool item < item
  pub refers : Refers nm (held_at pool item 0) item

-- CHAINED: from this item back, the items can be walked.
pub data Chained (nm : Naming) (pool : List ℕ) : ℕ → Type 0 where
  none : Chained nm pool 0
  more : {item : ℕ} → Linked nm pool item → Chained nm pool (before_at pool item) → Chained nm pool item

-- What a reader of a list holds: the names read so far, in records that are made.
pub record Listed (nm : Naming) (pool : List ℕ) (t : Tally) (last : ℕ) (ks : List Span) : Type 0 where
  pub chained : Chained nm pool last
  pub names : names_of nm pool last ≡ ks
  pub made : last ≤ t.records

-- ---- a new name

-- "Values compare by decoded characters": a key's quotes are no part of it, and its characters are what it spells. Other names are their bytes
abbrev pub spells : Naming → Bool
spells Keys = true
spells Parameters = false
spells Methods = false
spells Functions = false
spells Classes = false

-- the bytes of a name,
abbrev pub bytes_by : Bool → Text → Span → Text
bytes_by spelled s k = elim spelled [ true ↦ key_of s k.from k.to | false ↦ part s k.from k.to ]

-- a byte that alone is no character: it opens an escape, or stands beyond ASCII. Past the end stands 256
abbrev pub is_long : ℕ → Bool
is_long b = eqb b 92 || (leb 128 b && ltb b 256)

-- and whether two are the same
abbrev pub alike_by : Bool → Text → Text → Bool
alike_by spelled a b = elim spelled [ true ↦ same (decoded a) (decoded b) | false ↦ same a b ]

abbrev pub same_by : Naming → Text → Span → Span → Bool
same_by nm s a b = alike_by (spells nm) (bytes_by (spells nm) s a) (bytes_by (spells nm) s b)

-- "a new name is compared with the earlier ones of its own kind and list, newest first, up to the first equal": counted when q is reached;
-- 30 is given at `at`
unfoldable pub new_as : Naming → Text → Place → Place → Span → List Span → Rule → Rule
new_as nm s q at new [] next = next
new_as nm s q at new (k ∷ ks) next = bind (compare q) (λ p n. test (same_by nm s new k) (stop Duplicate at) (new_as nm s q at new ks next))

-- what an item holds, as code has it
abbrev pub held_of : Option Span → List Span
held_of (Some k) = k ∷ []
held_of None = []

-- Counting comparisons moves nowhere, makes no record and gives out no id.
pub record Kept (at : Place) (t : Tally) (p : Place) (u : Tally) : Type 0 where
  pub place : p ≡ at
  pub records : u.records ≡ t.records
  pub ids : u.ids ≡ t.ids

-- UNIQUE: the answer to a new name that ends at q, whatever the rule goes on to do. Comparing changes none of the pool.
pub record Unique (nm : Naming) (s : Text) (comps : ℕ) (t : Tally) (q at : Place) (name : Span) (names : List Span) (r : Got) : Type 0 where
  pub goes : (G : Grammar Routine) (cap left : ℕ) (next : Rule) {p : Place} {u : Tally} → r ≡ Read p u
      → {a : Out} {before later : List ℕ} → Does layout G cap comps left u next a before later
      → Does layout G cap comps left t (new_as nm s q at name names next) a before later
  pub stops : (G : Grammar Routine) (cap left : ℕ) (next : Rule) {k : Refusal} {p : Place} {u : Tally} → r ≡ Refused k p u
      → (pool : List ℕ) → Does layout G cap comps left t (new_as nm s q at name names next) (out.Refused k p u) pool pool
  pub kept : {p : Place} {u : Tally} → r ≡ Read p u → Kept q t p u

-- ---- the readers of lists

-- the items from `last` back are those of such a list, made by now
pub record Well (nm : Naming) (pool : List ℕ) (t : Tally) (last : ℕ) : Type 0 where
  pub chained : Chained nm pool last
  pub made : last ≤ t.records

-- of a dictionary
abbrev pub WellListed : List ℕ → Tally → ℕ → Type 0
WellListed pool t last = Well Keys pool t last

-- the contract of a dictionary's pair: its rule, and the items that stand in the pool then
pub record Paired (s : Text) (cap comps left : ℕ) (from : Place) (last : ℕ) (at : Place) (t : Tally) (r : Got) (before later : List ℕ) : Type 0 where
  pub does : Does layout (grammar s) cap comps left t (pair_p s from (names_of Keys before last) last at) (out_of later r) before later
  pub ends : EndsBy s at r
  pub listed : {p : Place} {u : Tally} → r ≡ Read p u → Listed Keys later u u.records (with_key (key_at s at) (names_of Keys before last))

-- and of a parameter, whose rule calls no routine
pub record Param (s : Text) (cap comps last : ℕ) (at : Place) (t : Tally) (r : Got) (before later : List ℕ) : Type 0 where
  pub does : (left : ℕ) → Does layout (grammar s) cap comps left t (param_p s (names_of Parameters before last) last at) (out_of later r) before later
  pub ends : EndsBy s at r
  pub listed : {p : Place} {u : Tally} → r ≡ Read p u
      → Listed Parameters later u u.records (with_name (free_name s at) (names_of Parameters before last))

-- of a method
pub record Method (s : Text) (cap comps left last : ℕ) (at : Place) (t : Tally) (r : Got) (before later : List ℕ) : Type 0 where
  pub does : Does layout (grammar s) cap comps left t (method_p s (names_of Methods before last) last at) (out_of later r) before later
  pub ends : EndsBy s at r
  pub listed : {p : Place} {u : Tally} → r ≡ Read p u
      → Listed Methods later u u.records (with_name (name s at) (names_of Methods before last))

-- What a reader of the unit holds: the functions and the classes that its items from `last` back declare.
pub record Declares (pool : List ℕ) (t : Tally) (last : ℕ) (d : Declared) : Type 0 where
  pub funs : Listed Functions pool t last d.funs
  pub classes : Listed Classes pool t last d.classes
