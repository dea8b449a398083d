-- THE NODE of a record, as the pool says it. What was read is the last record made, so a reader hands on no node: its number is the count of
-- records, and its kind, its position and its value stand in its row. Assumes nothing.
use Rattle.std.specs.Prelude.{◌≡◌, Bool, true, false, ◌&&◌, ◌||◌, List, [], ◌∷◌, ℕ, zero, suc, ◌+◌, ◌*◌, ◌≤◌, ◌<◌, leb, ltb, eqb, length, get_or}
use Rattle.characters.specs.declared.place.Place.{Place}
use Rattle.reading.specs.declared.node.Node.{Node}
use Rattle.reading.specs.declared.tally.Tally.{Tally}
use Rattle.reading.specs.Outs.{Out}
use Rattle.reading.specs.Outs as out
use Rattle.reading.specs.Gots.{Got, Read, Refused}
use Rattle.reading.specs.Says.{Makes}
use Rattle.records.specs.declared.kind.Kind.{Kind}
use Rattle.records.specs.declared.kind.Kind.TheVariants.{True, Bytes, Name, Host, Closure, Let, Fun, Class}
use Rattle.records.specs.declared.row.Row.{Row}
use Rattle.records.specs.Kinds.{number_of}
use Rattle.records.specs.Words.{whole_of}
use Rattle.records.specs.Rows.{record_of, width, layout}

-- A word of a record's row, from 0 on. Numbers are from 1 on: 0 is no record, so its words are 0, as are those past the pool.
unfoldable pub word_at : List ℕ → ℕ → ℕ → ℕ
word_at pool zero i = 0
word_at pool (suc n) i = get_or pool (n * width + i) 0

-- Its kind's number.
unfoldable pub kind_at : List ℕ → ℕ → ℕ
unfolding word_at
kind_at pool number = word_at pool number 0

-- Its position.
unfoldable pub place_at : List ℕ → ℕ → Place
unfolding word_at
place_at pool number = record { offset = word_at pool number 1; line = word_at pool number 2; column = word_at pool number 3 }

-- What it holds in its field with this index, from 0 on. What that means says the table of kinds.
abbrev pub held_at : List ℕ → ℕ → ℕ → ℕ
held_at pool number i = word_at pool number (i + 4)

-- The same of a row.
abbrev pub held_in : Row → ℕ → ℕ
held_in w i = get_or (w.a ∷ w.b ∷ w.c ∷ w.d ∷ []) i 0

-- Of an item the one before it; 0 is none.
abbrev pub before_at : List ℕ → ℕ → ℕ
before_at pool item = held_at pool item 1

-- A number of a record that the pool has room for.
pub record Stored (pool : List ℕ) (number : ℕ) : Type 0 where
  pub some : 1 ≤ number
  pub room : number * width ≤ length pool

-- The records up to this number stand in the pool as they stood.
pub record Keeps (made : ℕ) (before later : List ℕ) : Type 0 where
  pub words : (i : ℕ) → i < made * width → get_or later i 0 ≡ get_or before i 0

-- ---- the value that later rules look at, by the kind's number and the first three fields

-- A leaf: its value stands in two words.
abbrev pub is_leaf : ℕ → Bool
is_leaf kind = (leb (number_of True) kind && leb kind (number_of Bytes)) || (eqb kind (number_of Name) || eqb kind (number_of Host))

-- What a `let` declares: a function, where its value is one; else by its mark a constant, or 1, a variable.
abbrev pub constant : ℕ
constant = 0

abbrev pub functional : ℕ
functional = 2

abbrev pub role_by : Bool → ℕ → ℕ
role_by closure mark = elim closure [ true ↦ functional | false ↦ mark ]

-- Of a leaf its value, of a `let` its name and its role, of a function its last parameter, of a class its name; no rule looks at another's.
abbrev pub value_by : ℕ → ℕ → ℕ → ℕ → Bool → ℕ
value_by kind a b c closure =
    elim (is_leaf kind) [
      | true ↦ whole_of a b
      | false ↦ elim (eqb kind (number_of Let)) [
        | true ↦ whole_of b (role_by closure a)
        | false ↦ elim (eqb kind (number_of Fun)) [ true ↦ c | false ↦ elim (eqb kind (number_of Class)) [ true ↦ b | false ↦ 0 ] ]
      ]
    ]

-- Is this the number of a closure, made before the record `number`?
unfoldable pub closure_at : List ℕ → ℕ → ℕ → Bool
unfolding kind_at
closure_at pool number k = ltb k number && eqb (kind_at pool k) (number_of Closure)

-- The value of a record's node.
unfoldable pub value_at : List ℕ → ℕ → ℕ
unfolding word_at kind_at closure_at
value_at pool number =
    value_by (kind_at pool number) (word_at pool number 4) (word_at pool number 5) (word_at pool number 6)
    (closure_at pool number (word_at pool number 6))

-- The value of the node of a row that is laid after so many others.
abbrev pub value_of : List ℕ → ℕ → Row → ℕ
value_of pool made w = value_by (number_of w.kind) w.a w.b w.c (closure_at pool (made + 1) w.c)

-- ---- nodes and answers

-- THE NODE of the record with this number.
abbrev pub node_at : List ℕ → ℕ → Node
node_at pool number = record { number = number; kind = kind_at pool number; position = place_at pool number; value = value_at pool number }

-- What an answer with no node says: what was read is the last record made.
abbrev pub out_of : List ℕ → Got → Out
out_of pool (Read p u) = out.Read p (node_at pool u.records) u
out_of pool (Refused k p u) = out.Refused k p u

-- The contract of what makes the record of a row.
pub record MakesRow (cap : ℕ) (t : Tally) (p : Place) (w : Row) (r : Got) (before later : List ℕ) : Type 0 where
  pub makes : Makes layout cap t p (record_of w) (value_of before t.records w) (out_of later r) before later

-- A row of three fields, and one at the position of an earlier record.
abbrev pub row_at_place : Kind → Place → ℕ → ℕ → ℕ → Row
row_at_place kind p a b c = record { kind = kind; position = p; a = a; b = b; c = c; d = 0 }

abbrev pub row_like : List ℕ → Kind → ℕ → ℕ → ℕ → ℕ → Row
row_like pool kind like a b c = row_at_place kind (place_at pool like) a b c
