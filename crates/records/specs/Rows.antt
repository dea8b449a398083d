-- ROWS: how a record stands in the lent pool. A row is eight words of a u32: the kind's number, the position's offset, line and column,
-- and four fields, which is the most that a kind has. Assumes nothing.
--
-- Why so. A column reaches 65,538, so sixteen bits are too few for a word; a record's number, an id, a global number and a span of two
-- offsets each fit in thirty-two. Eight is a power of two, so a row's place is a shift. Further fields of 02, a comment's span and a
-- range, are one word each: they widen the row here, in `lay` and in `row_at`, and no contract above says how wide it is.
use Rattle.std.specs.Prelude.{◌≡◌, List, [], ◌∷◌, ◌++◌, Bool, true, false, ◌&&◌, ℕ, zero, suc, ◌+◌, ◌-◌, ◌*◌, ◌/◌, min, ◌≤◌, leb, length, get_or, None, Option, Some}
use Rattle.std.proofs.lemmas.List.Edits.{sets}
use Rattle.characters.specs.declared.place.Place.{Place}
use Rattle.reading.specs.Events.{Field, word, ref, Rec}
use Rattle.reading.specs.Says.{Layout}
use Rattle.records.specs.declared.kind.Kind.{Kind}
use Rattle.records.specs.declared.row.Row.{Row}
use Rattle.records.specs.Kinds.{is_reference, number_of, meaning_at, kind_of}

-- A field, by whether the table calls it a reference.
abbrev pub as_field : Bool → ℕ → Field
as_field true k = ref k
as_field false k = word k

abbrev pub field_at : Kind → ℕ → ℕ → Field
field_at kind i k = as_field (is_reference (meaning_at kind i)) k

-- The record that a row stands for.
abbrev pub record_of : Row → Rec
record_of w =
    record {
      kind = number_of w.kind;
      position = w.position;
      fields = field_at w.kind 0 w.a ∷ field_at w.kind 1 w.b ∷ field_at w.kind 2 w.c ∷ field_at w.kind 3 w.d ∷ [];
    }

-- The words of a row.
abbrev pub width : ℕ
width = 8

abbrev pub field_word : Field → ℕ
field_word (word k) = k
field_word (ref k) = k

abbrev pub field_word_at : List Field → ℕ → ℕ
field_word_at fs i = field_word (get_or fs i (word 0))

unfoldable pub words : Rec → List ℕ
words r =
    r.kind
    ∷ r.position.offset
    ∷ r.position.line
    ∷ r.position.column
    ∷ field_word_at r.fields 0
    ∷ field_word_at r.fields 1
    ∷ field_word_at r.fields 2
    ∷ field_word_at r.fields 3
    ∷ []

-- THE LAYOUT: a record is laid into the pool after those made before it.
unfoldable pub layout : Layout (List ℕ)
unfolding words
layout pool made r = sets pool (made * width) (words r)

-- The words of several records, row after row.
unfoldable pub rows_of : List Rec → List ℕ
unfolding words
rows_of [] = []
rows_of (r ∷ rs) = words r ++ rows_of rs

-- "The record limit is the number of whole records in the pool, at most 65,535."
abbrev pub cap_of : ℕ → ℕ
cap_of size = min (size / width) 65535

-- A pool that was lent with room for so many records.
pub record Lent (pool : List ℕ) (cap : ℕ) : Type 0 where
  pub room : cap * width ≤ length pool

-- A row was laid after so many others, and its kind's number answered.
pub record Lays (made : ℕ) (w : Row) (r : ℕ) (before later : List ℕ) : Type 0 where
  pub number : r ≡ number_of w.kind
  pub pool : later ≡ layout before made (record_of w)

abbrev pub row_by : Option Kind → Place → ℕ → ℕ → ℕ → ℕ → Option Row
row_by (Some k) p a b c d = Some (record { kind = k; position = p; a = a; b = b; c = c; d = d })
row_by None p a b c d = None

-- The row whose words start here.
abbrev pub row_from : List ℕ → ℕ → Option Row
row_from pool base =
    row_by (kind_of (get_or pool base 0))
    (record { offset = get_or pool (base + 1) 0; line = get_or pool (base + 2) 0; column = get_or pool (base + 3) 0 })
    (get_or pool (base + 4) 0)
    (get_or pool (base + 5) 0)
    (get_or pool (base + 6) 0)
    (get_or pool (base + 7) 0)

abbrev pub row_if : Bool → Option Row → Option Row
row_if true w = w
row_if false w = None

-- The row of the record with this number, from 1 on, if the pool has so many.
unfoldable pub row_at : List ℕ → ℕ → Option Row
row_at pool number = row_if (leb 1 number && leb (number * width) (length pool)) (row_from pool (number * width - width))

-- So many rows, after so many others.
abbrev pub rows_at : List ℕ → ℕ → ℕ → List (Option Row)
rows_at pool made zero = []
rows_at pool made (suc n) = row_at pool (made + 1) ∷ rows_at pool (made + 1) n
