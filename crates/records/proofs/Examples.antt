-- The records of 01's example `f(1);` in a pool, by computation. Assumes nothing.
use Rattle.std.specs.Prelude.{◌≡◌, refl, List, [], ◌∷◌, map, ℕ, ◌+◌, take, drop, replicate, Some}
use Rattle.std.proofs.Common.{arith}
use Rattle.characters.specs.declared.place.Place.{Place}
use Rattle.reading.specs.Demands.{AllEarlier}
use Rattle.reading.specs.Entry.{nowhere}
use Rattle.reading.specs.Says.{laid}
use Rattle.records.specs.declared.kind.Kind.{Kind}
use Rattle.records.specs.declared.kind.Kind.TheVariants.{Int, Name, Call, Do, Block, Fun, Item, Stated}
use Rattle.records.specs.declared.row.Row.{Row}
use Rattle.records.specs.Words.{span_word}
use Rattle.records.specs.Rows.{record_of, layout, row_at, rows_at}

-- A place in the first line.
abbrev at : ℕ → Place
at k = record { offset = k; line = 1; column = k + 1 }

abbrev row : Kind → Place → ℕ → ℕ → ℕ → ℕ → Row
row k p a b c d = record { kind = k; position = p; a = a; b = b; c = c; d = d }

-- 1 name 1:1 f · 2 int 1:3 1 · 3 item 2 0 · 4 call 1:2 1 3 · 5 do 1:1 4 · 6 item 5 0 · 7 block 1:1 6 · 8 fun 1:1 1 - 0 7
abbrev rows : List Row
rows =
    row Name (at 0) (span_word 0 1) 0 0 0
    ∷ row Int (at 2) 1 0 0 0
    ∷ row Item nowhere 2 0 0 0
    ∷ row Call (at 1) 1 3 0 0
    ∷ row Do (at 0) 4 0 0 0
    ∷ row Stated nowhere 5 0 0 0
    ∷ row Block (at 0) 6 0 0 0
    ∷ row Fun (at 0) 1 0 0 7
    ∷ []

-- A pool of nine rows and a word, all of it 9 before.
abbrev pool : List ℕ
pool = laid layout (replicate 73 9) 0 (map record_of rows)

-- The first row: a name at 1:1, its span in one word.
first_row : take 8 pool ≡ 10 ∷ 0 ∷ 1 ∷ 1 ∷ 65536 ∷ 0 ∷ 0 ∷ 0 ∷ []
unfolding laid layout
first_row = refl

-- The eighth is the unit's function: id 1, no name, no parameter, the block.
eighth_row : take 8 (drop 56 pool) ≡ 31 ∷ 0 ∷ 1 ∷ 1 ∷ 1 ∷ 0 ∷ 0 ∷ 7 ∷ []
unfolding laid layout
eighth_row = refl

-- The nine words past the eight records stay as they were.
past_it : drop 64 pool ≡ replicate 9 9
unfolding laid layout
past_it = refl

-- Read back they are the rows.
read_back : rows_at pool 0 8 ≡ map Some rows
unfolding laid layout row_at
read_back = refl

-- Each refers to earlier ones only.
earlier : AllEarlier 0 (map record_of rows)
earlier = omega arith
