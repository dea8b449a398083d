-- THE PROMISES of records in a pool. Read this page first: each theorem is said in document 01's words, and its proof is one citation.
-- What the words mean stands in Kinds, Words, Rows and Nodes, and in the calculus of reading. Assumes nothing.
use Rattle.std.specs.Prelude.{◌≡◌, List, ◌++◌, map, ℕ, ◌+◌, ◌*◌, ◌≤◌, ◌<◌, length, get_or, drop, Result, Some}
use Rattle.characters.specs.declared.place.Place.{Place}
use Rattle.characters.specs.declared.refusal.Refused.{Refused}
use Rattle.reading.specs.declared.node.Node.{Node}
use Rattle.reading.specs.declared.tally.Tally.{Tally}
use Rattle.reading.specs.Outs.{Out, out_at}
use Rattle.reading.specs.Gots.{Got, got_of}
use Rattle.reading.specs.Events.{Rec}
use Rattle.reading.specs.Process.{node_as}
use Rattle.reading.specs.Says.{laid, Makes, Compares}
use Rattle.reading.proofs.Laws.Says as Says
use Rattle.reading.proofs.Laws.Apart as Apart
use Rattle.records.specs.declared.kind.Kind.{Kind}
use Rattle.records.specs.declared.row.Row.{Row}
use Rattle.records.specs.Kinds.{number_of, kind_of}
use Rattle.records.specs.Words.{span_word, span_of, low_of, high_of, whole_of}
use Rattle.records.specs.Rows.{record_of, width, layout, rows_of, cap_of, Lent, row_at, rows_at}
use Rattle.records.specs.Nodes.{Keeps, value_of, node_at, MakesRow}
use Rattle.records.proofs.Laws.Kinds as Kinds
use Rattle.records.proofs.Laws.Words as Words
use Rattle.records.proofs.Laws.Rows as Rows
use Rattle.records.proofs.Laws.Pools as Pools
use Rattle.records.proofs.Laws.Nodes as Nodes

-- KINDS. Each has one number, and a number stands for one kind at most.
pub known : (k : Kind) → kind_of (number_of k) ≡ Some k
known k = Kinds.kind_number k

pub kept_apart : (j k : Kind) → number_of j ≡ number_of k → j ≡ k
kept_apart j k e = Kinds.number_one j k e

-- FIELDS. A packed span is the span, and the halves of an int64 are the int64.
pub span : (s e : ℕ) → s ≤ 65535 → e ≤ 65535 → span_of (span_word s e) ≡ record { from = s; to = e }
span s e a b = Words.span_back s e a b

pub int : (v : ℕ) → whole_of (low_of v) (high_of v) ≡ v
int v = Words.whole_back v

-- THE POOL. Laying records over it keeps its length, the words of the records before them, and the words past them: "pool words past
-- the records made stay untouched in every answer".
pub as_long : (rs : List Rec) (pool : List ℕ) (made : ℕ) → length (laid layout pool made rs) ≡ length pool
as_long rs pool made = Rows.laid_length rs pool made

pub before : (rs : List Rec) (pool : List ℕ) (made i : ℕ) → i < made * width → get_or (laid layout pool made rs) i 0 ≡ get_or pool i 0
before rs pool made i h = Rows.laid_before rs pool made i h

pub past : (rs : List Rec) (pool : List ℕ) (made i : ℕ) → (made + length rs) * width ≤ i
    → get_or (laid layout pool made rs) i 0 ≡ get_or pool i 0
past rs pool made i h = Rows.laid_past rs pool made i h

-- Laid from the start on, they are its first words, row after row, and every other word is as it was.
pub from_the_start : (rs : List Rec) (pool : List ℕ) → length rs * width ≤ length pool
    → laid layout pool 0 rs ≡ rows_of rs ++ drop (length rs * width) pool
from_the_start rs pool h = Pools.laid_whole rs pool h

-- A record "is never altered".
pub never_altered : (rs : List Rec) (pool : List ℕ) (made n : ℕ) → n ≤ made → row_at (laid layout pool made rs) n ≡ row_at pool n
never_altered rs pool made n h = Rows.laid_row rs pool made n h

-- THE NODE of a record made before says what it said, and that of the row laid last is the one that the calculus makes.
pub says_on : {made : ℕ} {before later : List ℕ} → Keeps made before later → (n : ℕ) → n ≤ made → node_at later n ≡ node_at before n
says_on h n l = Nodes.node_kept h n l

pub last : (pool : List ℕ) (made : ℕ) (w : Row) → made * width + width ≤ length pool
    → node_at (layout pool made (record_of w)) (made + 1) ≡ node_as (made + 1) (record_of w) (value_of pool made w)
last pool made w h = Nodes.node_laid pool made w h

-- ROWS AND RECORDS determine each other. Reading back what was laid gives the rows, in their order;
pub back : (ws : List Row) (pool : List ℕ) (made : ℕ) → (made + length ws) * width ≤ length pool
    → rows_at (laid layout pool made (map record_of ws)) made (length ws) ≡ map Some ws
back ws pool made h = Rows.rows_back ws pool made h

-- so two lists of rows that leave the same pool are one.
pub one : (v w : List Row) (pool : List ℕ) (made : ℕ) → length v ≡ length w → (made + length v) * width ≤ length pool
    → laid layout pool made (map record_of v) ≡ laid layout pool made (map record_of w) → v ≡ w
one v w pool made e h s = Rows.rows_one v w pool made e h s

-- THE LIMIT of a pool has room in it. "An empty pool is permitted."
pub lent : (pool : List ℕ) → Lent pool (cap_of (length pool))
lent pool = Rows.lent pool

-- DETERMINED. What `put`, `make` and `count` owe leaves one answer, and one pool.
pub put_determined : (cap : ℕ) (t : Tally) (p : Place) (w : Row) (v : ℕ) (r r' : Out) (A B B' : List ℕ)
    → Makes layout cap t p (record_of w) v r A B
    → Makes layout cap t p (record_of w) v r' A B' → (r ≡ r') × (B ≡ B')
put_determined cap t p w v r r' A B B' h k = Says.makes_unique h k

pub make_determined : (cap : ℕ) (t : Tally) (p : Place) (w : Row) (r r' : Got) (A B B' : List ℕ) → MakesRow cap t p w r A B
    → MakesRow cap t p w r' A B'
    → (r ≡ r') × (B ≡ B')
make_determined cap t p w r r' A B B' h k = Nodes.row_unique h k

pub count_determined : (comps : ℕ) (t : Tally) (p : Place) (r r' : Out) → Compares comps t p r → Compares comps t p r' → r ≡ r'
count_determined comps t p r r' h k = Says.compares_unique h k

-- So of the code's answers: each leaves one `Result`, one tally, and one pool.
pub put_once : (cap : ℕ) (t : Tally) (p : Place) (w : Row) (v : ℕ) (r r' : Result Node Refused) (u u' : Tally) (A B B' : List ℕ)
    → Makes layout cap t p (record_of w) v (out_at p r u) A B
    → Makes layout cap t p (record_of w) v (out_at p r' u') A B' → ((r ≡ r') × (u ≡ u')) × (B ≡ B')
put_once cap t p w v r r' u u' A B B' h k =
    let e = put_determined cap t p w v (out_at p r u) (out_at p r' u') A B B' h k in (Apart.out_one p r r' u u' e.0, e.1)

pub make_once : (cap : ℕ) (t : Tally) (p : Place) (w : Row) (r r' : Result Place Refused) (u u' : Tally) (A B B' : List ℕ)
    → MakesRow cap t p w (got_of r u) A B
    → MakesRow cap t p w (got_of r' u') A B' → ((r ≡ r') × (u ≡ u')) × (B ≡ B')
make_once cap t p w r r' u u' A B B' h k =
    let e = make_determined cap t p w (got_of r u) (got_of r' u') A B B' h k in (Apart.got_one r r' u u' e.0, e.1)

pub count_once : (comps : ℕ) (t : Tally) (p : Place) (r r' : Result Node Refused) (u u' : Tally) → Compares comps t p (out_at p r u)
    → Compares comps t p (out_at p r' u') → (r ≡ r') × (u ≡ u')
count_once comps t p r r' u u' h k = Apart.out_one p r r' u u' (count_determined comps t p (out_at p r u) (out_at p r' u') h k)
