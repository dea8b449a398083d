-- The laws of nodes: the row laid last is the node made, and what is laid later changes no earlier one. Assumes nothing.
use Rattle.std.specs.Prelude.{◌≡◌, Bool, ◌&&◌, length, get_or}
use Rattle.std.proofs.Math.Path.{refl, ap}
use Rattle.std.proofs.Common.{sym, subst, ◌∙◌, arith}
use Rattle.std.proofs.Math.Bool.{true, false}
use mathlib.Core.List.{List}
use Prim.Native.Nat.{ℕ, zero, suc, ◌+◌, ◌-◌, ◌*◌, ◌≤◌, ◌<◌}
use Rattle.std.proofs.Math.Dec.{ltb, eqb}
use borrow.Author.Tests.{ltb-true, lt-ltb}
use Rattle.characters.specs.declared.place.Place.{Place}
use Rattle.characters.specs.declared.refusal.Refusal.{Refusal}
use Rattle.characters.specs.declared.refusal.Refusal.TheVariants.{PoolFull}
use Rattle.reading.specs.declared.node.Node.{Node}
use Rattle.reading.specs.declared.tally.Tally.{Tally}
use Rattle.reading.specs.Gots.{Got, Read, Refused}
use Rattle.reading.specs.Outs.{Out}
use Rattle.reading.specs.Outs as out
use Rattle.reading.specs.Events.{Rec, with_record}
use Rattle.reading.specs.Process.{Process, Grammar, node_as, node_of}
use Rattle.reading.specs.Says.{laid, Does, Makes}
use Rattle.reading.proofs.Laws.Says.{read_refused, refused_read, makes_unique}
use Rattle.reading.proofs.Laws.Does.{makes_one, makes_none, made, told, does_pool}
use Rattle.records.specs.declared.kind.Kind.{Kind}
use Rattle.records.specs.declared.kind.Kind.TheVariants.{Closure}
use Rattle.records.specs.declared.row.Row.{Row}
use Rattle.records.specs.Kinds.{number_of}
use Rattle.records.specs.Words.{whole_of}
use Rattle.records.specs.Rows.{record_of, layout, Lent, Lays}
use Rattle.records.specs.Nodes.{word_at, kind_at, place_at, held_at, held_in, Stored, Keeps, is_leaf, value_by, closure_at, value_at, value_of, node_at, out_of, MakesRow, row_at_place}
use Rattle.records.proofs.Laws.Rows.{row_words, layout_word, layout_before, laid_length, laid_before}

-- ---- the words of a record

-- Where they stand.
pub word_in : (pool : List ℕ) (n i : ℕ) → 1 ≤ n → word_at pool n i ≡ get_or pool (n * 8 - 8 + i) 0
unfolding word_at
word_in pool zero i h = absurd (omega arith)
word_in pool (suc n) i h = let e : n * 8 + i ≡ suc n * 8 - 8 + i = omega arith in ap (λ (k : ℕ). get_or pool k 0) e

-- A record that was made has its row.
pub stored_made : {pool : List ℕ} {cap n : ℕ} → Lent pool cap → 1 ≤ n → n ≤ cap → Stored pool n
stored_made h a b = record { some = a; room = omega arith }

-- ---- what stands as it stood

pub keeps_layout : (pool : List ℕ) (made : ℕ) (r : Rec) → Keeps made pool (layout pool made r)
keeps_layout pool made r = record { words = layout_before pool made r }

pub keeps_laid : (rs : List Rec) (pool : List ℕ) (made : ℕ) → Keeps made pool (laid layout pool made rs)
keeps_laid rs pool made = record { words = laid_before rs pool made }

module _ {made : ℕ} {before later : List ℕ} (h : Keeps made before later) where
  pub word_kept : (n i : ℕ) → n ≤ made → i < 8 → word_at later n i ≡ word_at before n i
  unfolding word_at
  word_kept zero i l m = refl
  word_kept (suc n) i l m = h.words (n * 8 + i) (omega arith)

  pub held_kept : (n i : ℕ) → n ≤ made → i < 4 → held_at later n i ≡ held_at before n i
  held_kept n i l m = word_kept n (i + 4) l (omega arith)

  pub kind_kept : (n : ℕ) → n ≤ made → kind_at later n ≡ kind_at before n
  unfolding kind_at
  kind_kept n l = word_kept n 0 l (omega arith)

  pub place_kept : (n : ℕ) → n ≤ made → place_at later n ≡ place_at before n
  unfolding place_at
  place_kept n l =
      λ i. record { offset = word_kept n 1 l (omega arith) i; line = word_kept n 2 l (omega arith) i; column = word_kept n 3 l (omega arith) i }

  pub closure_kept : (n k : ℕ) → n ≤ made + 1 → closure_at later n k ≡ closure_at before n k
  unfolding closure_at
  closure_kept n k l = go (ltb k n) refl
    where
      go : (b : Bool) → ltb k n ≡ b → (b && eqb (kind_at later k) 12) ≡ (b && eqb (kind_at before k) 12)
      go true e = let z = ltb-true k n e in ap (λ (x : ℕ). eqb x 12) (kind_kept k (omega arith))
      go false e = refl

  pub value_kept : (n : ℕ) → n ≤ made → value_at later n ≡ value_at before n
  unfolding value_at
  value_kept n l =
      let c : word_at later n 6 ≡ word_at before n 6 = word_kept n 6 l (omega arith) in
      let f : closure_at later n (word_at later n 6) ≡ closure_at before n (word_at before n 6) =
      ap (closure_at later n) c ∙ closure_kept n (word_at before n 6) (omega arith)
      in
      λ i. value_by (kind_kept n l i) (word_kept n 4 l (omega arith) i) (word_kept n 5 l (omega arith) i) (c i) (f i)

  -- THE FRAME: a node made before says what it said.
  pub node_kept : (n : ℕ) → n ≤ made → node_at later n ≡ node_at before n
  node_kept n l = λ i. record { number = n; kind = kind_kept n l i; position = place_kept n l i; value = value_kept n l i }

-- ---- the record laid last

-- A row's fields are its last four words.
held_words : (w : Row) (i : ℕ) → i < 4 → get_or (row_words w) (i + 4) 0 ≡ held_in w i
unfolding row_words
held_words w zero l = refl
held_words w (suc zero) l = refl
held_words w (suc (suc zero)) l = refl
held_words w (suc (suc (suc zero))) l = refl
held_words w (suc (suc (suc (suc i)))) l = absurd (omega arith)

module _ (pool : List ℕ) (made : ℕ) (w : Row) (room : made * 8 + 8 ≤ length pool) where
  word_laid : (j : ℕ) → j < 8 → word_at (layout pool made (record_of w)) (made + 1) j ≡ get_or (row_words w) j 0
  word_laid j l =
      let e : (made + 1) * 8 - 8 + j ≡ made * 8 + j = omega arith in
      word_in (layout pool made (record_of w)) (made + 1) j (omega arith)
      ∙ ap (λ (k : ℕ). get_or (layout pool made (record_of w)) k 0) e
      ∙ layout_word pool made w j room l

  -- It holds what its row holds.
  pub held_laid : (i : ℕ) → i < 4 → held_at (layout pool made (record_of w)) (made + 1) i ≡ held_in w i
  held_laid i l = word_laid (i + 4) (omega arith) ∙ held_words w i l

  -- ITS NODE is the one that the calculus makes.
  pub node_laid : node_at (layout pool made (record_of w)) (made + 1) ≡ node_as (made + 1) (record_of w) (value_of pool made w)
  unfolding row_words kind_at place_at value_at
  node_laid =
      let later : List ℕ = layout pool made (record_of w) in
      let f : closure_at later (made + 1) (word_at later (made + 1) 6) ≡ closure_at pool (made + 1) w.c =
      ap (closure_at later (made + 1)) (word_laid 6 (omega arith)) ∙ closure_kept (keeps_layout pool made (record_of w)) (made + 1) w.c (omega arith)
      in
      λ i.
      record {
        number = made + 1;
        kind = word_laid 0 (omega arith) i;
        position = record { offset = word_laid 1 (omega arith) i; line = word_laid 2 (omega arith) i; column = word_laid 3 (omega arith) i };
        value =
            value_by (word_laid 0 (omega arith) i) (word_laid 4 (omega arith) i) (word_laid 5 (omega arith) i) (word_laid 6 (omega arith) i) (f i);
      }

-- What `make` leaves, where there was room, and where there was none.
pub row_made : {before later : List ℕ} {cap : ℕ} {t : Tally} {at : Place} {w : Row} {k : ℕ} → Lent before cap → t.records < cap
    → Lays t.records w k before later
    → MakesRow cap t at w (Read at (with_record t)) before later
row_made {before} {later} {cap} {t} {at} {w} h m l =
    let room : cap * 8 ≤ length before = h.room in
    let e : node_at later (t.records + 1) ≡ node_of t (record_of w) (value_of before t.records w) =
    ap (λ (x : List ℕ). node_at x (t.records + 1)) l.pool ∙ node_laid before t.records w (omega arith)
    in
    record {
      makes =
          subst (λ (n : Node). Makes layout cap t at (record_of w) (value_of before t.records w) (out.Read at n (with_record t)) before later) (sym e)
          (rw l.pool (makes_one m));
    }

pub row_refused : {pool : List ℕ} {cap : ℕ} {t : Tally} {at : Place} {w : Row} → cap ≤ t.records
    → MakesRow cap t at w (Refused PoolFull at t) pool pool
row_refused h = record { makes = makes_none h }

-- An answer is determined by what it says.
pub out_one : (before later : List ℕ) (r s : Got) → out_of before r ≡ out_of later s → r ≡ s
out_one before later (Read p t) (Read q u) e = let a : p ≡ q = cc in let b : t ≡ u = cc in λ i. Read (a i) (b i)
out_one before later (Read p t) (Refused k q u) e = absurd (read_refused e)
out_one before later (Refused k p t) (Read q u) e = absurd (refused_read e)
out_one before later (Refused j p t) (Refused k q u) e = let a : j ≡ k = cc in let b : p ≡ q = cc in let c : t ≡ u = cc in λ i. Refused (a i) (b i) (c i)

-- So `make` has one answer, and leaves one pool.
pub row_unique : {before later other : List ℕ} {cap : ℕ} {t : Tally} {at : Place} {w : Row} {r s : Got} → MakesRow cap t at w r before later
    → MakesRow cap t at w s before other → (r ≡ s) × (later ≡ other)
row_unique {later = later} {other = other} {r = r} {s = s} h k =
    let e = makes_unique h.makes k.makes in (out_one later other r s e.0, e.1)

-- What was made, where `make` read on.
pub record MadeRow (t : Tally) (at : Place) (w : Row) (p : Place) (u : Tally) (before later : List ℕ) : Type 0 where
  pub place : p ≡ at
  pub tally : u ≡ with_record t
  pub pool : later ≡ layout before t.records (record_of w)

pub row_read : {before later : List ℕ} {cap : ℕ} {t : Tally} {at : Place} {w : Row} {r : Got} {p : Place} {u : Tally}
    → MakesRow cap t at w r before later → r ≡ Read p u → MadeRow t at w p u before later
row_read {later = later} h e = let m = made h.makes (ap (out_of later) e) in record { place = m.place; tally = m.tally; pool = m.pool }

-- The row, by what it was found to be; and its position alone.
pub row_as : {before later : List ℕ} {cap : ℕ} {t : Tally} {at : Place} {w v : Row} {r : Got} → w ≡ v → MakesRow cap t at w r before later
    → MakesRow cap t at v r before later
row_as e h = rw e at h

pub row_at_lem : {before later : List ℕ} {cap : ℕ} {t : Tally} {at q p : Place} {kind : Kind} {a b c : ℕ} {r : Got} → q ≡ p
    → MakesRow cap t at (row_at_place kind q a b c) r before later
    → MakesRow cap t at (row_at_place kind p a b c) r before later
row_at_lem {kind = kind} {a = a} {b = b} {c = c} e h = row_as (ap (λ (x : Place). row_at_place kind x a b c) e) h

-- ---- values

-- A leaf's value is its two words.
pub leaf_value : (kind a b c : ℕ) (closure : Bool) → is_leaf kind ≡ true → value_by kind a b c closure ≡ whole_of a b
leaf_value kind a b c closure h = rw (h, value_by) refl

pub value_leaf : (pool : List ℕ) (n : ℕ) → is_leaf (kind_at pool n) ≡ true → value_at pool n ≡ whole_of (word_at pool n 4) (word_at pool n 5)
unfolding value_at
value_leaf pool n h = leaf_value (kind_at pool n) (word_at pool n 4) (word_at pool n 5) (word_at pool n 6) (closure_at pool n (word_at pool n 6)) h

-- Whether a `let` refers to a closure is said by that record's kind.
pub closure_earlier : (pool : List ℕ) (n k : ℕ) → k < n → closure_at pool n k ≡ eqb (kind_at pool k) (number_of Closure)
unfolding closure_at
closure_earlier pool n k h = rw (lt-ltb k n h)

-- ---- readings

module _ {N : Type 0} {G : Grammar N} {cap comps left : ℕ} {t : Tally} {P : Process N} {before later : List ℕ} where
  -- A reading leaves the records before it,
  pub does_keeps : {r : Out} → Does layout G cap comps left t P r before later → Keeps t.records before later
  does_keeps d = subst (Keeps t.records before) (sym (does_pool d)) (keeps_laid _ before t.records)

  -- so their nodes say what they said,
  pub does_node : {r : Out} → Does layout G cap comps left t P r before later → (n : ℕ) → n ≤ t.records → node_at later n ≡ node_at before n
  does_node d n l = node_kept (does_keeps d) n l

  -- and the pool is as long as it was.
  pub does_length : {r : Out} → Does layout G cap comps left t P r before later → length later ≡ length before
  does_length d = ap length (does_pool d) ∙ laid_length _ before t.records

  -- The answer, by what it was found to be.
  pub read_of : {r : Got} {p : Place} {u : Tally} → r ≡ Read p u → Does layout G cap comps left t P (out_of later r) before later
      → Does layout G cap comps left t P (out.Read p (node_at later u.records) u) before later
  read_of e d = told (ap (out_of later) e) d

  pub refused_of : {r : Got} {k : Refusal} {p : Place} {u : Tally} → r ≡ Refused k p u → Does layout G cap comps left t P (out_of later r) before later
      → Does layout G cap comps left t P (out.Refused k p u) before later
  refused_of e d = told (ap (out_of later) e) d
