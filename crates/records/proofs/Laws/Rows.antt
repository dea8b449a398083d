-- The laws of rows: what is laid is eight stores and no more; the length, the rows before and the words past it stay; and reading back
-- gives the row. So rows and records determine each other. Assumes nothing.
use Rattle.std.specs.Prelude.{◌≡◌, refl, List, [], ◌∷◌, map, Bool, true, false, ◌&&◌, ℕ, zero, suc, ◌+◌, ◌-◌, ◌*◌, ◌≤◌, ◌<◌, leb, length, get_or, set, None, Option, Some}
use Rattle.std.proofs.Common.{sym, ap, subst, ◌∙◌, pos_of_ne-zero, add-one, arith, length-set, get_or-set_same, get_or-set_other, leb-true, leb-false, le-leb}
use Rattle.std.proofs.Math.Numerals.{add-two, add-three, add-four, add_five, add_six, add_seven}
use Rattle.std.proofs.lemmas.List.Edits.{sets}
use Rattle.std.proofs.Math.Seq.{length-sets}
use Rattle.std.proofs.lemmas.Bool.{lt-leb}
use Rattle.characters.specs.declared.place.Place.{Place}
use Rattle.reading.specs.declared.tally.Tally.{Tally}
use Rattle.reading.specs.Outs.{Read}
use Rattle.reading.specs.Events.{Rec, with_record}
use Rattle.reading.specs.Says.{laid, Makes}
use Rattle.reading.proofs.Laws.Does.{makes_one}
use Rattle.records.specs.declared.kind.Kind.{Kind}
use Rattle.records.specs.declared.row.Row.{Row}
use Rattle.records.specs.Kinds.{is_reference, number_of, meaning_at, kind_of}
use Rattle.records.specs.Rows.{as_field, record_of, width, field_word, words, layout, cap_of, Lent, Lays, row_by, row_from, row_if, row_at, rows_at}
use Rattle.records.proofs.Laws.Kinds.{kind_number}

-- ---- the words of a row

value_field : (b : Bool) (k : ℕ) → field_word (as_field b k) ≡ k
value_field true k = refl
value_field false k = refl

-- The words of the record that a row stands for: each of its fields as it is.
unfoldable pub row_words : Row → List ℕ
row_words w =
    number_of w.kind ∷ w.position.offset ∷ w.position.line ∷ w.position.column ∷ w.a ∷ w.b ∷ w.c ∷ w.d ∷ []

words_row : (w : Row) → words (record_of w) ≡ row_words w
unfolding words row_words
words_row w =
    λ i.
    number_of w.kind
    ∷ w.position.offset
    ∷ w.position.line
    ∷ w.position.column
    ∷ value_field (is_reference (meaning_at w.kind 0)) w.a i
    ∷ value_field (is_reference (meaning_at w.kind 1)) w.b i
    ∷ value_field (is_reference (meaning_at w.kind 2)) w.c i
    ∷ value_field (is_reference (meaning_at w.kind 3)) w.d i
    ∷ []

-- Eight stores, one after the other, as code makes them.
abbrev stored : List ℕ → ℕ → ℕ → ℕ → ℕ → ℕ → ℕ → ℕ → ℕ → ℕ → List ℕ
stored l b s t u v w x y z =
    set (set (set (set (set (set (set (set l b s) (b + 1) t) (b + 2) u) (b + 3) v) (b + 4) w) (b + 5) x) (b + 6) y) (b + 7) z

eight : (l : List ℕ) (b s t u v w x y z : ℕ) → stored l b s t u v w x y z ≡ sets l b (s ∷ t ∷ u ∷ v ∷ w ∷ x ∷ y ∷ z ∷ [])
eight l b s t u v w x y z = rw (add-one b, add-two b, add-three b, add-four b, add_five b, add_six b, add_seven b)

-- What `lay` leaves.
pub lays : (before : List ℕ) (made : ℕ) (w : Row) (r : ℕ) → r ≡ number_of w.kind
    → Lays made w r before (stored before (made * 8) r w.position.offset w.position.line w.position.column w.a w.b w.c w.d)
unfolding layout row_words
lays before made w r e =
    let rest : List ℕ = w.position.offset ∷ w.position.line ∷ w.position.column ∷ w.a ∷ w.b ∷ w.c ∷ w.d ∷ [] in
    record {
      number = e;
      pool =
          eight before (made * 8) r w.position.offset w.position.line w.position.column w.a w.b w.c w.d
          ∙ ap (λ (k : ℕ). sets before (made * 8) (k ∷ rest)) e
          ∙ ap (sets before (made * 8)) (sym (words_row w));
    }

-- What `put` leaves, where there was room.
pub put_made : {before later : List ℕ} {cap : ℕ} {t : Tally} {at : Place} {w : Row} {v r : ℕ} → t.records < cap
    → Lays t.records w r before later
    → Makes layout cap t at (record_of w) v (Read at (record { number = t.records + 1; kind = r; position = w.position; value = v }) (with_record t)) before later
put_made {before} {later} {cap} {t} {at} {w} {v} {r} h l = rw (l.number, l.pool) (makes_one h)

-- ---- which words a layout changes

sets_before : (vs l : List ℕ) (i j : ℕ) → j < i → get_or (sets l i vs) j 0 ≡ get_or l j 0
sets_before [] l i j h = refl
sets_before (a ∷ vs) l i j h = sets_before vs (set l i a) (suc i) j (omega arith) ∙ get_or-set_other l i j a 0 (λ e. omega arith)

sets_past : (vs l : List ℕ) (i j : ℕ) → i + length vs ≤ j → get_or (sets l i vs) j 0 ≡ get_or l j 0
sets_past [] l i j h = refl
sets_past (a ∷ vs) l i j h = sets_past vs (set l i a) (suc i) j (omega arith) ∙ get_or-set_other l i j a 0 (λ e. omega arith)

sets_in : (vs l : List ℕ) (i k : ℕ) → k < length vs → i + length vs ≤ length l → get_or (sets l i vs) (i + k) 0 ≡ get_or vs k 0
sets_in [] l i k h r = absurd (omega arith)
sets_in (a ∷ vs) l i zero h r =
    let e : i + 0 ≡ i = omega arith in
    rw e (sets_before vs (set l i a) (suc i) i (omega arith) ∙ get_or-set_same l i a 0 (omega arith))
sets_in (a ∷ vs) l i (suc k) h r =
    let e : i + suc k ≡ suc i + k = omega arith in
    rw e (sets_in vs (set l i a) (suc i) k (omega arith) (let z = length-set l i a in omega arith))

module _ (pool : List ℕ) (made : ℕ) (r : Rec) where
  pub layout_length : length (layout pool made r) ≡ length pool
  unfolding layout
  layout_length = length-sets pool (made * width) (words r)

  pub layout_before : (i : ℕ) → i < made * width → get_or (layout pool made r) i 0 ≡ get_or pool i 0
  unfolding layout
  layout_before i h = sets_before (words r) pool (made * width) i h

  layout_past : (i : ℕ) → (made + 1) * width ≤ i → get_or (layout pool made r) i 0 ≡ get_or pool i 0
  unfolding layout
  layout_past i h = sets_past (words r) pool (made * width) i (omega arith)

-- The words that were laid are the row's.
pub layout_word : (pool : List ℕ) (made : ℕ) (w : Row) (j : ℕ) → made * width + width ≤ length pool → j < width
    → get_or (layout pool made (record_of w)) (made * width + j) 0 ≡ get_or (row_words w) j 0
unfolding layout row_words
layout_word pool made w j h l =
    sets_in (words (record_of w)) pool (made * width) j l (omega arith) ∙ ap (λ (ws : List ℕ). get_or ws j 0) (words_row w)

-- A pool keeps its length.
pub laid_length : (rs : List Rec) (pool : List ℕ) (made : ℕ) → length (laid layout pool made rs) ≡ length pool
unfolding laid
laid_length [] pool made = refl
laid_length (r ∷ rs) pool made = laid_length rs (layout pool made r) (made + 1) ∙ layout_length pool made r

-- The words of the records made before stay as they were.
pub laid_before : (rs : List Rec) (pool : List ℕ) (made i : ℕ) → i < made * width → get_or (laid layout pool made rs) i 0 ≡ get_or pool i 0
unfolding laid
laid_before [] pool made i h = refl
laid_before (r ∷ rs) pool made i h = laid_before rs (layout pool made r) (made + 1) i (omega arith) ∙ layout_before pool made r i h

-- "Pool words past the records made stay untouched."
pub laid_past : (rs : List Rec) (pool : List ℕ) (made i : ℕ) → (made + length rs) * width ≤ i
    → get_or (laid layout pool made rs) i 0 ≡ get_or pool i 0
unfolding laid
laid_past [] pool made i h = refl
laid_past (r ∷ rs) pool made i h = laid_past rs (layout pool made r) (made + 1) i (omega arith) ∙ layout_past pool made r i (omega arith)

-- ---- reading back

pub row_zero : (pool : List ℕ) (n : ℕ) → n ≡ 0 → row_at pool n ≡ None
unfolding row_at
row_zero pool n e = rw e

pub row_short : (pool : List ℕ) (n : ℕ) → length pool < n * 8 → row_at pool n ≡ None
unfolding row_at
row_short pool n h = go (leb 1 n) (lt-leb (n * 8) (length pool) h)
  where
    go : (b : Bool) → leb (n * 8) (length pool) ≡ false → row_if (b && leb (n * 8) (length pool)) (row_from pool (n * 8 - 8)) ≡ None
    go true e = rw e
    go false e = refl

pub row_in : (pool : List ℕ) (n : ℕ) → (n ≡ 0 → ⊥) → n * 8 ≤ length pool → row_at pool n ≡ row_from pool (n * 8 - 8)
unfolding row_at
row_in pool n z h = rw (le-leb 1 n (pos_of_ne-zero z), le-leb (n * 8) (length pool) h)

-- A row by the kind found.
pub row_kind : (pool : List ℕ) (n : ℕ) (k : Option Kind) → (n ≡ 0 → ⊥) → n * 8 ≤ length pool → k ≡ kind_of (get_or pool (n * 8 - 8) 0)
    → row_at pool n
    ≡ row_by
    k
    (record { offset = get_or pool (n * 8 - 8 + 1) 0; line = get_or pool (n * 8 - 8 + 2) 0; column = get_or pool (n * 8 - 8 + 3) 0 })
    (get_or pool (n * 8 - 8 + 4) 0)
    (get_or pool (n * 8 - 8 + 5) 0)
    (get_or pool (n * 8 - 8 + 6) 0)
    (get_or pool (n * 8 - 8 + 7) 0)
row_kind pool n k z h e = row_in pool n z h ∙ rw e

-- Two pools whose words agree at a row have the same row there.
row_same : (x y : List ℕ) (b : ℕ) → ((j : ℕ) → j < 8 → get_or x (b + j) 0 ≡ get_or y (b + j) 0) → row_from x b ≡ row_from y b
row_same x y b h =
    let e : b + 0 ≡ b = omega arith in
    let z : get_or x b 0 ≡ get_or y b 0 = subst (λ (k : ℕ). get_or x k 0 ≡ get_or y k 0) e (h 0 (omega arith)) in
    λ i.
    row_by (kind_of (z i))
    (record { offset = h 1 (omega arith) i; line = h 2 (omega arith) i; column = h 3 (omega arith) i })
    (h 4 (omega arith) i)
    (h 5 (omega arith) i)
    (h 6 (omega arith) i)
    (h 7 (omega arith) i)

-- A row's words give the row.
row_of_lem : (x : List ℕ) (b : ℕ) (w : Row) → ((j : ℕ) → j < 8 → get_or x (b + j) 0 ≡ get_or (row_words w) j 0) → row_from x b ≡ Some w
unfolding row_words
row_of_lem x b w h =
    let e : b + 0 ≡ b = omega arith in
    let z : get_or x b 0 ≡ number_of w.kind = subst (λ (k : ℕ). get_or x k 0 ≡ number_of w.kind) e (h 0 (omega arith)) in
    let k : kind_of (get_or x b 0) ≡ Some w.kind = ap kind_of z ∙ kind_number w.kind in
    λ i.
    row_by (k i)
    (record { offset = h 1 (omega arith) i; line = h 2 (omega arith) i; column = h 3 (omega arith) i })
    (h 4 (omega arith) i)
    (h 5 (omega arith) i)
    (h 6 (omega arith) i)
    (h 7 (omega arith) i)

-- Laying records changes no earlier row.
pub laid_row : (rs : List Rec) (pool : List ℕ) (made n : ℕ) → n ≤ made → row_at (laid layout pool made rs) n ≡ row_at pool n
laid_row rs pool made zero h = row_zero (laid layout pool made rs) zero refl ∙ sym (row_zero pool zero refl)
laid_row rs pool made (suc n) h = go (leb (suc n * 8) (length pool)) refl
  where
    go : (b : Bool) → leb (suc n * 8) (length pool) ≡ b → row_at (laid layout pool made rs) (suc n) ≡ row_at pool (suc n)
    go true e =
        let l : length (laid layout pool made rs) ≡ length pool = laid_length rs pool made in
        let f : suc n * 8 ≤ length pool = leb-true (suc n * 8) (length pool) e in
        row_in (laid layout pool made rs) (suc n) (λ z. omega arith) (omega arith)
        ∙ row_same (laid layout pool made rs) pool (suc n * 8 - 8) (λ j m. laid_before rs pool made (suc n * 8 - 8 + j) (omega arith))
        ∙ sym (row_in pool (suc n) (λ z. omega arith) f)
    go false e =
        let l : length (laid layout pool made rs) ≡ length pool = laid_length rs pool made in
        let f : length pool < suc n * 8 = leb-false (suc n * 8) (length pool) e in
        row_short (laid layout pool made rs) (suc n) (omega arith) ∙ sym (row_short pool (suc n) f)

-- What was laid is read back.
layout_row : (pool : List ℕ) (made : ℕ) (w : Row) → (made + 1) * 8 ≤ length pool → row_at (layout pool made (record_of w)) (made + 1) ≡ Some w
layout_row pool made w h =
    let p : List ℕ = layout pool made (record_of w) in
    let l : length p ≡ length pool = layout_length pool made (record_of w) in
    let e : (made + 1) * 8 - 8 ≡ made * 8 = omega arith in
    row_in p (made + 1) (λ z. omega arith) (omega arith)
    ∙ ap (row_from p) e
    ∙ row_of_lem p (made * 8) w (λ j m. layout_word pool made w j (omega arith) m)

-- Reading back the records laid gives the rows that they are, in their order.
pub rows_back : (ws : List Row) (pool : List ℕ) (made : ℕ) → (made + length ws) * 8 ≤ length pool
    → rows_at (laid layout pool made (map record_of ws)) made (length ws) ≡ map Some ws
unfolding laid
rows_back [] pool made h = refl
rows_back (w ∷ ws) pool made h =
    let p : List ℕ = layout pool made (record_of w) in
    let l : length p ≡ length pool = layout_length pool made (record_of w) in
    let first : row_at (laid layout p (made + 1) (map record_of ws)) (made + 1) ≡ Some w =
    laid_row (map record_of ws) p (made + 1) (made + 1) (omega arith) ∙ layout_row pool made w (omega arith)
    in
    let others = rows_back ws p (made + 1) (omega arith) in
    λ i. first i ∷ others i

here_one : (v w : List Row) → map Some v ≡ map Some w → v ≡ w
here_one [] [] e = refl
here_one [] (w ∷ ws) e = cc
here_one (v ∷ vs) [] e = cc
here_one (v ∷ vs) (w ∷ ws) e =
    let h : Some v ≡ Some w = cc in
    let t : map Some vs ≡ map Some ws = cc in
    let f : v ≡ w = cc in
    let g : vs ≡ ws = here_one vs ws t in
    λ i. f i ∷ g i

-- So the pool determines the rows.
pub rows_one : (v w : List Row) (pool : List ℕ) (made : ℕ) → length v ≡ length w → (made + length v) * 8 ≤ length pool
    → laid layout pool made (map record_of v) ≡ laid layout pool made (map record_of w)
    → v ≡ w
rows_one v w pool made e h s =
    let h' : (made + length w) * 8 ≤ length pool = omega arith in
    here_one v w
    (sym (rows_back v pool made h)
    ∙ ap (λ (p : List ℕ). rows_at p made (length v)) s
    ∙ ap (rows_at (laid layout pool made (map record_of w)) made) e
    ∙ rows_back w pool made h')

-- ---- a pool that was lent

pub lent : (pool : List ℕ) → Lent pool (cap_of (length pool))
lent pool = record { room = omega arith }

pub lent_by : {pool : List ℕ} {cap : ℕ} → cap ≡ cap_of (length pool) → Lent pool cap
lent_by e = record { room = omega arith }

pub lent_kept : {pool later : List ℕ} {cap : ℕ} → Lent pool cap → length later ≡ length pool → Lent later cap
lent_kept h e = record { room = omega arith }
