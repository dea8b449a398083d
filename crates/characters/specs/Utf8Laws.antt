-- Laws of UTF-8: a text begins with at most one row of the table, the prefix is the longest well-formed text at the front, a row is one
-- character of a place, and its value a scalar value. Each rule of the table is one computed test. Assumes nothing.
use Rattle.std.specs.Prelude.{◌≡◌, refl, Bool, true, false, ◌&&◌, ◌||◌, ℕ, zero, suc, ◌+◌, ◌-◌, ◌*◌, ◌≤◌, ◌<◌, ◌^◌, leb, ltb, length, take, drop}
use Rattle.std.proofs.Common.{sym, ap, subst, ◌∙◌, inl, inr, arith, length-append, length-take, length-drop, take-append-drop, length-take-le, take-add, leb-true, ltb-true, eqb-true, le-leb, eq-eqb}
use Rattle.std.proofs.Math.Path.{subst⁻¹}
use Rattle.std.proofs.Math.Bool.{and-eq-true_iff}
use mathlib.Core.List.{List, [], ◌∷◌, ◌++◌, append_assoc, Memᴰ}
use Rattle.std.proofs.Math.Seq.{drop-append_seam, take-length}
use Rattle.std.proofs.lemmas.Bool.{lt-leb}
use Rattle.characters.specs.declared.place.Place.{Place}
use Rattle.characters.specs.Text.{Text, byte_at, on_by, tail_on, past, start, Stands}
use Rattle.characters.specs.PlaceLaws.{past_low, past_tail, past_high, past_offset, past_stands}
use Rattle.characters.specs.Utf8.{Range, Row, table, Spells, none, byte, WellFormed, empty, then, inside, fits, row_in, sequence_of, prefix_in, prefix_of, well_formed, place_after, mark, bits, value_of, char_by, char_of, Scalar}

-- ---- a rule of every row: a test of the table

abbrev pub every : (Row → Bool) → List Row → Bool
every f [] = true
every f (row ∷ rows) = f row && every f rows

pub every_row : (f : Row → Bool) {row : Row} {rows : List Row} → every f rows ≡ true → Memᴰ row rows → f row ≡ true
every_row f t (Memᴰ.head {x = x} {xs = rows} e) = ap f e ∙ ((and-eq-true_iff (f x) (every f rows)).0 t).0
every_row f t (Memᴰ.tail {x = x} {xs = rows} m) = every_row f ((and-eq-true_iff (f x) (every f rows)).0 t).1 m

pub inside_low : (r : Range) (b : ℕ) → inside r b ≡ true → r.low ≤ b
inside_low r b t = leb-true r.low b ((and-eq-true_iff (leb r.low b) (leb b r.high)).0 t).0

pub inside_high : (r : Range) (b : ℕ) → inside r b ≡ true → b ≤ r.high
inside_high r b t = leb-true b r.high ((and-eq-true_iff (leb r.low b) (leb b r.high)).0 t).1

pub in_range : (r : Range) (b : ℕ) → r.low ≤ b → b ≤ r.high → inside r b ≡ true
in_range r b l h = (and-eq-true_iff (leb r.low b) (leb b r.high)).1 (le-leb r.low b l, le-leb b r.high h)

pub never : {A : Type 0} → false ≡ true → A
never e = let z : ◌≡◌ {A = ℕ} 0 1 = cc in absurd (omega arith)

-- ---- `fits` is `Spells` at the front

pub spells_length : {row : Row} {a : Text} → Spells row a → length a ≡ length row
spells_length none = refl
spells_length (byte l h w) = ap suc (spells_length w)

pub spells_fits : {row : Row} {a : Text} → Spells row a → (t : Text) → fits row (a ++ t) ≡ true
unfolding fits
spells_fits none t = refl
spells_fits (byte {r = r} {row = row} {b = b} {s = s} l h w) t = (and-eq-true_iff (inside r b) (fits row (s ++ t))).1 (in_range r b l h, spells_fits w t)

pub fits_spells : (row : Row) (s : Text) → fits row s ≡ true → Spells row (take (length row) s)
unfolding fits
fits_spells [] s t = none
fits_spells (r ∷ row) [] t = never t
fits_spells (r ∷ row) (b ∷ s) t =
    let k = (and-eq-true_iff (inside r b) (fits row s)).0 t in
    byte (inside_low r b k.0) (inside_high r b k.0) (fits_spells row s k.1)

pub fits_length : (row : Row) (s : Text) → fits row s ≡ true → length row ≤ length s
unfolding fits
fits_length [] s t = omega arith
fits_length (r ∷ row) [] t = never t
fits_length (r ∷ row) (b ∷ s) t = let h : length row ≤ length s = fits_length row s ((and-eq-true_iff (inside r b) (fits row s)).0 t).1 in omega arith

-- ---- the leads ascend, so that at most one row fits

-- each row has a lead, from `n` on and above the leads of the rows before
abbrev pub ascend : ℕ → List Row → Bool
ascend n [] = true
ascend n ([] ∷ rows) = false
ascend n ((r ∷ row) ∷ rows) = leb n r.low && (leb r.low r.high && ascend (suc r.high) rows)

pub leads_ascend : ascend 0 table ≡ true
unfolding table
leads_ascend = refl

record Ascends (n : ℕ) (r : Range) (rows : List Row) : Type 0 where
  above : n ≤ r.low
  some : r.low ≤ r.high
  next : ascend (suc r.high) rows ≡ true

ascends : (n : ℕ) (r : Range) (row : Row) (rows : List Row) → ascend n ((r ∷ row) ∷ rows) ≡ true → Ascends n r rows
ascends n r row rows t =
    let a = (and-eq-true_iff (leb n r.low) (leb r.low r.high && ascend (suc r.high) rows)).0 t in
    let b = (and-eq-true_iff (leb r.low r.high) (ascend (suc r.high) rows)).0 a.1 in
    record { above = leb-true n r.low a.0; some = leb-true r.low r.high b.0; next = b.1 }

-- whether a byte is a row's lead
abbrev pub opens : Row → ℕ → Bool
opens [] b = false
opens (r ∷ row) b = inside r b

-- the row whose lead a byte is; the empty row where it is none
unfoldable pub opened_in : List Row → ℕ → Row
opened_in [] b = []
opened_in (row ∷ rows) b = elim (opens row b) [ true ↦ row | false ↦ opened_in rows b ]

pub opened_yes : (row : Row) (rows : List Row) (b : ℕ) → opens row b ≡ true → opened_in (row ∷ rows) b ≡ row
unfolding opened_in
opened_yes row rows b e = rw (opened_in, e)

pub opened_no : (row : Row) (rows : List Row) (b : ℕ) → opens row b ≡ false → opened_in (row ∷ rows) b ≡ opened_in rows b
unfolding opened_in
opened_no row rows b e = rw (opened_in, e)

row_yes : (row : Row) (rows : List Row) (s : Text) → fits row s ≡ true → row_in (row ∷ rows) s ≡ row
unfolding row_in
row_yes row rows s e = rw (row_in, e)

row_no : (row : Row) (rows : List Row) (s : Text) → fits row s ≡ false → row_in (row ∷ rows) s ≡ row_in rows s
unfolding row_in
row_no row rows s e = rw (row_in, e)

-- a byte below the leads opens no row
none_below : (n : ℕ) (rows : List Row) → ascend n rows ≡ true → (b : ℕ) → b < n → (s : Text) → row_in rows (b ∷ s) ≡ []
unfolding row_in fits
none_below n [] t b h s = refl
none_below n ([] ∷ rows) t b h s = never t
none_below n ((r ∷ x) ∷ rows) t b h s =
    let a = ascends n r x rows t in
    let l : n ≤ r.low = a.above in
    let k : r.low ≤ r.high = a.some in
    row_no (r ∷ x) rows (b ∷ s) (rw (lt-leb r.low b (omega arith))) ∙ none_below (suc r.high) rows a.next b (omega arith) s

abbrev pub kept : Bool → Row → Row
kept true row = row
kept false row = []

-- the first row that fits is the row that the lead opens, if that fits
pub row_by_lead : (n : ℕ) (rows : List Row) → ascend n rows ≡ true → (b : ℕ) (s : Text) → row_in rows (b ∷ s) ≡ kept (fits (opened_in rows b) (b ∷ s)) (opened_in rows b)
unfolding row_in opened_in fits
row_by_lead n [] t b s = refl
row_by_lead n ([] ∷ rows) t b s = never t
row_by_lead n ((r ∷ x) ∷ rows) t b s = go (inside r b) refl (row_by_lead (suc r.high) rows a.next b s)
  where
    a : Ascends n r rows
    a = ascends n r x rows t

    Goal : Type 0
    Goal = row_in ((r ∷ x) ∷ rows) (b ∷ s) ≡ kept (fits (opened_in ((r ∷ x) ∷ rows) b) (b ∷ s)) (opened_in ((r ∷ x) ∷ rows) b)

    by : (y : Row) → opened_in ((r ∷ x) ∷ rows) b ≡ y → row_in ((r ∷ x) ∷ rows) (b ∷ s) ≡ kept (fits y (b ∷ s)) y → Goal
    by y e h = h ∙ ap (λ (z : Row). kept (fits z (b ∷ s)) z) (sym e)

    fit : (u : Bool) → fits (r ∷ x) (b ∷ s) ≡ u → inside r b ≡ true → row_in ((r ∷ x) ∷ rows) (b ∷ s) ≡ kept u (r ∷ x)
    fit true e i = row_yes (r ∷ x) rows (b ∷ s) e
    fit false e i = row_no (r ∷ x) rows (b ∷ s) e ∙ none_below (suc r.high) rows a.next b (let h : b ≤ r.high = inside_high r b i in omega arith) s

    go : (u : Bool) → inside r b ≡ u → row_in rows (b ∷ s) ≡ kept (fits (opened_in rows b) (b ∷ s)) (opened_in rows b) → Goal
    go true i later = by (r ∷ x) (opened_yes (r ∷ x) rows b i) (fit (fits (r ∷ x) (b ∷ s)) refl i)
    go false i later = by (opened_in rows b) (opened_no (r ∷ x) rows b i) (row_no (r ∷ x) rows (b ∷ s) (rw i) ∙ later)

-- a row that a byte opens has its lead from `n` on
lead_above : (n : ℕ) (rows : List Row) → ascend n rows ≡ true → {row : Row} → Memᴰ row rows → (b : ℕ) → opens row b ≡ true → n ≤ b
lead_above n [] t {row = row} m b o = elim m [ ]
lead_above n ([] ∷ rows) t m b o = never t
lead_above n ((r ∷ x) ∷ rows) t (Memᴰ.head e) b o =
    let h : n ≤ r.low = (ascends n r x rows t).above in
    let l : r.low ≤ b = inside_low r b (ap (λ (y : Row). opens y b) (sym e) ∙ o) in
    omega arith
lead_above n ((r ∷ x) ∷ rows) t (Memᴰ.tail m) b o =
    let a = ascends n r x rows t in
    let l : suc r.high ≤ b = lead_above (suc r.high) rows a.next m b o in
    omega arith

-- no other row has that lead
opened_only : (n : ℕ) (rows : List Row) → ascend n rows ≡ true → {row : Row} → Memᴰ row rows → (b : ℕ) → opens row b ≡ true → opened_in rows b ≡ row
opened_only n [] t {row = row} m b o = elim m [ ]
opened_only n ([] ∷ rows) t m b o = never t
opened_only n ((r ∷ x) ∷ rows) t (Memᴰ.head e) b o = opened_yes (r ∷ x) rows b (ap (λ (y : Row). opens y b) (sym e) ∙ o) ∙ sym e
opened_only n ((r ∷ x) ∷ rows) t {row} (Memᴰ.tail m) b o = go (inside r b) refl (opened_only (suc r.high) rows a.next m b o)
  where
    a : Ascends n r rows
    a = ascends n r x rows t

    go : (u : Bool) → inside r b ≡ u → opened_in rows b ≡ row → opened_in ((r ∷ x) ∷ rows) b ≡ row
    go true i later =
        let h : b ≤ r.high = inside_high r b i in
        let l : suc r.high ≤ b = lead_above (suc r.high) rows a.next m b o in
        absurd (omega arith)
    go false i later = opened_no (r ∷ x) rows b i ∙ later

fits_opens : (r : Range) (row : Row) (b : ℕ) (s : Text) → fits (r ∷ row) (b ∷ s) ≡ true → opens (r ∷ row) b ≡ true
unfolding fits
fits_opens r row b s t = ((and-eq-true_iff (inside r b) (fits row s)).0 t).0

has_lead : Row → Bool
has_lead [] = false
has_lead (r ∷ row) = true

all_have_lead : every has_lead table ≡ true
unfolding table has_lead
all_have_lead = refl

-- the row that fits at the front of a text is the only one
pub only : (row : Row) (s : Text) → Memᴰ row table → fits row s ≡ true → row_in table s ≡ row
unfolding fits has_lead
only [] s m t = never (every_row has_lead all_have_lead m)
only (r ∷ row) [] m t = never t
only (r ∷ row) (b ∷ s) m t =
    let e : opened_in table b ≡ r ∷ row = opened_only 0 table leads_ascend m b (fits_opens r row b s t) in
    row_by_lead 0 table leads_ascend b s ∙ ap (λ (y : Row). kept (fits y (b ∷ s)) y) e ∙ ap (λ (u : Bool). kept u (r ∷ row)) t

pub one_row : (row row' : Row) (s : Text) → Memᴰ row table → Memᴰ row' table → fits row s ≡ true → fits row' s ≡ true → row ≡ row'
one_row row row' s m m' t t' = sym (only row s m t) ∙ only row' s m' t'

-- what `row_in` finds is a row of the table, and fits
pub record Found (rows : List Row) (s : Text) (row : Row) : Type 0 where
  pub listed : Memᴰ row rows
  pub fitting : fits row s ≡ true

found_in : (rows : List Row) (s : Text) (r : Range) (row : Row) → row_in rows s ≡ r ∷ row → Found rows s (r ∷ row)
unfolding row_in
found_in [] s r row e = let z : ◌≡◌ {A = ℕ} 0 1 = cc in absurd (omega arith)
found_in (x ∷ rows) s r row e = go (fits x s) refl (found_in rows s r row)
  where
    go : (u : Bool) → fits x s ≡ u → (row_in rows s ≡ r ∷ row → Found rows s (r ∷ row)) → Found (x ∷ rows) s (r ∷ row)
    go true t later =
        let k : r ∷ row ≡ x = sym e ∙ row_yes x rows s t in
        record { listed = Memᴰ.head k; fitting = ap (λ (y : Row). fits y s) k ∙ t }
    go false t later = let f = later (sym (row_no x rows s t) ∙ e) in record { listed = Memᴰ.tail f.listed; fitting = f.fitting }

-- ---- the character at the front

-- what `sequence_of` counts is there: a row of the table of so many ranges, which fits
pub record Begins (s : Text) (n : ℕ) : Type 0 where
  pub row : Row
  pub listed : Memᴰ row table
  pub fitting : fits row s ≡ true
  pub width : length row ≡ n

pub sequence_row : (s : Text) (n : ℕ) → sequence_of s ≡ suc n → Begins s (suc n)
unfolding sequence_of
sequence_row s n e = go (row_in table s) refl
  where
    go : (row : Row) → row_in table s ≡ row → Begins s (suc n)
    go [] k = let z : 0 ≡ suc n = sym (ap length k) ∙ e in absurd (omega arith)
    go (r ∷ row) k =
        let f = found_in table s r row k in
        record { row = r ∷ row; listed = f.listed; fitting = f.fitting; width = sym (ap length k) ∙ e }

pub row_sequence : {row : Row} {a : Text} → Memᴰ row table → Spells row a → (s : Text) → sequence_of (a ++ s) ≡ length a
unfolding sequence_of
row_sequence {row} {a} m w s = ap length (only row (a ++ s) m (spells_fits w s)) ∙ sym (spells_length w)

pub sequence_length : (s : Text) → sequence_of s ≤ length s
sequence_length s = go (sequence_of s) refl
  where
    go : (n : ℕ) → sequence_of s ≡ n → n ≤ length s
    go zero e = omega arith
    go (suc n) e =
        let g = sequence_row s n e in
        let h : length g.row ≤ length s = fits_length g.row s g.fitting in
        let k : length g.row ≡ suc n = g.width in
        omega arith

-- ---- the prefix

-- the bytes of a character that are still to pass
pub prefix_passes : (left : ℕ) (s : Text) → left ≤ length s → prefix_in left s ≡ left + prefix_of (drop left s)
unfolding prefix_in
prefix_passes zero s h = omega arith
prefix_passes (suc left) [] h = absurd (let z : suc left ≤ 0 = h in omega arith)
prefix_passes (suc left) (b ∷ s) h =
    let z : suc left ≤ suc (length s) = h in
    let k : prefix_in left s ≡ left + prefix_of (drop left s) = prefix_passes left s (omega arith) in
    omega arith

-- no character at the front: the prefix is empty
pub prefix_none : (s : Text) → sequence_of s ≡ 0 → prefix_of s ≡ 0
unfolding prefix_in
prefix_none [] e = refl
prefix_none (b ∷ s) e = rw (prefix_in, e)

-- a character at the front, and the prefix of what follows
pub prefix_step : (s : Text) (n : ℕ) → sequence_of s ≡ n → prefix_of s ≡ n + prefix_of (drop n s)
unfolding prefix_in
prefix_step s zero e = omega arith
prefix_step [] (suc n) e = let h : sequence_of [] ≤ 0 = sequence_length [] in absurd (omega arith)
prefix_step (b ∷ s) (suc n) e =
    let h : sequence_of (b ∷ s) ≤ suc (length s) = sequence_length (b ∷ s) in
    let k : prefix_in n s ≡ n + prefix_of (drop n s) = prefix_passes n s (omega arith) in
    let z : prefix_of (b ∷ s) ≡ suc (prefix_in n s) = rw (prefix_in, e) in
    omega arith

pub sequence_end : sequence_of [] ≡ 0
sequence_end = let h : sequence_of [] ≤ 0 = sequence_length [] in omega arith

-- from character to character: what holds where none is, and before a character if it holds after it, holds of every text
module _ (P : Text → Type 0) (stop : (s : Text) → sequence_of s ≡ 0 → P s) (step : (s : Text) (n : ℕ) → sequence_of s ≡ n → P (drop n s) → P s) where
  walk : (left : ℕ) (s : Text) → P (drop left s)
  walk zero [] = stop [] sequence_end
  walk (suc left) [] = stop [] sequence_end
  walk zero (b ∷ s) = go (sequence_of (b ∷ s)) refl (λ n. walk n s)
    where
      go : (n : ℕ) → sequence_of (b ∷ s) ≡ n → ((n : ℕ) → P (drop n s)) → P (b ∷ s)
      go zero e later = stop (b ∷ s) e
      go (suc n) e later = step (b ∷ s) (suc n) e (later n)
  walk (suc left) (b ∷ s) = walk left s

  pub by_characters : (s : Text) → P s
  by_characters s = walk 0 s

pub prefix_length : (s : Text) → prefix_of s ≤ length s
prefix_length =
    by_characters (λ s. prefix_of s ≤ length s) (λ s e. let h : prefix_of s ≡ 0 = prefix_none s e in omega arith)
    (λ s n e h. let k : prefix_of s ≡ n + prefix_of (drop n s) = prefix_step s n e in let l : sequence_of s ≤ length s = sequence_length s in omega (arith, length-drop n s))

-- the prefix is well-formed
pub prefix_sound : (s : Text) → WellFormed (take (prefix_of s) s)
prefix_sound = by_characters (λ s. WellFormed (take (prefix_of s) s)) stop step
  where
    stop : (s : Text) → sequence_of s ≡ 0 → WellFormed (take (prefix_of s) s)
    stop s e = rw (prefix_none s e) empty

    step : (s : Text) (n : ℕ) → sequence_of s ≡ n → WellFormed (take (prefix_of (drop n s)) (drop n s)) → WellFormed (take (prefix_of s) s)
    step s zero e later = later
    step s (suc n) e later =
        let g = sequence_row s n e in
        let w : Spells g.row (take (suc n) s) = rw g.width at (fits_spells g.row s g.fitting) in
        rw (prefix_step s (suc n) e, take-add (suc n) (prefix_of (drop (suc n) s)) s) (then g.listed w later)

-- what is well-formed is passed
prefix_over : {a : Text} → WellFormed a → (s : Text) → prefix_of (a ++ s) ≡ length a + prefix_of s
prefix_over empty s = omega arith
prefix_over (then {row = row} {a = a} {s = t} m w f) s =
    let e : sequence_of (a ++ (t ++ s)) ≡ length a = row_sequence m w (t ++ s) in
    let k : prefix_of (a ++ (t ++ s)) ≡ length a + prefix_of (t ++ s) = prefix_step (a ++ (t ++ s)) (length a) e ∙ ap (λ (l : Text). length a + prefix_of l) (drop-append_seam a (t ++ s)) in
    let h : prefix_of (t ++ s) ≡ length t + prefix_of s = prefix_over f s in
    rw (append_assoc a t s) (omega (arith, length-append a t))

-- and no longer text at the front is
pub prefix_complete : (s : Text) (n : ℕ) → n ≤ length s → WellFormed (take n s) → n ≤ prefix_of s
prefix_complete s n h w =
    let k : prefix_of (take n s ++ drop n s) ≡ length (take n s) + prefix_of (drop n s) = prefix_over w (drop n s) in
    let e : prefix_of s ≡ length (take n s) + prefix_of (drop n s) = ap (λ (l : Text). prefix_of l) (sym (take-append-drop n s)) ∙ k in
    omega (arith, length-take-le n s h)

-- a text is well-formed exactly when its prefix is the whole of it
pub whole_sound : (s : Text) → well_formed s ≡ true → WellFormed s
whole_sound s t = subst WellFormed (ap (λ (n : ℕ). take n s) (eqb-true (prefix_of s) (length s) t) ∙ take-length s) (prefix_sound s)

pub whole_complete : (s : Text) → WellFormed s → well_formed s ≡ true
whole_complete s w =
    let h : length s ≤ prefix_of s = prefix_complete s (length s) (omega arith) (subst⁻¹ WellFormed (take-length s) w) in
    eq-eqb (prefix_of s) (length s) (omega (arith, prefix_length s))

-- ---- places count characters

unfoldable pub within : Row → Bool
within [] = true
within (r ∷ row) = leb 0x80 r.low && (leb r.high 0xBF && within row)

-- a lead is no tail, and the bytes after it are tails
shaped : Row → Bool
shaped [] = false
shaped (r ∷ row) = (ltb r.high 0x80 || leb 0xC0 r.low) && within row

all_shaped : every shaped table ≡ true
unfolding table shaped within
all_shaped = refl

-- bytes after a lead move the offset alone
tails_stay : {row : Row} {a : Text} → within row ≡ true → Spells row a → (p : Place)
    → place_after a p ≡ record { offset = p.offset + length a; line = p.line; column = p.column }
unfolding within place_after
tails_stay t none p = let e : p.offset ≡ p.offset + 0 = omega arith in ap (λ (o : ℕ). record { offset = o; line = p.line; column = p.column }) e
tails_stay t (byte {r = r} {row = row} {b = b} {s = s} l h w) p =
    let x = (and-eq-true_iff (leb 0x80 r.low) (leb r.high 0xBF && within row)).0 t in
    let y = (and-eq-true_iff (leb r.high 0xBF) (within row)).0 x.1 in
    let f : 0x80 ≤ r.low = leb-true 0x80 r.low x.0 in
    let g : r.high ≤ 0xBF = leb-true r.high 0xBF y.0 in
    let e : p.offset + 1 + length s ≡ p.offset + suc (length s) = omega arith in
    ap (place_after s) (past_tail b p (omega arith) (omega arith)) ∙ tails_stay y.1 w (tail_on p) ∙ ap (λ (o : ℕ). record { offset = o; line = p.line; column = p.column }) e

-- the bytes of one character, unless it is LF, move the column by one and the offset by their number
pub row_moves : {row : Row} {a : Text} → Memᴰ row table → Spells row a → (byte_at a 0 ≡ 10 → ⊥) → (p : Place)
    → place_after a p ≡ record { offset = p.offset + length a; line = p.line; column = p.column + 1 }
unfolding shaped place_after
row_moves m none n p = never (every_row shaped all_shaped m)
row_moves m (byte {r = r} {row = row} {b = b} {s = s} l h w) n p = go (ltb r.high 0x80) refl
  where
    t : (ltb r.high 0x80 || leb 0xC0 r.low) && within row ≡ true
    t = every_row shaped all_shaped m

    k : (ltb r.high 0x80 || leb 0xC0 r.low ≡ true) × (within row ≡ true)
    k = (and-eq-true_iff (ltb r.high 0x80 || leb 0xC0 r.low) (within row)).0 t

    e : p.offset + 1 + length s ≡ p.offset + suc (length s)
    e = omega arith

    on : past b p ≡ on_by 1 p → place_after s (past b p) ≡ record { offset = p.offset + suc (length s); line = p.line; column = p.column + 1 }
    on q = ap (place_after s) q ∙ tails_stay k.1 w (on_by 1 p) ∙ ap (λ (o : ℕ). record { offset = o; line = p.line; column = p.column + 1 }) e

    go : (u : Bool) → ltb r.high 0x80 ≡ u → place_after s (past b p) ≡ record { offset = p.offset + suc (length s); line = p.line; column = p.column + 1 }
    go true u = let x : r.high < 0x80 = ltb-true r.high 0x80 u in on (past_low b p n (omega arith))
    go false u =
        let x : leb 0xC0 r.low ≡ true = rw u at k.0 in
        let y : 0xC0 ≤ r.low = leb-true 0xC0 r.low x in
        on (past_high b p (omega arith))

after_stands : (s a : Text) (p : Place) → Stands s p → p.offset + length a ≤ length s → Stands s (place_after a p)
unfolding place_after
after_stands s [] p h l = h
after_stands s (b ∷ a) p h l =
    let z : p.offset + suc (length a) ≤ length s = l in
    let o : (past b p).offset ≡ p.offset + 1 = past_offset b p in
    after_stands s a (past b p) (past_stands s b p h (omega arith)).stands (omega arith)

-- the place after any bytes at the front of a text, so after its prefix, is one that a caller can hold
pub place_stands : (s : Text) (n : ℕ) → length s < 2 ^ 31 → Stands s (place_after (take n s) start)
place_stands s n h =
    after_stands s (take n s) start (record { short = h; inside = omega arith; lines = omega arith; columns = omega arith }) (omega (arith, length-take n s))

-- ---- values

abbrev lows : Row → Text
lows [] = []
lows (r ∷ row) = r.low ∷ lows row

abbrev highs : Row → Text
highs [] = []
highs (r ∷ row) = r.high ∷ highs row

lows_length : (row : Row) → length (lows row) ≡ length row
lows_length [] = refl
lows_length (r ∷ row) = ap suc (lows_length row)

highs_length : (row : Row) → length (highs row) ≡ length row
highs_length [] = refl
highs_length (r ∷ row) = ap suc (highs_length row)

bits_low : {row : Row} {a : Text} → Spells row a → (v w : ℕ) → v ≤ w → bits v (lows row) ≤ bits w a
unfolding bits
bits_low none v w h = h
bits_low (byte {r = r} {b = b} l g f) v w h = bits_low f (v * 64 + (r.low - 0x80)) (w * 64 + (b - 0x80)) (omega arith)

bits_high : {row : Row} {a : Text} → Spells row a → (v w : ℕ) → v ≤ w → bits v a ≤ bits w (highs row)
unfolding bits
bits_high none v w h = h
bits_high (byte {r = r} {b = b} l g f) v w h = bits_high f (v * 64 + (b - 0x80)) (w * 64 + (r.high - 0x80)) (omega arith)

-- a value lies between those of the row's lowest and highest bytes
pub value_low : {row : Row} {a : Text} → Spells row a → value_of (lows row) ≤ value_of a
unfolding value_of
value_low none = omega arith
value_low (byte {r = r} {row = row} {b = b} {s = s} l h w) =
    rw (lows_length row, spells_length w) (bits_low w (r.low - mark (length row)) (b - mark (length row)) (omega arith))

pub value_high : {row : Row} {a : Text} → Spells row a → value_of a ≤ value_of (highs row)
unfolding value_of
value_high none = omega arith
value_high (byte {r = r} {row = row} {b = b} {s = s} l h w) =
    rw (highs_length row, spells_length w) (bits_high w (b - mark (length row)) (r.high - mark (length row)) (omega arith))

-- the lowest and the highest value of a row stand on the same side of the surrogates
scalars : Row → Bool
scalars row = ltb (value_of (highs row)) 0xD800 || (leb 0xE000 (value_of (lows row)) && leb (value_of (highs row)) 0x10FFFF)

all_scalars : every scalars table ≡ true
unfolding table scalars value_of bits
all_scalars = refl

pub row_scalar : {row : Row} {a : Text} → Memᴰ row table → Spells row a → Scalar (value_of a)
unfolding scalars
row_scalar {row} {a} m w = go (ltb (value_of (highs row)) 0xD800) refl
  where
    low : value_of (lows row) ≤ value_of a
    low = value_low w

    high : value_of a ≤ value_of (highs row)
    high = value_high w

    go : (u : Bool) → ltb (value_of (highs row)) 0xD800 ≡ u → Scalar (value_of a)
    go true u = inl (let x : value_of (highs row) < 0xD800 = ltb-true (value_of (highs row)) 0xD800 u in omega (arith, high))
    go false u =
        let k = (and-eq-true_iff (leb 0xE000 (value_of (lows row))) (leb (value_of (highs row)) 0x10FFFF)).0 (rw u at (every_row scalars all_scalars m)) in
        let x : 0xE000 ≤ value_of (lows row) = leb-true 0xE000 (value_of (lows row)) k.0 in
        let y : value_of (highs row) ≤ 0x10FFFF = leb-true (value_of (highs row)) 0x10FFFF k.1 in
        inr (omega (arith, low), omega (arith, high))

-- so the character at the front of any text is a scalar value
pub char_scalar : (s : Text) → Scalar (char_of s)
unfolding char_of
char_scalar [] = inl (omega arith)
char_scalar (b ∷ s) = go (sequence_of (b ∷ s)) refl
  where
    go : (n : ℕ) → sequence_of (b ∷ s) ≡ n → Scalar (char_by n (b ∷ s))
    go zero e = inr (omega arith, omega arith)
    go (suc n) e =
        let g = sequence_row (b ∷ s) n e in
        row_scalar g.listed (rw g.width at (fits_spells g.row (b ∷ s) g.fitting))
