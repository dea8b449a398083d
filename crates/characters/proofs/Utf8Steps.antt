-- The steps of the code on UTF-8: a lead byte names its row, the bytes after it are tested one by one, and what is left of a text answers for
-- the whole. Assumes nothing.
use mathlib.Core.Path.{◌≡◌, refl, sym, ap, subst, subst⁻¹, ◌∙◌}
use mathlib.Core.Bool.{Bool, true, false, ◌&&◌, and-eq-true_iff}
use mathlib.Core.List.{List, [], ◌∷◌, ◌++◌, Memᴰ}
use Prim.Native.Nat.{ℕ, zero, suc, ◌+◌, ◌-◌, ◌*◌, ◌≤◌, ◌<◌, ◌^◌}
use native.Mathlib.Omega.{arith}
use native.Mathlib.Numerals.{add-one}
use lib.Dec.{leb, ltb, eqb}
use lib.ListN.{length, get_or, take, drop, replicate, length-drop, length-replicate, drop_of_length-le}
use lib.Seq.{drop-cons, drop-drop, get_or-drop, length-take-le, take-suc}
use borrow.Author.Tests.{leb-true, ltb-true, eqb-true, eqb-false}
use Rattle.characters.specs.declared.utf8.Lead.{Lead}
use Rattle.characters.specs.declared.place.Place.{Place}
use Rattle.characters.specs.Text.{Text, is_ascii, past, start, Stands}
use Rattle.characters.specs.Counts.{end_of}
use Rattle.characters.specs.CountLaws.{by_run}
use Rattle.characters.specs.Utf8.{Range, ◌to◌, Row, tail, table, inside, fits, sequence_of, prefix_of, place_after, mark, bits, value_of, char_by, char_of}
use Rattle.characters.specs.Utf8Laws.{every, every_row, never, inside_low, inside_high, fits_length, within, leads_ascend, opens, opened_in, opened_yes, opened_no, kept, row_by_lead, sequence_end, sequence_row, sequence_length, prefix_none, prefix_step, place_stands}
use Rattle.characters.specs.Utf8Lead.{keep, lead_of, after_by, width_if, followed_by}

-- ---- the row of a lead: a test of each byte in a range

abbrev all_from : (ℕ → Bool) → ℕ → ℕ → Bool
all_from f lo zero = true
all_from f lo (suc n) = f lo && all_from f (suc lo) n

from_all : (f : ℕ → Bool) (lo n : ℕ) → all_from f lo n ≡ true → (b : ℕ) → lo ≤ b → b < lo + n → f b ≡ true
from_all f lo zero t b l h = absurd (omega arith)
from_all f lo (suc n) t b l h = go (eqb lo b) refl (λ k. from_all f (suc lo) n x.1 b k (omega arith))
  where
    x : (f lo ≡ true) × (all_from f (suc lo) n ≡ true)
    x = (and-eq-true_iff (f lo) (all_from f (suc lo) n)).0 t

    go : (u : Bool) → eqb lo b ≡ u → (suc lo ≤ b → f b ≡ true) → f b ≡ true
    go true e later = ap f (sym (eqb-true lo b e)) ∙ x.0
    go false e later = let ne : lo ≡ b → ⊥ = eqb-false lo b e in later (omega arith)

abbrev same : Lead → Lead → Bool
same l m = eqb l.0 m.0 && (eqb l.1 m.1 && eqb l.2 m.2)

same_is : (l m : Lead) → same l m ≡ true → l ≡ m
same_is l m t =
    let x = (and-eq-true_iff (eqb l.0 m.0) (eqb l.1 m.1 && eqb l.2 m.2)).0 t in
    let y = (and-eq-true_iff (eqb l.1 m.1) (eqb l.2 m.2)).0 x.1 in
    let a = eqb-true l.0 m.0 x.0 in
    let b = eqb-true l.1 m.1 y.0 in
    let c = eqb-true l.2 m.2 y.1 in
    λ i. record { 0 = a i; 1 = b i; 2 = c i }

-- the row of every byte of a range, by computing it for each
pub opened_at_lem : (l : Lead) (lo n : ℕ) → all_from (λ b. same l (lead_of (opened_in table b))) lo n ≡ true → (b : ℕ) → lo ≤ b → b < lo + n → l ≡ lead_of (opened_in table b)
opened_at_lem l lo n t b h k = same_is l (lead_of (opened_in table b)) (from_all (λ b. same l (lead_of (opened_in table b))) lo n t b h k)

-- ---- a lead that a byte opens, against the table

-- what `opened_in` finds is a row that the byte opens
record Opened (rows : List Row) (b : ℕ) (row : Row) : Type 0 where
  listed : Memᴰ row rows
  opening : opens row b ≡ true

opened_in_lem : (rows : List Row) (b : ℕ) (r : Range) (row : Row) → opened_in rows b ≡ r ∷ row → Opened rows b (r ∷ row)
unfolding opened_in
opened_in_lem [] b r row e = let z : ◌≡◌ {A = ℕ} 0 1 = cc in absurd (omega arith)
opened_in_lem (x ∷ rows) b r row e = go (opens x b) refl (opened_in_lem rows b r row)
  where
    go : (u : Bool) → opens x b ≡ u → (opened_in rows b ≡ r ∷ row → Opened rows b (r ∷ row)) → Opened (x ∷ rows) b (r ∷ row)
    go true t later =
        let k : r ∷ row ≡ x = sym e ∙ opened_yes x rows b t in
        record { listed = Memᴰ.head k; opening = ap (λ (y : Row). opens y b) k ∙ t }
    go false t later = let f = later (sym (opened_no x rows b t) ∙ e) in record { listed = Memᴰ.tail f.listed; opening = f.opening }

-- the ranges after a row's second are tails
tails : Row → Bool
tails [] = true
tails (r ∷ row) = eqb r.low 0x80 && (eqb r.high 0xBF && tails row)

plain : Row → Bool
plain [] = true
plain (r ∷ []) = true
plain (r ∷ second ∷ row) = leb (length row) 2 && tails row

all_plain : every plain table ≡ true
unfolding table plain tails
all_plain = refl

tails_are : (row : Row) → tails row ≡ true → row ≡ replicate (length row) tail
unfolding tails
tails_are [] t = refl
tails_are (r ∷ row) t =
    let x = (and-eq-true_iff (eqb r.low 0x80) (eqb r.high 0xBF && tails row)).0 t in
    let y = (and-eq-true_iff (eqb r.high 0xBF) (tails row)).0 x.1 in
    let a = eqb-true r.low 0x80 x.0 in
    let b = eqb-true r.high 0xBF y.0 in
    let k = tails_are row y.1 in
    λ i. record { low = a i; high = b i } ∷ k i

-- so a lead's width and second range say what the whole row says
lead_fits : (row : Row) → plain row ≡ true → (b : ℕ) → opens row b ≡ true → (s : Text) → fits row (b ∷ s) ≡ fits (after_by (lead_of row).0 ((lead_of row).1 to (lead_of row).2)) s
unfolding fits plain
lead_fits [] t b o s = never o
lead_fits (r ∷ []) t b o s = rw o
lead_fits (r ∷ second ∷ row) t b o s =
    rw o (ap (λ (y : Row). fits (second ∷ y) s) (tails_are row ((and-eq-true_iff (leb (length row) 2) (tails row)).0 t).1))

lead_width : (row : Row) → (lead_of row).0 ≡ length row
lead_width [] = refl
lead_width (r ∷ []) = refl
lead_width (r ∷ second ∷ row) = refl

pub sequence_by_lead : (b : ℕ) (s : Text) → sequence_of (b ∷ s) ≡ followed_by (lead_of (opened_in table b)) s
unfolding sequence_of
sequence_by_lead b s = ap length (row_by_lead 0 table leads_ascend b s) ∙ go (opened_in table b) refl
  where
    counted : (u : Bool) (row : Row) → length (kept u row) ≡ width_if u (lead_of row).0
    counted true row = sym (lead_width row)
    counted false row = refl

    go : (row : Row) → opened_in table b ≡ row → length (kept (fits row (b ∷ s)) row) ≡ followed_by (lead_of row) s
    go [] e = none_kept (fits [] (b ∷ s)) (fits [] s)
      where
        none_kept : (u v : Bool) → length (kept u []) ≡ width_if v 0
        none_kept true true = refl
        none_kept true false = refl
        none_kept false true = refl
        none_kept false false = refl
    go (r ∷ row) e =
        let f = opened_in_lem table b r row e in
        counted (fits (r ∷ row) (b ∷ s)) (r ∷ row) ∙ ap (λ (u : Bool). width_if u (lead_of (r ∷ row)).0) (lead_fits (r ∷ row) (every_row plain all_plain f.listed) b f.opening s)

pub lead_narrow : (b : ℕ) → (lead_of (opened_in table b)).0 ≤ 4
unfolding plain
lead_narrow b = go (opened_in table b) refl
  where
    go : (row : Row) → opened_in table b ≡ row → (lead_of row).0 ≤ 4
    go [] e = omega arith
    go (r ∷ []) e = omega arith
    go (r ∷ second ∷ row) e =
        let f = opened_in_lem table b r (second ∷ row) e in
        let h : length row ≤ 2 = leb-true (length row) 2 ((and-eq-true_iff (leb (length row) 2) (tails row)).0 (every_row plain all_plain f.listed)).0 in
        omega arith

-- ---- the bytes after a lead, one by one

pub next_byte : (s : Text) (i : ℕ) → i < length s → drop i s ≡ get_or s i 0 ∷ drop (i + 1) s
next_byte s i h = rw add-one (drop-cons s i 0 h)

pub follow_narrow : (l : Lead) (s : Text) → l.0 < 2 → l.0 ≡ followed_by l s
unfolding fits
follow_narrow l s h = go l.0 h
  where
    go : (n : ℕ) → n < 2 → n ≡ width_if (fits (after_by n (l.1 to l.2)) s) n
    go zero h = refl
    go (suc zero) h = refl
    go (suc (suc n)) h = absurd (let z : suc (suc n) < 2 = h in omega arith)

after_length : (n : ℕ) (r : Range) → length (after_by n r) ≡ n - 1
after_length zero r = refl
after_length (suc zero) r = refl
after_length (suc (suc n)) r = let e : length (replicate n tail) ≡ n = length-replicate n tail in omega arith

pub follow_short : (l : Lead) (s : Text) (at : ℕ) → at < length s → 2 ≤ l.0 → length s - at < l.0 → 0 ≡ followed_by l (drop (at + 1) s)
follow_short l s at h w k = go (fits (after_by l.0 (l.1 to l.2)) (drop (at + 1) s)) refl
  where
    go : (u : Bool) → fits (after_by l.0 (l.1 to l.2)) (drop (at + 1) s) ≡ u → 0 ≡ width_if u l.0
    go true e =
        let x : length (after_by l.0 (l.1 to l.2)) ≤ length (drop (at + 1) s) = fits_length (after_by l.0 (l.1 to l.2)) (drop (at + 1) s) e in
        let z : ◌≡◌ {A = ℕ} 0 1 = omega (arith, after_length l.0 (l.1 to l.2), length-drop (at + 1) s) in
        absurd (omega arith)
    go false e = refl

-- the bytes below `k` are what the lead asks for
abbrev pub Passed : Lead → Text → ℕ → ℕ → Type 0
Passed l s at k = followed_by l (drop (at + 1) s) ≡ width_if (fits (replicate (l.0 - k) tail) (drop (at + k) s)) l.0

after_cons : (n : ℕ) (r : Range) → 2 ≤ n → after_by n r ≡ r ∷ replicate (n - 2) tail
after_cons zero r h = absurd (omega arith)
after_cons (suc zero) r h = absurd (let z : 2 ≤ 1 = h in omega arith)
after_cons (suc (suc n)) r h = let e : n ≡ suc (suc n) - 2 = omega arith in ap (λ (k : ℕ). r ∷ replicate k tail) e

fits_next : (r : Range) (row : Row) (s : Text) (i j : ℕ) → i < length s → j ≡ i + 1 → fits (r ∷ row) (drop i s) ≡ inside r (get_or s i 0) && fits row (drop j s)
unfolding fits
fits_next r row s i j h e = rw (next_byte s i h) (ap (λ (k : ℕ). inside r (get_or s i 0) && fits row (drop k s)) (sym e))

module _ (l : Lead) (s : Text) (at : ℕ) where
  -- the second byte decides, then the others
  second : 2 ≤ l.0 → at + 1 < length s
      → followed_by l (drop (at + 1) s) ≡ width_if (inside (l.1 to l.2) (get_or s (at + 1) 0) && fits (replicate (l.0 - 2) tail) (drop (at + 2) s)) l.0
  second w h =
      ap (λ (row : Row). width_if (fits row (drop (at + 1) s)) l.0) (after_cons l.0 (l.1 to l.2) w)
      ∙ ap (λ (u : Bool). width_if u l.0) (fits_next (l.1 to l.2) (replicate (l.0 - 2) tail) s (at + 1) (at + 2) h (omega arith))

  pub second_yes : 2 ≤ l.0 → at + 1 < length s → inside (l.1 to l.2) (get_or s (at + 1) 0) ≡ true → Passed l s at 2
  second_yes w h e = second w h ∙ rw e

  pub second_no : 2 ≤ l.0 → at + 1 < length s → inside (l.1 to l.2) (get_or s (at + 1) 0) ≡ false → 0 ≡ followed_by l (drop (at + 1) s)
  second_no w h e = sym (second w h ∙ rw e)

  module _ (k : ℕ) (passed : Passed l s at k) where
    other : k < l.0 → at + k < length s
        → followed_by l (drop (at + 1) s) ≡ width_if (inside tail (get_or s (at + k) 0) && fits (replicate (l.0 - (k + 1)) tail) (drop (at + (k + 1)) s)) l.0
    other w h =
        let e : l.0 - k ≡ suc (l.0 - (k + 1)) = omega arith in
        passed ∙ ap (λ (n : ℕ). width_if (fits (replicate n tail) (drop (at + k) s)) l.0) e
        ∙ ap (λ (u : Bool). width_if u l.0) (fits_next tail (replicate (l.0 - (k + 1)) tail) s (at + k) (at + (k + 1)) h (omega arith))

    pub other_yes : k < l.0 → at + k < length s → inside tail (get_or s (at + k) 0) ≡ true → Passed l s at (k + 1)
    other_yes w h e = other w h ∙ rw e

    pub other_no : k < l.0 → at + k < length s → inside tail (get_or s (at + k) 0) ≡ false → 0 ≡ followed_by l (drop (at + 1) s)
    other_no w h e = sym (other w h ∙ rw e)

    pub all_passed : l.0 ≡ k → k ≡ followed_by l (drop (at + 1) s)
    unfolding fits
    all_passed e =
        let z : l.0 - k ≡ 0 = omega arith in
        sym e ∙ sym (passed ∙ ap (λ (n : ℕ). width_if (fits (replicate n tail) (drop (at + k) s)) l.0) z)

  -- past the third byte, and the fourth
  module _ (two : inside (l.1 to l.2) (get_or s (at + 1) 0) ≡ true) (three : inside tail (get_or s (at + 2) 0) ≡ true) where
    pub third_yes : 3 ≤ l.0 → at + 2 < length s → Passed l s at 3
    third_yes w h = other_yes 2 (second_yes (omega arith) (omega arith) two) (omega arith) h three

    pub fourth_yes : 4 ≤ l.0 → at + 3 < length s → inside tail (get_or s (at + 3) 0) ≡ true → Passed l s at 4
    fourth_yes w h four = other_yes 3 (third_yes (omega arith) (omega arith)) (omega arith) h four

-- ---- the character at an offset

pub sequence_past : (s : Text) (at : ℕ) → length s ≤ at → 0 ≡ sequence_of (drop at s)
sequence_past s at h = sym (ap sequence_of (drop_of_length-le s h) ∙ sequence_end)

pub sequence_follows : (s : Text) (at : ℕ) (l : Lead) (n : ℕ) → at < length s → l ≡ lead_of (opened_in table (get_or s at 0)) → n ≡ followed_by l (drop (at + 1) s) → n ≡ sequence_of (drop at s)
sequence_follows s at l n h e k = k ∙ ap (λ (m : Lead). followed_by m (drop (at + 1) s)) e ∙ sym (ap sequence_of (next_byte s at h) ∙ sequence_by_lead (get_or s at 0) (drop (at + 1) s))

pub sequence_ascii : (s : Text) (at : ℕ) → at < length s → get_or s at 0 < 0x80 → 1 ≡ sequence_of (drop at s)
unfolding table opened_in fits
sequence_ascii s at h k =
    sequence_follows s at (keep 1 (0 to 0)) 1 h (opened_at_lem (keep 1 (0 to 0)) 0x00 0x80 refl (get_or s at 0) (omega arith) (omega arith)) refl

-- ---- what the loop of `prefix` keeps: what is left answers for the whole

pub record Answers (s : Text) (at : ℕ) : Type 0 where
  pub within : at ≤ length s
  pub whole : at + prefix_of (drop at s) ≡ prefix_of s

pub answers_start : (s : Text) → Answers s 0
answers_start s = record { within = omega arith; whole = omega arith }

pub answers_more : (s : Text) (at n : ℕ) → Answers s at → n ≡ sequence_of (drop at s) → Answers s (at + n)
answers_more s at n v e =
    let x : at ≤ length s = v.within in
    let y : at + prefix_of (drop at s) ≡ prefix_of s = v.whole in
    let k : prefix_of (drop at s) ≡ n + prefix_of (drop n (drop at s)) = prefix_step (drop at s) n (sym e) in
    let d : prefix_of (drop n (drop at s)) ≡ prefix_of (drop (at + n) s) = ap (λ (t : Text). prefix_of t) (drop-drop n at s) in
    let l : sequence_of (drop at s) ≤ length (drop at s) = sequence_length (drop at s) in
    record { within = omega (arith, length-drop at s); whole = omega arith }

-- past ASCII bytes, each a character
pub answers_ascii : {s : Text} {at e : ℕ} → Answers s at → e ≡ end_of is_ascii s at → Answers s e
answers_ascii {s} {at} v z = subst⁻¹ (Answers s) z (by_run is_ascii s (Answers s) (λ i h t w. answers_more s i 1 w (sequence_ascii s i h (ltb-true (get_or s i 0) 128 t))) at v)

pub answers_stop : (s : Text) (at n : ℕ) → Answers s at → n ≡ sequence_of (drop at s) → n ≡ 0 → at ≡ prefix_of s
answers_stop s at n v e z = let y : at + prefix_of (drop at s) ≡ prefix_of s = v.whole in let k : prefix_of (drop at s) ≡ 0 = prefix_none (drop at s) (sym e ∙ z) in omega arith

-- ---- the place after so many bytes

place_snoc : (a : Text) (b : ℕ) (p : Place) → place_after (a ++ (b ∷ [])) p ≡ past b (place_after a p)
unfolding place_after
place_snoc [] b p = refl
place_snoc (x ∷ a) b p = place_snoc a b (past x p)

pub place_none : (s : Text) → start ≡ place_after (take 0 s) start
unfolding place_after
place_none s = refl

pub place_more : (s : Text) (at : ℕ) (p q : Place) → at < length s → p ≡ place_after (take at s) start → q ≡ past (get_or s at 0) p → q ≡ place_after (take (at + 1) s) start
place_more s at p q h e k = k ∙ ap (past (get_or s at 0)) e ∙ sym (place_snoc (take at s) (get_or s at 0) start) ∙ ap (λ (a : Text). place_after a start) (sym (take-suc s at 0 h)) ∙ ap (λ (n : ℕ). place_after (take n s) start) (sym (add-one at))

-- in a text this short a place has room for a step
pub place_room : (s : Text) (at : ℕ) (p : Place) → length s < 2 ^ 31 → p ≡ place_after (take at s) start → (p.offset + 1 < 2 ^ 32) × (p.line + 1 < 2 ^ 32) × (p.column + 1 < 2 ^ 32)
place_room s at p h e =
    let t : Stands s p = subst⁻¹ (Stands s) e (place_stands s at h) in
    let a : p.offset ≤ length s = t.inside in
    let b : p.line ≤ p.offset + 1 = t.lines in
    let c : p.column ≤ p.offset + 1 = t.columns in
    (omega arith, omega arith, omega arith)

-- ---- the bits of a character

pub mark_high : (n : ℕ) → (n ≡ 0 → ⊥) → (n ≡ 1 → ⊥) → (n ≡ 2 → ⊥) → 0xF0 ≡ mark n
mark_high zero a b c = absurd (a refl)
mark_high (suc zero) a b c = absurd (b refl)
mark_high (suc (suc zero)) a b c = absurd (c refl)
mark_high (suc (suc (suc n))) a b c = refl

-- a lead alone is ASCII, and any other has its mark
marked : Row → Bool
marked [] = true
marked (r ∷ []) = ltb r.high 0x80
marked (r ∷ second ∷ row) = leb (mark (suc (length row))) r.low && (leb (length row) 2 && within (second ∷ row))

all_marked : every marked table ≡ true
unfolding table marked within
all_marked = refl

-- a character beyond ASCII at the front of a text, with `n` bytes after its lead
record Front (s : Text) (n : ℕ) : Type 0 where
  some : 1 ≤ n
  most : n ≤ 3
  room : n < length s
  lead : mark n ≤ get_or s 0 0
  others : (k : ℕ) → 1 ≤ k → k ≤ n → 0x80 ≤ get_or s k 0

within_low : (row : Row) → within row ≡ true → (s : Text) → fits row s ≡ true → (k : ℕ) → k < length row → 0x80 ≤ get_or s k 0
unfolding within fits
within_low [] t s f k h = absurd (omega arith)
within_low (r ∷ row) t [] f k h = never f
within_low (r ∷ row) t (b ∷ s) f zero h =
    let x : 0x80 ≤ r.low = leb-true 0x80 r.low ((and-eq-true_iff (leb 0x80 r.low) (leb r.high 0xBF && within row)).0 t).0 in
    let y : r.low ≤ b = inside_low r b ((and-eq-true_iff (inside r b) (fits row s)).0 f).0 in
    omega arith
within_low (r ∷ row) t (b ∷ s) f (suc k) h =
    let x = (and-eq-true_iff (leb 0x80 r.low) (leb r.high 0xBF && within row)).0 t in
    let y = (and-eq-true_iff (leb r.high 0xBF) (within row)).0 x.1 in
    let z : suc k < suc (length row) = h in
    within_low row y.1 s ((and-eq-true_iff (inside r b) (fits row s)).0 f).1 k (omega arith)

wide_row : (row : Row) (b : ℕ) (s : Text) (n : ℕ) → marked row ≡ true → fits row (b ∷ s) ≡ true → length row ≡ suc n → 0x80 ≤ b → Front (b ∷ s) n
unfolding marked fits
wide_row [] b s n t f w h = absurd (omega arith)
wide_row (r ∷ []) b s n t f w h =
    let x : r.high < 0x80 = ltb-true r.high 0x80 t in
    let y : b ≤ r.high = inside_high r b ((and-eq-true_iff (inside r b) true).0 f).0 in
    absurd (omega arith)
wide_row (r ∷ second ∷ row) b s n t f w h =
    let e : suc (length row) ≡ n = omega arith in
    let x = (and-eq-true_iff (leb (mark (suc (length row))) r.low) (leb (length row) 2 && within (second ∷ row))).0 t in
    let y = (and-eq-true_iff (leb (length row) 2) (within (second ∷ row))).0 x.1 in
    let g = (and-eq-true_iff (inside r b) (fits (second ∷ row) s)).0 f in
    let l : suc (length row) ≤ length s = fits_length (second ∷ row) s g.1 in
    let m : length row ≤ 2 = leb-true (length row) 2 y.0 in
    let low : r.low ≤ b = inside_low r b g.0 in
    let p : mark (suc (length row)) ≤ r.low = leb-true (mark (suc (length row))) r.low x.0 in
    record {
      some = omega arith;
      most = omega arith;
      room = omega arith;
      lead = rw (sym e) (omega arith);
      others = λ k i j. go k i (omega arith) (within_low (second ∷ row) y.1 s g.1);
    }
  where
    go : (k : ℕ) → 1 ≤ k → k ≤ suc (length row) → ((i : ℕ) → i < suc (length row) → 0x80 ≤ get_or s i 0) → 0x80 ≤ get_or (b ∷ s) k 0
    go zero i j each = absurd (omega arith)
    go (suc k) i j each = each k j

front : (s : Text) (n : ℕ) → 0x80 ≤ get_or s 0 0 → sequence_of s ≡ suc n → Front s n
front [] n h e = let z : 0x80 ≤ 0 = h in absurd (omega arith)
front (b ∷ s) n h e = let g = sequence_row (b ∷ s) n e in wide_row g.row b s n (every_row marked all_marked g.listed) g.fitting g.width h

-- the same at an offset: what the code relies on
pub record Wide (s : Text) (at n : ℕ) : Type 0 where
  pub some : 1 ≤ n
  pub most : n ≤ 3
  pub room : at + n < length s
  pub lead : mark n ≤ get_or s at 0
  pub others : (k : ℕ) → 1 ≤ k → k ≤ n → 0x80 ≤ get_or s (at + k) 0

-- `w` is what `sequence` answered, and `n` one less
pub wide : (s : Text) (at w n : ℕ) → at < length s → 0x80 ≤ get_or s at 0 → w ≡ sequence_of (drop at s) → w ≡ n + 1 → Wide s at n
wide s at w n i h e k =
    let z : get_or (drop at s) 0 0 ≡ get_or s at 0 = get_or-drop at s 0 0 ∙ ap (λ (j : ℕ). get_or s j 0) (omega arith) in
    let f = front (drop at s) n (omega arith) (sym e ∙ k ∙ add-one n) in
    let r : n < length (drop at s) = f.room in
    let l : mark n ≤ get_or (drop at s) 0 0 = f.lead in
    record {
      some = f.some;
      most = f.most;
      room = omega (arith, length-drop at s);
      lead = omega arith;
      others = λ k a b. subst (λ (x : ℕ). 0x80 ≤ x) (get_or-drop at s k 0) (f.others k a b);
    }

-- `k` of the `n` bytes after a lead have given their bits to `v`
abbrev pub Decoded : Text → ℕ → ℕ → ℕ → ℕ → Type 0
Decoded s at n k v = char_of (drop at s) ≡ bits v (take (n - k) (drop (at + (k + 1)) s))

pub char_lead : (s : Text) (at w n v : ℕ) → at < length s → w ≡ sequence_of (drop at s) → w ≡ n + 1 → v ≡ get_or s at 0 - mark n → Decoded s at n 0 v
unfolding char_of value_of
char_lead s at w n v i e k a =
    let b = get_or s at 0 in
    let t = drop (at + 1) s in
    let d : drop at s ≡ b ∷ t = next_byte s at i in
    let q : sequence_of (b ∷ t) ≡ suc n = ap sequence_of (sym d) ∙ sym e ∙ k ∙ add-one n in
    let l : sequence_of (b ∷ t) ≤ suc (length t) = sequence_length (b ∷ t) in
    let m : length (take n t) ≡ n = length-take-le n t (omega arith) in
    let z : n ≡ n - 0 = omega arith in
    ap char_of d ∙ ap (λ (j : ℕ). char_by j (b ∷ t)) q ∙ ap (λ (j : ℕ). bits (b - mark j) (take n t)) m ∙ ap (λ (j : ℕ). bits j (take n t)) (sym a) ∙ ap (λ (j : ℕ). bits v (take j t)) z

pub char_more : (s : Text) (at n k v w : ℕ) → Decoded s at n k v → k < n → at + (k + 1) < length s → w ≡ v * 64 + (get_or s (at + (k + 1)) 0 - 0x80) → Decoded s at n (k + 1) w
unfolding bits
char_more s at n k v w d h l e =
    let i = at + (k + 1) in
    let z : n - k ≡ suc (n - (k + 1)) = omega arith in
    let j : i + 1 ≡ at + (k + 1 + 1) = omega arith in
    d ∙ ap (λ (m : ℕ). bits v (take m (drop i s))) z ∙ ap (λ (t : Text). bits v (take (suc (n - (k + 1))) t)) (next_byte s i l) ∙ ap (λ (x : ℕ). bits x (take (n - (k + 1)) (drop (i + 1) s))) (sym e) ∙ ap (λ (m : ℕ). bits w (take (n - (k + 1)) (drop m s))) j

pub char_done : (s : Text) (at n k v : ℕ) → Decoded s at n k v → n ≡ k → v ≡ char_of (drop at s)
unfolding bits
char_done s at n k v d e = let z : n - k ≡ 0 = omega arith in sym (d ∙ ap (λ (m : ℕ). bits v (take m (drop (at + (k + 1)) s))) z)

-- a character of `w` bytes, more than one: past its lead, its second byte, its third, its fourth
module _ (s : Text) (at w : ℕ) (here : at < length s) (high : 0x80 ≤ get_or s at 0) (is : w ≡ sequence_of (drop at s)) (some : w ≡ 0 → ⊥) where
  pub beyond : Wide s at (w - 1)
  beyond = wide s at w (w - 1) here high is (omega arith)

  module _ (m : ℕ) (low : m ≡ mark (w - 1)) where
    lead_read : Decoded s at (w - 1) 0 (get_or s at 0 - m)
    lead_read = char_lead s at w (w - 1) _ here is (omega arith) (ap (λ (k : ℕ). get_or s at 0 - k) low)

    module _ (x : ℕ) (two : x ≡ (get_or s at 0 - m) * 64 + (get_or s (at + 1) 0 - 0x80)) where
      pub second_read : Decoded s at (w - 1) 1 x
      second_read = let b = beyond in let i = b.some in let r = b.room in char_more s at (w - 1) 0 _ x lead_read i (omega arith) two

      module _ (y : ℕ) (three : y ≡ x * 64 + (get_or s (at + 2) 0 - 0x80)) (more : w - 1 ≡ 1 → ⊥) where
        pub third_read : Decoded s at (w - 1) 2 y
        third_read = let b = beyond in let i = b.some in let r = b.room in char_more s at (w - 1) 1 x y second_read (omega arith) (omega arith) three

        pub fourth_read : (z : ℕ) → z ≡ y * 64 + (get_or s (at + 3) 0 - 0x80) → (w - 1 ≡ 2 → ⊥) → Decoded s at (w - 1) 3 z
        fourth_read z four last = let b = beyond in let i = b.some in let r = b.room in char_more s at (w - 1) 2 y z third_read (omega arith) (omega arith) four

pub char_past : (s : Text) (at : ℕ) → length s ≤ at → 0 ≡ char_of (drop at s)
unfolding char_of
char_past s at h = sym (ap char_of (drop_of_length-le s h))

pub char_none : (s : Text) (at w : ℕ) → at < length s → w ≡ sequence_of (drop at s) → w ≡ 0 → 0xFFFD ≡ char_of (drop at s)
unfolding char_of
char_none s at w h e z =
    let d : drop at s ≡ get_or s at 0 ∷ drop (at + 1) s = next_byte s at h in
    sym (ap char_of d ∙ ap (λ (j : ℕ). char_by j (get_or s at 0 ∷ drop (at + 1) s)) (ap sequence_of (sym d) ∙ sym e ∙ z))

pub char_ascii : (s : Text) (at : ℕ) → at < length s → get_or s at 0 < 0x80 → get_or s at 0 ≡ char_of (drop at s)
char_ascii s at h k = char_done s at 0 0 (get_or s at 0) (char_lead s at 1 0 (get_or s at 0) h (sequence_ascii s at h k) (omega arith) (omega arith)) refl
