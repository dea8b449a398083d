-- Laws of places: what a step keeps. Assumes nothing.
use Rattle.std.specs.Prelude.{◌≡◌, refl, Bool, true, false, List, [], ◌∷◌, ℕ, zero, suc, ◌+◌, ◌≤◌, ◌<◌, ◌^◌, ltb, eqb, length, get_or, drop}
use Rattle.std.proofs.Common.{sym, ap, ◌∙◌, arith, add-one, drop_of_length-le, drop-cons, ltb-true, ltb-false, lt-ltb, le-ltb, le-leb, ne_eqb, eq-eqb}
use Rattle.std.proofs.Math.ListN.{get_or-eq_default}
use Rattle.std.proofs.lemmas.Bool.{lt-leb}
use Rattle.characters.specs.declared.place.Place.{Place}
use Rattle.characters.specs.Text.{Text, byte_at, on_by, line_on, tail_on, is_tail, past_by, past, tails, next_by, next, past_end, Stands}

-- a place further on in the text, or the same
pub record Reached (s : Text) (p q : Place) : Type 0 where
  pub stands : Stands s q
  pub further : p.offset ≤ q.offset

-- a place further on in the text
pub record Advanced (s : Text) (p q : Place) : Type 0 where
  pub stands : Stands s q
  pub further : p.offset < q.offset

pub reached_here : {s : Text} {p : Place} → Stands s p → Reached s p p
reached_here h = record { stands = h; further = omega arith }

pub reached_on : {s : Text} {p q r : Place} → Reached s p q → Reached s q r → Reached s p r
reached_on a b = record { stands = b.stands; further = omega arith }

pub advanced_on : {s : Text} {p q r : Place} → Reached s p q → Advanced s q r → Advanced s p r
advanced_on a b = record { stands = b.stands; further = omega arith }

pub advanced_reached : {s : Text} {p q : Place} → Advanced s p q → Reached s p q
advanced_reached a = record { stands = a.stands; further = omega arith }

-- ---- the bytes of a text

-- a byte is a byte exactly in the text
pub in_text : (s : Text) (o : ℕ) → byte_at s o < 256 → o < length s
in_text s o h = go (ltb o (length s)) refl
  where
    go : (t : Bool) → ltb o (length s) ≡ t → o < length s
    go true e = ltb-true o (length s) e
    go false e = let z : get_or s o 256 ≡ 256 = get_or-eq_default s 256 (ltb-false o (length s) e) in omega arith

pub at_end : (s : Text) (o : ℕ) → length s ≤ o → byte_at s o ≡ 256
at_end s o h = get_or-eq_default s 256 h

-- the default does not matter in the text
pub get_d_any : (l : List ℕ) (i d e : ℕ) → i < length l → get_or l i d ≡ get_or l i e
get_d_any [] i d e h = let z : i < 0 = h in let w : ◌≡◌ {A = ℕ} 0 1 = omega arith in cc
get_d_any (x ∷ l) zero d e h = refl
get_d_any (x ∷ l) (suc i) d e h = get_d_any l i d e (let z : suc i < suc (length l) = h in omega arith)

-- the text from an offset on, its first byte named
pub from_byte : (s : Text) (o b : ℕ) → b ≡ byte_at s o → b < 256 → drop o s ≡ b ∷ drop (o + 1) s
from_byte s o b e h =
    drop-cons s o 256 (in_text s o (omega arith)) ∙ ap (λ (x : ℕ). x ∷ drop (suc o) s) (sym e) ∙ ap (λ (k : ℕ). b ∷ drop k s) (sym (add-one o))

pub from_end : (s : Text) (o : ℕ) → length s ≤ o → drop o s ≡ []
from_end s o h = drop_of_length-le s h

-- the byte at the front of what follows
pub front : (s : Text) (o : ℕ) → byte_at (drop o s) 0 ≡ byte_at s o
front s o = go (ltb o (length s)) refl
  where
    go : (t : Bool) → ltb o (length s) ≡ t → byte_at (drop o s) 0 ≡ byte_at s o
    go true e = ap (λ (l : Text). byte_at l 0) (drop-cons s o 256 (ltb-true o (length s) e))
    go false e = ap (λ (l : Text). byte_at l 0) (from_end s o (ltb-false o (length s) e)) ∙ sym (at_end s o (ltb-false o (length s) e))

-- ---- the steps

pub past_line : (b : ℕ) (p : Place) → b ≡ 10 → past b p ≡ line_on p
unfolding past
past_line b p e = ap (λ (t : Bool). past_by t (is_tail b) p) (eq-eqb b 10 e)

pub past_low : (b : ℕ) (p : Place) → (b ≡ 10 → ⊥) → b < 128 → past b p ≡ on_by 1 p
unfolding past
past_low b p n h = rw (ne_eqb b 10 n, lt-leb 128 b h)

pub past_tail : (b : ℕ) (p : Place) → 128 ≤ b → b < 192 → past b p ≡ tail_on p
unfolding past
past_tail b p l h = rw (ne_eqb b 10 (λ e. omega arith), le-leb 128 b l, lt-ltb b 192 h)

pub past_high : (b : ℕ) (p : Place) → 192 ≤ b → past b p ≡ on_by 1 p
unfolding past
past_high b p h = rw (ne_eqb b 10 (λ e. omega arith), le-leb 128 b (omega arith), le-ltb b 192 h)

pub past_offset : (b : ℕ) (p : Place) → (past b p).offset ≡ p.offset + 1
unfolding past
past_offset b p = go (eqb b 10) (is_tail b)
  where
    go : (t u : Bool) → (past_by t u p).offset ≡ p.offset + 1
    go true u = refl
    go false true = refl
    go false false = refl

pub past_line_same : (b : ℕ) (p : Place) → (b ≡ 10 → ⊥) → (past b p).line ≡ p.line
unfolding past
past_line_same b p n = go (eqb b 10) (is_tail b) (ne_eqb b 10 n)
  where
    go : (t u : Bool) → t ≡ false → (past_by t u p).line ≡ p.line
    go true u e = let z : ◌≡◌ {A = ℕ} 0 1 = cc in absurd (omega arith)
    go false true e = refl
    go false false e = refl

-- a byte of the text is stepped over
pub past_stands : (s : Text) (b : ℕ) (p : Place) → Stands s p → p.offset < length s → Advanced s p (past b p)
unfolding past
past_stands s b p h l = go (eqb b 10) (is_tail b)
  where
    a : p.line ≤ p.offset + 1
    a = h.lines

    c : p.column ≤ p.offset + 1
    c = h.columns

    go : (t u : Bool) → Advanced s p (past_by t u p)
    go true u = record { stands = record { short = h.short; inside = omega arith; lines = omega (arith, a); columns = omega arith }; further = omega arith }
    go false true = record { stands = record { short = h.short; inside = omega arith; lines = omega (arith, a); columns = omega (arith, c) }; further = omega arith }
    go false false = record { stands = record { short = h.short; inside = omega arith; lines = omega (arith, a); columns = omega (arith, c) }; further = omega arith }

-- so are several bytes of one character each
pub on_by_stands : (s : Text) (n : ℕ) (p : Place) → Stands s p → p.offset + n ≤ length s → Reached s p (on_by n p)
on_by_stands s n p h l =
    let a : p.line ≤ p.offset + 1 = h.lines in
    let c : p.column ≤ p.offset + 1 = h.columns in
    record { stands = record { short = h.short; inside = l; lines = omega arith; columns = omega arith }; further = omega arith }

pub on_by_none : (p : Place) → on_by zero p ≡ p
on_by_none p =
    let e : p.offset + 0 ≡ p.offset = omega arith in
    let f : p.column + 0 ≡ p.column = omega arith in
    λ i. record { offset = e i; line = p.line; column = f i }

pub on_by_on_by : (m n : ℕ) (p : Place) → on_by n (on_by m p) ≡ on_by (m + n) p
on_by_on_by m n p =
    let e : p.offset + m + n ≡ p.offset + (m + n) = omega arith in
    let f : p.column + m + n ≡ p.column + (m + n) = omega arith in
    λ i. record { offset = e i; line = p.line; column = f i }

-- ---- one character

pub is_tail_lem : (t : ℕ) → 128 ≤ t → t < 192 → is_tail t ≡ true
is_tail_lem t l h = rw (le-leb 128 t l, lt-ltb t 192 h)

tails_yes : (x : ℕ) (l : Text) (p : Place) → is_tail x ≡ true → tails (x ∷ l) p ≡ tails l (past x p)
unfolding tails
tails_yes x l p e = rw (e, tails) refl

tails_no : (x : ℕ) (l : Text) (p : Place) → is_tail x ≡ false → tails (x ∷ l) p ≡ p
unfolding tails
tails_no x l p e = rw (e, tails) refl

pub tails_on : (s : Text) (t : ℕ) (p : Place) → t ≡ byte_at s p.offset → 128 ≤ t → t < 192 → tails (drop p.offset s) p ≡ tails (drop (past t p).offset s) (past t p)
tails_on s t p e l h =
    ap (λ (x : Text). tails x p) (from_byte s p.offset t e (omega arith))
    ∙ tails_yes t (drop (p.offset + 1) s) p (is_tail_lem t l h)
    ∙ ap (λ (o : ℕ). tails (drop o s) (past t p)) (sym (past_offset t p))

pub tails_end : (s : Text) (t : ℕ) (p : Place) → t ≡ byte_at s p.offset → is_tail t ≡ false → tails (drop p.offset s) p ≡ p
unfolding tails
tails_end s t p e h = go (ltb p.offset (length s)) refl
  where
    go : (u : Bool) → ltb p.offset (length s) ≡ u → tails (drop p.offset s) p ≡ p
    go true u =
        ap (λ (x : Text). tails x p) (drop-cons s p.offset 256 (ltb-true p.offset (length s) u))
        ∙ tails_no (byte_at s p.offset) (drop (suc p.offset) s) p (ap is_tail (sym e) ∙ h)
    go false u = ap (λ (x : Text). tails x p) (from_end s p.offset (ltb-false p.offset (length s) u))

pub next_end : (s : Text) (p : Place) → length s ≤ p.offset → next s p ≡ past_end p
unfolding next
next_end s p h = ap (λ (x : Text). next_by x p) (from_end s p.offset h)

pub next_in : (s : Text) (b : ℕ) (p : Place) → b ≡ byte_at s p.offset → b < 256 → next s p ≡ tails (drop (past b p).offset s) (past b p)
unfolding next
next_in s b p e h = ap (λ (x : Text). next_by x p) (from_byte s p.offset b e h) ∙ ap (λ (o : ℕ). tails (drop o s) (past b p)) (sym (past_offset b p))

pub room : {s : Text} {p : Place} → Stands s p → (p.offset + 2 < 2 ^ 32) × (p.line + 2 < 2 ^ 32) × (p.column + 2 < 2 ^ 32)
room {s} {p} h =
    let a : p.line ≤ p.offset + 1 = h.lines in
    let c : p.column ≤ p.offset + 1 = h.columns in
    let i : p.offset ≤ length s = h.inside in
    let l : length s < 2 ^ 31 = h.short in
    (omega arith, omega arith, omega arith)
