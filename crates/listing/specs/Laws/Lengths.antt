-- How long a line can be, so that a caller can lend a buffer that it fits in. Assumes nothing.
use Rattle.std.specs.Prelude.{◌≡◌, refl, Bool, true, false, ◌&&◌, List, [], ◌∷◌, ◌++◌, map, ℕ, zero, suc, ◌+◌, ◌-◌, ◌*◌, ◌/◌, ◌%◌, ◌≤◌, ◌<◌, leb, ltb, eqb, length, get_or, drop, Err, None, Ok, Option, Result, Some}
use Rattle.std.proofs.Common.{sym, ap, subst, ◌∙◌, arith, length-append, length-take, length-drop, ltb-true, ltb-false, leb-true}
use Rattle.std.proofs.Math.Bool.{and-eq-true_iff}
use Rattle.std.proofs.Math.ListN.{get_or-map}
use Rattle.characters.specs.declared.place.Place.{Place}
use Rattle.characters.specs.Text.{Text, ascii, start, on_by}
use Rattle.literals.specs.declared.bytearrays.Mode.{Mode}
use Rattle.literals.specs.declared.bytearrays.Mode.TheVariants.{Between}
use Rattle.literals.specs.declared.bytearrays.Seen.TheVariants.{Byte, Opened, Shut}
use Rattle.literals.specs.Strings.{decode, width_in, key_of}
use Rattle.literals.specs.SpellingLaws.{key_length}
use Rattle.literals.specs.ByteArrays.{Contents, shut, halted, push, read, contents, bytes_of, listed, step}
use Rattle.reading.specs.declared.answer.Answer.{Answer}
use Rattle.records.specs.declared.kind.Kind.{Kind}
use Rattle.records.specs.declared.row.Row.{Row}
use Rattle.records.specs.Kinds.{number_of, kinds, kind_of}
use Rattle.records.specs.Rows.{width, row_by, row_if, row_at}
use Rattle.records.proofs.Laws.Kinds.{kind_number}
use Rattle.listing.specs.declared.fields.Form.{Form}
use Rattle.listing.specs.declared.fields.Form.TheVariants.{Hidden, Plain, Named, Quoted, Array, Float, Int, Prefix, Sign}
use Rattle.listing.specs.Listing.{decimal, signed, place, spanned, name, utf8, characters, spelled, quoted, pairs, bytes, minus, prefixes, signs, field, form_at, name_of, is_item, positioned, fields, line_of, line_by, line_at, counts, last_line}
use Rattle.listing.specs.Laws.Numbers.{decimal_one, decimal_more}
use Rattle.listing.specs.Laws.Texts.{utf8_one, utf8_two, utf8_three, utf8_four}
use Rattle.listing.specs.Laws.Kinds.{names, name_at}
use Rattle.characters.specs.declared.refusal.Refused.{Refused}
use Rattle.literals.specs.declared.bytearrays.Seen.{Seen}

-- ---- numbers

-- Every number below m has at most k digits.
abbrev Short : ℕ → ℕ → Type 0
Short m k = (n : ℕ) → n < m → length (decimal n) ≤ k

one : Short 10 1
one n h = let z : length (decimal n) ≡ 1 = sym (ap length (decimal_one n h)) in omega arith

more : (m k : ℕ) → Short m k → Short (10 * m) (suc k)
more m k s n h = go (ltb n 10) refl
  where
    go : (t : Bool) → ltb n 10 ≡ t → length (decimal n) ≤ suc k
    go true e = let z = one n (ltb-true n 10 e) in omega arith
    go false e =
        let a = ap length (decimal_more n (ltb-false n 10 e)) in
        let b = length-append (decimal (n / 10)) ((48 + n % 10) ∷ []) in
        let c = s (n / 10) (omega arith) in
        omega arith

abbrev ten : ℕ → ℕ
ten zero = 10
ten (suc k) = 10 * ten k

digits : (k : ℕ) → Short (ten k) (suc k)
digits zero = one
digits (suc k) = more (ten k) (suc k) (digits k)

-- A u32 has at most ten digits.
word : (n : ℕ) → n < 4294967296 → length (decimal n) ≤ 10
word n h = digits 9 n (omega arith)

signed_length : (v : ℕ) → v < 18446744073709551616 → length (signed v) ≤ 20
unfolding signed
signed_length v h = go (ltb v 9223372036854775808) refl
  where
    go : (t : Bool) → ltb v 9223372036854775808 ≡ t → length {A = ℕ} (elim t as (λ u. Text) [ true ↦ decimal v | false ↦ 45 ∷ decimal (18446744073709551616 - v) ]) ≤ 20
    go true e =
        let a = ltb-true v 9223372036854775808 e in
        let z = digits 18 v (omega arith) in
        omega arith
    go false e =
        let a = ltb-false v 9223372036854775808 e in
        let z = digits 18 (18446744073709551616 - v) (omega arith) in
        omega arith

-- ---- spans

spanned_short : (s : Text) (w : ℕ) → w < 4294967296 → length (spanned s w) ≤ 65535
spanned_short s w h = simp length-take (omega arith)

name_length : (s : Text) (w : ℕ) → w < 4294967296 → length (name s w) ≤ 65535
unfolding name
name_length s w h = go (eqb w 0)
  where
    go : (t : Bool) → length {A = ℕ} (elim t as (λ u. Text) [ true ↦ 45 ∷ [] | false ↦ spanned s w ]) ≤ 65535
    go true = omega arith
    go false = spanned_short s w h

minus_length : (m : ℕ) → length (minus m) ≤ 1
minus_length m = go (eqb m 1)
  where
    go : (t : Bool) → length {A = ℕ} (elim t as (λ u. Text) [ true ↦ 45 ∷ [] | false ↦ [] ]) ≤ 1
    go true = omega arith
    go false = omega arith

-- ---- strings

utf8_length : (v : ℕ) → length (utf8 v) ≤ 4
utf8_length v = go (ltb v 128) (ltb v 2048) (ltb v 65536) refl refl refl
  where
    go : (a b c : Bool) → ltb v 128 ≡ a → ltb v 2048 ≡ b → ltb v 65536 ≡ c → length (utf8 v) ≤ 4
    go true b c x y z = let e = ap length (utf8_one v (ltb-true v 128 x)) in omega arith
    go false true c x y z = let e = ap length (utf8_two v (ltb-false v 128 x) (ltb-true v 2048 y)) in omega arith
    go false false true x y z = let e = ap length (utf8_three v (ltb-false v 2048 y) (ltb-true v 65536 z)) in omega arith
    go false false false x y z = let e = ap length (utf8_four v (ltb-false v 65536 z)) in omega arith

characters_length : (vs : List ℕ) → length (characters vs) ≤ 4 * length vs
unfolding characters
characters_length [] = omega arith
characters_length (v ∷ vs) =
    let a = length-append (utf8 v) (characters vs) in
    let b = utf8_length v in
    let c = characters_length vs in
    omega arith

-- A character has at least one byte.
decode_length : (t : Text) (left : ℕ) → length (decode left t) ≤ length t
unfolding decode
decode_length [] left = omega arith
decode_length (b ∷ t) zero = let z = decode_length t (width_in b t) in omega arith
decode_length (b ∷ t) (suc left) = let z = decode_length t left in omega arith

quoted_length : (t : Text) → length t ≤ 65535 → length (quoted t) ≤ 262142
unfolding quoted
quoted_length t h =
    let a = key_length t 0 (length t) in
    let b = decode_length (key_of t 0 (length t)) 0 in
    let c = characters_length (spelled t) in
    let d = length-append (characters (spelled t)) (34 ∷ []) in
    omega arith

-- ---- bytearrays

push_length : (v : ℕ) (c : Contents) → length (listed (push v c)) ≤ suc (length (listed c))
push_length v (shut q l) = omega arith
push_length v (halted k q) = omega arith

-- A byte has at least one byte of the text.
read_length : (s t : Text) (left : ℕ) (m : Mode) (last : ℕ) (p : Place) → length (listed (read s left t m last p)) ≤ length t
unfolding read
read_length s [] left m last p = omega arith
read_length s (b ∷ t) (suc left) m last p = let z = read_length s t left m last p in omega arith
read_length s (b ∷ t) zero m last p = go (step s m last p) (λ k n v q. read_length s t k n v q)
  where
    go : (r : Result Seen Refused) → ((k : ℕ) (n : Mode) (v : ℕ) (q : Place) → length (listed (read s k t n v q)) ≤ length t)
        → length (listed (elim r as (λ u. Contents) [ Ok (Byte v n q) ↦ push v (read s (q.offset - (p.offset + 1)) t n v q) | Ok (Opened n q) ↦ read s (q.offset - (p.offset + 1)) t n last q | Ok (Shut q) ↦ shut q [] | Err e ↦ halted e.refusal e.at ])) ≤ suc (length t)
    go (Ok (Byte v n q)) ih =
        let a = ih (q.offset - (p.offset + 1)) n v q in
        let b = push_length v (read s (q.offset - (p.offset + 1)) t n v q) in
        omega arith
    go (Ok (Opened n q)) ih = let a = ih (q.offset - (p.offset + 1)) n last q in omega arith
    go (Ok (Shut q)) ih = omega arith
    go (Err e) ih = omega arith

pairs_length : (vs : List ℕ) → length (pairs vs) ≡ 3 * length vs
unfolding pairs
pairs_length [] = refl
pairs_length (v ∷ vs) = let z = pairs_length vs in omega arith

bytes_length : (t : Text) → length t ≤ 65535 → length (bytes t) ≤ 196605
unfolding bytes bytes_of contents
bytes_length t h =
    let a = pairs_length (bytes_of t (on_by 2 start)) in
    let b = read_length t (drop 2 t) 0 Between 256 (on_by 2 start) in
    let c = length-drop 2 t in
    omega arith

-- ---- lists that are looked into

-- Each number of a list is at most k.
abbrev most : ℕ → List ℕ → Bool
most k [] = true
most k (n ∷ ns) = leb n k && most k ns

most_at : (k : ℕ) (l : List ℕ) (n : ℕ) → most k l ≡ true → get_or l n 0 ≤ k
most_at k [] n e = omega arith
most_at k (m ∷ ms) zero e = leb-true m k ((and-eq-true_iff (leb m k) (most k ms)).0 e).0
most_at k (m ∷ ms) (suc n) e = most_at k ms n ((and-eq-true_iff (leb m k) (most k ms)).0 e).1

-- Each text of a list has at most k bytes.
each_at : (k : ℕ) (l : List Text) (n : ℕ) → most k (map length l) ≡ true → length (get_or l n []) ≤ k
each_at k l n e = subst (λ (m : ℕ). m ≤ k) (get_or-map length l n []) (most_at k (map length l) n e)

prefix_length : (n : ℕ) → length (get_or prefixes n []) ≤ 2
prefix_length n = each_at 2 prefixes n refl

sign_length : (n : ℕ) → length (get_or signs n []) ≤ 2
sign_length n = each_at 2 signs n refl

title_length : (k : Kind) → length (name_of k) ≤ 10
title_length k = subst (λ (x : Text). length x ≤ 10) (name_at k) (each_at 10 names (number_of k) refl)

-- ---- fields

-- The bytes of a field, with its space.
abbrev cost : Form → ℕ
cost Hidden = 0
cost Plain = 11
cost Named = 65536
cost Quoted = 262143
cost Array = 196605
cost Float = 65537
cost Int = 21
cost Prefix = 3
cost Sign = 3

field_length : (s : Text) (f : Form) (w x : ℕ) → w < 4294967296 → x < 4294967296 → length (field s f w x) ≤ cost f
unfolding field
field_length s Hidden w x h k = omega arith
field_length s Plain w x h k = let z = word w h in omega arith
field_length s Named w x h k = let z = name_length s w h in omega arith
field_length s Quoted w x h k = let z = quoted_length (spanned s w) (spanned_short s w h) in omega arith
field_length s Array w x h k = bytes_length (spanned s w) (spanned_short s w h)
field_length s Float w x h k =
    let a = minus_length x in
    let b = spanned_short s w h in
    let c = length-append (minus x) (spanned s w) in
    omega arith
field_length s Int w x h k = let z = signed_length (w + 4294967296 * x) (omega arith) in omega arith
field_length s Prefix w x h k = let z = prefix_length w in omega arith
field_length s Sign w x h k = let z = sign_length w in omega arith

-- The bytes of a kind's fields, by the table of kinds: no kind has two strings.
abbrev total : Kind → ℕ
total k = cost (form_at k 0) + cost (form_at k 1) + cost (form_at k 2) + cost (form_at k 3)

abbrev total_by : Option Kind → ℕ
total_by (Some k) = total k
total_by None = 0

total_length : (k : Kind) → total k ≤ 262165
total_length k =
    subst (λ (n : ℕ). n ≤ 262165) (get_or-map total_by kinds (number_of k) None ∙ ap total_by (kind_number k))
    (most_at 262165 (map total_by kinds) (number_of k) refl)

-- ---- lines

-- The numbers of a row are u32.
pub record Small (w : Row) : Type 0 where
  pub line : w.position.line < 4294967296
  pub column : w.position.column < 4294967296
  pub a : w.a < 4294967296
  pub b : w.b < 4294967296
  pub c : w.c < 4294967296
  pub d : w.d < 4294967296

position_length : (k : Kind) (p : Place) → p.line < 4294967296 → p.column < 4294967296 → length (positioned k p) ≤ 22
position_length k p h l = go (is_item k)
  where
    go : (t : Bool) → length {A = ℕ} (elim t as (λ u. Text) [ true ↦ [] | false ↦ 32 ∷ place p.line p.column ]) ≤ 22
    go true = omega arith
    go false =
        let a = word p.line h in
        let b = word p.column l in
        let c = length-append (decimal p.line) (58 ∷ decimal p.column) in
        omega arith

fields_length : (s : Text) (w : Row) → Small w → length (fields s w) ≤ total w.kind
fields_length s w h =
    let f = field s (form_at w.kind 0) w.a w.b in
    let g = field s (form_at w.kind 1) w.b w.c in
    let m = field s (form_at w.kind 2) w.c w.d in
    let n = field s (form_at w.kind 3) w.d 0 in
    let p = field_length s (form_at w.kind 0) w.a w.b h.a h.b in
    let q = field_length s (form_at w.kind 1) w.b w.c h.b h.c in
    let r = field_length s (form_at w.kind 2) w.c w.d h.c h.d in
    let t = field_length s (form_at w.kind 3) w.d 0 h.d (omega arith) in
    let x = length-append f g in
    let y = length-append (f ++ g) m in
    let z = length-append (f ++ g ++ m) n in
    omega arith

line_length : (s : Text) (n : ℕ) (w : Row) → n < 4294967296 → Small w → length (line_of s n w) ≤ 262209
unfolding line_of
line_length s n w l h =
    let d = decimal n in
    let t : Text = 32 ∷ name_of w.kind in
    let p = positioned w.kind w.position in
    let f = fields s w in
    let a = word n l in
    let b = title_length w.kind in
    let c = position_length w.kind w.position h.line h.column in
    let e = fields_length s w h in
    let g = total_length w.kind in
    let x = length-append d t in
    let y = length-append (d ++ t) p in
    let z = length-append (d ++ t ++ p) f in
    let u = length-append (d ++ t ++ p ++ f) (10 ∷ []) in
    omega arith

-- The line of a row, or of none.
row_length : (s : Text) (n : ℕ) → n < 4294967296 → (t : Bool) (k : Option Kind) (p : Place) (a b c d : ℕ) → p.line < 4294967296 → p.column < 4294967296
    → a < 4294967296 → b < 4294967296 → c < 4294967296 → d < 4294967296 → length (line_by s n (row_if t (row_by k p a b c d))) ≤ 262209
row_length s n l true (Some k) p a b c d h i e f g j = line_length s n (record { kind = k; position = p; a = a; b = b; c = c; d = d }) l (record { line = h; column = i; a = e; b = f; c = g; d = j })
row_length s n l true None p a b c d h i e f g j = let z = word n l in let y = length-append (decimal n) (32 ∷ 63 ∷ 10 ∷ []) in omega arith
row_length s n l false k p a b c d h i e f g j = let z = word n l in let y = length-append (decimal n) (32 ∷ 63 ∷ 10 ∷ []) in omega arith

pub at_length : (s : Text) (pool : List ℕ) (n : ℕ) → n < 4294967296 → ((i : ℕ) → get_or pool i 0 < 4294967296) → length (line_at s pool n) ≤ 262209
unfolding line_at row_at
at_length s pool n l h =
    let o = n * width - width in
    row_length s n l (leb 1 n && leb (n * width) (length pool)) (kind_of (get_or pool o 0))
    (record { offset = get_or pool (o + 1) 0; line = get_or pool (o + 2) 0; column = get_or pool (o + 3) 0 })
    (get_or pool (o + 4) 0) (get_or pool (o + 5) 0) (get_or pool (o + 6) 0) (get_or pool (o + 7) 0)
    (h (o + 2)) (h (o + 3)) (h (o + 4)) (h (o + 5)) (h (o + 6)) (h (o + 7))

-- ---- the last line

-- The numbers of an answer are u32.
pub record SmallAnswer (a : Answer) : Type 0 where
  pub number : a.number < 4294967296
  pub line : a.line < 4294967296
  pub column : a.column < 4294967296
  pub records : a.records < 4294967296
  pub comparisons : a.comparisons < 4294967296

counts_length : (a : Answer) → SmallAnswer a → length (counts a) ≤ 22
counts_length a h =
    let r = decimal a.records in
    let c : Text = 32 ∷ decimal a.comparisons in
    let x = word a.records h.records in
    let y = word a.comparisons h.comparisons in
    let u = length-append r c in
    let v = length-append (r ++ c) (10 ∷ []) in
    omega arith

pub last_length : (a : Answer) → SmallAnswer a → length (last_line a) ≤ 65
unfolding last_line
last_length a h = go (eqb a.number 0)
  where
    go : (t : Bool) → length {A = ℕ} (elim t as (λ u. Text) [ true ↦ ascii "ok " ++ counts a | false ↦ ascii "refused " ++ decimal a.number ++ (32 ∷ place a.line a.column) ++ (32 ∷ counts a) ]) ≤ 65
    go true =
        let z = counts_length a h in
        let l : length (ascii "ok ") ≡ 3 = refl in
        let u = length-append (ascii "ok ") (counts a) in
        omega arith
    go false =
        let n = decimal a.number in
        let p : Text = 32 ∷ place a.line a.column in
        let z = counts_length a h in
        let x = word a.number h.number in
        let y = word a.line h.line in
        let w = word a.column h.column in
        let l : length (ascii "refused ") ≡ 8 = refl in
        let e = length-append (decimal a.line) (58 ∷ decimal a.column) in
        let t = length-append (ascii "refused ") n in
        let u = length-append (ascii "refused " ++ n) p in
        let v = length-append (ascii "refused " ++ n ++ p) (32 ∷ counts a) in
        omega arith
