-- Laws of what a string spells: the walk over its characters, the comparison, and that an accepted string can be decoded. Assumes nothing.
use Rattle.std.specs.Prelude.{◌≡◌, Bool, ◌&&◌, ◌⊎◌, leb, ltb, eqb, take, drop, Err, None, Ok, Option, Result, Some}
use Rattle.std.proofs.Math.Path.{refl, sym, ap, subst⁻¹}
use Rattle.std.proofs.Common.{subst, ◌∙◌, inl, inr, length-take, length-drop, drop-drop, take_all, get_or-drop}
use Rattle.std.proofs.Math.Bool.{true, false, and-eq-true_iff}
use mathlib.Core.List.{List, [], ◌∷◌}
use Prim.Native.Nat.{ℕ, zero, suc, ◌+◌, ◌-◌, ◌*◌, ◌≤◌, ◌<◌}
use native.Mathlib.Omega.{arith}
use Rattle.std.proofs.Math.ListN.{length}
use Rattle.std.proofs.Math.Seq.{take-nil}
use borrow.Author.Tests.{ltb-true, eqb-false, lt-ltb, le-ltb, ne_eqb, eq-eqb}
use Rattle.characters.specs.declared.place.Place.{Place}
use Rattle.characters.specs.declared.place.Span.{Span}
use Rattle.characters.specs.declared.refusal.Refusal.TheVariants.{EndOfInput, BadStringEscape}
use Rattle.characters.specs.declared.refusal.Refused.{Refused}
use Rattle.characters.specs.Text.{Text, byte_at, ByteOf, on_by, past, Stands}
use Rattle.characters.specs.PlaceLaws.{front, from_byte, from_end, past_offset, past_stands, on_by_stands}
use Rattle.characters.specs.BlankLaws.{rest}
use Rattle.characters.specs.AlikeLaws.{Alike, alike_byte, alike_front, alike_drop, alike_rest, alike_none}
use Rattle.characters.specs.Utf8.{char_of, sequence_of}
use Rattle.characters.specs.Utf8Laws.{sequence_length}
use Rattle.characters.specs.Names.{part, same}
use Rattle.literals.specs.declared.strings.BadEscape.TheVariants.{Short, NotHex, Unknown}
use Rattle.literals.specs.Numbers.{digit_of}
use Rattle.literals.specs.StringLaws.{ended, not_ended, escape_inside}
use Rattle.literals.specs.Strings.{hex_by, is_scalar, named, letter_of, closing, digits, unicode, escape, reach, strayed, scan, string_by, string, escape_value, escape_width, spelled_by, value_in, width_in, decode, decoded, piece_in, piece, sound, is_quote, key_of, same_key}
use Rattle.characters.specs.Answers.{Must, failed, taken, taken_next}
use Rattle.literals.specs.Answers.{means, spells_as, means_width, spells_parts, taken_here}
use Rattle.literals.specs.declared.strings.BadEscape.{BadEscape}
use Rattle.literals.specs.declared.strings.Escaped.{Escaped}
use Rattle.literals.specs.declared.strings.Spelled.{Spelled}

-- ---- what follows a `\` does not look at what stands before it

byte_drop : (s : Text) (o i : ℕ) → byte_at (drop o s) i ≡ byte_at s (o + i)
byte_drop s o i = get_or-drop o s i 256

-- the choice of an escape, its two long forms given
abbrev escape_with : ℕ → Result Escaped BadEscape → Result Escaped BadEscape → Result Escaped BadEscape
escape_with b x u =
    elim (ltb (letter_of b) 256) [
      | true ↦ means (letter_of b) 1
      | false ↦ elim (eqb b 120) [ true ↦ x | false ↦ elim (eqb b 117) [ true ↦ u | false ↦ Err Unknown ] ]
    ]

abbrev hex_at : Text → ℕ → Result Escaped BadEscape
hex_at s o = hex_by (digit_of (byte_at s (o + 1))) (digit_of (byte_at s (o + 2)))

escape_with_lem : (s : Text) (o : ℕ) → escape s o ≡ escape_with (byte_at s o) (hex_at s o) (unicode s (o + 1))
unfolding escape
escape_with_lem s o = refl

hex_shift : (s : Text) (o : ℕ) → hex_at (drop o s) 0 ≡ hex_at s o
hex_shift s o = ap (λ (x : ℕ). hex_by (digit_of x) (digit_of (byte_at (drop o s) 2))) (byte_drop s o 1) ∙ ap (λ (x : ℕ). hex_by (digit_of (byte_at s (o + 1))) (digit_of x)) (byte_drop s o 2)

unicode_shift : (s : Text) (o : ℕ) → unicode (drop o s) 1 ≡ unicode s (o + 1)
unfolding unicode
unicode_shift s o =
    ap (λ (x : ℕ). braces x (drop 2 (drop o s))) (byte_drop s o 1)
    ∙ ap (λ (t : Text). braces (byte_at s (o + 1)) t) (drop-drop 2 o s ∙ ap (λ (k : ℕ). drop k s) (let w : o + 2 ≡ o + 1 + 1 = omega arith in w))
  where
    braces : ℕ → Text → Result Escaped BadEscape
    braces x t = elim (eqb x 123) [ true ↦ digits 0 0 t | false ↦ Err (Short 1) ]

pub escape_shift : (s : Text) (o : ℕ) → escape (drop o s) 0 ≡ escape s o
escape_shift s o =
    escape_with_lem (drop o s) 0
    ∙ ap (λ (b : ℕ). escape_with b (hex_at (drop o s) 0) (unicode (drop o s) 1)) (front s o)
    ∙ ap (λ (x : Result Escaped BadEscape). escape_with (byte_at s o) x (unicode (drop o s) 1)) (hex_shift s o)
    ∙ ap (λ (u : Result Escaped BadEscape). escape_with (byte_at s o) (hex_at s o) u) (unicode_shift s o)
    ∙ sym (escape_with_lem s o)

-- ---- the walk over the characters

pub width_escape : (b : ℕ) (t : Text) → b ≡ 92 → width_in b t ≡ escape_width (escape t 0)
unfolding width_in
width_escape b t e = rw (eq-eqb b 92 e, width_in)

pub value_escape : (b : ℕ) (t : Text) → b ≡ 92 → value_in b t ≡ escape_value (escape t 0)
unfolding value_in
value_escape b t e = rw (eq-eqb b 92 e, value_in)

pub width_ascii : (b : ℕ) (t : Text) → (b ≡ 92 → ⊥) → b < 128 → width_in b t ≡ 0
unfolding width_in
width_ascii b t n h = rw (ne_eqb b 92 n, lt-ltb b 128 h, width_in)

pub value_ascii : (b : ℕ) (t : Text) → (b ≡ 92 → ⊥) → b < 128 → value_in b t ≡ b
unfolding value_in
value_ascii b t n h = rw (ne_eqb b 92 n, lt-ltb b 128 h, value_in)

pub width_long : (b : ℕ) (t : Text) → 128 ≤ b → width_in b t ≡ sequence_of (b ∷ t) - 1
unfolding width_in
width_long b t h = rw (ne_eqb b 92 (λ e. omega arith), le-ltb b 128 h, width_in)

pub value_long : (b : ℕ) (t : Text) → 128 ≤ b → value_in b t ≡ char_of (b ∷ t)
unfolding value_in
value_long b t h = rw (ne_eqb b 92 (λ e. omega arith), le-ltb b 128 h, value_in)

pub spelled : {e : Result Escaped BadEscape} {v n : ℕ} (at : ℕ) → e ≡ means v n → spells_as v (at + n) ≡ spells_as (escape_value e) (at + escape_width e)
spelled at k = sym (ap (λ (x : Result Escaped BadEscape). spells_as (escape_value x) (at + escape_width x)) k)

pub misspelled : {e : Result Escaped BadEscape} {x : BadEscape} {r : Option Spelled} (at : ℕ) → e ≡ Err x → r ≡ spells_as 92 at → r ≡ spells_as (escape_value e) (at + escape_width e)
misspelled {e} {x} at k z = z ∙ still ∙ ap (λ (y : Result Escaped BadEscape). spells_as (escape_value y) (at + escape_width y)) (sym k)
  where
    still : spells_as 92 at ≡ spells_as 92 (at + 0)
    still = ap (spells_as 92) (let k : at ≡ at + 0 = omega arith in k)

module _ {s : Text} {o b : ℕ} (e : ByteOf s o b) where
  pub piece_none : b ≡ 256 → None ≡ piece s o
  unfolding piece
  piece_none h = sym (ap (piece_in o) (from_end s o (ended e h)))

  module _ (h : b ≡ 256 → ⊥) where
    piece_here : spells_as (value_in b (drop (o + 1) s)) (o + 1 + width_in b (drop (o + 1) s)) ≡ piece s o
    unfolding piece
    piece_here = sym (ap (piece_in o) (from_byte s o b e.is (not_ended e h)))

    pub piece_escape : {r : Spelled} {x : Result Escaped BadEscape} → b ≡ 92 → x ≡ escape s (o + 1) → r ≡ spelled_by x (o + 1) → Some r ≡ piece s o
    piece_escape {r} {x} k f z =
        let t = drop (o + 1) s in
        let y : x ≡ escape t 0 = f ∙ sym (escape_shift s (o + 1)) in
        ap Some z
        ∙ ap (λ (w : Result Escaped BadEscape). Some (spelled_by w (o + 1))) y
        ∙ ap (λ (v : ℕ). spells_as v (o + 1 + escape_width (escape t 0))) (sym (value_escape b t k))
        ∙ ap (λ (n : ℕ). spells_as (value_in b t) (o + 1 + n)) (sym (width_escape b t k))
        ∙ piece_here

    pub piece_ascii : (b ≡ 92 → ⊥) → b < 128 → spells_as b (o + 1) ≡ piece s o
    piece_ascii n l =
        let t = drop (o + 1) s in
        let y : o + 1 ≡ o + 1 + width_in b t = let w = width_ascii b t n l in omega arith in
        ap (spells_as b) y ∙ ap (λ (v : ℕ). spells_as v (o + 1 + width_in b t)) (sym (value_ascii b t n l)) ∙ piece_here

    long : {v w n : ℕ} → 128 ≤ b → v ≡ char_of (drop o s) → w ≡ sequence_of (drop o s) → n ≡ o + 1 + (w - 1) → spells_as v n ≡ piece s o
    long {v} {w} {n} l f g z =
        let t = drop (o + 1) s in
        let d : drop o s ≡ b ∷ t = from_byte s o b e.is (not_ended e h) in
        let y : n ≡ o + 1 + width_in b t = z ∙ ap (λ (k : ℕ). o + 1 + (k - 1)) (g ∙ ap sequence_of d) ∙ ap (λ (k : ℕ). o + 1 + k) (sym (width_long b t l)) in
        ap (spells_as v) y ∙ ap (λ (k : ℕ). spells_as k (o + 1 + width_in b t)) (f ∙ ap char_of d ∙ sym (value_long b t l)) ∙ piece_here

    pub piece_odd : {v w : ℕ} → 128 ≤ b → v ≡ char_of (drop o s) → w ≡ sequence_of (drop o s) → w ≡ 0 → spells_as v (o + 1) ≡ piece s o
    piece_odd l f g k = long l f g (omega arith)

    pub piece_long : {v w : ℕ} → 128 ≤ b → v ≡ char_of (drop o s) → w ≡ sequence_of (drop o s) → (w ≡ 0 → ⊥) → spells_as v (o + w) ≡ piece s o
    piece_long l f g k = long l f g (omega arith)

-- the rest of the characters, from an offset on
abbrev pub decoded_from : Text → ℕ → List ℕ
decoded_from s o = decode 0 (drop o s)

decode_over : (k : ℕ) (t : Text) → decode k t ≡ decode 0 (drop k t)
unfolding decode
decode_over zero t = refl
decode_over (suc k) [] = refl
decode_over (suc k) (b ∷ t) = decode_over k t

pub piece_end : (s : Text) (o : ℕ) → None ≡ piece s o → decoded_from s o ≡ []
unfolding piece decode
piece_end s o = go (drop o s)
  where
    go : (t : Text) → None ≡ piece_in o t → decode 0 t ≡ []
    go [] e = refl
    go (b ∷ t) e = let z : ◌≡◌ {A = ℕ} 0 1 = cc in absurd (omega arith)

-- a character, and what follows it
pub piece_char : (s : Text) (o : ℕ) (x : Spelled) → Some x ≡ piece s o → decoded_from s o ≡ x.value ∷ decoded_from s x.next
unfolding piece decode
piece_char s o x e = go (drop o s) refl e
  where
    go : (t : Text) → t ≡ drop o s → Some x ≡ piece_in o t → decode 0 t ≡ x.value ∷ decoded_from s x.next
    go [] z e = let w : ◌≡◌ {A = ℕ} 0 1 = cc in absurd (omega arith)
    go (b ∷ t) z e =
        let v = (spells_parts e).0 in
        let y = (spells_parts e).1 in
        let d : drop (width_in b t) t ≡ drop x.next s = ap (drop (width_in b t)) (rest s o b t z).1 ∙ drop-drop (width_in b t) (o + 1) s ∙ ap (λ (k : ℕ). drop k s) (sym y) in
        ap (λ (w : ℕ). w ∷ decode (width_in b t) t) (sym v) ∙ ap (λ (l : List ℕ). x.value ∷ l) (decode_over (width_in b t) t ∙ ap (decode 0) d)

width_inside : (b : ℕ) (t : Text) → width_in b t ≤ length t
unfolding width_in
width_inside b t =
    test_ℕ (eqb b 92) (esc (escape t 0) (escape_inside t 0 (omega arith)))
    (test_ℕ (ltb b 128) (omega arith) (let z : sequence_of (b ∷ t) ≤ suc (length t) = sequence_length (b ∷ t) in omega arith))
  where
    test_ℕ : (u : Bool) {x y : ℕ} → x ≤ length t → y ≤ length t → elim u as (λ w. ℕ) [ true ↦ x | false ↦ y ] ≤ length t
    test_ℕ true x y = x
    test_ℕ false x y = y

    esc : (e : Result Escaped BadEscape) → 0 + reach e ≤ length t → escape_width e ≤ length t
    esc (Ok t) h = omega arith
    esc (Err g) h = omega arith

-- a character has bytes, and they stand in the text
pub piece_inside : (s : Text) (o : ℕ) (x : Spelled) → Some x ≡ piece s o → (o < x.next) × (x.next ≤ length s)
unfolding piece
piece_inside s o x e = go (drop o s) refl e
  where
    go : (t : Text) → t ≡ drop o s → Some x ≡ piece_in o t → (o < x.next) × (x.next ≤ length s)
    go [] z e = let w : ◌≡◌ {A = ℕ} 0 1 = cc in absurd (omega arith)
    go (b ∷ t) z e =
        let y = (spells_parts e).1 in
        let w = width_inside b t in
        let r = rest s o b t z in
        let l : o < length s = r.0 in
        let k = ap length r.1 ∙ length-drop (o + 1) s in
        (omega arith, omega arith)

-- ---- the comparison

-- what is left of two texts compares as they do
pub record Comparing (a b : Text) (i j : ℕ) : Type 0 where
  pub still : same (decoded_from a i) (decoded_from b j) ≡ same (decoded a) (decoded b)
  pub left : i ≤ length a
  pub right : j ≤ length b

pub compare_start : (a b : Text) → Comparing a b 0 0
compare_start a b = record { still = refl; left = omega arith; right = omega arith }

both : (l m : List ℕ) {x y : List ℕ} → x ≡ l → y ≡ m → same x y ≡ same l m
both l m {x} {y} e f = ap (λ (z : List ℕ). same z y) e ∙ ap (same l) f

module _ {a b : Text} {i j : ℕ} (h : Comparing a b i j) where
  pub both_end : None ≡ piece a i → None ≡ piece b j → true ≡ same (decoded a) (decoded b)
  unfolding same
  both_end e f = sym (both [] [] (piece_end a i e) (piece_end b j f)) ∙ h.still

  pub first_ends : {y : Spelled} → None ≡ piece a i → Some y ≡ piece b j → false ≡ same (decoded a) (decoded b)
  unfolding same
  first_ends {y} e f = sym (both [] (y.value ∷ decoded_from b y.next) (piece_end a i e) (piece_char b j y f)) ∙ h.still

  pub second_ends : {x : Spelled} → Some x ≡ piece a i → None ≡ piece b j → false ≡ same (decoded a) (decoded b)
  unfolding same
  second_ends {x} e f = sym (both (x.value ∷ decoded_from a x.next) [] (piece_char a i x e) (piece_end b j f)) ∙ h.still

  module _ {x y : Spelled} (e : Some x ≡ piece a i) (f : Some y ≡ piece b j) where
    here_both : same (decoded_from a i) (decoded_from b j) ≡ (eqb x.value y.value && same (decoded_from a x.next) (decoded_from b y.next))
    unfolding same
    here_both = both (x.value ∷ decoded_from a x.next) (y.value ∷ decoded_from b y.next) (piece_char a i x e) (piece_char b j y f)

    pub differ : (x.value ≡ y.value → ⊥) → false ≡ same (decoded a) (decoded b)
    differ d = sym (here_both ∙ ap (λ (t : Bool). t && same (decoded_from a x.next) (decoded_from b y.next)) (ne_eqb x.value y.value d)) ∙ h.still

    pub compare_on : x.value ≡ y.value → Comparing a b x.next y.next
    compare_on d =
        record {
          still = sym (here_both ∙ ap (λ (t : Bool). t && same (decoded_from a x.next) (decoded_from b y.next)) (eq-eqb x.value y.value d)) ∙ h.still;
          left = (piece_inside a i x e).1;
          right = (piece_inside b j y f).1;
        }

-- ---- parts of the text

none : (x : ℕ) (l : Text) → take (x - x) l ≡ []
none x l = ap (λ (k : ℕ). take k l) (let z : x - x ≡ 0 = omega arith in z)

module _ (s : Text) (f t : ℕ) where
  pub part_past : length s ≤ f → take (length s - length s) (drop (length s) s) ≡ part s f t
  part_past h = none (length s) (drop (length s) s) ∙ sym (ap (take (t - f)) (from_end s f h) ∙ take-nil (t - f))

  pub part_empty : t ≤ f → take (f - f) (drop f s) ≡ part s f t
  part_empty h = ap (λ (k : ℕ). take k (drop f s)) (let z : f - f ≡ t - f = omega arith in z)

  pub part_long : length s ≤ t → take (length s - f) (drop f s) ≡ part s f t
  part_long h =
      let l = length-drop f s in
      take_all (length s - f) (drop f s) (omega arith) ∙ sym (take_all (t - f) (drop f s) (omega arith))

  pub part_length : length (part s f t) ≤ length s
  part_length = let a = length-take (t - f) (drop f s) in let b = length-drop f s in omega arith

  pub key_quote : {b : ℕ} → ByteOf s f b → (b ≡ 34) ⊎ (b ≡ 39) → part s (f + 1) (t - 1) ≡ key_of s f t
  unfolding key_of
  key_quote {b} e (inl h) = rw (eq-eqb (byte_at s f) 34 (sym e.is ∙ h), key_of)
  key_quote {b} e (inr h) = rw (ne_eqb (byte_at s f) 34 (λ z. let w = e.is in omega arith), eq-eqb (byte_at s f) 39 (sym e.is ∙ h), key_of)

  pub key_name : {b : ℕ} → ByteOf s f b → (b ≡ 34 → ⊥) → (b ≡ 39 → ⊥) → part s f t ≡ key_of s f t
  unfolding key_of
  key_name {b} e h k = rw (ne_eqb (byte_at s f) 34 (λ z. h (e.is ∙ z)), ne_eqb (byte_at s f) 39 (λ z. k (e.is ∙ z)), key_of)

pub key_length : (s : Text) (f t : ℕ) → length (key_of s f t) ≤ length s
unfolding key_of
key_length s f t = go (is_quote (byte_at s f))
  where
    go : (u : Bool) → length {A = ℕ} (elim u as (λ w. Text) [ true ↦ part s (f + 1) (t - 1) | false ↦ part s f t ]) ≤ length s
    go true = part_length s (f + 1) (t - 1)
    go false = part_length s f t

pub same_keys : (s : Text) (a b : Span) {x y : Text} {r : Bool} → x ≡ key_of s a.from a.to → y ≡ key_of s b.from b.to → r ≡ same (decoded x) (decoded y) → r ≡ same_key s a b
unfolding same_key
same_keys s a b {x} {y} e f z = z ∙ ap (λ (l : Text). same (decoded l) (decoded y)) e ∙ ap (λ (l : Text). same (decoded (key_of s a.from a.to)) (decoded l)) f

-- ---- an accepted string: its span lies in the text, and each escape between its quotes is one, read with nothing but what stands there

never : {A : Type 0} {g : BadEscape} {v k : ℕ} → Err g ≡ means v k → A
never {g = g} {v = v} {k = k} z = let w : ◌≡◌ {A = ℕ} 0 1 = cc in absurd (omega arith)

named_more : (n v w k : ℕ) → named n v ≡ means w k → n + 3 ≤ k
named_more zero v w k e = never e
named_more (suc n) v w k e = go (is_scalar v) e
  where
    go : (t : Bool) → elim t as (λ u. Result Escaped BadEscape) [ true ↦ means v (suc n + 3) | false ↦ Err (Short (suc n + 3)) ] ≡ means w k → suc n + 3 ≤ k
    go true e = let z = means_width e in omega arith
    go false e = never e

digits_more : (t : Text) (n v w k : ℕ) → digits n v t ≡ means w k → n + 3 ≤ k
unfolding digits closing
digits_more [] n v w k e = never e
digits_more (b ∷ t) n v w k e = go (ltb (digit_of b) 16) (ltb n 6) (eqb b 125) (digits_more t (n + 1) (v * 16 + digit_of b) w k) e
  where
    go : (x y z : Bool) → (digits (n + 1) (v * 16 + digit_of b) t ≡ means w k → n + 1 + 3 ≤ k)
        → elim x as (λ u. Result Escaped BadEscape) [ true ↦ elim y as (λ u. Result Escaped BadEscape) [ true ↦ digits (n + 1) (v * 16 + digit_of b) t | false ↦ Err (Short (n + 2)) ] | false ↦ elim z as (λ u. Result Escaped BadEscape) [ true ↦ named n v | false ↦ Err (Short (n + 2)) ] ] ≡ means w k
        → n + 3 ≤ k
    go true true z ih e = let l = ih e in omega arith
    go true false z ih e = never e
    go false y true ih e = named_more n v w k e
    go false y false ih e = never e

-- digits that end in a text end in each text with the same bytes
digits_stable : (t u : Text) (n v w k l : ℕ) → Alike l t u → digits n v t ≡ means w k → k ≤ n + 2 + l → digits n v u ≡ means w k
unfolding digits closing
digits_stable [] u n v w k l a e h = never e
digits_stable (b ∷ t) u n v w k zero a e h = let z = digits_more (b ∷ t) n v w k e in absurd (omega arith)
digits_stable (b ∷ t) [] n v w k (suc l) a e h = alike_none a
digits_stable (b ∷ t) (c ∷ u) n v w k (suc l) a e h =
    ap (λ (x : ℕ). digits n v (x ∷ u)) (sym (alike_byte 0 (omega arith) a))
    ∙ go (ltb (digit_of b) 16) (ltb n 6) (λ f. digits_stable t u (n + 1) (v * 16 + digit_of b) w k l (alike_rest a) f (omega arith)) e
  where
    rest_of : Result Escaped BadEscape
    rest_of = closing b n v

    go : (x y : Bool) → (digits (n + 1) (v * 16 + digit_of b) t ≡ means w k → digits (n + 1) (v * 16 + digit_of b) u ≡ means w k)
        → elim x as (λ z. Result Escaped BadEscape) [ true ↦ elim y as (λ z. Result Escaped BadEscape) [ true ↦ digits (n + 1) (v * 16 + digit_of b) t | false ↦ Err (Short (n + 2)) ] | false ↦ rest_of ] ≡ means w k
        → elim x as (λ z. Result Escaped BadEscape) [ true ↦ elim y as (λ z. Result Escaped BadEscape) [ true ↦ digits (n + 1) (v * 16 + digit_of b) u | false ↦ Err (Short (n + 2)) ] | false ↦ rest_of ] ≡ means w k
    go true true ih e = ih e
    go true false ih e = e
    go false y ih e = e

hex_three : (h l v k : ℕ) → hex_by h l ≡ means v k → k ≡ 3
unfolding hex_by
hex_three h l v k e = go (ltb h 16 && ltb l 16 && leb (h * 16 + l) 127) e
  where
    go : (t : Bool) → elim t as (λ u. Result Escaped BadEscape) [ true ↦ means (h * 16 + l) 3 | false ↦ Err NotHex ] ≡ means v k → k ≡ 3
    go true e = sym (means_width e)
    go false e = never e

module _ (t : Text) (v k : ℕ) where
  brace_more : unicode t 1 ≡ means v k → 3 ≤ k
  unfolding unicode
  brace_more e = go (eqb (byte_at t 1) 123) e
    where
      go : (u : Bool) → elim u as (λ w. Result Escaped BadEscape) [ true ↦ digits 0 0 (drop 2 t) | false ↦ Err (Short 1) ] ≡ means v k → 3 ≤ k
      go true e = let z = digits_more (drop 2 t) 0 0 v k e in omega arith
      go false e = never e

  -- an escape is one letter or one of the long forms
  by_form : (R : Type 0) (b : ℕ) (x u : Result Escaped BadEscape) → escape_with b x u ≡ means v k → (k ≡ 1 → R) → (x ≡ means v k → R) → (u ≡ means v k → R) → R
  by_form R b x u e one hex brace = go (ltb (letter_of b) 256) (eqb b 120) (eqb b 117) e
    where
      go : (t1 t2 t3 : Bool) → elim t1 as (λ y. Result Escaped BadEscape) [ true ↦ means (letter_of b) 1 | false ↦ elim t2 as (λ y. Result Escaped BadEscape) [ true ↦ x | false ↦ elim t3 as (λ y. Result Escaped BadEscape) [ true ↦ u | false ↦ Err Unknown ] ] ] ≡ means v k → R
      go true t2 t3 e = one (sym (means_width e))
      go false true t3 e = hex e
      go false false true e = brace e
      go false false false e = never e

  one_form : (t1 : Bool) (a : Result Escaped BadEscape) {x y : Result Escaped BadEscape} → (x ≡ means v k → y ≡ means v k) → elim t1 as (λ z. Result Escaped BadEscape) [ true ↦ a | false ↦ x ] ≡ means v k → elim t1 as (λ z. Result Escaped BadEscape) [ true ↦ a | false ↦ y ] ≡ means v k
  one_form true a f e = e
  one_form false a f e = f e

  a_form : (t1 : Bool) {a c x y : Result Escaped BadEscape} → (a ≡ means v k → c ≡ means v k) → (x ≡ means v k → y ≡ means v k) → elim t1 as (λ z. Result Escaped BadEscape) [ true ↦ a | false ↦ x ] ≡ means v k → elim t1 as (λ z. Result Escaped BadEscape) [ true ↦ c | false ↦ y ] ≡ means v k
  a_form true g f e = g e
  a_form false g f e = f e

  pub escape_more : escape t 0 ≡ means v k → 1 ≤ k
  escape_more e =
      by_form (1 ≤ k) (byte_at t 0) (hex_at t 0) (unicode t 1) (sym (escape_with_lem t 0) ∙ e) (λ z. omega arith)
      (λ z. let w = hex_three (digit_of (byte_at t 1)) (digit_of (byte_at t 2)) v k z in omega arith) (λ z. let w = brace_more z in omega arith)

  module _ (u : Text) (a : Alike k t u) where
    hex_stable : hex_at t 0 ≡ means v k → hex_at u 0 ≡ means v k
    hex_stable e =
        let z = hex_three (digit_of (byte_at t 1)) (digit_of (byte_at t 2)) v k e in
        ap (λ (x : ℕ). hex_by (digit_of x) (digit_of (byte_at u 2))) (sym (alike_byte 1 (omega arith) a))
        ∙ ap (λ (x : ℕ). hex_by (digit_of (byte_at t 1)) (digit_of x)) (sym (alike_byte 2 (omega arith) a))
        ∙ e

    brace_stable : unicode t 1 ≡ means v k → unicode u 1 ≡ means v k
    unfolding unicode
    brace_stable e =
        ap (λ (x : ℕ). elim (eqb x 123) as (λ w. Result Escaped BadEscape) [ true ↦ digits 0 0 (drop 2 u) | false ↦ Err (Short 1) ]) (sym (alike_byte 1 (omega (arith, brace_more e)) a))
        ∙ go (eqb (byte_at t 1) 123) e
      where
        go : (y : Bool) → elim y as (λ w. Result Escaped BadEscape) [ true ↦ digits 0 0 (drop 2 t) | false ↦ Err (Short 1) ] ≡ means v k → elim y as (λ w. Result Escaped BadEscape) [ true ↦ digits 0 0 (drop 2 u) | false ↦ Err (Short 1) ] ≡ means v k
        go true e =
            let z = digits_more (drop 2 t) 0 0 v k e in
            digits_stable (drop 2 t) (drop 2 u) 0 0 v k (k - 2) (alike_drop 2 (omega arith) a) e (omega arith)
        go false e = e

    -- so an escape is decided by its own bytes
    pub escape_stable : escape t 0 ≡ means v k → escape u 0 ≡ means v k
    escape_stable e =
        let b = byte_at t 0 in
        escape_with_lem u 0
        ∙ ap (λ (x : ℕ). escape_with x (hex_at u 0) (unicode u 1)) (sym (alike_byte 0 (omega (arith, escape_more e)) a))
        ∙ one_form (ltb (letter_of b) 256) (means (letter_of b) 1)
        (a_form (eqb b 120) hex_stable (a_form (eqb b 117) brace_stable (λ z. z)))
        (sym (escape_with_lem t 0) ∙ e)

-- what an accepted string has, from the offset o on, where so many bytes are read already
pub record Spelt (s : Text) (o left : ℕ) (t : Text) (n : Place) : Type 0 where
  pub more : ℕ
  pub ends : n.offset ≡ o + more + 1
  pub enough : left ≤ more
  pub inside : more < length t
  pub good : sound left (take more t) ≡ true
  pub stands : Stands s n

module _ (s : Text) (at : Place) (q : ℕ) (h n : Place) where
  not_taken : {A : Type 0} {f : Refused} → Err f ≡ taken h n → A
  not_taken {f = f} e = let w : ◌≡◌ {A = ℕ} 0 1 = cc in absurd (omega arith)

  pub scan_spelt : (t : Text) (left o : ℕ) (p : Place) → t ≡ drop o s → o + left ≡ p.offset → Stands s p → scan s at q left t p ≡ taken h n → (h ≡ at) × Spelt s o left t n
  unfolding scan sound
  scan_spelt [] left o p z f st e = not_taken e
  scan_spelt (b ∷ t) (suc left) o p z f st e =
      let r = scan_spelt t left (o + 1) p (rest s o b t z).1 (omega arith) st e in
      let i = r.1 in
      let x : n.offset ≡ o + 1 + i.more + 1 = i.ends in
      let y : left ≤ i.more = i.enough in
      let l : i.more < length t = i.inside in
      (r.0, record { more = suc i.more; ends = omega arith; enough = omega arith; inside = omega arith; good = i.good; stands = i.stands })
  scan_spelt (b ∷ t) zero o p z f st e =
      go (eqb b q) (eqb b 92) (escape s (p.offset + 1)) refl refl (λ left p' g u. scan_spelt t left (o + 1) p' (rest s o b t z).1 g u) e
    where
      here_in : o < length s
      here_in = (rest s o b t z).0

      follows : t ≡ drop (p.offset + 1) s
      follows = (rest s o b t z).1 ∙ ap (λ (k : ℕ). drop (k + 1) s) (let w : o ≡ p.offset = omega arith in w)

      one_more : (k : ℕ) (i : Spelt s (o + 1) k t n) → sound zero (b ∷ take i.more t) ≡ true → Spelt s o zero (b ∷ t) n
      one_more k i g =
          let x : n.offset ≡ o + 1 + i.more + 1 = i.ends in
          let l : i.more < length t = i.inside in
          record { more = suc i.more; ends = omega arith; enough = omega arith; inside = omega arith; good = g; stands = i.stands }

      plain : eqb b 92 ≡ false → (i : Spelt s (o + 1) 0 t n) → sound zero (b ∷ take i.more t) ≡ true
      plain x i = rw (x, sound) i.good

      spelt_escape : (v k : ℕ) → eqb b 92 ≡ true → escape s (p.offset + 1) ≡ means v k → (i : Spelt s (o + 1) k t n) → sound zero (b ∷ take i.more t) ≡ true
      spelt_escape v k x y i =
          let w : escape (take i.more t) 0 ≡ means v k = escape_stable t v k (take i.more t) (alike_front t i.enough) (ap (λ (l : Text). escape l 0) follows ∙ escape_shift s (p.offset + 1) ∙ y) in
          rw (x, w, sound) i.good

      go : (x y : Bool) (r : Result Escaped BadEscape) → eqb b 92 ≡ y → escape s (p.offset + 1) ≡ r
          → ((left : ℕ) (p' : Place) → o + 1 + left ≡ p'.offset → Stands s p' → scan s at q left t p' ≡ taken h n → (h ≡ at) × Spelt s (o + 1) left t n)
          → elim x as (λ w. Must) [ true ↦ taken at (past b p) | false ↦ elim y as (λ w. Must) [ true ↦ elim r as (λ w. Must) [ Ok x ↦ scan s at q x.width t (on_by (1 + x.width) p) | Err g ↦ failed BadStringEscape (strayed s (on_by 1 p) g) ] | false ↦ scan s at q zero t (past b p) ] ] ≡ taken h n
          → (h ≡ at) × Spelt s o zero (b ∷ t) n
      go true y r c d ih e =
          let a = past_stands s b p st (omega (arith, here_in)) in
          let w = sym (taken_here e) in
          let x = sym (taken_next e) in
          let u : n.offset ≡ p.offset + 1 = ap (λ (k : Place). k.offset) x ∙ past_offset b p in
          (w, record { more = 0; ends = omega arith; enough = omega arith; inside = omega arith; good = refl; stands = subst⁻¹ (λ (k : Place). Stands s k) x a.stands })
      go false true (Ok t) c d ih e =
          let u = escape_inside s (p.offset + 1) (omega (arith, here_in)) in
          let w : reach (escape s (p.offset + 1)) ≡ t.width = ap reach d in
          let r = ih t.width (on_by (1 + t.width) p) (omega arith) (on_by_stands s (1 + t.width) p st (omega arith)).stands e in
          (r.0, one_more t.width r.1 (spelt_escape t.value t.width c d r.1))
      go false true (Err g) c d ih e = not_taken e
      go false false r c d ih e =
          let a = past_stands s b p st (omega (arith, here_in)) in
          let u = past_offset b p in
          let r = ih 0 (past b p) (omega arith) a.stands e in
          (r.0, one_more 0 r.1 (plain c r.1))

-- a string that was accepted: it begins where it was asked for, has its two quotes, ends in the text, and decoding it never fails
pub record Literal (s : Text) (p h n : Place) : Type 0 where
  pub begins : h ≡ p
  pub quoted : p.offset + 2 ≤ n.offset
  pub stands : Stands s n
  pub spelt : sound 0 (part s (p.offset + 1) (n.offset - 1)) ≡ true

pub string_accepted : (s : Text) (p h n : Place) → Stands s p → string s p ≡ taken h n → Literal s p h n
unfolding string
string_accepted s p h n st e = go (drop p.offset s) refl e
  where
    go : (t : Text) → t ≡ drop p.offset s → string_by s p t ≡ taken h n → Literal s p h n
    go [] z e = not_taken s p 0 h n e
    go (q ∷ t) z e =
        let k = rest s p.offset q t z in
        let a = past_stands s q p st k.0 in
        let r = scan_spelt s p q h n t 0 (p.offset + 1) (past q p) k.1 (omega (arith, past_offset q p)) a.stands e in
        let i = r.1 in
        let x : n.offset ≡ p.offset + 1 + i.more + 1 = i.ends in
        let y : take i.more t ≡ part s (p.offset + 1) (n.offset - 1) = ap (take i.more) k.1 ∙ ap (λ (m : ℕ). take m (drop (p.offset + 1) s)) (let w : i.more ≡ n.offset - 1 - (p.offset + 1) = omega arith in w) in
        record { begins = r.0; quoted = omega arith; stands = i.stands; spelt = ap (sound 0) (sym y) ∙ i.good }

-- ---- names

-- a text of ASCII with no `\` spells itself
unfoldable pub plain_text : Text → Bool
plain_text [] = true
plain_text (b ∷ t) = elim (eqb b 92) [ true ↦ false | false ↦ ltb b 128 && plain_text t ]

pub decoded_plain : (t : Text) → plain_text t ≡ true → decoded t ≡ t
unfolding decode plain_text
decoded_plain [] e = refl
decoded_plain (b ∷ t) e = go (eqb b 92) refl e (decoded_plain t)
  where
    go : (x : Bool) → eqb b 92 ≡ x → elim x as (λ w. Bool) [ true ↦ false | false ↦ ltb b 128 && plain_text t ] ≡ true → (plain_text t ≡ true → decoded t ≡ t) → value_in b t ∷ decode (width_in b t) t ≡ b ∷ t
    go true x e ih = let z : ◌≡◌ {A = Bool} false true = e in let w : ◌≡◌ {A = ℕ} 0 1 = cc in absurd (omega arith)
    go false x e ih =
        let k = (and-eq-true_iff (ltb b 128) (plain_text t)).0 e in
        let l = ltb-true b 128 k.0 in
        let n : b ≡ 92 → ⊥ = eqb-false b 92 x in
        ap (λ (v : ℕ). v ∷ decode (width_in b t) t) (value_ascii b t n l) ∙ ap (λ (w : ℕ). b ∷ decode w t) (width_ascii b t n l) ∙ ap (λ (y : List ℕ). b ∷ y) (ih k.1)
