-- Laws of strings: how one escape and one byte lead to the next, and that a literal's span lies in the text. Assumes nothing.
use Rattle.std.specs.Prelude.{◌≡◌, Bool, ◌&&◌, eqb, length, Err, Ok, Result}
use Rattle.std.proofs.Math.Path.{refl, ap, subst⁻¹}
use Rattle.std.proofs.Common.{sym, ◌∙◌, arith, add-one, pow-suc, length-drop}
use Rattle.std.proofs.Math.Bool.{true, false}
use mathlib.Core.List.{List, [], ◌∷◌}
use Prim.Native.Nat.{ℕ, zero, suc, ◌+◌, ◌-◌, ◌*◌, ◌≤◌, ◌<◌, ◌^◌}
use Rattle.std.proofs.Math.Nat.{pow-le-pow_right}
use Rattle.std.proofs.Math.Dec.{leb, ltb}
use Rattle.std.proofs.Math.ListN.{drop}
use lib.Seq.{drop-drop}
use borrow.Author.Tests.{ltb-true, ltb-false, leb-true, eqb-true, lt-ltb, le-ltb, le-leb, lt-leb, ne_eqb, eq-eqb}
use Rattle.characters.specs.declared.place.Place.{Place}
use Rattle.characters.specs.declared.refusal.Refusal.TheVariants.{EndOfInput, BadStringEscape}
use Rattle.characters.specs.Text.{Text, byte_at, ByteOf, on_by, past, past_end, tails, next, is_tail, Stands}
use Rattle.characters.specs.PlaceLaws.{Reached, Advanced, reached_here, reached_on, advanced_reached, in_text, at_end, from_byte, from_end, past_offset, past_stands, on_by_stands, next_end, next_in}
use Rattle.characters.specs.BlankLaws.{rest}
use Rattle.literals.specs.declared.strings.BadEscape.TheVariants.{Short, NotHex, Unknown}
use Rattle.literals.specs.Numbers.{digit_of}
use Rattle.literals.specs.NumberLaws.{digit_ascii, choice}
use Rattle.literals.specs.Strings.{hex_by, is_scalar, named, closing, digits, unicode, among, letter_of, escape_by, escape, reach, strayed, scan, string_by, string}
use Rattle.characters.specs.Answers.{Must, failed, taken}
use Rattle.literals.specs.Answers.{means}
use Rattle.literals.specs.declared.strings.BadEscape.{BadEscape}
use Rattle.literals.specs.declared.strings.Escaped.{Escaped}

-- ---- the byte that was read

-- where it is 256 the text has ended
pub ended : {s : Text} {o b : ℕ} → ByteOf s o b → b ≡ 256 → length s ≤ o
ended {s} {o} {b} e h = go (ltb o (length s)) refl
  where
    go : (t : Bool) → ltb o (length s) ≡ t → length s ≤ o
    go true t = let l = e.inside (ltb-true o (length s) t) in absurd (omega arith)
    go false t = ltb-false o (length s) t

-- and where it is not, a byte stands there
pub not_ended : {s : Text} {o b : ℕ} → ByteOf s o b → (b ≡ 256 → ⊥) → b < 256
not_ended {s} {o} {b} e h = go (ltb o (length s)) refl
  where
    go : (t : Bool) → ltb o (length s) ≡ t → b < 256
    go true t = e.inside (ltb-true o (length s) t)
    go false t = absurd (h (e.is ∙ at_end s o (ltb-false o (length s) t)))

pub byte_in : {s : Text} {o b : ℕ} → ByteOf s o b → b < 256 → o < length s
byte_in {s} {o} {b} e h = in_text s o (let z = e.is in omega arith)

-- ---- `\x`

module _ (h l : ℕ) where
  pub pair_high : 8 ≤ h → Err NotHex ≡ hex_by h l
  unfolding hex_by
  pair_high x = go (ltb h 16) (ltb l 16) (leb (h * 16 + l) 127) refl
    where
      go : (t u v : Bool) → leb (h * 16 + l) 127 ≡ v → Err NotHex ≡ elim (t && u && v) as (λ w. Result Escaped BadEscape) [ true ↦ means (h * 16 + l) 3 | false ↦ Err NotHex ]
      go true true true e = let z = leb-true (h * 16 + l) 127 e in absurd (omega arith)
      go true true false e = refl
      go true false v e = refl
      go false u v e = refl

  pub pair_none : 16 ≤ l → Err NotHex ≡ hex_by h l
  unfolding hex_by
  pair_none x = go (ltb h 16) (ltb l 16) (leb (h * 16 + l) 127) refl
    where
      go : (t u v : Bool) → ltb l 16 ≡ u → Err NotHex ≡ elim (t && u && v) as (λ w. Result Escaped BadEscape) [ true ↦ means (h * 16 + l) 3 | false ↦ Err NotHex ]
      go true true v e = let z = ltb-true l 16 e in absurd (omega arith)
      go true false v e = refl
      go false u v e = refl

  pub pair_low : h < 8 → l < 16 → means (h * 16 + l) 3 ≡ hex_by h l
  unfolding hex_by
  pair_low x y = rw (hex_by, lt-ltb h 16 (omega arith), lt-ltb l 16 y, le-leb (h * 16 + l) 127 (omega arith))

-- ---- `\u{}`

module _ (b n v : ℕ) where
  pub close_not : (b ≡ 125 → ⊥) → Err (Short (n + 2)) ≡ closing b n v
  unfolding closing
  close_not x = rw (closing, ne_eqb b 125 x)

  closes : b ≡ 125 → closing b n v ≡ named n v
  unfolding closing
  closes x = rw (closing, eq-eqb b 125 x)

  pub close_none : b ≡ 125 → n ≡ 0 → Err (Short 2) ≡ closing b n v
  close_none x y = sym (closes x ∙ ap (λ (k : ℕ). named k v) y)

  by_value : b ≡ 125 → (n ≡ 0 → ⊥) → (t : Bool) → is_scalar v ≡ t → closing b n v ≡ elim t as (λ u. Result Escaped BadEscape) [ true ↦ means v (n + 3) | false ↦ Err (Short (n + 3)) ]
  by_value x y t e = closes x ∙ ap (λ (k : ℕ). named k v) up ∙ ap (λ (u : Bool). elim u as (λ w. Result Escaped BadEscape) [ true ↦ means v (suc (n - 1) + 3) | false ↦ Err (Short (suc (n - 1) + 3)) ]) e
      ∙ ap (λ (k : ℕ). elim t as (λ w. Result Escaped BadEscape) [ true ↦ means v (k + 3) | false ↦ Err (Short (k + 3)) ]) (sym up)
    where
      up : n ≡ suc (n - 1)
      up = omega arith

  pub close_low : b ≡ 125 → (n ≡ 0 → ⊥) → v < 55296 → means v (n + 3) ≡ closing b n v
  close_low x y z = sym (by_value x y true (rw (lt-ltb v 55296 z)))

  pub close_high : b ≡ 125 → (n ≡ 0 → ⊥) → 57344 ≤ v → v < 1114112 → means v (n + 3) ≡ closing b n v
  close_high x y l h = sym (by_value x y true (rw (le-ltb v 55296 (omega arith), le-leb 57344 v l, le-leb v 1114111 (omega arith))))

  pub close_pair : b ≡ 125 → (n ≡ 0 → ⊥) → 55296 ≤ v → v < 57344 → Err (Short (n + 3)) ≡ closing b n v
  close_pair x y l h = sym (by_value x y false (rw (le-ltb v 55296 l, lt-leb 57344 v h)))

  pub close_over : b ≡ 125 → (n ≡ 0 → ⊥) → 1114112 ≤ v → Err (Short (n + 3)) ≡ closing b n v
  close_over x y l = sym (by_value x y false (rw (le-ltb v 55296 (omega arith), le-leb 57344 v (omega arith), lt-leb v 1114111 l)))

module _ (s : Text) (o b n v : ℕ) (e : b ≡ byte_at s o) where
  here : b < 256 → digits n v (drop o s) ≡ digits n v (b ∷ drop (o + 1) s)
  here h = ap (λ (x : Text). digits n v x) (from_byte s o b e h)

  pub digits_on : digit_of b < 16 → n < 6 → digits n v (drop o s) ≡ digits (n + 1) (v * 16 + digit_of b) (drop (o + 1) s)
  digits_on h l = here (let z = digit_ascii b h in omega arith) ∙ go (drop (o + 1) s)
    where
      go : (t : Text) → digits n v (b ∷ t) ≡ digits (n + 1) (v * 16 + digit_of b) t
      go t = unfold digits in rw (lt-ltb (digit_of b) 16 h, lt-ltb n 6 l, digits) refl

  pub digits_full : digit_of b < 16 → 6 ≤ n → digits n v (drop o s) ≡ Err (Short (n + 2))
  digits_full h l = here (let z = digit_ascii b h in omega arith) ∙ go (drop (o + 1) s)
    where
      go : (t : Text) → digits n v (b ∷ t) ≡ Err (Short (n + 2))
      go t = unfold digits in rw (lt-ltb (digit_of b) 16 h, le-ltb n 6 l, digits) refl

  pub digits_end : 16 ≤ digit_of b → digits n v (drop o s) ≡ closing b n v
  unfolding digits
  digits_end h = go (ltb o (length s)) refl
    where
      no : (t : Text) → digits n v (b ∷ t) ≡ closing b n v
      no t = rw (le-ltb (digit_of b) 16 h, digits) refl

      go : (t : Bool) → ltb o (length s) ≡ t → digits n v (drop o s) ≡ closing b n v
      go true t =
          ap (λ (x : Text). digits n v x) (lib.Seq.drop-cons s o 256 (ltb-true o (length s) t))
          ∙ ap (λ (x : ℕ). digits n v (x ∷ drop (suc o) s)) (sym e)
          ∙ no (drop (suc o) s)
      go false t =
          let z : b ≡ 256 = e ∙ at_end s o (ltb-false o (length s) t) in
          ap (λ (x : Text). digits n v x) (from_end s o (ltb-false o (length s) t))
          ∙ close_not 256 n v (λ w. omega arith)
          ∙ ap (λ (k : ℕ). closing k n v) (sym z)

-- what is left behind `\u{`, n digits that spell v being read, answers for the whole
pub record Digits (s : Text) (at o n v : ℕ) : Type 0 where
  pub same : digits n v (drop o s) ≡ unicode s at
  pub few : n ≤ 6
  pub small : v < 16 ^ n
  pub inside : o ≤ length s

pub unopened : {s : Text} {at b : ℕ} → ByteOf s at b → (b ≡ 123 → ⊥) → Err (Short 1) ≡ unicode s at
unfolding unicode
unopened {s} {at} {b} e h = rw (unicode, ne_eqb (byte_at s at) 123 (λ z. h (e.is ∙ z)))

pub digits_start : {s : Text} {at b : ℕ} → ByteOf s at b → b ≡ 123 → Digits s at (at + 1) 0 0
unfolding unicode
digits_start {s} {at} {b} e h =
    record {
      same = rw (unicode, eq-eqb (byte_at s at) 123 (sym e.is ∙ h));
      few = omega arith;
      small = omega arith;
      inside = let z = e.is in let w = in_text s at (omega arith) in omega arith;
    }

pub digits_step : {s : Text} {at o n v b d : ℕ} → Digits s at o n v → ByteOf s o b → d ≡ digit_of b → d < 16 → (n ≡ 6 → ⊥) → Digits s at (o + 1) (n + 1) (v * 16 + d)
digits_step {s} {at} {o} {n} {v} {b} {d} i e f h k =
    let l : digit_of b < 16 = omega arith in
    let w : v < 16 ^ n = i.small in
    let x : n ≤ 6 = i.few in
    record {
      same = ap (λ (y : ℕ). digits (n + 1) (v * 16 + y) (drop (o + 1) s)) f ∙ sym (digits_on s o b n v e.is l (omega arith)) ∙ i.same;
      few = omega arith;
      small = subst⁻¹ (λ (y : ℕ). v * 16 + d < y) (ap (λ (y : ℕ). 16 ^ y) (add-one n) ∙ pow-suc 16 n) (omega arith);
      inside = let z = e.is in let y = digit_ascii b l in let u = in_text s o (omega arith) in omega arith;
    }

pub digits_room : {s : Text} {at o n v : ℕ} → Digits s at o n v → (n ≡ 6 → ⊥) → v < 1048576
digits_room {s} {at} {o} {n} {v} i k =
    let w : v < 16 ^ n = i.small in
    let x : n ≤ 6 = i.few in
    let z : n ≤ 5 = omega arith in
    let y : 16 ^ n ≤ 16 ^ 5 = pow-le-pow_right {n = 16} (omega arith) z in
    omega arith

pub digits_shut : {s : Text} {at o n v b d : ℕ} {r : Result Escaped BadEscape} → Digits s at o n v → ByteOf s o b → d ≡ digit_of b → 16 ≤ d → r ≡ closing b n v → r ≡ unicode s at
digits_shut {s} {at} {o} {n} {v} {b} i e f h z = z ∙ sym (digits_end s o b n v e.is (omega arith)) ∙ i.same

pub digits_over : {s : Text} {at o n v b d : ℕ} → Digits s at o n v → ByteOf s o b → d ≡ digit_of b → d < 16 → n ≡ 6 → Err (Short 8) ≡ unicode s at
digits_over {s} {at} {o} {n} {v} {b} i e f h k =
    ap (λ (y : ℕ). Err (Short (y + 2))) (sym k) ∙ sym (digits_full s o b n v e.is (omega arith) (omega arith)) ∙ i.same

-- ---- the escapes of one letter

pub letter_at : (k : ℕ) {b : ℕ} → b ≡ k → letter_of k ≡ letter_of b
letter_at k h = ap letter_of (sym h)

others : (es : List (ℕ × ℕ)) (k v b : ℕ) → (b ≡ k → ⊥) → among es b ≡ among ((k, v) ∷ es) b
unfolding among
others es k v b h = rw (ne_eqb b k h, among)

pub letter_none : {b : ℕ} → (b ≡ 92 → ⊥) → (b ≡ 39 → ⊥) → (b ≡ 34 → ⊥) → (b ≡ 116 → ⊥) → (b ≡ 114 → ⊥) → (b ≡ 110 → ⊥) → (b ≡ 48 → ⊥) → 256 ≡ letter_of b
unfolding letter_of among
letter_none {b} a1 a2 a3 a4 a5 a6 a7 =
    others [] 48 0 b a7
    ∙ others ((48, 0) ∷ []) 110 10 b a6
    ∙ others ((110, 10) ∷ (48, 0) ∷ []) 114 13 b a5
    ∙ others ((114, 13) ∷ (110, 10) ∷ (48, 0) ∷ []) 116 9 b a4
    ∙ others ((116, 9) ∷ (114, 13) ∷ (110, 10) ∷ (48, 0) ∷ []) 34 34 b a3
    ∙ others ((34, 34) ∷ (116, 9) ∷ (114, 13) ∷ (110, 10) ∷ (48, 0) ∷ []) 39 39 b a2
    ∙ others ((39, 39) ∷ (34, 34) ∷ (116, 9) ∷ (114, 13) ∷ (110, 10) ∷ (48, 0) ∷ []) 92 92 b a1

-- such a letter is a byte of the text
pub letter_byte : (b : ℕ) → letter_of b < 256 → b < 256
letter_byte b h = go (ltb b 256) refl
  where
    go : (t : Bool) → ltb b 256 ≡ t → b < 256
    go true t = ltb-true b 256 t
    go false t =
        let l = ltb-false b 256 t in
        let z = letter_none {b = b} (λ e. omega arith) (λ e. omega arith) (λ e. omega arith) (λ e. omega arith) (λ e. omega arith) (λ e. omega arith) (λ e. omega arith) in
        absurd (omega arith)

-- ---- which escape a byte opens

opens : {s : Text} {o b : ℕ} → ByteOf s o b → escape_by s o b ≡ escape s o
unfolding escape
opens {s} {o} e = ap (escape_by s o) e.is

pub escaped_letter : {s : Text} {o b v : ℕ} → ByteOf s o b → v ≡ letter_of b → v < 256 → means v 1 ≡ escape s o
escaped_letter {s} {o} {b} {v} e f h = ap (λ (k : ℕ). means k 1) f ∙ go (lt-ltb (letter_of b) 256 (omega arith)) ∙ opens e
  where
    go : ltb (letter_of b) 256 ≡ true → means (letter_of b) 1 ≡ escape_by s o b
    go t = rw (t, escape_by)

module _ {s : Text} {o b v : ℕ} (e : ByteOf s o b) (f : v ≡ letter_of b) (h : 256 ≤ v) where
  no_letter : ltb (letter_of b) 256 ≡ false
  no_letter = le-ltb (letter_of b) 256 (omega arith)

  pub escaped_hex : {x y d l : ℕ} {r : Result Escaped BadEscape} → b ≡ 120 → ByteOf s (o + 1) x → d ≡ digit_of x → ByteOf s (o + 2) y → l ≡ digit_of y → r ≡ hex_by d l → r ≡ escape s o
  escaped_hex {l = l} k f u g v z =
      z
      ∙ ap (λ (n : ℕ). hex_by n l) (u ∙ ap digit_of f.is)
      ∙ ap (hex_by _) (v ∙ ap digit_of g.is)
      ∙ go no_letter (eq-eqb b 120 k)
      ∙ opens e
    where
      go : ltb (letter_of b) 256 ≡ false → eqb b 120 ≡ true → hex_by (digit_of (byte_at s (o + 1))) (digit_of (byte_at s (o + 2))) ≡ escape_by s o b
      go t w = rw (t, w, escape_by)

  pub escaped_brace : {r : Result Escaped BadEscape} → b ≡ 117 → r ≡ unicode s (o + 1) → r ≡ escape s o
  escaped_brace k z = z ∙ go no_letter (ne_eqb b 120 (λ w. omega arith)) (eq-eqb b 117 k) ∙ opens e
    where
      go : ltb (letter_of b) 256 ≡ false → eqb b 120 ≡ false → eqb b 117 ≡ true → unicode s (o + 1) ≡ escape_by s o b
      go t w x = rw (t, w, x, escape_by)

  pub escaped_not : (b ≡ 120 → ⊥) → (b ≡ 117 → ⊥) → Err Unknown ≡ escape s o
  escaped_not k l = go no_letter (ne_eqb b 120 k) (ne_eqb b 117 l) ∙ opens e
    where
      go : ltb (letter_of b) 256 ≡ false → eqb b 120 ≡ false → eqb b 117 ≡ false → Err Unknown ≡ escape_by s o b
      go t w x = rw (t, w, x, escape_by)

-- ---- the bytes of an escape stand in the text

named_inside : (n v : ℕ) → reach (named n v) ≤ n + 3
named_inside zero v = omega arith
named_inside (suc n) v = choice (λ e. reach e ≤ suc n + 3) (is_scalar v) (λ t. omega arith) (λ t. omega arith)

digits_inside : (n v : ℕ) (t : Text) → reach (digits n v t) ≤ n + 2 + length t
unfolding digits closing
digits_inside n v [] = omega arith
digits_inside n v (b ∷ t) =
    let ih : reach (digits (n + 1) (v * 16 + digit_of b) t) ≤ n + 1 + 2 + length t = digits_inside (n + 1) (v * 16 + digit_of b) t in
    let z : reach (named n v) ≤ n + 3 = named_inside n v in
    choice (λ e. reach e ≤ n + 2 + suc (length t)) (ltb (digit_of b) 16)
    (λ x. choice (λ e. reach e ≤ n + 2 + suc (length t)) (ltb n 6) (λ y. omega arith) (λ y. omega arith))
    (λ x. choice (λ e. reach e ≤ n + 2 + suc (length t)) (eqb b 125) (λ y. omega arith) (λ y. omega arith))

-- so the escape ends in the text, or where it is refused
pub escape_inside : (s : Text) (o : ℕ) → o ≤ length s → o + reach (escape s o) ≤ length s
unfolding escape unicode hex_by
escape_inside s o h =
    choice P (ltb (letter_of b) 256) (λ t. one b refl (letter_byte b (ltb-true (letter_of b) 256 t)))
    (λ t. choice P (eqb b 120) (λ t. pair (one 120 (eqb-true b 120 t) (omega arith)) (ltb (digit_of x) 16) (ltb (digit_of y) 16) (leb (digit_of x * 16 + digit_of y) 127) refl)
    (λ t. choice P (eqb b 117) (λ t. braces (one 117 (eqb-true b 117 t) (omega arith))) (λ t. omega arith)))
  where
    b : ℕ
    b = byte_at s o

    x : ℕ
    x = byte_at s (o + 1)

    y : ℕ
    y = byte_at s (o + 2)

    P : Result Escaped BadEscape → Type 0
    P e = o + reach e ≤ length s

    one : (k : ℕ) → b ≡ k → k < 256 → o + 1 ≤ length s
    one k e l = let z = in_text s o (omega arith) in omega arith

    pair : o + 1 ≤ length s → (t u v : Bool) → ltb (digit_of y) 16 ≡ u → P (elim (t && u && v) as (λ w. Result Escaped BadEscape) [ true ↦ means (digit_of x * 16 + digit_of y) 3 | false ↦ Err NotHex ])
    pair l true true true e = let z = in_text s (o + 2) (let w = digit_ascii y (ltb-true (digit_of y) 16 e) in omega arith) in omega arith
    pair l true true false e = l
    pair l true false v e = l
    pair l false u v e = l

    braces : o + 1 ≤ length s → P (unicode s (o + 1))
    braces l = choice P (eqb x 123) (λ t. open_brace (eqb-true x 123 t)) (λ t. l)
      where
        open_brace : x ≡ 123 → P (digits 0 0 (drop (o + 1 + 1) s))
        open_brace e =
            let z = in_text s (o + 1) (omega arith) in
            let d = digits_inside 0 0 (drop (o + 1 + 1) s) in
            let w = length-drop (o + 1 + 1) s in
            omega arith

-- ---- one byte of a string, and what follows it

module _ (s : Text) (at : Place) (q : ℕ) where
  -- the rest of a string from a place on
  abbrev pub scan_from : Place → Must
  scan_from p = scan s at q 0 (drop p.offset s) p

  scan_over : (k : ℕ) (t : Text) (p : Place) → scan s at q k t p ≡ scan s at q 0 (drop k t) p
  unfolding scan
  scan_over zero t p = refl
  scan_over (suc k) [] p = refl
  scan_over (suc k) (b ∷ t) p = scan_over k t p

  pub scan_end : (p : Place) → length s ≤ p.offset → scan_from p ≡ failed EndOfInput p
  unfolding scan
  scan_end p h = ap (λ (t : Text). scan s at q 0 t p) (from_end s p.offset h)

  module _ (p : Place) (b : ℕ) (e : b ≡ byte_at s p.offset) (h : b < 256) where
    opened : scan_from p ≡ scan s at q 0 (b ∷ drop (p.offset + 1) s) p
    opened = ap (λ (t : Text). scan s at q 0 t p) (from_byte s p.offset b e h)

    pub scan_quote : b ≡ q → scan_from p ≡ taken at (past b p)
    scan_quote x = opened ∙ go (drop (p.offset + 1) s)
      where
        go : (t : Text) → scan s at q 0 (b ∷ t) p ≡ taken at (past b p)
        go t = unfold scan in rw (eq-eqb b q x, scan) refl

    pub scan_raw : (b ≡ q → ⊥) → (b ≡ 92 → ⊥) → scan_from p ≡ scan_from (past b p)
    scan_raw x y = opened ∙ go (drop (p.offset + 1) s) ∙ ap (λ (o : ℕ). scan s at q 0 (drop o s) (past b p)) (sym (past_offset b p))
      where
        go : (t : Text) → scan s at q 0 (b ∷ t) p ≡ scan s at q 0 t (past b p)
        go t = unfold scan in rw (ne_eqb b q x, ne_eqb b 92 y, scan) refl

    pub scan_escape : (b ≡ q → ⊥) → b ≡ 92 → (g : Escaped) → Ok g ≡ escape s (p.offset + 1) → scan_from p ≡ scan_from (on_by (1 + g.width) p)
    scan_escape x y g z =
        opened
        ∙ go (drop (p.offset + 1) s)
        ∙ scan_over g.width (drop (p.offset + 1) s) (on_by (1 + g.width) p)
        ∙ ap (λ (t : Text). scan s at q 0 t (on_by (1 + g.width) p)) (drop-drop g.width (p.offset + 1) s ∙ ap (λ (k : ℕ). drop k s) (let w : p.offset + 1 + g.width ≡ p.offset + (1 + g.width) = omega arith in w))
      where
        go : (t : Text) → scan s at q 0 (b ∷ t) p ≡ scan s at q g.width t (on_by (1 + g.width) p)
        go t = unfold scan in rw (ne_eqb b q x, eq-eqb b 92 y, ← z, scan) refl

    pub scan_wrong : (b ≡ q → ⊥) → b ≡ 92 → (g : BadEscape) → Err g ≡ escape s (p.offset + 1) → scan_from p ≡ failed BadStringEscape (strayed s (on_by 1 p) g)
    scan_wrong x y g z = opened ∙ go (drop (p.offset + 1) s)
      where
        go : (t : Text) → scan s at q 0 (b ∷ t) p ≡ failed BadStringEscape (strayed s (on_by 1 p) g)
        go t = unfold scan in rw (ne_eqb b q x, eq-eqb b 92 y, ← z, scan) refl

-- ---- characters

module _ (s : Text) where
  tails_on : (t : Text) (p : Place) → Stands s p → t ≡ drop p.offset s → Reached s p (tails t p)
  unfolding tails
  tails_on [] p h e = reached_here h
  tails_on (b ∷ t) p h e = go (is_tail b) (reached_on (advanced_reached a) (tails_on t (past b p) a.stands ((rest s p.offset b t e).1 ∙ ap (λ (o : ℕ). drop o s) (sym (past_offset b p)))))
    where
      a : Advanced s p (past b p)
      a = past_stands s b p h (rest s p.offset b t e).0

      go : (u : Bool) → Reached s p (tails t (past b p)) → Reached s p (elim u as (λ w. Place) [ true ↦ tails t (past b p) | false ↦ p ])
      go true ih = ih
      go false ih = reached_here h

  -- a character of the text is stepped over
  pub next_stands : (p : Place) (b : ℕ) → b ≡ byte_at s p.offset → b < 256 → Stands s p → Stands s (next s p)
  next_stands p b e l h =
      let a = past_stands s b p h (in_text s p.offset (omega arith)) in
      subst⁻¹ (λ (q : Place). Stands s q) (next_in s b p e l) (tails_on (drop (past b p).offset s) (past b p) a.stands refl).stands

pub two_end : {s : Text} {b : ℕ} (p : Place) → ByteOf s p.offset b → b ≡ 256 → record { offset = p.offset; line = p.line; column = p.column + 1 + 1 } ≡ next s (next s p)
two_end {s} {b} p e h = sym (ap (next s) (next_end s p (ended e h)) ∙ next_end s (past_end p) (ended e h))

pub next_on : {s : Text} {b : ℕ} {p q : Place} → Stands s p → ByteOf s p.offset b → (b ≡ 256 → ⊥) → q ≡ next s p → Stands s q
next_on {s} {b} {p} h e k z = subst⁻¹ (λ (x : Place). Stands s x) z (next_stands s p b e.is (not_ended e k) h)

pub on_stands : (n : ℕ) {s : Text} {p q : Place} → Stands s p → p.offset + n ≤ length s → q ≡ on_by n p → Stands s q
on_stands n {s} {p} h l z = subst⁻¹ (λ (x : Place). Stands s x) z (on_by_stands s n p h l).stands

module _ (s : Text) (p : Place) {e : BadEscape} {r : Place} where
  pub stray_short : {n : ℕ} → e ≡ Short n → r ≡ on_by n p → r ≡ strayed s p e
  stray_short k z = z ∙ ap (strayed s p) (sym k)

  pub stray_hex : {q : Place} → e ≡ NotHex → q ≡ on_by 1 p → r ≡ next s (next s q) → r ≡ strayed s p e
  stray_hex k f z = z ∙ ap (λ (x : Place). next s (next s x)) f ∙ ap (strayed s p) (sym k)

  pub stray_unknown : e ≡ Unknown → r ≡ next s p → r ≡ strayed s p e
  stray_unknown k z = z ∙ ap (strayed s p) (sym k)

-- ---- the loop of `string`

-- what is left of a string, from p on, answers for the whole
pub record Scanning (s : Text) (at : Place) (q : ℕ) (p : Place) : Type 0 where
  pub same : scan_from s at q p ≡ string s at
  pub stands : Stands s p

pub no_quote : {s : Text} {q : ℕ} (at : Place) → ByteOf s at.offset q → q ≡ 256 → failed EndOfInput at ≡ string s at
unfolding string
no_quote {s} at e h = sym (ap (string_by s at) (from_end s at.offset (ended e h)))

pub scan_start : {s : Text} {at p : Place} {q : ℕ} → Stands s at → ByteOf s at.offset q → (q ≡ 256 → ⊥) → p ≡ past q at → Scanning s at q p
unfolding string
scan_start {s} {at} {p} {q} h e k z =
    let l = not_ended e k in
    record {
      same =
          ap (scan_from s at q) z
          ∙ ap (λ (o : ℕ). scan s at q 0 (drop o s) (past q at)) (past_offset q at)
          ∙ sym (ap (string_by s at) (from_byte s at.offset q e.is l));
      stands = subst⁻¹ (λ (x : Place). Stands s x) z (past_stands s q at h (byte_in e l)).stands;
    }

module _ {s : Text} {at p : Place} {q b : ℕ} (i : Scanning s at q p) (e : ByteOf s p.offset b) where
  pub scanned_end : b ≡ 256 → failed EndOfInput p ≡ string s at
  scanned_end h = sym (scan_end s at q p (ended e h)) ∙ i.same

  pub scanned : {r : Place} → (b ≡ 256 → ⊥) → b ≡ q → r ≡ past b p → taken at r ≡ string s at
  scanned k x z = ap (taken at) z ∙ sym (scan_quote s at q p b e.is (not_ended e k) x) ∙ i.same

  pub scan_on : {r : Place} → (b ≡ 256 → ⊥) → (b ≡ q → ⊥) → (b ≡ 92 → ⊥) → r ≡ past b p → Scanning s at q r
  scan_on {r} k x y z =
      let l = not_ended e k in
      record {
        same = ap (scan_from s at q) z ∙ sym (scan_raw s at q p b e.is l x y) ∙ i.same;
        stands = subst⁻¹ (λ (w : Place). Stands s w) z (past_stands s b p i.stands (byte_in e l)).stands;
      }

  -- the bytes of the escape behind a `\` stand in the text
  pub escape_room : b ≡ 92 → {o : ℕ} {r : Result Escaped BadEscape} → o ≡ p.offset + 1 → r ≡ escape s o → p.offset + 1 + reach r ≤ length s
  escape_room y {o} {r} f z =
      let l = byte_in e (omega arith) in
      let w = escape_inside s o (omega arith) in
      let u : reach r ≡ reach (escape s o) = ap reach z in
      omega arith

  pub scan_past : {g : Escaped} {r : Place} → (b ≡ q → ⊥) → b ≡ 92 → Ok g ≡ escape s (p.offset + 1) → r ≡ on_by (1 + g.width) p → Scanning s at q r
  scan_past {g} {r} x y f z =
      let w = escape_room y refl f in
      record {
        same = ap (scan_from s at q) z ∙ sym (scan_escape s at q p b e.is (omega arith) x y g f) ∙ i.same;
        stands = on_stands (1 + g.width) i.stands (omega arith) z;
      }

  pub scan_refused : {g : BadEscape} {r : Place} → (b ≡ q → ⊥) → b ≡ 92 → Err g ≡ escape s (p.offset + 1) → r ≡ strayed s (on_by 1 p) g → failed BadStringEscape r ≡ string s at
  scan_refused {g} x y f z = ap (failed BadStringEscape) z ∙ sym (scan_wrong s at q p b e.is (omega arith) x y g f) ∙ i.same
