-- The laws of characters, strings and bytearrays as they print. Assumes nothing.
use Rattle.std.specs.Prelude.{◌≡◌, refl, Bool, true, false, ℕ, ◌+◌, ◌/◌, ◌%◌, ◌≤◌, ◌<◌, length, None, Some, Ok, Err, Result}
use Rattle.std.proofs.Math.Path.{sym}
use Rattle.std.proofs.Common.{ap, subst, ◌∙◌, arith, length-take, drop_of_length-le}
use mathlib.Core.List.{List, [], ◌∷◌, ◌++◌}
use borrow.Author.Tests.{lt-ltb, le-ltb, eq-eqb, ne_eqb}
use Rattle.characters.specs.declared.place.Place.{Place}
use Rattle.characters.specs.Text.{Text, Stands, start, on_by}
use Rattle.characters.specs.PlaceLaws.{Advanced}
use Rattle.literals.specs.declared.bytearrays.Mode.{Mode}
use Rattle.literals.specs.declared.bytearrays.Mode.TheVariants.{Between}
use Rattle.literals.specs.declared.bytearrays.Seen.TheVariants.{Byte, Opened, Shut}
use Rattle.literals.specs.ByteArrays.{Contents, shut, halted, push, read, contents, bytearray, bytes_of, listed, span_by, step}
use Rattle.literals.specs.ByteArrayLaws.{SeenOn, step_on, read_from, follow, read_step, pushed}
use Rattle.literals.specs.Strings.{decoded, key_of, piece}
use Rattle.literals.specs.SpellingLaws.{decoded_from, piece_char, piece_end}
use Rattle.listing.specs.Listing.{spanned, name, minus, utf8, character, characters, quoted, hex, pair, pairs, bytes}
use Rattle.listing.specs.Sheets.{Sheet, Writes, wrote}
use Rattle.listing.specs.Laws.Sheets.{Going, going_on, going_end}
use Rattle.characters.specs.declared.place.Token.{Token}
use Rattle.characters.specs.declared.refusal.Refused.{Refused}
use Rattle.literals.specs.declared.bytearrays.Seen.{Seen}
use Rattle.literals.specs.declared.strings.Spelled.{Spelled}

-- ---- a character

module _ (v : ℕ) where
  pub utf8_one : v < 128 → v ∷ [] ≡ character v
  unfolding utf8
  utf8_one h = rw (lt-ltb v 0x80 h, utf8)

  pub utf8_two : 128 ≤ v → v < 2048 → (192 + v / 64) ∷ (128 + v % 64) ∷ [] ≡ character v
  unfolding utf8
  utf8_two l h = rw (le-ltb v 0x80 l, lt-ltb v 0x800 h, utf8)

  pub utf8_three : 2048 ≤ v → v < 65536 → (224 + v / 4096) ∷ (128 + v / 64 % 64) ∷ (128 + v % 64) ∷ [] ≡ character v
  unfolding utf8
  utf8_three l h = rw (le-ltb v 0x80 (omega arith), le-ltb v 0x800 l, lt-ltb v 0x10000 h, utf8)

  pub utf8_four : 65536 ≤ v → (240 + v / 262144 % 8) ∷ (128 + v / 4096 % 64) ∷ (128 + v / 64 % 64) ∷ (128 + v % 64) ∷ [] ≡ character v
  unfolding utf8
  utf8_four l = rw (le-ltb v 0x80 (omega arith), le-ltb v 0x800 (omega arith), le-ltb v 0x10000 l, utf8)

-- ---- strings

-- One character of what is left, and the rest.
pub spelled_on : (t : Text) (i : ℕ) (x : Spelled) → Some x ≡ piece t i → characters (decoded_from t i) ≡ character x.value ++ characters (decoded_from t x.next)
unfolding characters
spelled_on t i x e = ap characters (piece_char t i x e)

pub spelled_end : (t : Text) (i : ℕ) → None ≡ piece t i → characters (decoded_from t i) ≡ []
unfolding characters
spelled_end t i e = ap characters (piece_end t i e)

-- A string's or a key's characters between two quotes.
pub between_quotes : (t inner : Text) (n : ℕ) → n ≡ length t → inner ≡ key_of t 0 n → (34 ∷ []) ++ (characters (decoded inner) ++ (34 ∷ [])) ≡ quoted t
unfolding quoted
between_quotes t inner n e k = ap (λ (x : Text). 34 ∷ characters (decoded x) ++ (34 ∷ [])) (k ∙ ap (key_of t 0) e)

-- ---- hex

pub hex_low : (d : ℕ) → d < 10 → 48 + d ≡ hex d
hex_low d h = sym (ap (λ (t : Bool). elim t as (λ u. ℕ) [ true ↦ 48 + d | false ↦ 55 + d ]) (lt-ltb d 10 h))

pub hex_high : (d : ℕ) → 10 ≤ d → 55 + d ≡ hex d
hex_high d h = sym (ap (λ (t : Bool). elim t as (λ u. ℕ) [ true ↦ 48 + d | false ↦ 55 + d ]) (le-ltb d 10 h))

-- ---- bytearrays

-- A bytearray is shut, and the place past its `#[` stands in the text.
pub record Shuts (s : Text) (p : Place) : Type 0 where
  pub stands : Stands s p
  pub end : Place
  pub bytes : List ℕ
  pub is : contents s p ≡ shut end bytes

abbrev pub pairs_from : Text → Place → Text
pairs_from s p = pairs (bytes_of s p)

-- The code walks from step to step: what is left of the bytearray is shut, and its bytes lead to the whole.
pub record Printing (s whole : Text) (w now : Sheet) (m : Mode) (last : ℕ) (p : Place) : Type 0 where
  pub stands : Stands s p
  pub end : Place
  pub bytes : List ℕ
  pub is : read_from s m last p ≡ shut end bytes
  pub going : Going (pairs bytes) whole w now

pub printing_start : {s : Text} {p : Place} {w : Sheet} → Shuts s p → Printing s (pairs_from s p) w w Between 256 p
unfolding contents bytes_of
printing_start {s} {p} {w} h =
    record {
      stands = h.stands;
      end = h.end;
      bytes = h.bytes;
      is = h.is;
      going = record { same = ap (λ (c : Contents). wrote (pairs (listed c)) w) (sym h.is); size = refl };
    }

module _ {s whole : Text} {w now : Sheet} {m : Mode} {last : ℕ} {p : Place} {r : Result Seen Refused} (i : Printing s whole w now m last p) (e : r ≡ step s m last p) where
  ahead : {x : Result Seen Refused} → r ≡ x → (SeenOn s p x) × (follow s last x ≡ shut i.end i.bytes)
  ahead {x} k =
      let z : step s m last p ≡ x = sym e ∙ k in
      (subst (SeenOn s p) z (step_on s m last p i.stands), ap (follow s last) (sym z) ∙ sym (read_step s m last p i.stands) ∙ i.is)

  pub printing_byte : {v : ℕ} {n : Mode} {q : Place} {l : Sheet} → r ≡ Ok (Byte v n q) → Writes (pair v) now l → length l.out ≡ length now.out → Printing s whole w l n v q
  unfolding pairs
  printing_byte {v} {n} {q} k x size =
      let z = ahead k in
      let y = pushed v (read_from s n v q) i.end i.bytes z.1 in
      let b : shut i.end (v ∷ y.0) ≡ shut i.end i.bytes = sym (ap (push v) y.1) ∙ z.1 in
      let c : i.bytes ≡ v ∷ y.0 = cc in
      record { stands = z.0.1.stands; end = i.end; bytes = y.0; is = y.1; going = going_on i.going x (ap pairs c) size }

  pub printing_opened : {n : Mode} {q : Place} → r ≡ Ok (Opened n q) → Printing s whole w now n last q
  printing_opened k = let z = ahead k in record { stands = z.0.stands; end = i.end; bytes = i.bytes; is = z.1; going = i.going }

  pub printing_shut : {q : Place} → r ≡ Ok (Shut q) → Writes whole w now
  unfolding pairs
  printing_shut {q} k =
      let z : shut q [] ≡ shut i.end i.bytes = (ahead k).1 in
      let b : i.bytes ≡ [] = cc in
      going_end i.going (ap pairs b)

  -- What is shut is not refused on the way.
  pub printing_refused : {f : Refused} → r ≡ Err f → Writes whole w now
  printing_refused {f} k =
      let z : halted f.refusal f.at ≡ shut i.end i.bytes = (ahead k).1 in
      let b : ◌≡◌ {A = ℕ} 0 1 = cc in
      absurd (omega arith)

  pub byte_further : {v : ℕ} {n : Mode} {q : Place} → r ≡ Ok (Byte v n q) → Advanced s p q
  byte_further k = (ahead k).0.1

  pub opened_further : {n : Mode} {q : Place} → r ≡ Ok (Opened n q) → Advanced s p q
  opened_further k = (ahead k).0

-- ---- spans

pub spanned_length : (s : Text) (word : ℕ) → word < 4294967296 → length (spanned s word) < 2147483648
spanned_length s word h = simp length-take (omega arith)

pub name_none : (s : Text) (word : ℕ) → word ≡ 0 → 45 ∷ [] ≡ name s word
unfolding name
name_none s word e = rw (eq-eqb word 0 e, name)

pub name_some : (s : Text) (word : ℕ) → (word ≡ 0 → ⊥) → spanned s word ≡ name s word
unfolding name
name_some s word e = rw (ne_eqb word 0 e, name)

pub minus_set : (m : ℕ) → m ≡ 1 → 45 ∷ [] ≡ minus m
minus_set m e = sym (ap (λ (t : Bool). elim t as (λ u. Text) [ true ↦ 45 ∷ [] | false ↦ [] ]) (eq-eqb m 1 e))

pub minus_unset : (m : ℕ) → (m ≡ 1 → ⊥) → [] ≡ minus m
minus_unset m e = sym (ap (λ (t : Bool). elim t as (λ u. Text) [ true ↦ 45 ∷ [] | false ↦ [] ]) (ne_eqb m 1 e))

-- ---- a bytearray with its `#[`

-- One that is too short for its `#[`, or that is refused, has no bytes.
pub bytes_short : (t : Text) → length t < 2 → [] ≡ bytes t
unfolding bytes bytes_of contents read pairs
bytes_short t h = ap (λ (x : Text). pairs (listed (read t 0 x Between 256 (on_by 2 start)))) (sym (drop_of_length-le t (let z : length t ≤ 2 = omega arith in z)))

pub bytes_refused : (t : Text) {f : Refused} → Err f ≡ bytearray t (on_by 2 start) → [] ≡ bytes t
unfolding bytes bytes_of bytearray pairs
bytes_refused t {f} e = go (contents t (on_by 2 start)) e
  where
    go : (c : Contents) → Err f ≡ span_by (on_by 2 start) c → [] ≡ pairs (listed c)
    go (shut x l) z = let b : ◌≡◌ {A = ℕ} 0 1 = cc in absurd (omega arith)
    go (halted k x) z = refl

-- One that is taken is shut.
pub taken_shut : (t : Text) (p : Place) {x : Token} → Stands t p → Ok x ≡ bytearray t p → Shuts t p
unfolding bytearray
taken_shut t p {x} st e = go (contents t p) refl e
  where
    go : (c : Contents) → contents t p ≡ c → Ok x ≡ span_by p c → Shuts t p
    go (shut x l) f z = record { stands = st; end = x; bytes = l; is = f }
    go (halted k x) f z = let b : ◌≡◌ {A = ℕ} 0 1 = cc in absurd (omega arith)

pub bytes_taken : (t : Text) → pairs_from t (on_by 2 start) ≡ bytes t
unfolding bytes
bytes_taken t = refl
