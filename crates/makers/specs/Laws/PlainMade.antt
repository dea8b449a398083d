-- Laws of plain operands: what shows that one stands at a place and was laid. Assumes nothing.
use Rattle.std.specs.Prelude.{◌≡◌, refl, Bool, true, false, ◌&&◌, List, ◌⊎◌, ℕ, ◌+◌, ◌-◌, ◌*◌, ◌≤◌, ◌<◌, leb, length, Ok}
use Rattle.std.proofs.Common.{sym, ap, ◌∙◌, inl, inr, arith, leb-true, le-leb, ne_eqb}
use Rattle.std.proofs.Math.Path.{subst⁻¹}
use Rattle.std.proofs.lemmas.Bool.{lt-leb}
use Rattle.characters.specs.declared.place.Place.{Place}
use Rattle.characters.specs.Text.{Text, byte_at, ByteOf, on_by, Stands}
use Rattle.characters.specs.PlaceLaws.{on_by_stands}
use Rattle.characters.specs.Counts.{end_of}
use Rattle.characters.specs.CountLaws.{end_inside, run_bytes}
use Rattle.characters.specs.Names.{is_digit, is_letter, is_name_byte, part, word_of}
use Rattle.characters.specs.NameLaws.{letter_is_name, name_byte_low, name_by_end, end_past_letter}
use Rattle.characters.specs.Answers.{taken}
use Rattle.literals.specs.Strings.{is_quote}
use Rattle.literals.specs.Plain.{int_end, float_end, IntOf, string_end}
use Rattle.literals.specs.PlainLaws.{IsInt, is_int_lem, IsFloat, is_float_lem, IsString, is_string, digit_bounds, quote_is, plain_number, plain_float, plain_string, string_inside}
use Rattle.records.specs.declared.kind.Kind.{Kind}
use Rattle.records.specs.declared.kind.Kind.TheVariants as kinds
use Rattle.records.specs.declared.row.Row.{Row}
use Rattle.records.specs.Words.{span_word, low_of, high_of}
use Rattle.records.specs.Rows.{Lays, Lent, record_of, layout}
use Rattle.grammar.specs.declared.leaves.Atom.TheVariants.{Leaf}
use Rattle.grammar.specs.Leaves.{row_of, leaf_row, number_atom, span_atom, word_atom, name_atom, atom_of}
use Rattle.grammar.specs.AtomLaws.{atom_digit, atom_letter, atom_quote, leaf_kind}
use Rattle.makers.specs.Plain.{Plain}
use Rattle.makers.specs.Laws.PlainEnds.{no_sign}

-- ---- room

pub plain_none : {s : Text} {cap : ℕ} {at : Place} {made : ℕ} {A : List ℕ} → Plain s cap at made 0 A A
plain_none = record { none = λ e. refl; some = λ n. absurd (n refl) }

-- what fills the next row needs no more
pub next_lent : {pool : List ℕ} {cap made : ℕ} → made < cap → Lent pool cap → Lent pool (made + 1)
next_lent {pool} {cap} h l = record { room = let z : cap * 8 ≤ length pool = l.room in omega arith }

pub plain_room : {s : Text} {cap : ℕ} {at : Place} {made bytes : ℕ} {A B : List ℕ} → made < cap → Plain s (made + 1) at made bytes A B → Plain s cap at made bytes A B
plain_room h p =
    record {
      none = p.none;
      some = λ n.
          let m = p.some n in
          record { kind = m.kind; value = m.value; room = h; sign = m.sign; atom = m.atom; leaf = m.leaf; stands = m.stands; pool = m.pool };
    }

-- ---- the row

-- from a place to an offset stand some bytes of the text
abbrev pub Spans : Text → Place → ℕ → Type 0
Spans s p to = (p.offset < to) × (to ≤ length s)

pub spans_short : {s : Text} {p : Place} {to : ℕ} → length s ≤ 65535 → Stands s p → Spans s p to → (p.offset ≤ 65535) × (to ≤ 65535)
spans_short {s} {p} {to} h v i = let a : p.offset < to = i.0 in let b : to ≤ length s = i.1 in (omega arith, omega arith)

-- the value of a leaf that is a span
abbrev pub spanned : Place → ℕ → ℕ
spanned p to = span_word p.offset (p.offset + (to - p.offset))

-- a span of a short text is one word
pub span_row_lem : {s : Text} {p : Place} {to word : ℕ} {w : Row} (k : Kind) → length s ≤ 65535 → Stands s p → Spans s p to → word ≡ span_word p.offset to
    → w ≡ row_of k p word 0 0 → w ≡ leaf_row k p (spanned p to)
span_row_lem {s} {p} {to} {word} k h v i e f =
    let x = spans_short h v i in
    let y : p.offset < to = i.0 in
    let c : p.offset ≤ 65535 = x.0 in
    let d : to ≤ 65535 = x.1 in
    let a : word ≡ low_of (spanned p to) = omega arith in
    let b : 0 ≡ high_of (spanned p to) = omega arith in
    f ∙ (λ i. row_of k p (a i) (b i) 0)

-- a leaf of some bytes that no sign stands before
leaf_made : {s : Text} {at : Place} {made bytes x : ℕ} {w : Row} {A B : List ℕ} (k : Kind) (v : ℕ) → Stands s at → 1 ≤ bytes → at.offset + bytes ≤ length s
    → 33 < byte_at s at.offset → (byte_at s at.offset < 40) ⊎ (47 < byte_at s at.offset) → atom_of s at ≡ Ok (Leaf k v (on_by bytes at)) → w ≡ leaf_row k at v
    → Lays made w x A B → Plain s (made + 1) at made bytes A B
leaf_made {s} {at} {made} {bytes} {x} {w} {A} {B} k v h some inside low side e f l =
    record {
      none = λ z. absurd (omega arith);
      some = λ n.
          record {
            kind = k;
            value = v;
            room = omega arith;
            sign = no_sign s at low side;
            atom = e;
            leaf = leaf_kind s at e;
            stands = (on_by_stands s bytes at h inside).stands;
            pool = l.pool ∙ ap (λ (y : Row). layout A made (record_of y)) f;
          };
    }

-- ---- names

letter_no_digit : (b : ℕ) → is_letter b ≡ true → is_digit b ≡ false
letter_no_digit b e = go (leb b 57) refl
  where
    last : (t : Bool) → (t && false) ≡ false
    last true = refl
    last false = refl

    go : (t : Bool) → leb b 57 ≡ t → is_digit b ≡ false
    go true z =
        let l = leb-true b 57 z in
        let w : is_letter b ≡ false = rw (lt-leb 97 b (omega arith), lt-leb 65 b (omega arith), ne_eqb b 95 (λ e. omega arith)) refl in
        let y : ◌≡◌ {A = Bool} false true = sym w ∙ e in
        let x : ◌≡◌ {A = ℕ} 0 1 = cc in
        absurd (omega arith)
    go false z = rw z (last (leb 48 b))

-- the bytes that a name begins with, as code tells them
pub capital : {b : ℕ} → 65 ≤ b → b < 91 → is_letter b ≡ true
capital {b} l h = rw (lt-leb 97 b (omega arith), le-leb 65 b l, le-leb b 90 (omega arith)) refl

pub small : {b : ℕ} → 97 ≤ b → b < 123 → is_letter b ≡ true
small {b} l h = rw (le-leb 97 b l, le-leb b 122 (omega arith)) refl

-- what code tells of a byte holds of it
pub told_by : {s : Text} {o b : ℕ} (f : ℕ → Bool) → ByteOf s o b → f b ≡ true → f (byte_at s o) ≡ true
told_by f g e = ap f (sym g.is) ∙ e

-- where a name ends
pub name_ends : {s : Text} {at : Place} {to : ℕ} → Stands s at → is_letter (byte_at s at.offset) ≡ true → to ≡ end_of is_name_byte s at.offset → Spans s at to
name_ends {s} {at} h e f =
    let a = end_past_letter s at.offset e in
    let b = end_inside is_name_byte s at.offset h.inside in
    (omega arith, omega arith)

-- the word with this number is a leaf of this kind and value
named_made : {s : Text} {at : Place} {made to k r x : ℕ} {w : Row} {A B : List ℕ} (number : ℕ) (kind : Kind) (v : ℕ) → Stands s at
    → is_letter (byte_at s at.offset) ≡ true → to ≡ end_of is_name_byte s at.offset → k ≡ word_of (part s at.offset to) → k ≡ number
    → word_atom number at (on_by (to - at.offset) at) ≡ Ok (Leaf kind v (on_by (to - at.offset) at))
    → w ≡ leaf_row kind at v → Lays made w x A B → r ≡ to - at.offset → Plain s (made + 1) at made r A B
unfolding atom_of
named_made {s} {at} {made} {to} {k} {r} {x} {w} {A} {B} number kind v h letter ends word is leaf row lays e =
    let b : ℕ = byte_at s at.offset in
    let q : Place = on_by (to - at.offset) at in
    let i = name_ends h letter ends in
    let l : at.offset < to = i.0 in
    let m : to ≤ length s = i.1 in
    let low = name_byte_low b (letter_is_name b letter) in
    let end : at.offset + (to - at.offset) ≡ to = omega arith in
    let n : word_of (part s at.offset q.offset) ≡ number = ap (λ (o : ℕ). word_of (part s at.offset o)) end ∙ sym word ∙ is in
    subst⁻¹ (λ (y : ℕ). Plain s (made + 1) at made y A B) e
    (leaf_made kind v h (omega arith) (omega arith) (omega arith) (inr (omega arith))
    (atom_letter s b at (letter_no_digit b letter) letter
    ∙ ap (name_atom s) (name_by_end s at letter ∙ ap (λ (o : ℕ). taken at (on_by (o - at.offset) at)) (sym ends))
    ∙ ap (λ (y : ℕ). word_atom y at q) n
    ∙ leaf)
    row
    lays)

-- a name that is no reserved word, and a word that says all
module _ {s : Text} {at : Place} {made to k r x : ℕ} {w : Row} {A B : List ℕ} (h : Stands s at) (letter : is_letter (byte_at s at.offset) ≡ true)
    (ends : to ≡ end_of is_name_byte s at.offset) (word : k ≡ word_of (part s at.offset to)) (lays : Lays made w x A B) (e : r ≡ to - at.offset) where
  pub name_made : {span : ℕ} → k ≡ 0 → length s ≤ 65535 → span ≡ span_word at.offset to → w ≡ row_of kinds.Name at span 0 0 → Plain s (made + 1) at made r A B
  name_made is short f row =
      named_made 0 kinds.Name (spanned at to) h letter ends word is refl (span_row_lem kinds.Name short h (name_ends h letter ends) f row) lays e

  pub word_made : (number : ℕ) (kind : Kind) → k ≡ number → word_atom number at (on_by (to - at.offset) at) ≡ Ok (Leaf kind 0 (on_by (to - at.offset) at))
      → w ≡ row_of kind at 0 0 0 → Plain s (made + 1) at made r A B
  word_made number kind is leaf row = named_made number kind 0 h letter ends word is leaf row lays e

-- ---- numbers

pub number_ends : {s : Text} {at : Place} {to : ℕ} → Stands s at → to ≡ int_end s at.offset → (to ≡ 0 → ⊥) → Spans s at to
number_ends {s} {at} h ends some = let i = is_int_lem s at.offset ends some in (i.some, i.inside)

pub number_made : {s : Text} {at : Place} {made to v r x : ℕ} {w : Row} {A B : List ℕ} → Stands s at → to ≡ int_end s at.offset → (to ≡ 0 → ⊥)
    → IntOf s at.offset to v → w ≡ leaf_row kinds.Int at v → Lays made w x A B → r ≡ to - at.offset → Plain s (made + 1) at made r A B
unfolding atom_of
number_made {s} {at} {made} {to} {v} {r} {x} {w} {A} {B} h ends some value row lays e =
    let b : ℕ = byte_at s at.offset in
    let i : IsInt s at.offset to = is_int_lem s at.offset ends some in
    let l : at.offset < to = i.some in
    let m : to ≤ length s = i.inside in
    let z = i.ends in
    let digit : is_digit b ≡ true = (run_bytes is_digit s at.offset at.offset (omega arith) (omega arith)).1 in
    let low = (digit_bounds b digit).0 in
    subst⁻¹ (λ (y : ℕ). Plain s (made + 1) at made y A B) e
    (leaf_made kinds.Int v h (omega arith) (omega arith) (omega arith) (inr (omega arith))
    (atom_digit s b at digit
    ∙ ap (number_atom at) (plain_number s at to i)
    ∙ ap (λ (y : ℕ). Ok (Leaf kinds.Int y (on_by (to - at.offset) at))) (sym value.is))
    row
    lays)

pub float_spans : {s : Text} {at : Place} {to : ℕ} → Stands s at → to ≡ float_end s at.offset → (to ≡ 0 → ⊥) → Spans s at to
float_spans {s} {at} {to} h ends some =
    let i = is_float_lem s at.offset ends some in
    let l : at.offset < end_of is_digit s at.offset = i.whole_some in
    let m : end_of is_digit s at.offset + 1 < to = i.some in
    (omega arith, i.inside)

pub float_made : {s : Text} {at : Place} {made to span r x : ℕ} {w : Row} {A B : List ℕ} → length s ≤ 65535 → Stands s at → to ≡ float_end s at.offset
    → (to ≡ 0 → ⊥) → span ≡ span_word at.offset to → w ≡ row_of kinds.Float at span 0 0 → Lays made w x A B → r ≡ to - at.offset
    → Plain s (made + 1) at made r A B
unfolding atom_of
float_made {s} {at} {made} {to} {span} {r} {x} {w} {A} {B} short h ends some word row lays e =
    let b : ℕ = byte_at s at.offset in
    let d : ℕ = end_of is_digit s at.offset in
    let i : IsFloat s at.offset d to = is_float_lem s at.offset ends some in
    let j = float_spans h ends some in
    let l : at.offset < to = j.0 in
    let m : to ≤ length s = j.1 in
    let digit : is_digit b ≡ true = (run_bytes is_digit s at.offset at.offset (omega arith) i.whole_some).1 in
    let low = (digit_bounds b digit).0 in
    subst⁻¹ (λ (y : ℕ). Plain s (made + 1) at made y A B) e
    (leaf_made kinds.Float (spanned at to) h (omega arith) (omega arith) (omega arith) (inr (omega arith))
    (atom_digit s b at digit ∙ ap (number_atom at) (plain_float s at d to i))
    (span_row_lem kinds.Float short h j word row)
    lays)

-- ---- strings

quote_no_digit : (b : ℕ) → b < 40 → is_digit b ≡ false
quote_no_digit b h = rw (lt-leb 48 b (omega arith)) refl

quote_no_letter : (b : ℕ) → b < 40 → is_letter b ≡ false
quote_no_letter b h = rw (lt-leb 97 b (omega arith), lt-leb 65 b (omega arith), ne_eqb b 95 (λ e. omega arith)) refl

pub string_ends : {s : Text} {at : Place} {to : ℕ} → Stands s at → is_quote (byte_at s at.offset) ≡ true → to ≡ string_end s at.offset → (to ≡ 0 → ⊥) → Spans s at to
string_ends {s} {at} {to} h quote ends some = string_inside s at to (is_string s at.offset quote ends some)

pub string_made : {s : Text} {at : Place} {made to span r x : ℕ} {w : Row} {A B : List ℕ} → length s ≤ 65535 → Stands s at → is_quote (byte_at s at.offset) ≡ true
    → to ≡ string_end s at.offset → (to ≡ 0 → ⊥) → span ≡ span_word at.offset to → w ≡ row_of kinds.String at span 0 0
    → Lays made w x A B → r ≡ to - at.offset → Plain s (made + 1) at made r A B
unfolding atom_of
string_made {s} {at} {made} {to} {span} {r} {x} {w} {A} {B} short h quote ends some word row lays e =
    let b : ℕ = byte_at s at.offset in
    let i : IsString s at.offset to = is_string s at.offset quote ends some in
    let j = string_ends h quote ends some in
    let l : at.offset < to = j.0 in
    let m : to ≤ length s = j.1 in
    let q = quote_is b quote in
    let low : b < 40 = q.0 in
    let high : 33 < b = q.1 in
    subst⁻¹ (λ (y : ℕ). Plain s (made + 1) at made y A B) e
    (leaf_made kinds.String (spanned at to) h (omega arith) (omega arith) high (inl low)
    (atom_quote s b at (quote_no_digit b low) (quote_no_letter b low) quote ∙ ap (span_atom kinds.String at.offset) (plain_string s at to i))
    (span_row_lem kinds.String short h j word row)
    lays)
