-- What the readers of atoms show on the way. Assumes nothing.
use mathlib.Core.Path.{◌≡◌, refl, sym, ap, subst, subst⁻¹, ◌∙◌}
use mathlib.Core.Bool.{Bool, false}
use mathlib.Core.Logic.{◌⊎◌, inl, inr}
use Prim.Native.Nat.{ℕ, ◌≤◌, ◌<◌}
use native.Mathlib.Omega.{arith}
use lib.Dec.{T}
use lib.IntN.{ℤ, pos, negsuc, nat_abs}
use lib.ListN.{length}
use lib.Signed.{non_neg}
use mir.Syntax.{w64}
use mir.Val.{Fits, of_z, to_z}
use mir.ValLaws.{to_z_pos}
use borrow.Author.Tests.{ne_eqb, le-leb, lt-leb}
use Rattle.std.specs.Prelude.{Ok, Result, eqb}
use Rattle.characters.specs.declared.place.Place.{Place}
use Rattle.characters.specs.declared.refusal.Refused.{Refused}
use Rattle.characters.specs.declared.place.Token.{Token}
use Rattle.characters.specs.declared.refusal.Refusal.TheVariants.{ReservedWord}
use Rattle.characters.specs.declared.reserved.Word.{Word}
use Rattle.characters.specs.declared.reserved.Word.TheVariants as words
use Rattle.characters.specs.WordNumbers.{number_of, other_word, some_word}
use Rattle.characters.specs.Answers.{Must, failed}
use Rattle.characters.specs.Text.{Text, ByteOf, Stands}
use Rattle.characters.specs.PlaceLaws.{Advanced}
use Rattle.characters.specs.Names.{is_digit, is_letter, name, part, word_of}
use Rattle.characters.specs.NameLaws.{NamedOn, name_on}
use Rattle.literals.specs.declared.numbers.Numeral.TheVariants.{Int, Float}
use Rattle.literals.specs.declared.numbers.Numeral.{Numeral}
use Rattle.literals.specs.Numbers.{number}
use Rattle.literals.specs.NumberLaws.{Small, int_small, float_advances}
use Rattle.records.specs.declared.kind.Kind.TheVariants as kinds
use Rattle.grammar.specs.declared.leaves.Atom.TheVariants.{Leaf}
use Rattle.grammar.specs.declared.leaves.Atom.{Atom}
use Rattle.grammar.specs.Leaves.{nat_of, number_atom, word_atom, name_atom, atom_by, atom_of}
use Rattle.grammar.specs.AtomLaws.{SpanOn, sign_atom, atom_sign}

-- ---- spans

-- what is read ends in the text, which is short
pub span_near : (s : Text) (p : Place) {r : Must} {t : Token} → length s ≤ 65535 → SpanOn s p r → Ok t ≡ r → t.next.offset ≤ 65535
span_near s p {r} {t} l g e =
    let a : Advanced s p t.next = subst (SpanOn s p) (sym e) g in
    let i : t.next.offset ≤ length s = a.stands.inside in
    omega arith

pub offset_near : {s : Text} {p : Place} → Stands s p → length s ≤ 65535 → p.offset ≤ 65535
offset_near {s} {p} h l = let i : p.offset ≤ length s = h.inside in omega arith

-- ---- numbers

-- an int64 that is not below 0 is read as itself
back : (z : ℤ) → Small z → to_z w64 (of_z w64 z) ≡ z
back (pos n) h = to_z_pos w64 n (let z : n ≤ 9223372036854775807 = h in omega arith)
back (negsuc n) h = absurd h

pub int_casts : (z : ℤ) → Small z → T (non_neg (to_z w64 (of_z w64 z))) × Fits w64 (nat_abs (to_z w64 (of_z w64 z)))
int_casts z h = subst⁻¹ (λ (x : ℤ). T (non_neg x) × Fits w64 (nat_abs x)) (back z h) (go z h)
  where
    go : (x : ℤ) → Small x → T (non_neg x) × Fits w64 (nat_abs x)
    go (pos n) l = (tt, let y : n ≤ 9223372036854775807 = l in omega arith)
    go (negsuc n) l = absurd l

int_value_lem : (z : ℤ) → Small z → nat_abs (to_z w64 (of_z w64 z)) ≡ nat_of z
int_value_lem z h = ap nat_abs (back z h) ∙ go z h
  where
    go : (x : ℤ) → Small x → nat_abs x ≡ nat_of x
    go (pos n) l = refl
    go (negsuc n) l = absurd l

pub int_by : {s : Text} {at q : Place} {z : ℤ} {x : Numeral} → Stands s at → Ok x ≡ number s at → x ≡ Int z q
    → ◌≡◌ {A = Result Atom Refused} (Ok (Leaf kinds.Int (nat_abs (to_z w64 (of_z w64 z))) q)) (number_atom at (number s at))
int_by {s} {at} {q} {z} h e f =
    ap (λ (v : ℕ). Ok (Leaf kinds.Int v q)) (int_value_lem z (int_small h e (ap Ok f))) ∙ ap (number_atom at) (sym (ap Ok f) ∙ e)

pub float_spans : {s : Text} {at q : Place} {x : Numeral} → Stands s at → length s ≤ 65535 → Ok x ≡ number s at → x ≡ Float q → (at.offset ≤ 65535) × (q.offset ≤ 65535)
float_spans {s} {at} {q} h l e f =
    let i : at.offset ≤ length s = h.inside in
    let j : q.offset ≤ length s = (float_advances h e (ap Ok f)).stands.inside in
    (omega arith, omega arith)

-- ---- names

pub name_ends : {s : Text} {at : Place} {t : Token} → Stands s at → Ok t ≡ name s at → (t.here.offset ≤ t.next.offset) × (t.next.offset ≤ length s)
name_ends {s} {at} {t} v e =
    let n : NamedOn s at (Ok t) = subst (NamedOn s at) (sym e) (name_on s at v) in
    let a : at.offset < t.next.offset = n.1.further in
    let i : t.next.offset ≤ length s = n.1.stands.inside in
    let z : t.here.offset ≡ at.offset = ap (λ (x : Place). x.offset) n.0 in
    (omega arith, i)

-- ---- the first byte

pub no_digit_low : (b : ℕ) → b < 48 → is_digit b ≡ false
no_digit_low b h = rw (lt-leb 48 b h) refl

pub no_digit_high : (b : ℕ) → 57 < b → is_digit b ≡ false
no_digit_high b h = rw (le-leb 48 b (omega arith), lt-leb b 57 h) refl

pub from_sign : (s : Text) (h : Place) {b : ℕ} {r : Result Atom Refused} {t : Bool} → ByteOf s h.offset b → t ≡ is_letter b → t ≡ false → is_digit b ≡ false → ((b ≡ 34) ⊎ (b ≡ 39) → ⊥) → r ≡ sign_atom s b h → r ≡ atom_of s h
unfolding atom_of
from_sign s h {b} e f z d n g =
    g ∙ sym (atom_sign s b h d (sym f ∙ z) (rw (ne_eqb b 34 (λ x. n (inl x)), ne_eqb b 39 (λ x. n (inr x))) refl)) ∙ ap (λ (x : ℕ). atom_by s x h) e.is

-- ---- reserved words

-- any other word than these three is no atom
pub word_barred : (w : Word) (h q : Place) → (w ≡ words.True → ⊥) → (w ≡ words.False → ⊥) → (w ≡ words.Nil → ⊥) → failed ReservedWord h ≡ word_atom (number_of w) h q
word_barred w h q a b c =
    let d : eqb (number_of w) 0 ≡ false = some_word w in
    let e : eqb (number_of w) 1 ≡ false = other_word w words.True a in
    let f : eqb (number_of w) 2 ≡ false = other_word w words.False b in
    let g : eqb (number_of w) 3 ≡ false = other_word w words.Nil c in
    rw (d, e, f, g, word_atom) refl

-- the atom of a name that was read, by the number of its word
pub named_atom : (s : Text) (at : Place) {t : Token} {k : ℕ} {r : Result Atom Refused} → Ok t ≡ name s at → k ≡ word_of (part s t.here.offset t.next.offset)
    → r ≡ word_atom k t.here t.next → r ≡ name_atom s (name s at)
named_atom s at {t} e f g = g ∙ ap (λ (k : ℕ). word_atom k t.here t.next) f ∙ ap (name_atom s) e
