-- Laws of atoms: the parts of their definition that the readers are held to, where an atom leads, and that its record refers to none.
-- Assumes nothing.
use Rattle.std.specs.Prelude.{◌≡◌, refl, Bool, true, false, ◌&&◌, List, ℕ, ◌+◌, ◌≤◌, ◌<◌, T, eqb, Err, Ok, Result}
use Rattle.std.proofs.Common.{sym, ap, subst, ◌∙◌, arith, eqb-true, ne_eqb}
use Rattle.std.proofs.Math.Path.{subst⁻¹}
use Rattle.characters.specs.declared.place.Place.{Place}
use Rattle.characters.specs.declared.refusal.Refusal.TheVariants.{UnknownAtom}
use Rattle.characters.specs.declared.refusal.Refused.{Refused}
use Rattle.characters.specs.Answers.{Must, failed}
use Rattle.characters.specs.Text.{Text, byte_at, on_by, Stands}
use Rattle.characters.specs.PlaceLaws.{Reached, Advanced, reached_here, advanced_on, advanced_reached}
use Rattle.characters.specs.Names.{is_digit, is_letter, name, part, word_of}
use Rattle.characters.specs.NameLaws.{NamedOn, name_on}
use Rattle.literals.specs.declared.numbers.Numeral.TheVariants.{Int, Float}
use Rattle.literals.specs.declared.numbers.Numeral.{Numeral}
use Rattle.literals.specs.Numbers.{number}
use Rattle.literals.specs.NumberLaws.{NumeralOn, number_on, choice, over_byte, over_two}
use Rattle.literals.specs.Strings.{is_quote, string}
use Rattle.literals.specs.SpellingLaws.{string_accepted}
use Rattle.literals.specs.ByteArrays.{bytearray}
use Rattle.literals.specs.ByteArrayLaws.{bytearray_accepted}
use Rattle.reading.specs.Events.{Rec}
use Rattle.records.specs.declared.kind.Kind.{Kind}
use Rattle.records.specs.declared.kind.Kind.TheVariants as kinds
use Rattle.records.specs.Kinds.{expression, number_of}
use Rattle.records.specs.Rows.{record_of}
use Rattle.records.specs.Nodes.{is_leaf}
use Rattle.records.specs.Meanings.{is_a, Meant}
use Rattle.grammar.specs.declared.leaves.Atom.TheVariants.{Leaf, Paren, Bracket, Brace, Bar}
use Rattle.grammar.specs.declared.leaves.Atom.{Atom}
use Rattle.grammar.specs.Leaves.{leaf_row, number_atom, span_atom, word_atom, name_atom, atom_by, atom_of}

-- ---- the parts of the definition

abbrev pub string_atom : Text → Place → Result Atom Refused
string_atom s h = span_atom kinds.String h.offset (string s h)

abbrev pub host_atom : Text → Place → Result Atom Refused
host_atom s h = span_atom kinds.Host (h.offset + 1) (name s (on_by 1 h))

-- a `#` stands here
abbrev pub hash_atom : Text → Place → Result Atom Refused
hash_atom s h =
    elim (eqb (byte_at s (h.offset + 1)) 91) [
      | true ↦ span_atom kinds.Bytes h.offset (bytearray s (on_by 2 h))
      | false ↦ failed UnknownAtom h
    ]

-- a byte that is no digit, letter or quote stands here
abbrev pub sign_atom : Text → ℕ → Place → Result Atom Refused
sign_atom s b h =
    elim (eqb b 40) [
      | true ↦ Ok (Paren (on_by 1 h))
      | false ↦ elim (eqb b 91) [
        | true ↦ Ok (Bracket (on_by 1 h))
        | false ↦ elim (eqb b 123) [
          | true ↦ Ok (Brace (on_by 1 h))
          | false ↦ elim (eqb b 35) [
            | true ↦ hash_atom s h
            | false ↦ elim (eqb b 36) [ true ↦ host_atom s h | false ↦ elim (eqb b 124) [ true ↦ Ok Bar | false ↦ failed UnknownAtom h ] ]
          ]
        ]
      ]
    ]

-- ---- where an atom leads

-- what is a span leads past it, or nowhere
abbrev pub SpanOn : Text → Place → Must → Type 0
SpanOn s p (Ok t) = Advanced s p t.next
SpanOn s p (Err e) = Unit {0}

pub string_on : (s : Text) (p : Place) → Stands s p → SpanOn s p (string s p)
string_on s p h = go (string s p) refl
  where
    go : (r : Must) → string s p ≡ r → SpanOn s p r
    go (Ok t) e = let l = string_accepted s p t.here t.next h e in record { stands = l.stands; further = let z : p.offset + 2 ≤ t.next.offset = l.quoted in omega arith }
    go (Err f) e = tt

pub name_spans : (s : Text) (p : Place) → Stands s p → SpanOn s p (name s p)
name_spans s p h = go (name s p) (name_on s p h)
  where
    go : (r : Must) → NamedOn s p r → SpanOn s p r
    go (Ok t) n = n.1
    go (Err e) n = tt

pub bytearray_spans : (s : Text) (p : Place) → Stands s p → SpanOn s p (bytearray s p)
bytearray_spans s p h = go (bytearray s p) refl
  where
    go : (r : Must) → bytearray s p ≡ r → SpanOn s p r
    go (Ok t) e = (bytearray_accepted s p t.here t.next h e).1
    go (Err f) e = tt

-- the record of a leaf of this kind is an expression's, and its fields are what the table says of them
pub record Plain (k : Kind) : Type 0 where
  pub meant : (made : List Rec) (p : Place) (v : ℕ) → Meant made (record_of (leaf_row k p v))
  pub expression : T (is_a expression (number_of k))

plain : {k : Kind} → ((made : List Rec) (p : Place) (v : ℕ) → Meant made (record_of (leaf_row k p v))) → T (is_a expression (number_of k)) → Plain k
plain m e = record { meant = m; expression = e }

-- an atom's record is an expression's; past it, or past the sign that opens it, the text goes on
abbrev pub AtomOn : Text → Place → Result Atom Refused → Type 0
AtomOn s p (Ok (Leaf k v n)) = Plain k × Advanced s p n
AtomOn s p (Ok (Paren n)) = Advanced s p n
AtomOn s p (Ok (Bracket n)) = Advanced s p n
AtomOn s p (Ok (Brace n)) = Advanced s p n
AtomOn s p (Ok Bar) = Advanced s p (on_by 1 p)
AtomOn s p (Err e) = Unit {0}

module _ (s : Text) (p : Place) (h : Stands s p) where
  number_atom_on : AtomOn s p (number_atom p (number s p))
  number_atom_on = go (number s p) (number_on s p h)
    where
      go : (x : Result Numeral Refused) → NumeralOn s p x → AtomOn s p (number_atom p x)
      go (Ok (Int v q)) a = (plain (λ made p v. tt) tt, a.0)
      go (Ok (Float q)) a = (plain (λ made p v. tt) tt, a)
      go (Err e) a = tt

  -- what is read a little further on
  span_atom_on : (k : Kind) (from : ℕ) (o : Place) (r : Must) → Plain k → Reached s p o → SpanOn s o r → AtomOn s p (span_atom k from r)
  span_atom_on k from o (Ok t) e l g = (e, advanced_on l g)
  span_atom_on k from o (Err f) e l g = tt

  word_atom_on : (k : ℕ) (q : Place) → Advanced s p q → AtomOn s p (word_atom k p q)
  word_atom_on k q a =
      choice P (eqb k 0) (λ t. (plain (λ made p v. tt) tt, a))
      (λ t. choice P (eqb k 1) (λ t. (plain (λ made p v. tt) tt, a))
      (λ t. choice P (eqb k 2) (λ t. (plain (λ made p v. tt) tt, a))
      (λ t. choice P (eqb k 3) (λ t. (plain (λ made p v. tt) tt, a)) (λ t. tt))))
    where
      P : Result Atom Refused → Type 0
      P = AtomOn s p

  name_atom_on : AtomOn s p (name_atom s (name s p))
  name_atom_on = go (name s p) (name_on s p h)
    where
      go : (r : Must) → NamedOn s p r → AtomOn s p (name_atom s r)
      go (Ok t) n = subst⁻¹ (λ (x : Place). AtomOn s p (word_atom (word_of (part s x.offset t.next.offset)) x t.next)) n.0 (word_atom_on (word_of (part s p.offset t.next.offset)) t.next n.1)
      go (Err e) n = tt

  -- past a sign
  over_sign : (k : ℕ) → byte_at s p.offset ≡ k → k < 256 → Advanced s p (on_by 1 p)
  over_sign k e l = record { stands = (over_byte s p k h e l).stands; further = omega arith }

  hash_atom_on : AtomOn s p (hash_atom s p)
  hash_atom_on =
      choice (AtomOn s p) (eqb (byte_at s (p.offset + 1)) 91)
      (λ t. let r = over_two s p 91 h (eqb-true (byte_at s (p.offset + 1)) 91 t) (omega arith) in span_atom_on kinds.Bytes p.offset (on_by 2 p) (bytearray s (on_by 2 p)) (plain (λ made p v. tt) tt) r (bytearray_spans s (on_by 2 p) r.stands))
      (λ t. tt)

  sign_atom_on : (b : ℕ) → b ≡ byte_at s p.offset → AtomOn s p (sign_atom s b p)
  sign_atom_on b e =
      choice P (eqb b 40) (λ t. sign 40 t (omega arith))
      (λ t. choice P (eqb b 91) (λ t. sign 91 t (omega arith))
      (λ t. choice P (eqb b 123) (λ t. sign 123 t (omega arith))
      (λ t. choice P (eqb b 35) (λ t. hash_atom_on)
      (λ t. choice P (eqb b 36) (λ t. host (sign 36 t (omega arith)))
      (λ t. choice P (eqb b 124) (λ t. sign 124 t (omega arith)) (λ t. tt))))))
    where
      P : Result Atom Refused → Type 0
      P = AtomOn s p

      sign : (k : ℕ) → eqb b k ≡ true → k < 256 → Advanced s p (on_by 1 p)
      sign k t l = over_sign k (sym e ∙ eqb-true b k t) l

      host : Advanced s p (on_by 1 p) → AtomOn s p (host_atom s p)
      host a = span_atom_on kinds.Host (p.offset + 1) (on_by 1 p) (name s (on_by 1 p)) (plain (λ made p v. tt) tt) (advanced_reached a) (name_spans s (on_by 1 p) a.stands)

-- ---- by the first byte

pub atom_digit : (s : Text) (b : ℕ) (h : Place) → is_digit b ≡ true → atom_by s b h ≡ number_atom h (number s h)
atom_digit s b h d = rw (d, atom_by) refl

pub atom_letter : (s : Text) (b : ℕ) (h : Place) → is_digit b ≡ false → is_letter b ≡ true → atom_by s b h ≡ name_atom s (name s h)
atom_letter s b h d l = rw (d, l, atom_by) refl

pub atom_quote : (s : Text) (b : ℕ) (h : Place) → is_digit b ≡ false → is_letter b ≡ false → is_quote b ≡ true → atom_by s b h ≡ string_atom s h
atom_quote s b h d l q = rw (d, l, q, atom_by) refl

-- what begins with none of these is decided by its sign
abbrev last_atom : Text → Place → Bool → Bool → Result Atom Refused
last_atom s h host bar = elim host [ true ↦ host_atom s h | false ↦ elim bar [ true ↦ Ok Bar | false ↦ failed UnknownAtom h ] ]

sign_rest : (s : Text) (b : ℕ) (h : Place) (bytes : Result Atom Refused) (t u : Bool) → eqb b 35 ≡ t
    → ◌≡◌ {A = Result Atom Refused}
    (elim (t && u) [ true ↦ bytes | false ↦ last_atom s h (eqb b 36) (eqb b 124) ])
    (elim t [ true ↦ elim u [ true ↦ bytes | false ↦ failed UnknownAtom h ] | false ↦ last_atom s h (eqb b 36) (eqb b 124) ])
sign_rest s b h bytes true true e = refl
sign_rest s b h bytes true false e =
    let z = eqb-true b 35 e in
    ap (λ (x : Bool). last_atom s h x (eqb b 124)) (ne_eqb b 36 (λ w. omega arith)) ∙ ap (last_atom s h false) (ne_eqb b 124 (λ w. omega arith))
sign_rest s b h bytes false u e = refl

pub atom_sign : (s : Text) (b : ℕ) (h : Place) → is_digit b ≡ false → is_letter b ≡ false → is_quote b ≡ false → atom_by s b h ≡ sign_atom s b h
atom_sign s b h d l q =
    rw (d, l, q, atom_by) (
    ap (λ (x : Result Atom Refused). elim (eqb b 40) as (λ t. Result Atom Refused) [ true ↦ Ok (Paren (on_by 1 h)) | false ↦ elim (eqb b 91) as (λ t. Result Atom Refused) [ true ↦ Ok (Bracket (on_by 1 h)) | false ↦ elim (eqb b 123) as (λ t. Result Atom Refused) [ true ↦ Ok (Brace (on_by 1 h)) | false ↦ x ] ] ])
    (sign_rest s b h (span_atom kinds.Bytes h.offset (bytearray s (on_by 2 h))) (eqb b 35) (eqb (byte_at s (h.offset + 1)) 91) refl)
    )

-- Where an atom leads.
pub atom_on : (s : Text) (p : Place) → Stands s p → AtomOn s p (atom_of s p)
unfolding atom_of
atom_on s p h = go (is_digit b) refl (is_letter b) refl (is_quote b) refl
  where
    b : ℕ
    b = byte_at s p.offset

    go : (x : Bool) → is_digit b ≡ x → (y : Bool) → is_letter b ≡ y → (z : Bool) → is_quote b ≡ z → AtomOn s p (atom_by s b p)
    go true d y l z q = subst⁻¹ (AtomOn s p) (atom_digit s b p d) (number_atom_on s p h)
    go false d true l z q = subst⁻¹ (AtomOn s p) (atom_letter s b p d l) (name_atom_on s p h)
    go false d false l true q =
        subst⁻¹ (AtomOn s p) (atom_quote s b p d l q) (span_atom_on s p h kinds.String p.offset p (string s p) (plain (λ made p v. tt) tt) (reached_here h) (string_on s p h))
    go false d false l false q = subst⁻¹ (AtomOn s p) (atom_sign s b p d l q) (sign_atom_on s p h b refl)

-- the same of an answer at hand
pub atom_at : {s : Text} {p : Place} {a x : Result Atom Refused} → Stands s p → a ≡ atom_of s p → a ≡ x → AtomOn s p x
atom_at {s} {p} h e f = subst (AtomOn s p) (sym e ∙ f) (atom_on s p h)

-- ---- the kinds of a leaf: its value stands in two words

abbrev pub AtomLeaf : Result Atom Refused → Type 0
AtomLeaf (Ok (Leaf k v n)) = is_leaf (number_of k) ≡ true
AtomLeaf (Ok (Paren n)) = Unit {0}
AtomLeaf (Ok (Bracket n)) = Unit {0}
AtomLeaf (Ok (Brace n)) = Unit {0}
AtomLeaf (Ok Bar) = Unit {0}
AtomLeaf (Err e) = Unit {0}

number_leaf : (h : Place) (x : Result Numeral Refused) → AtomLeaf (number_atom h x)
number_leaf h (Ok (Int v q)) = refl
number_leaf h (Ok (Float q)) = refl
number_leaf h (Err e) = tt

span_leaf : (k : Kind) (from : ℕ) (r : Must) → is_leaf (number_of k) ≡ true → AtomLeaf (span_atom k from r)
span_leaf k from (Ok t) e = e
span_leaf k from (Err f) e = tt

word_leaf : (k : ℕ) (h q : Place) → AtomLeaf (word_atom k h q)
word_leaf k h q =
    choice AtomLeaf (eqb k 0) (λ t. refl)
    (λ t. choice AtomLeaf (eqb k 1) (λ t. refl)
    (λ t. choice AtomLeaf (eqb k 2) (λ t. refl) (λ t. choice AtomLeaf (eqb k 3) (λ t. refl) (λ t. tt))))

name_leaf : (s : Text) (r : Must) → AtomLeaf (name_atom s r)
name_leaf s (Ok t) = word_leaf (word_of (part s t.here.offset t.next.offset)) t.here t.next
name_leaf s (Err e) = tt

atom_leaf : (s : Text) (b : ℕ) (h : Place) → AtomLeaf (atom_by s b h)
atom_leaf s b h =
    choice AtomLeaf (is_digit b) (λ t. number_leaf h (number s h))
    (λ t. choice AtomLeaf (is_letter b) (λ t. name_leaf s (name s h))
    (λ t. choice AtomLeaf (is_quote b) (λ t. span_leaf kinds.String h.offset (string s h) refl)
    (λ t. choice AtomLeaf (eqb b 40) (λ t. tt)
    (λ t. choice AtomLeaf (eqb b 91) (λ t. tt)
    (λ t. choice AtomLeaf (eqb b 123) (λ t. tt)
    (λ t. choice AtomLeaf (eqb b 35 && eqb (byte_at s (h.offset + 1)) 91) (λ t. span_leaf kinds.Bytes h.offset (bytearray s (on_by 2 h)) refl)
    (λ t. choice AtomLeaf (eqb b 36) (λ t. span_leaf kinds.Host (h.offset + 1) (name s (on_by 1 h)) refl)
    (λ t. choice AtomLeaf (eqb b 124) (λ t. tt) (λ t. tt)))))))))

pub leaf_kind : (s : Text) (p : Place) {k : Kind} {v : ℕ} {n : Place} → atom_of s p ≡ Ok (Leaf k v n) → is_leaf (number_of k) ≡ true
unfolding atom_of
leaf_kind s p e = subst AtomLeaf e (atom_leaf s (byte_at s p.offset) p)
