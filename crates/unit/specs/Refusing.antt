-- THE LEAVES REFUSE PROPERLY: what a leaf refuses by is a rule's to give. By cases, along the definition of each. The
-- comments name the refusals; the theorems say only that they are proper. Assumes nothing.
use Rattle.std.specs.Prelude.{Bool, true, false, ◌&&◌, ◌||◌, not, [], ◌∷◌, ℕ, zero, suc, ◌+◌, ◌-◌, ◌*◌, T, leb, ltb, eqb, drop, Err, Ok, Result}
use Rattle.characters.specs.declared.place.Place.{Place}
use Rattle.characters.specs.declared.refusal.Refusal.{Refusal}
use Rattle.characters.specs.declared.refusal.Refusal.TheVariants.{ExpectedDigit, NoExponentDigits, BadStringEscape}
use Rattle.characters.specs.Text.{Text, byte_at, ascii, on_by, past}
use Rattle.characters.specs.Blanks.{is_blank, begins, Mode, between, line, block, passing, out, pass, blanks}
use Rattle.characters.specs.Names.{is_digit, is_letter, name_by, name, part, word_of}
use Rattle.characters.specs.Tokens.{found_by, is_token, is_keyword, token_past, token, needed, expected}
use Rattle.literals.specs.declared.numbers.Numeral.TheVariants.{Int, Float}
use Rattle.literals.specs.Numbers.{digit_of, is_digit_in, reaches, run, digits, most, whole, whole_of, float_of, based, signed, exponent, exponent_or, past_fraction, fraction, dotted, past_digits, decimal_of, decimal, number}
use Rattle.literals.specs.NumberLaws.{choice}
use Rattle.literals.specs.Strings.{is_quote, letter_of, escape, strayed, scan, string_by, string}
use Rattle.literals.specs.declared.bytearrays.Mode.{Mode as Within}
use Rattle.literals.specs.declared.bytearrays.Mode.TheVariants.{Between, Ascii, Hex, Binary}
use Rattle.literals.specs.declared.bytearrays.Seen.TheVariants.{Byte, Opened, Shut}
use Rattle.literals.specs.ByteArrays as bytes
use Rattle.reading.specs.Suits.{proper}
use Rattle.grammar.specs.declared.leaves.Prefix.TheVariants as prefix
use Rattle.grammar.specs.declared.leaves.Atom.TheVariants as atom
use Rattle.grammar.specs.declared.leaves.Postfix.TheVariants as post
use Rattle.records.specs.declared.kind.Kind.{Kind}
use Rattle.records.specs.declared.kind.Kind.TheVariants as kinds
use Rattle.grammar.specs.Leaves.{prefix_by, prefix_past, prefix_of, number_atom, span_atom, word_atom, name_atom, atom_of, member_by, instance_by, instance_past, postfix_by, postfix_past, postfix_of, close_past, close_of, comma_by, follow_by, follow_of, key_at}
use Rattle.characters.specs.Answers.{Looked, Must, failed, found, missing}
use Rattle.characters.specs.declared.refusal.Refused.{Refused}
use Rattle.grammar.specs.declared.leaves.Atom.{Atom}
use Rattle.grammar.specs.declared.leaves.Postfix.{Postfix}
use Rattle.grammar.specs.declared.leaves.Prefix.{Prefix}
use Rattle.literals.specs.declared.bytearrays.Seen.{Seen}
use Rattle.literals.specs.declared.numbers.Digits.{Digits}
use Rattle.literals.specs.declared.numbers.Numeral.{Numeral}
use Rattle.literals.specs.declared.strings.BadEscape.{BadEscape}
use Rattle.literals.specs.declared.strings.Escaped.{Escaped}

-- What has to be there is there, or is refused properly.
abbrev pub MustProper : Must → Type 0
MustProper (Ok t) = Unit {0}
MustProper (Err e) = T (proper e.refusal)

-- What may be there is there, or is not, or is refused properly.
abbrev pub LookProper : Looked → Type 0
LookProper (found h q) = Unit {0}
LookProper (missing h) = Unit {0}
LookProper (Err e) = T (proper e.refusal)

-- ---- blanks, names and tokens

-- Blanks are refused by 19 alone.
pass_proper : (at : Place) (l : Text) (m : Mode) (p : Place) → MustProper (pass at m l p)
unfolding pass
pass_proper at [] between p = tt
pass_proper at [] line p = tt
pass_proper at [] (block d) p = tt
pass_proper at [] (passing m) p = tt
pass_proper at (b ∷ l) between p =
    choice MustProper (is_blank b) (λ e. pass_proper at l between (past b p))
    (λ e. choice MustProper (begins 47 47 b l) (λ e. pass_proper at l line (past b p))
    (λ e. choice MustProper (begins 47 42 b l) (λ e. pass_proper at l (passing (block zero)) (past b p)) (λ e. tt)))
pass_proper at (b ∷ l) line p = choice MustProper (eqb b 10) (λ e. pass_proper at l between (past b p)) (λ e. pass_proper at l line (past b p))
pass_proper at (b ∷ l) (block d) p =
    choice MustProper (begins 47 42 b l) (λ e. pass_proper at l (passing (block (suc d))) (past b p))
    (λ e. choice MustProper (begins 42 47 b l) (λ e. pass_proper at l (passing (out d)) (past b p)) (λ e. pass_proper at l (block d) (past b p)))
pass_proper at (b ∷ l) (passing m) p = pass_proper at l m (past b p)

-- So are the blanks at a place.
pub blanks_proper : (s : Text) (p : Place) → MustProper (blanks s p)
unfolding blanks
blanks_proper s p = pass_proper p (drop p.offset s) between p

-- A name is refused by 11.
pub name_proper : (s : Text) (p : Place) → MustProper (name s p)
unfolding name
name_proper s p = go (is_letter (byte_at s p.offset))
  where
    go : (t : Bool) → MustProper (name_by t (drop p.offset s) p)
    go true = tt
    go false = tt

-- A token is refused only by the blanks before it.
pub token_proper : (s : Text) (p : Place) (w : Text) → LookProper (token s p w)
unfolding token
token_proper s p w = go (blanks s p) (blanks_proper s p)
  where
    by : (t : Bool) (q : Place) (n : ℕ) → LookProper (found_by t n q)
    by true q n = tt
    by false q n = tt

    go : (r : Must) → MustProper r → LookProper (token_past s w r)
    go (Ok t) g = by (is_token s t.next w) t.next _
    go (Err e) g = g

-- And one that is expected, by 10.
pub expected_proper : (s : Text) (p : Place) (w : Text) → MustProper (expected s p w)
unfolding expected
expected_proper s p w = go (token s p w) (token_proper s p w)
  where
    go : (l : Looked) → LookProper l → MustProper (needed l)
    go (found h n) g = tt
    go (missing h) g = tt
    go (Err e) g = g

-- ---- numbers

-- A run of digits is whole, or is refused properly.
abbrev RunProper : Result Digits Refused → Type 0
RunProper (Ok t) = Unit {0}
RunProper (Err e) = T (proper e.refusal)

-- A number is read, or is refused properly.
abbrev pub NumeralProper : Result Numeral Refused → Type 0
NumeralProper (Ok (Int v q)) = Unit {0}
NumeralProper (Ok (Float q)) = Unit {0}
NumeralProper (Err e) = T (proper e.refusal)

-- A run of digits is refused by 15 or 17.
run_proper : (limited : Bool) (radix v : ℕ) (l : Text) (p : Place) → RunProper (run limited radix v l p)
unfolding run
run_proper limited radix v [] p = tt
run_proper limited radix v (b ∷ l) p =
    choice RunProper (is_digit_in radix b)
    (λ e. choice RunProper (reaches limited (v * radix + digit_of b)) (λ e. tt) (λ e. run_proper limited radix (v * radix + digit_of b) l (on_by 1 p)))
    (λ e. choice RunProper (eqb b 95) (λ e. choice RunProper (is_digit_in radix (byte_at l 0)) (λ e. run_proper limited radix v l (on_by 1 p)) (λ e. tt)) (λ e. tt))

-- One that has to be there, by the refusal given too.
digits_proper : (limited : Bool) (none : Refusal) (radix : ℕ) (s : Text) (p : Place) → T (proper none) → RunProper (digits limited none radix s p)
unfolding digits
digits_proper limited none radix s p h =
    choice RunProper (is_digit_in radix (byte_at s p.offset)) (λ e. run_proper limited radix 0 (drop p.offset s) p) (λ e. h)

-- An integer is refused by 14.
whole_proper : (v : ℕ) (q : Place) → NumeralProper (whole v q)
unfolding whole
whole_proper v q = choice NumeralProper (leb v most) (λ e. tt) (λ e. tt)

-- So is one of a run.
whole_of_proper : (r : Result Digits Refused) → RunProper r → NumeralProper (whole_of r)
whole_of_proper (Ok t) h = whole_proper t.value t.next
whole_of_proper (Err e) h = h

-- A float is refused as its run is.
float_of_proper : (r : Result Digits Refused) → RunProper r → NumeralProper (float_of r)
float_of_proper (Ok t) h = tt
float_of_proper (Err e) h = h

-- A number to another base is refused by 14 to 17.
based_proper : (radix : ℕ) (s : Text) (p : Place) → NumeralProper (based radix s p)
unfolding based
based_proper radix s p = whole_of_proper (digits true ExpectedDigit radix s p) (digits_proper true ExpectedDigit radix s p tt)

-- An exponent is refused by 17 or 18; where there is none, the number is as it was.
exponent_or_proper : (s : Text) (p : Place) (plain : Result Numeral Refused) → NumeralProper plain → NumeralProper (exponent_or s p plain)
unfolding exponent_or exponent
exponent_or_proper s p plain h =
    choice NumeralProper (eqb (byte_at s p.offset) 101 || eqb (byte_at s p.offset) 69)
    (λ e. float_of_proper (digits false NoExponentDigits 10 s (signed s (on_by 1 p))) (digits_proper false NoExponentDigits 10 s (signed s (on_by 1 p)) tt))
    (λ e. h)

-- A fraction is refused by 16 to 18.
fraction_proper : (s : Text) (p : Place) → NumeralProper (fraction s p)
unfolding fraction
fraction_proper s p = go (digits false ExpectedDigit 10 s p) (digits_proper false ExpectedDigit 10 s p tt)
  where
    go : (r : Result Digits Refused) → RunProper r → NumeralProper (past_fraction s r)
    go (Ok t) h = exponent_or_proper s t.next (Ok (Float t.next)) tt
    go (Err e) h = h

-- What follows the first digits is refused by 14 or 16 to 18.
past_digits_proper : (s : Text) (v : ℕ) (p : Place) → NumeralProper (past_digits s v p)
unfolding past_digits dotted
past_digits_proper s v p =
    choice NumeralProper (eqb (byte_at s p.offset) 46)
    (λ e. choice NumeralProper (eqb (byte_at s (p.offset + 1)) 95) (λ e. tt)
    (λ e. choice NumeralProper (is_digit_in 10 (byte_at s (p.offset + 1))) (λ e. fraction_proper s (on_by 1 p)) (λ e. whole_proper v p)))
    (λ e. exponent_or_proper s p (whole v p) (whole_proper v p))

-- A decimal number is refused by 14 or 16 to 18.
decimal_proper : (s : Text) (p : Place) → NumeralProper (decimal s p)
unfolding decimal
decimal_proper s p = go (digits false ExpectedDigit 10 s p) (digits_proper false ExpectedDigit 10 s p tt)
  where
    go : (r : Result Digits Refused) → RunProper r → NumeralProper (decimal_of s r)
    go (Ok t) h = past_digits_proper s t.value t.next
    go (Err e) h = h

-- A number is refused by 14 to 18.
pub number_proper : (s : Text) (p : Place) → NumeralProper (number s p)
unfolding number
number_proper s p =
    choice NumeralProper (eqb (byte_at s p.offset) 48)
    (λ e. choice NumeralProper (eqb (byte_at s (p.offset + 1)) 120) (λ e. based_proper 16 s (on_by 2 p))
    (λ e. choice NumeralProper (eqb (byte_at s (p.offset + 1)) 98) (λ e. based_proper 2 s (on_by 2 p)) (λ e. decimal_proper s p)))
    (λ e. decimal_proper s p)

-- ---- strings

-- The rest of a string is refused by 19 or 20.
scan_proper : (s : Text) (at : Place) (q : ℕ) (t : Text) (left : ℕ) (p : Place) → MustProper (scan s at q left t p)
unfolding scan
scan_proper s at q [] left p = tt
scan_proper s at q (b ∷ t) zero p =
    choice MustProper (eqb b q) (λ e. tt)
    (λ e. choice MustProper (eqb b 92) (λ e. go (escape s (p.offset + 1)) (λ n r. scan_proper s at q t n r)) (λ e. scan_proper s at q t zero (past b p)))
  where
    go : (x : Result Escaped BadEscape) → ((n : ℕ) (r : Place) → MustProper (scan s at q n t r))
        → MustProper (elim x as (λ w. Must) [ Ok x ↦ scan s at q x.width t (on_by (1 + x.width) p) | Err e ↦ failed BadStringEscape (strayed s (on_by 1 p) e) ])
    go (Ok x) ih = ih x.width (on_by (1 + x.width) p)
    go (Err e) ih = tt
scan_proper s at q (b ∷ t) (suc left) p = scan_proper s at q t left p

-- So is a string.
pub string_proper : (s : Text) (p : Place) → MustProper (string s p)
unfolding string
string_proper s p = go (drop p.offset s)
  where
    go : (t : Text) → MustProper (string_by s p t)
    go [] = tt
    go (q ∷ t) = scan_proper s p q t 0 (past q p)

-- ---- bytearrays

-- A step of a bytearray goes on, or is refused properly.
abbrev SeenProper : Result Seen Refused → Type 0
SeenProper (Ok (Byte v n q)) = Unit {0}
SeenProper (Ok (Opened n q)) = Unit {0}
SeenProper (Ok (Shut q)) = Unit {0}
SeenProper (Err e) = T (proper e.refusal)

-- Between runs: 19 or 21.
outside_proper : (s : Text) (p : Place) → SeenProper (bytes.outside s p)
unfolding bytes.outside bytes.opening
outside_proper s p =
    choice SeenProper (eqb b 256) (λ e. tt)
    (λ e. choice SeenProper (eqb b 93) (λ e. tt)
    (λ e. choice SeenProper (eqb b 92)
    (λ e. choice SeenProper (eqb c 97) (λ e. tt) (λ e. choice SeenProper (eqb c 120) (λ e. tt) (λ e. choice SeenProper (eqb c 98) (λ e. tt) (λ e. tt))))
    (λ e. tt)))
  where
    b : ℕ
    b = byte_at s p.offset

    c : ℕ
    c = byte_at s (p.offset + 1)

-- Past the blanks: as they are, or as what follows them is.
past_proper : (f : Place → Result Seen Refused) → ((q : Place) → SeenProper (f q)) → (r : Must) → MustProper r → SeenProper (bytes.past_blanks f r)
past_proper f h (Ok t) g = h t.next
past_proper f h (Err e) g = g

-- Past the blanks between runs: 19 or 21.
between_proper : (s : Text) (p : Place) → SeenProper (bytes.between s p)
unfolding bytes.between
between_proper s p = past_proper (bytes.outside s) (outside_proper s) (blanks s p) (blanks_proper s p)

-- In a run of characters: 19 or 21.
ascii_proper : (s : Text) (last : ℕ) (p : Place) → SeenProper (bytes.ascii s last p)
unfolding bytes.ascii bytes.mark bytes.slash bytes.line_end bytes.printed
ascii_proper s last p =
    choice SeenProper (eqb b 92)
    (λ e. choice SeenProper (ltb (letter_of c) 256) (λ e. tt)
    (λ e. choice SeenProper (eqb c 120) (λ e. between_proper s p) (λ e. choice SeenProper (eqb c 98) (λ e. between_proper s p) (λ e. tt))))
    (λ e. choice SeenProper (eqb b 47)
    (λ e. choice SeenProper (eqb c 47) (λ e. between_proper s p) (λ e. choice SeenProper (eqb c 42) (λ e. between_proper s p) (λ e. tt)))
    (λ e. choice SeenProper (eqb b 13 || eqb b 10)
    (λ e. choice SeenProper (eqb last 32) (λ e. tt) (λ e. between_proper s p))
    (λ e. choice SeenProper (eqb b 9) (λ e. tt) (λ e. choice SeenProper (leb 32 b && leb b 126 && not (eqb b 93)) (λ e. tt) (λ e. between_proper s p)))))
  where
    b : ℕ
    b = byte_at s p.offset

    c : ℕ
    c = byte_at s (p.offset + 1)

-- In a run of pairs: 19 or 21.
pair_proper : (s : Text) (p : Place) → SeenProper (bytes.pair s p)
unfolding bytes.pair
pair_proper s p =
    choice SeenProper (bytes.is_alphanumeric (byte_at s p.offset))
    (λ e. choice SeenProper (ltb (digit_of (byte_at s p.offset)) 16 && ltb (digit_of (byte_at s (p.offset + 1))) 16) (λ e. tt) (λ e. tt))
    (λ e. outside_proper s p)

-- In a byte of bits: 21.
bits_proper : (left v : ℕ) (s : Text) (p : Place) → SeenProper (bytes.bits left v s p)
unfolding bytes.bits
bits_proper zero v s p = tt
bits_proper (suc left) v s p =
    choice SeenProper (ltb (bytes.bit_of (byte_at s p.offset)) 2)
    (λ e. bits_proper left (v * 2 + bytes.bit_of (byte_at s p.offset)) s (on_by 1 p))
    (λ e. tt)

-- In a run of bits: 19 or 21.
eight_proper : (s : Text) (p : Place) → SeenProper (bytes.eight s p)
unfolding bytes.eight
eight_proper s p = choice SeenProper (ltb (bytes.bit_of (byte_at s p.offset)) 2) (λ e. bits_proper 8 0 s p) (λ e. outside_proper s p)

-- So is each step.
step_proper : (s : Text) (m : Within) (last : ℕ) (p : Place) → SeenProper (bytes.step s m last p)
unfolding bytes.step bytes.hex bytes.binary
step_proper s Between last p = between_proper s p
step_proper s Ascii last p = ascii_proper s last p
step_proper s Hex last p = past_proper (bytes.pair s) (pair_proper s) (blanks s p) (blanks_proper s p)
step_proper s Binary last p = past_proper (bytes.eight s) (eight_proper s) (blanks s p) (blanks_proper s p)

-- The contents of a bytearray are read, or are refused properly.
abbrev ContentsProper : bytes.Contents → Type 0
ContentsProper (bytes.shut q l) = Unit {0}
ContentsProper (bytes.halted k q) = T (proper k)

-- A byte more changes no refusal.
push_proper : (v : ℕ) (x : bytes.Contents) → ContentsProper x → ContentsProper (bytes.push v x)
push_proper v (bytes.shut q l) h = h
push_proper v (bytes.halted k q) h = h

-- Step by step: 19 or 21.
read_proper : (s : Text) (t : Text) (left : ℕ) (m : Within) (last : ℕ) (p : Place) → ContentsProper (bytes.read s left t m last p)
unfolding bytes.read
read_proper s [] left m last p = tt
read_proper s (b ∷ t) zero m last p = go (bytes.step s m last p) (step_proper s m last p) (λ left n v q. read_proper s t left n v q)
  where
    go : (r : Result Seen Refused) → SeenProper r → ((left : ℕ) (n : Within) (v : ℕ) (q : Place) → ContentsProper (bytes.read s left t n v q))
        → ContentsProper (elim r as (λ u. bytes.Contents) [ Ok (Byte v n q) ↦ bytes.push v (bytes.read s (q.offset - (p.offset + 1)) t n v q) | Ok (Opened n q) ↦ bytes.read s (q.offset - (p.offset + 1)) t n last q | Ok (Shut q) ↦ bytes.shut q [] | Err e ↦ bytes.halted e.refusal e.at ])
    go (Ok (Byte v n q)) h ih = push_proper v (bytes.read s (q.offset - (p.offset + 1)) t n v q) (ih (q.offset - (p.offset + 1)) n v q)
    go (Ok (Opened n q)) h ih = ih (q.offset - (p.offset + 1)) n last q
    go (Ok (Shut q)) h ih = tt
    go (Err e) h ih = h
read_proper s (b ∷ t) (suc left) m last p = read_proper s t left m last p

-- A bytearray is refused by 19 or 21.
pub bytearray_proper : (s : Text) (p : Place) → MustProper (bytes.bytearray s p)
unfolding bytes.bytearray bytes.contents
bytearray_proper s p = go (bytes.contents s p) (read_proper s (drop p.offset s) 0 Between 256 p)
  where
    go : (x : bytes.Contents) → ContentsProper x → MustProper (bytes.span_by p x)
    go (bytes.shut q l) h = tt
    go (bytes.halted k q) h = h

-- ---- the leaves

-- A prefix is told, or is refused properly.
abbrev pub PrefixProper : Result Prefix Refused → Type 0
PrefixProper (Ok (prefix.Sign sign h n)) = Unit {0}
PrefixProper (Ok (prefix.Other h)) = Unit {0}
PrefixProper (Err e) = T (proper e.refusal)

-- A prefix is refused by 19 or 23.
pub prefix_proper : (s : Text) (p : Place) → PrefixProper (prefix_of s p)
unfolding prefix_of
prefix_proper s p = go (blanks s p) (blanks_proper s p)
  where
    by : (b c : ℕ) (h : Place) → PrefixProper (prefix_by b c h)
    by b c h =
        choice PrefixProper ((eqb b 43 && eqb c 43) || (eqb b 45 && eqb c 45)) (λ e. tt)
        (λ e. choice PrefixProper (eqb b 33 || eqb b 45 || eqb b 43) (λ e. tt) (λ e. tt))

    go : (r : Must) → MustProper r → PrefixProper (prefix_past s r)
    go (Ok t) g = by (byte_at s t.next.offset) (byte_at s (t.next.offset + 1)) t.next
    go (Err e) g = g

-- An atom is told, or is refused properly.
abbrev pub AtomProper : Result Atom Refused → Type 0
AtomProper (Ok (atom.Leaf kind v n)) = Unit {0}
AtomProper (Ok (atom.Paren n)) = Unit {0}
AtomProper (Ok (atom.Bracket n)) = Unit {0}
AtomProper (Ok (atom.Brace n)) = Unit {0}
AtomProper (Ok atom.Bar) = Unit {0}
AtomProper (Err e) = T (proper e.refusal)

-- A number is refused as an atom as it is by itself.
number_atom_proper : (h : Place) (x : Result Numeral Refused) → NumeralProper x → AtomProper (number_atom h x)
number_atom_proper h (Ok (Int v q)) g = tt
number_atom_proper h (Ok (Float q)) g = tt
number_atom_proper h (Err e) g = g

-- So is what is a span of the text.
span_atom_proper : (kind : Kind) (from : ℕ) (r : Must) → MustProper r → AtomProper (span_atom kind from r)
span_atom_proper kind from (Ok t) g = tt
span_atom_proper kind from (Err e) g = g

-- A word is refused by 12.
word_atom_proper : (k : ℕ) (h q : Place) → AtomProper (word_atom k h q)
word_atom_proper k h q =
    choice AtomProper (eqb k 0) (λ e. tt)
    (λ e. choice AtomProper (eqb k 1) (λ e. tt)
    (λ e. choice AtomProper (eqb k 2) (λ e. tt) (λ e. choice AtomProper (eqb k 3) (λ e. tt) (λ e. tt))))

-- A name is refused by 11 or 12.
name_atom_proper : (s : Text) (r : Must) → MustProper r → AtomProper (name_atom s r)
name_atom_proper s (Ok t) g = word_atom_proper (word_of (part s t.here.offset t.next.offset)) t.here t.next
name_atom_proper s (Err e) g = g

-- An atom is refused by 13, or as what it is.
pub atom_proper : (s : Text) (h : Place) → AtomProper (atom_of s h)
unfolding atom_of
atom_proper s h =
    choice AtomProper (is_digit b) (λ e. number_atom_proper h (number s h) (number_proper s h))
    (λ e. choice AtomProper (is_letter b) (λ e. name_atom_proper s (name s h) (name_proper s h))
    (λ e. choice AtomProper (is_quote b) (λ e. span_atom_proper kinds.String h.offset (string s h) (string_proper s h))
    (λ e. choice AtomProper (eqb b 40) (λ e. tt)
    (λ e. choice AtomProper (eqb b 91) (λ e. tt)
    (λ e. choice AtomProper (eqb b 123) (λ e. tt)
    (λ e. choice AtomProper (eqb b 35 && eqb (byte_at s (h.offset + 1)) 91)
    (λ e. span_atom_proper kinds.Bytes h.offset (bytes.bytearray s (on_by 2 h)) (bytearray_proper s (on_by 2 h)))
    (λ e. choice AtomProper (eqb b 36) (λ e. span_atom_proper kinds.Host (h.offset + 1) (name s (on_by 1 h)) (name_proper s (on_by 1 h)))
    (λ e. choice AtomProper (eqb b 124) (λ e. tt) (λ e. tt)))))))))
  where
    b : ℕ
    b = byte_at s h.offset

-- What follows a base is told, or is refused properly.
abbrev pub PostfixProper : Result Postfix Refused → Type 0
PostfixProper (Ok (post.More x)) = Unit {0}
PostfixProper (Ok (post.Rest h)) = Unit {0}
PostfixProper (Err e) = T (proper e.refusal)

-- A member is refused as its name is.
member_proper : (h : Place) (r : Must) → MustProper r → PostfixProper (member_by h r)
member_proper h (Ok t) g = tt
member_proper h (Err e) g = g

-- So is a class.
class_proper : (h : Place) (r : Must) → MustProper r → PostfixProper (instance_by h r)
class_proper h (Ok t) g = tt
class_proper h (Err e) g = g

-- And the blanks before it.
instance_proper : (s : Text) (h : Place) (r : Must) → MustProper r → PostfixProper (instance_past s h r)
instance_proper s h (Ok t) g = class_proper h (name s t.next) (name_proper s t.next)
instance_proper s h (Err e) g = g

-- What follows a base is refused by 11, 19 or 22.
pub postfix_proper : (s : Text) (p : Place) → PostfixProper (postfix_of s p)
unfolding postfix_of
postfix_proper s p = go (blanks s p) (blanks_proper s p)
  where
    by : (b c : ℕ) (h : Place) → PostfixProper (postfix_by s b c h)
    by b c h =
        choice PostfixProper (eqb b 40) (λ e. tt)
        (λ e. choice PostfixProper (eqb b 91) (λ e. tt)
        (λ e. choice PostfixProper (eqb b 46) (λ e. member_proper h (name s (on_by 1 h)) (name_proper s (on_by 1 h)))
        (λ e. choice PostfixProper (is_keyword s h (ascii "instanceof")) (λ e. instance_proper s h (blanks s (on_by 10 h)) (blanks_proper s (on_by 10 h)))
        (λ e. choice PostfixProper ((eqb b 43 && eqb c 43) || (eqb b 45 && eqb c 45)) (λ e. tt) (λ e. tt)))))

    go : (r : Must) → MustProper r → PostfixProper (postfix_past s r)
    go (Ok t) g = by (byte_at s t.next.offset) (byte_at s (t.next.offset + 1)) t.next
    go (Err e) g = g

-- The close of a list is refused by 19.
pub close_proper : (s : Text) (p : Place) (end : ℕ) → LookProper (close_of s p end)
unfolding close_of
close_proper s p end = go (blanks s p) (blanks_proper s p)
  where
    go : (r : Must) → MustProper r → LookProper (close_past s end r)
    go (Ok t) g = choice LookProper (eqb (byte_at s t.next.offset) 256) (λ e. tt) (λ e. choice LookProper (eqb (byte_at s t.next.offset) end) (λ e. tt) (λ e. tt))
    go (Err e) g = g

-- What follows an element is refused by 10 or 19.
pub follow_proper : (s : Text) (p : Place) (end : ℕ) → LookProper (follow_of s p end)
unfolding follow_of
follow_proper s p end = go (token s p (end ∷ [])) (token_proper s p (end ∷ []))
  where
    comma : (r : Must) → MustProper r → LookProper (comma_by r)
    comma (Ok t) g = tt
    comma (Err e) g = g

    go : (l : Looked) → LookProper l → LookProper (follow_by s l)
    go (found h n) g = tt
    go (missing h) g = comma (expected s h (ascii ",")) (expected_proper s h (ascii ","))
    go (Err e) g = g

-- A key is refused as a string or as a name.
pub key_proper : (s : Text) (p : Place) → MustProper (key_at s p)
unfolding key_at
key_proper s p = choice MustProper (is_quote (byte_at s p.offset)) (λ e. string_proper s p) (λ e. name_proper s p)
