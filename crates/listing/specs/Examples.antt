-- The lines of 01's example `f(1);` and of docs/LISTING.md, by computation. Assumes nothing.
use Rattle.std.specs.Prelude.{◌≡◌, refl, List, [], ◌∷◌, ◌++◌, map, ℕ, ◌-◌, replicate}
use Rattle.characters.specs.Text.{Text, ascii, next, past, tails}
use Rattle.characters.specs.Names.{same}
use Rattle.characters.specs.Blanks.{blanks, pass}
use Rattle.characters.specs.Utf8.{table, fits, row_in, sequence_of, char_of, value_of, bits as charBits}
use Rattle.literals.specs.Numbers.{digit_of}
use Rattle.literals.specs.Strings.{among, closing, decode, digits as codeDigits, escape, hex_by, key_of, letter_of, unicode, value_in, width_in}
use Rattle.literals.specs.ByteArrays.{ascii as asciiRun, between, binary, bit_of, bits, bytes_of, contents, eight, hex as hexRun, is_alphanumeric, line_end, mark, opening, outside, pair, printed, read, slash, step}
use Rattle.reading.specs.declared.answer.Answer.{Answer}
use Rattle.reading.specs.Says.{laid}
use Rattle.records.specs.declared.kind.Kind.{Kind}
use Rattle.records.specs.declared.kind.Kind.TheVariants as kinds
use Rattle.records.specs.declared.row.Row.{Row}
use Rattle.records.specs.Words.{span_word}
use Rattle.records.specs.Rows.{record_of, words, layout, row_at}
use Rattle.listing.specs.Listing.{digits, decimal, signed, name, utf8, characters, quoted, pairs, bytes, field, line_of, line_at, last_line, lines, listing_of}

-- ---- single lines: the text, the record's number, its row at 1:column, and the line

-- A line, made to compute.
unfoldable line : Text → ℕ → Row → Text
unfolding line_of field digits decimal signed name utf8 characters quoted pairs bytes same blanks pass next past tails table fits row_in sequence_of char_of value_of charBits digit_of among closing decode codeDigits escape hex_by key_of letter_of unicode value_in width_in asciiRun between binary bit_of bits bytes_of contents eight hexRun is_alphanumeric line_end mark opening outside pair printed read slash step
line s n w = line_of s n w

abbrev row : Kind → ℕ → ℕ → ℕ → ℕ → ℕ → Row
row k column a b c d = record { kind = k; position = record { offset = column - 1; line = 1; column = column }; a = a; b = b; c = c; d = d }

abbrev Line : Prim.Native.String.String → ℕ → Row → Prim.Native.String.String → Type 0
Line s n w l = line (ascii s) n w ≡ ascii l ++ (10 ∷ [])

-- Literals.
literals :
    Line "x = true;" 2 (row kinds.True 5 0 0 0 0) "2 true 1:5"
    × Line "x = 0xFF;" 2 (row kinds.Int 5 255 0 0 0) "2 int 1:5 255"
    × Line "x = -(5);" 3 (row kinds.Int 7 4294967291 4294967295 0 0) "3 int 1:7 -5"
    × Line "x = 9223372036854775807;" 2 (row kinds.Int 5 4294967295 2147483647 0 0) "2 int 1:5 9223372036854775807"
    × Line "x = 1_0.5;" 2 (row kinds.Float 5 (span_word 4 9) 0 0 0) "2 float 1:5 1_0.5"
    × Line "x = -1_0.5;" 3 (row kinds.Float 6 (span_word 5 10) 1 0 0) "3 float 1:6 -1_0.5"
    × Line "x = '\\x61b';" 2 (row kinds.String 5 (span_word 4 11) 0 0 0) "2 string 1:5 \"ab\""
    × Line "x = \"\\u{0}\";" 2 (row kinds.String 5 (span_word 4 11) 0 0 0) "2 string 1:5 \"\0\""
    × Line "x = #[\\a hi];" 2 (row kinds.Bytes 5 (span_word 4 12) 0 0 0) "2 bytes 1:5 20 68 69"
    × Line "x = #[\\x fe 0A];" 2 (row kinds.Bytes 5 (span_word 4 15) 0 0 0) "2 bytes 1:5 FE 0A"
    × Line "x = #[];" 2 (row kinds.Bytes 5 (span_word 4 7) 0 0 0) "2 bytes 1:5"
unfolding line
literals = (refl, refl, refl, refl, refl, refl, refl, refl, refl, refl, refl)

-- Names, signs and records.
others :
    Line "x = $h;" 2 (row kinds.Host 5 (span_word 5 6) 0 0 0) "2 host 1:5 h"
    × Line "x = a.b;" 3 (row kinds.Member 6 2 (span_word 6 7) 0 0) "3 member 1:6 2 b"
    × Line "x = !a;" 3 (row kinds.Unary 5 2 2 0 0) "3 unary 1:5 ! 2"
    × Line "x = a + b;" 4 (row kinds.Binary 5 4 2 3 0) "4 binary 1:5 + 2 3"
    × Line "while (a) {}" 3 (row kinds.For 1 0 1 0 2) "3 for 1:1 0 1 0 2"
    × Line "let var a = 1;" 2 (row kinds.Let 1 1 (span_word 8 9) 1 0) "2 let 1:1 1 a 1"
    × Line "class A extends B {}" 1 (row kinds.Class 1 1 (span_word 6 7) (span_word 16 17) 0) "1 class 1:1 1 A B 0"
    × Line "class A {}" 1 (row kinds.Class 1 1 (span_word 6 7) 0 0) "1 class 1:1 1 A - 0"
unfolding line
others = (refl, refl, refl, refl, refl, refl, refl, refl)

-- Items have no position.
items :
    Line "f(a, b);" 5 (row kinds.Item 0 4 3 0 0) "5 item 4 3"
    × Line "x = {a: 1};" 3 (row kinds.Pair 0 2 0 (span_word 5 6) 0) "3 item 2 0 \"a\""
    × Line "fun f(a, b) {}" 2 (row kinds.Param 0 (span_word 9 10) 1 0 0) "2 item b 1"
    × Line "let a = 1;" 3 (row kinds.Global 0 2 0 0 0) "3 item 2 0 0"
unfolding line
items = (refl, refl, refl, refl)

-- What no reading makes: a number that is no operator's, and a span outside the text.
strays :
    Line "" 4 (row kinds.Binary 5 19 2 3 0) "4 binary 1:5  2 3"
    × Line "ab" 1 (row kinds.Name 1 (span_word 1 9) 0 0 0) "1 name 1:1 b"
unfolding line
strays = (refl, refl)

-- ---- whole listings

-- A listing, made to compute.
unfoldable listing : Text → List ℕ → Answer → Text
unfolding line listing_of lines line_at last_line row_at laid layout words
listing s pool a = listing_of s pool a

abbrev says : ℕ → ℕ → ℕ → ℕ → Answer
says number column records comparisons = record { number = number; line = 1; column = column; records = records; comparisons = comparisons }

-- A pool of these rows, and words behind them.
abbrev pool : List Row → List ℕ
pool rows = laid layout (replicate 80 9) 0 (map record_of rows)

-- 01's example.
whole :
    listing
    (ascii "f(1);")
    (pool (row kinds.Name 1 (span_word 0 1) 0 0 0
    ∷ row kinds.Int 3 1 0 0 0
    ∷ row kinds.Item 0 2 0 0 0
    ∷ row kinds.Call 2 1 3 0 0
    ∷ row kinds.Do 1 4 0 0 0
    ∷ row kinds.Item 0 5 0 0 0
    ∷ row kinds.Block 1 6 0 0 0
    ∷ row kinds.Fun 1 1 0 0 7
    ∷ []))
    (says 0 6 8 0)
    ≡ ascii "1 name 1:1 f\n2 int 1:3 1\n3 item 2 0\n4 call 1:2 1 3\n5 do 1:1 4\n6 item 5 0\n7 block 1:1 6\n8 fun 1:1 1 - 0 7\nok 8 0\n"
unfolding listing laid layout words
whole = refl

-- "P `x = a ? b : c = d;` 25 at 1:15, 4 records": of which one is shown; a record that the pool lacks is a `?`.
refused : listing (ascii "x") (pool (row kinds.Name 1 (span_word 0 1) 0 0 0 ∷ [])) (says 25 15 1 0) ≡ ascii "1 name 1:1 x\nrefused 25 1:15 1 0\n"
unfolding listing laid layout words
refused = refl

lacking : listing (ascii "x") [] (says 0 1 1 0) ≡ ascii "1 ?\nok 1 0\n"
unfolding listing laid layout words
lacking = refl
