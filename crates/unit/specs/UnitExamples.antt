-- THE DESK EXAMPLES of document 01, those marked P as one list, and further answers, by computation. Assumes nothing.
use Rattle.std.specs.Prelude.{◌≡◌, refl, Bool, true, false, List, [], ◌∷◌, ◌++◌, ℕ, ◌+◌, eqb}
use Rattle.characters.specs.declared.place.Place.{Place}
use Rattle.characters.specs.Text.{Text, ascii, next, on_by, past, start, tails}
use Rattle.characters.specs.Blanks.{blanks, file_start, line_end, pass}
use Rattle.characters.specs.Names.{along, free_name, name, same, numbered, word_of}
use Rattle.characters.specs.Tokens.{spells, token, keyword, expected}
use Rattle.characters.specs.Utf8.{table, fits, row_in, sequence_of, prefix_in, place_after, bits as charBits, value_of, char_of}
use Rattle.literals.specs.Numbers.{number, decimal, digits, run, past_digits, dotted, fraction, exponent_or, exponent, whole, based, digit_of}
use Rattle.literals.specs.Strings.{among, closing, decode, digits as codeDigits, escape, hex_by, key_of, letter_of, same_key, scan, string, unicode, value_in, width_in}
use Rattle.literals.specs.ByteArrays.{ascii as asciiRun, between, binary, bit_of, bits, bytearray, bytes_of, contents, eight, hex, is_alphanumeric, line_end as runEnd, mark, opening as runOpening, outside, pair, printed, read as readBytes, slash, step}
use Rattle.reading.specs.declared.answer.Answer.{Answer}
use Rattle.reading.specs.Events.{Rec, Outcome, records_of, comparisons_of}
use Rattle.reading.specs.Entry.{nowhere}
use Rattle.reading.specs.Answers.{answer_of}
use Rattle.records.specs.declared.kind.Kind.{Kind}
use Rattle.records.specs.declared.kind.Kind.TheVariants as kinds
use Rattle.records.specs.Kinds.{number_of}
use Rattle.records.specs.Rows.{record_of}
use Rattle.records.specs.Words.{span_word}
use Rattle.grammar.specs.Operators.{first_of, any_of, is_assignment}
use Rattle.grammar.specs.Leaves.{row_of, leaf_row, prefix_of, atom_of, postfix_of, link_of, close_of, follow_of, key_at}
use Rattle.grammar.specs.Heads.{name_of, head_of, step_of, assign_in, assign_of, end_of, let_of, class_of, item_of}
use Rattle.grammar.specs.Functions.{block_row, fun_row}
use Rattle.grammar.specs.Units.{full}

-- the full entry, made to compute: text, record limit, nesting limit, comparison limit, and true for the file form
unfoldable pub entered : Text → ℕ → ℕ → ℕ → Bool → Outcome
unfolding full blanks file_start line_end pass past next tails name along free_name word_of numbered same spells token keyword expected table fits row_in sequence_of prefix_in place_after charBits value_of char_of number decimal digits run past_digits dotted fraction exponent_or exponent whole based digit_of string scan escape unicode codeDigits closing among letter_of hex_by same_key key_of decode value_in width_in bytearray contents readBytes step asciiRun between binary bit_of bits eight hex is_alphanumeric runEnd mark runOpening outside pair printed slash first_of any_of is_assignment prefix_of atom_of postfix_of link_of close_of follow_of key_at name_of head_of step_of assign_in assign_of end_of let_of class_of item_of
entered s cap nest comps file = full s cap nest comps file

-- in the string form, with a nesting limit, 1,024 records and the largest u32 of comparisons
abbrev pub unit : Text → ℕ → Outcome
unit s nest = entered s 1024 nest 4294967295 false

-- an example: the answer, every record made, and the bytes that its bytearrays spell
pub record Example : Type 0 where
  pub answer : Answer
  pub records : List Rec
  pub bytes : List ℕ

-- the bytes of each bytearray among the records, one after the other
unfoldable pub spelled : Text → List Rec → List ℕ
unfolding bytes_of
spelled s [] = []
spelled s (r ∷ rs) = elim (eqb r.kind (number_of kinds.Bytes)) [ true ↦ bytes_of s (on_by 2 r.position) ++ spelled s rs | false ↦ spelled s rs ]

-- what an outcome shows
abbrev drawn_as : Text → Outcome → Example
drawn_as s o = record { answer = answer_of o; records = records_of o.events; bytes = spelled s (records_of o.events) }

-- of a text, with a nesting limit
abbrev drawn : Text → ℕ → Example
drawn s nest = drawn_as s (unit s nest)

-- number, line, column, records, comparisons
abbrev pub says : ℕ → ℕ → ℕ → ℕ → ℕ → Answer
says number line column records comparisons = record { number = number; line = line; column = column; records = records; comparisons = comparisons }

-- an answer in the first line, with its records and no bytes
abbrev example : ℕ → ℕ → ℕ → ℕ → List Rec → Example
example number column records comparisons made = record { answer = says number 1 column records comparisons; records = made; bytes = [] }

-- these bytes with it
abbrev spelling : List ℕ → Example → Example
spelling bytes e = record { answer = e.answer; records = e.records; bytes = bytes }

-- a place in the first line
abbrev at : ℕ → Place
at k = record { offset = k; line = 1; column = k + 1 }

-- a name of so many letters
abbrev named : ℕ → ℕ → Rec
named k n = record_of (leaf_row kinds.Name (at k) (span_word k (k + n)))

-- an int of this value, in two's complement
abbrev int : ℕ → ℕ → Rec
int k v = record_of (leaf_row kinds.Int (at k) v)

-- the item of a record, after another item
abbrev held : Kind → ℕ → ℕ → Rec
held kind number last = record_of (row_of kind nowhere number last 0)

-- of an expression, of a statement, of a method's function
abbrev item : ℕ → ℕ → Rec
item number last = held kinds.Item number last

abbrev stated : ℕ → ℕ → Rec
stated number last = held kinds.Stated number last

abbrev method : ℕ → ℕ → Rec
method number last = held kinds.Method number last

-- a record of this kind and these fields
abbrev made : Kind → ℕ → ℕ → ℕ → ℕ → Rec
made kind k a b c = record_of (row_of kind (at k) a b c)

-- "The unit ends with its block and its function": the block of this last item, with that number, and the function of the first id
abbrev ending : ℕ → ℕ → List Rec
ending last block = record_of (block_row start last) ∷ record_of (fun_row start 1 0 0 block) ∷ []

-- the examples marked P
desk : List Example
unfolding entered records_of comparisons_of spelled
desk =
    drawn (ascii "f(1);") 256
    ∷ drawn (ascii "f(1);") 2
    ∷ drawn [] 256
    ∷ drawn (ascii "x = 9223372036854775807;") 256
    ∷ drawn (ascii "x = -9223372036854775808;") 256
    ∷ drawn (ascii "x = 0x8000000000000000;") 256
    ∷ drawn (ascii "x = a ? b : c ? d : e;") 256
    ∷ drawn (ascii "x = a ? b : c = d;") 256
    ∷ drawn (ascii "fun f() {") 256
    ∷ drawn (ascii "fun f() { ") 256
    ∷ drawn (ascii "x = {\"a\": 1, a: 2};") 256
    ∷ drawn (ascii "x = \"\\x80\";") 256
    ∷ drawn (ascii "a. b();") 256
    ∷ drawn (ascii "x = -(5);") 256
    ∷ drawn (ascii "x = #[\\a hi];") 256
    ∷ []

-- AS DOCUMENT 01 SAYS
as_document_01_says : desk
    -- `f(1);`
    ≡ example 0 6 8 0 (named 0 1 ∷ int 2 1 ∷ item 2 0 ∷ made kinds.Call 1 1 3 0 ∷ made kinds.Do 0 4 0 0 ∷ stated 5 0 ∷ ending 6 7)
    -- "nesting 2 gives 5 at 1:3, 1 record"
    ∷ example 5 3 1 0 (named 0 1 ∷ [])
    -- "empty text: accepted, 2 records"
    ∷ example 0 1 2 0 (ending 0 1)
    -- 9223372036854775807
    ∷ example 0 25 6 0 (named 0 1 ∷ int 4 9223372036854775807 ∷ made kinds.Assign 0 1 2 0 ∷ stated 3 0 ∷ ending 4 5)
    -- "14 at 1:25, 1 record"
    ∷ example 14 25 1 0 (named 0 1 ∷ [])
    -- "14 at 1:23"
    ∷ example 14 23 1 0 (named 0 1 ∷ [])
    -- "nests right"
    ∷ example 0 23 12 0
    (named 0 1
    ∷ named 4 1
    ∷ named 8 1
    ∷ named 12 1
    ∷ named 16 1
    ∷ named 20 1
    ∷ made kinds.Choice 12 4 5 6
    ∷ made kinds.Choice 4 2 3 7
    ∷ made kinds.Assign 0 1 8 0
    ∷ stated 9 0
    ∷ ending 10 11)
    -- "25 at 1:15, 4 records"
    ∷ example 25 15 4 0 (named 0 1 ∷ named 4 1 ∷ named 8 1 ∷ named 12 1 ∷ [])
    -- "19 at 1:10"; "the same and a space: 13 at 1:11"
    ∷ example 19 10 0 0 []
    ∷ example 13 11 0 0 []
    -- "30 at 1:15, 3 records, 1 comparison"
    ∷ example 30 15 3 1 (named 0 1 ∷ int 10 1 ∷ record_of (row_of kinds.Pair nowhere 2 0 (span_word 5 8)) ∷ [])
    -- "20 at 1:10"; "11 at 1:3"
    ∷ example 20 10 1 0 (named 0 1 ∷ [])
    ∷ example 11 3 1 0 (named 0 1 ∷ [])
    -- "integer -5 at 1:7"
    ∷ example 0 10 7 0 (named 0 1 ∷ int 6 5 ∷ int 6 18446744073709551611 ∷ made kinds.Assign 0 1 3 0 ∷ stated 4 0 ∷ ending 5 6)
    -- "bytes 20 68 69"
    ∷ spelling (0x20 ∷ 0x68 ∷ 0x69 ∷ [])
    (example 0 14 6 0 (named 0 1 ∷ record_of (leaf_row kinds.Bytes (at 4) (span_word 4 12)) ∷ made kinds.Assign 0 1 2 0 ∷ stated 3 0 ∷ ending 4 5))
    ∷ []
unfolding desk
as_document_01_says = refl

-- ---- whole listings, as in docs/LISTING.md

-- the records of a text
abbrev recorded : Text → List Rec
recorded s = records_of (unit s 256).events

-- a record with four fields
abbrev whole4 : Kind → ℕ → ℕ → ℕ → ℕ → ℕ → Rec
whole4 kind k a b c d = record_of (record { kind = kind; position = at k; a = a; b = b; c = c; d = d })

-- a parameter of so many letters, after another
abbrev param : ℕ → ℕ → ℕ → Rec
param k n last = record_of (row_of kinds.Param nowhere (span_word k (k + n)) last 0)

-- a statement of the unit with its global number
abbrev global : ℕ → ℕ → ℕ → Rec
global element last k = record_of (row_of kinds.Global nowhere element last k)

-- a class with its parent and `init`: the method's id before the class's, and the unit's last
class_is_drawn : recorded (ascii "class A extends B { init(self, x) { self.x = x; } }")
    ≡ param 25 4 0
    ∷ param 31 1 1
    ∷ named 36 4
    ∷ made kinds.Member 40 3 (span_word 41 42) 0
    ∷ named 45 1
    ∷ made kinds.Assign 36 4 5 0
    ∷ stated 6 0
    ∷ made kinds.Block 34 7 0 0
    ∷ whole4 kinds.Fun 20 1 (span_word 20 24) 2 8
    ∷ method 9 0
    ∷ whole4 kinds.Class 0 2 (span_word 6 7) (span_word 16 17) 10
    ∷ made kinds.ClassDecl 0 11 0 0
    ∷ stated 12 0
    ∷ made kinds.Block 0 13 0 0
    ∷ whole4 kinds.Fun 0 3 0 0 14
    ∷ []
unfolding entered records_of
class_is_drawn = refl

-- `++` in a body; an implied `nil`
if_is_drawn : recorded (ascii "if (a) ++b; else { return; }")
    ≡ named 4 1
    ∷ named 9 1
    ∷ int 9 1
    ∷ made kinds.Binary 9 4 2 3
    ∷ made kinds.Assign 7 2 4 0
    ∷ made kinds.Nil 19 0 0 0
    ∷ made kinds.Return 19 6 0 0
    ∷ stated 7 0
    ∷ made kinds.Block 17 8 0 0
    ∷ made kinds.If 0 1 5 9
    ∷ stated 10 0
    ∷ ending 11 12
unfolding entered records_of
if_is_drawn = refl

-- "Implied literals come just before their holder": block, true, for
for_is_drawn : recorded (ascii "for (;; a += 1) {}")
    ≡ named 8 1
    ∷ int 13 1
    ∷ made kinds.Binary 8 4 1 2
    ∷ made kinds.Assign 8 1 3 0
    ∷ made kinds.Block 16 0 0 0
    ∷ made kinds.True 0 0 0 0
    ∷ whole4 kinds.For 0 0 6 4 5
    ∷ stated 7 0
    ∷ ending 8 9
unfolding entered records_of
for_is_drawn = refl

-- global numbers from 0: none for a function, none with `var`; the lambda's implied return stands at its `|`
globals_are_numbered : recorded (ascii "let a = 1; let f = |b| b; let var c = 2; let d = 3;")
    ≡ int 8 1
    ∷ made kinds.Let 0 0 (span_word 4 5) 1
    ∷ global 2 0 0
    ∷ param 20 1 0
    ∷ named 23 1
    ∷ made kinds.Return 19 5 0 0
    ∷ whole4 kinds.Fun 19 1 0 4 6
    ∷ made kinds.Closure 19 7 0 0
    ∷ made kinds.Let 11 0 (span_word 15 16) 8
    ∷ stated 9 3
    ∷ int 38 2
    ∷ made kinds.Let 26 1 (span_word 34 35) 11
    ∷ stated 12 10
    ∷ int 49 3
    ∷ made kinds.Let 41 0 (span_word 45 46) 14
    ∷ global 15 13 1
    ∷ made kinds.Block 0 16 0 0
    ∷ whole4 kinds.Fun 0 2 0 0 17
    ∷ []
unfolding entered records_of
globals_are_numbered = refl

-- ---- further answers

-- with no limit that is reached
abbrev pub Answers : Text → Answer → Type 0
Answers s a = answer_of (unit s 256) ≡ a

-- with a nesting limit, a record limit or a comparison limit
abbrev pub Nested : ℕ → Text → Answer → Type 0
Nested nest s a = answer_of (unit s nest) ≡ a

abbrev pub Pooled : ℕ → Text → Answer → Type 0
Pooled cap s a = answer_of (entered s cap 256 4294967295 false) ≡ a

abbrev pub Compared : ℕ → Text → Answer → Type 0
Compared comps s a = answer_of (entered s 1024 256 comps false) ≡ a

-- the end of the text is tested before blanks in a block; the search for `else` has skipped them already. Lists skip them first
blocks_end :
    Answers (ascii "{ f();") (says 19 1 7 4 0)
    × Answers (ascii "{ f(); ") (says 13 1 8 4 0)
    × Answers (ascii "{ if (a) f(); ") (says 19 1 15 6 0)
    × Answers (ascii "{ // c") (says 13 1 7 0 0)
    × Answers (ascii "f( ") (says 19 1 4 1 0)
    × Answers (ascii "f(1") (says 10 1 4 3 0)
    × Answers (ascii "fun f(") (says 19 1 7 0 0)
    × Answers (ascii "class A {") (says 19 1 10 0 0)
    × Answers (ascii "x = |") (says 19 1 6 1 0)
unfolding entered records_of comparisons_of
blocks_end = (refl, refl, refl, refl, refl, refl, refl, refl, refl)

-- 26, 27: "26 the target's position; 27 the expression's"
targets :
    Answers (ascii "a.b;") (says 27 1 2 2 0)
    × Answers (ascii "f(1) = 2;") (says 26 1 2 4 0)
    × Answers (ascii "-a.b = 1;") (says 26 1 3 3 0)
    × Answers (ascii "!a = 1;") (says 26 1 1 2 0)
    × Answers (ascii "5 = ;") (says 26 1 1 1 0)
    × Answers (ascii "++f()") (says 26 1 4 2 0)
    × Answers (ascii "a += b") (says 10 1 7 2 0)
    × Answers (ascii "(a) = 1;") (says 0 1 9 6 0)
unfolding entered records_of comparisons_of
targets = (refl, refl, refl, refl, refl, refl, refl, refl)

-- 22, 23, 24, 28, 29, and 12 for a class that isn't an item of the unit
statements :
    Answers (ascii "a ++;") (says 22 1 5 1 0)
    × Answers (ascii "x =  ++a;") (says 23 1 6 1 0)
    × Answers (ascii "x = +a  ;") (says 24 1 9 2 0)
    × Answers (ascii "if (a)  let b = 1; else c();") (says 28 1 9 3 0)
    × Answers (ascii "loop fun f() {}") (says 28 1 6 4 0)
    × Answers (ascii "if (a)  class A {}") (says 12 1 9 1 0)
    × Answers (ascii ";") (says 29 1 1 0 0)
    × Answers (ascii "f();;") (says 29 1 5 4 0)
    × Answers (ascii "let if = 1;") (says 12 1 5 0 0)
    × Answers (ascii "fun in() {}") (says 12 1 5 0 0)
    × Answers (ascii "let var a = 1;") (says 0 1 15 5 0)
    × Answers (ascii "let var = 1;") (says 11 1 9 0 0)
    × Answers (ascii "x = |a, if| a;") (says 12 1 9 2 0)
unfolding entered records_of comparisons_of
statements = (refl, refl, refl, refl, refl, refl, refl, refl, refl, refl, refl, refl, refl)

-- 30, with its place, records and comparisons
duplicates :
    Answers (ascii "x = {a, b, c, b};") (says 30 1 16 7 5)
    × Answers (ascii "fun f(a, b, a) {}") (says 30 1 14 2 3)
    × Answers (ascii "x = |a, a| a;") (says 30 1 10 2 1)
    × Answers (ascii "fun f() {}\n fun f() {}") (says 30 2 2 9 1)
    × Answers (ascii "class A {}\n class  A {}") (says 30 2 2 3 1)
    × Answers (ascii "class A { m() {} m() {} }") (says 30 1 19 3 1)
    × Answers (ascii "let var f = || 1; fun f() {}") (says 30 1 19 10 1)
    × Answers (ascii "let f = (|| 1); fun f() {}") (says 30 1 17 10 1)
    × Answers (ascii "{ fun f() {} } fun f() {}") (says 0 1 26 14 0)
    × Answers (ascii "class f {} fun f() {}") (says 0 1 22 10 0)
    × Answers (ascii "class A { init() {} }") (says 32 1 20 2 0)
    × Answers (ascii "class A { init(self) {} }") (says 0 1 26 9 0)
unfolding entered records_of comparisons_of
duplicates = (refl, refl, refl, refl, refl, refl, refl, refl, refl, refl, refl, refl)

-- 4: the first token of the unit alone. A keyword isn't followed by a letter
first_tokens :
    Answers (ascii "from = 1;") (says 4 1 1 0 0)
    × Answers (ascii " from(1);") (says 4 1 2 0 0)
    × Answers (ascii "frome();") (says 0 1 9 6 0)
    × Answers (ascii "classy();") (says 0 1 10 6 0)
    × Answers (ascii "iff();") (says 0 1 7 6 0)
    × Answers (ascii "a = 1; from = 1;") (says 0 1 17 10 0)
unfolding entered records_of comparisons_of
first_tokens = (refl, refl, refl, refl, refl, refl)

-- 5, by nesting limit 1
levels_1 :
    Nested 1 (ascii "++a;") (says 0 1 5 7 0)
    × Nested 1 (ascii "x =  1;") (says 5 1 1 0 0)
    × Nested 1 (ascii "loop   f();") (says 5 1 5 0 0)
    × Nested 1 (ascii "{   f();}") (says 5 1 5 0 0)
    × Nested 1 (ascii "return  a;") (says 5 1 9 0 0)
    × Nested 1 (ascii "let a =  1;") (says 5 1 8 0 0)
    × Nested 1 (ascii "fun  f  (a) {}") (says 5 1 7 0 0)
    × Nested 1 (ascii "class A { m  () {} }") (says 5 1 12 0 0)
    × Nested 1 (ascii "for (  a();;) {}") (says 5 1 8 0 0)
    × Nested 1 (ascii "for (;;  ++a) f;") (says 5 1 14 4 0)
unfolding entered records_of comparisons_of
levels_1 = (refl, refl, refl, refl, refl, refl, refl, refl, refl, refl)

-- and 2
levels_2 :
    Nested 2 (ascii "f(  1);") (says 5 1 5 1 0)
    × Nested 2 (ascii "x = a[  1];") (says 5 1 7 2 0)
    × Nested 2 (ascii "x = !  a;") (says 5 1 6 1 0)
    × Nested 2 (ascii "x =  |a| a;") (says 5 1 6 1 0)
    × Nested 2 (ascii "class A { m() {   } }") (says 0 1 22 8 0)
unfolding entered records_of comparisons_of
levels_2 = (refl, refl, refl, refl, refl)

-- and 3
levels_3 :
    Nested 3 (ascii "x = ||  a;") (says 5 1 9 1 0)
    × Nested 3 (ascii "x = ||  {};") (says 0 1 12 8 0)
unfolding entered records_of comparisons_of
levels_3 = (refl, refl)

-- 6, by the record limit: the place reached, and all records that fit
pools :
    Pooled 0 (ascii "x   = 1;") (says 6 1 2 0 0)
    × Pooled 2 (ascii "f(1  );") (says 6 1 6 2 0)
    × Pooled 2 (ascii "x = -  1  ;") (says 6 1 11 2 0)
    × Pooled 4 (ascii "if (a) f();  // c") (says 6 1 18 4 0)
    × Pooled 2 (ascii "x = {a  };") (says 6 1 9 2 0)
    × Pooled 1 (ascii "++a  ;") (says 6 1 7 1 0)
    × Pooled 0 (ascii "fun f(a  ) {}") (says 6 1 8 0 0)
    × Pooled 3 (ascii "for (;;) {}") (says 6 1 12 3 0)
    × Pooled 0 [] (says 6 1 1 0 0)
    × Pooled 1 [] (says 6 1 1 1 0)
unfolding entered records_of comparisons_of
pools = (refl, refl, refl, refl, refl, refl, refl, refl, refl, refl)

-- 7, with the comparison limit 0: before 30, and at the place reached
comparison_limits :
    Compared 0 (ascii "x = {a, b  };") (says 7 1 10 3 0)
    × Compared 0 (ascii "fun f() {} fun f() {}") (says 7 1 22 9 0)
    × Compared 0 (ascii "class A {} class A {}") (says 7 1 19 3 0)
    × Compared 0 (ascii "fun f(a, b) {}") (says 7 1 11 1 0)
    × Compared 0 (ascii "class A { m() {} n() {} }") (says 7 1 19 3 0)
unfolding entered records_of comparisons_of
comparison_limits = (refl, refl, refl, refl, refl)

-- the `#!` line is skipped in the file form alone
file_form :
    (answer_of (entered (ascii "#! x\n  ") 1024 256 0 true) ≡ says 0 2 3 2 0)
    × (answer_of (entered (ascii "#! x\n  ") 1024 256 0 false) ≡ says 13 1 1 0 0)
    × (answer_of (entered (ascii "f") 1024 256 0 true) ≡ says 10 1 2 1 0)
unfolding entered records_of comparisons_of
file_form = (refl, refl, refl)

-- 2 and 3 before reading, in that order
gates :
    (answer_of (entered (255 ∷ []) 1024 0 0 false) ≡ says 2 0 0 0 0)
    × (answer_of (entered (255 ∷ []) 1024 257 0 false) ≡ says 2 0 0 0 0)
    × (answer_of (entered (102 ∷ 195 ∷ 169 ∷ 255 ∷ []) 1024 1 0 false) ≡ says 3 1 3 0 0)
    × (answer_of (entered (195 ∷ 169 ∷ []) 1024 2 0 false) ≡ says 13 1 1 0 0)
unfolding entered records_of comparisons_of
gates = (refl, refl, refl, refl)
