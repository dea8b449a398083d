-- WHAT THE RUST DOESN'T SHOW, by computation: levels, counts, records at a refusal, and records as the plain words of their rows. The
-- answers come from document 01 and are those of oracle/second. Assumes nothing.
use Rattle.std.specs.Prelude.{◌≡◌, refl, true, false, List, [], ◌∷◌, ◌++◌, ℕ, zero, suc, ◌+◌, ◌*◌, eqb, get_or}
use Rattle.characters.specs.Text.{Text, ascii}
use Rattle.reading.specs.Events.{Rec, records_of, comparisons_of}
use Rattle.reading.specs.Answers.{answer_of}
use Rattle.records.specs.Rows.{words}
use Rattle.unit.specs.UnitExamples.{entered, unit, says, Answers, Nested, Pooled, Compared}

-- ---- rows, with no row function of the rules on the other side

-- the words of each record
unfoldable pub rows_of : List Rec → List (List ℕ)
unfolding words
rows_of [] = []
rows_of (r ∷ rs) = words r ∷ rows_of rs

-- the records of a text are these rows
abbrev Rows : Text → List (List ℕ) → Type 0
Rows s rows = rows_of (records_of (unit s 256).events) ≡ rows

-- the eight words of a row: kind, offset, line, column, four fields
abbrev row : ℕ → ℕ → ℕ → ℕ → ℕ → ℕ → ℕ → ℕ → List ℕ
row kind offset line column a b c d = kind ∷ offset ∷ line ∷ column ∷ a ∷ b ∷ c ∷ d ∷ []

-- of a record in the first line
abbrev here : ℕ → ℕ → ℕ → ℕ → ℕ → ℕ → List ℕ
here kind offset a b c d = row kind offset 1 (offset + 1) a b c d

-- of a name of one letter
abbrev letter : ℕ → List ℕ
letter offset = here 10 offset (offset + 65536 * (offset + 1)) 0 0 0

-- of a binary: operator, left, right
abbrev binary : ℕ → ℕ → ℕ → ℕ → List ℕ
binary offset op left right = here 17 offset op left right 0

-- of an item of this kind
abbrev item : ℕ → ℕ → ℕ → List ℕ
item kind element last = row kind 0 0 0 element last 0 0

-- 01's listing of `f(1);`, word by word
call_in_words : Rows (ascii "f(1);")
    ((10 ∷ 0 ∷ 1 ∷ 1 ∷ 65536 ∷ 0 ∷ 0 ∷ 0 ∷ [])
    ∷ (4 ∷ 2 ∷ 1 ∷ 3 ∷ 1 ∷ 0 ∷ 0 ∷ 0 ∷ [])
    ∷ (33 ∷ 0 ∷ 0 ∷ 0 ∷ 2 ∷ 0 ∷ 0 ∷ 0 ∷ [])
    ∷ (19 ∷ 1 ∷ 1 ∷ 2 ∷ 1 ∷ 3 ∷ 0 ∷ 0 ∷ [])
    ∷ (20 ∷ 0 ∷ 1 ∷ 1 ∷ 4 ∷ 0 ∷ 0 ∷ 0 ∷ [])
    ∷ (37 ∷ 0 ∷ 0 ∷ 0 ∷ 5 ∷ 0 ∷ 0 ∷ 0 ∷ [])
    ∷ (26 ∷ 0 ∷ 1 ∷ 1 ∷ 6 ∷ 0 ∷ 0 ∷ 0 ∷ [])
    ∷ (31 ∷ 0 ∷ 1 ∷ 1 ∷ 1 ∷ 0 ∷ 0 ∷ 7 ∷ [])
    ∷ [])
unfolding entered records_of rows_of
call_in_words = refl

-- every operator, each at least as tight as the one before it
rising_chain : Rows (ascii "x = a || b && c | d ^ e & f != g == h > i >= j < k <= l >> m << n - o + p % q / r * s;")
    (letter 0
    ∷ letter 4
    ∷ letter 9
    ∷ letter 14
    ∷ letter 18
    ∷ letter 22
    ∷ letter 26
    ∷ letter 31
    ∷ binary 26 13 7 8
    ∷ letter 36
    ∷ letter 40
    ∷ binary 36 11 10 11
    ∷ letter 45
    ∷ binary 36 10 12 13
    ∷ letter 49
    ∷ binary 36 9 14 15
    ∷ letter 54
    ∷ letter 59
    ∷ binary 54 7 17 18
    ∷ letter 64
    ∷ letter 68
    ∷ binary 64 5 20 21
    ∷ letter 72
    ∷ letter 76
    ∷ binary 72 3 23 24
    ∷ letter 80
    ∷ binary 72 2 25 26
    ∷ letter 84
    ∷ binary 72 1 27 28
    ∷ binary 64 4 22 29
    ∷ binary 54 6 19 30
    ∷ binary 36 8 16 31
    ∷ binary 26 12 9 32
    ∷ binary 22 16 6 33
    ∷ binary 18 17 5 34
    ∷ binary 14 18 4 35
    ∷ binary 9 14 3 36
    ∷ binary 4 15 2 37
    ∷ here 21 0 1 38 0 0
    ∷ item 37 39 0
    ∷ here 26 0 40 0 0 0
    ∷ here 31 0 1 0 0 41
    ∷ [])
unfolding entered records_of rows_of
rising_chain = refl

-- and none tighter than the one before it: the chain groups to the left
falling_chain : Rows (ascii "x = a * b / c % d + e - f << g >> h <= i < j >= k > l == m != n & o ^ p | q && r || s;")
    (letter 0
    ∷ letter 4
    ∷ letter 8
    ∷ binary 4 1 2 3
    ∷ letter 12
    ∷ binary 4 2 4 5
    ∷ letter 16
    ∷ binary 4 3 6 7
    ∷ letter 20
    ∷ binary 4 4 8 9
    ∷ letter 24
    ∷ binary 4 5 10 11
    ∷ letter 29
    ∷ binary 4 6 12 13
    ∷ letter 34
    ∷ binary 4 7 14 15
    ∷ letter 39
    ∷ binary 4 8 16 17
    ∷ letter 43
    ∷ binary 4 9 18 19
    ∷ letter 48
    ∷ binary 4 10 20 21
    ∷ letter 52
    ∷ binary 4 11 22 23
    ∷ letter 57
    ∷ binary 4 12 24 25
    ∷ letter 62
    ∷ binary 4 13 26 27
    ∷ letter 66
    ∷ binary 4 16 28 29
    ∷ letter 70
    ∷ binary 4 17 30 31
    ∷ letter 74
    ∷ binary 4 18 32 33
    ∷ letter 79
    ∷ binary 4 14 34 35
    ∷ letter 84
    ∷ binary 4 15 36 37
    ∷ here 21 0 1 38 0 0
    ∷ item 37 39 0
    ∷ here 26 0 40 0 0 0
    ∷ here 31 0 1 0 0 41
    ∷ [])
unfolding entered records_of rows_of
falling_chain = refl

-- "FunId and ClassId are kept apart though one counter serves both": the inner lambda's id first, then the function's, then the unit's
function_ids : Rows (ascii "fun f(a) { x = |b| b; }")
    (item 34 458758 0
    ∷ letter 11
    ∷ item 34 1114128 0
    ∷ letter 19
    ∷ here 22 15 4 0 0 0
    ∷ here 31 15 1 0 3 5
    ∷ here 12 15 6 0 0 0
    ∷ here 21 11 2 7 0 0
    ∷ item 37 8 0
    ∷ here 26 9 9 0 0 0
    ∷ here 31 0 2 327684 1 10
    ∷ here 12 0 11 0 0 0
    ∷ here 29 0 0 327684 12 0
    ∷ item 37 13 0
    ∷ here 26 0 14 0 0 0
    ∷ here 31 0 3 0 0 15
    ∷ [])
unfolding entered records_of rows_of
function_ids = refl

-- the methods' ids, then the class's
class_ids : Rows (ascii "class A { m() {} n(a) {} }")
    (here 26 14 0 0 0 0
    ∷ here 31 10 1 720906 0 1
    ∷ item 38 2 0
    ∷ item 34 1310739 0
    ∷ here 26 22 0 0 0 0
    ∷ here 31 17 2 1179665 4 5
    ∷ item 38 6 3
    ∷ here 32 0 3 458758 0 7
    ∷ here 30 0 8 0 0 0
    ∷ item 37 9 0
    ∷ here 26 0 10 0 0 0
    ∷ here 31 0 4 0 0 11
    ∷ [])
unfolding entered records_of rows_of
class_ids = refl

-- a minus stands at its operand, a bang at its sign; each takes one operand, not the chain behind it
prefix_rows : Rows (ascii "x = -a * !(b + c);")
    (letter 0
    ∷ letter 5
    ∷ here 16 5 1 2 0 0
    ∷ letter 11
    ∷ letter 15
    ∷ binary 11 4 4 5
    ∷ here 16 9 2 6 0 0
    ∷ binary 5 1 3 7
    ∷ here 21 0 1 8 0 0
    ∷ item 37 9 0
    ∷ here 26 0 10 0 0 0
    ∷ here 31 0 1 0 0 11
    ∷ [])
unfolding entered records_of rows_of
prefix_rows = refl

-- "A negated literal is a second record": an int in two's complement, a float with its minus mark
negated_rows : Rows (ascii "x = -1 + - -2.5;")
    (letter 0
    ∷ here 4 5 1 0 0 0
    ∷ here 4 5 4294967295 4294967295 0 0
    ∷ here 5 12 983052 0 0 0
    ∷ here 5 12 983052 1 0 0
    ∷ here 5 12 983052 0 0 0
    ∷ binary 5 4 3 6
    ∷ here 21 0 1 7 0 0
    ∷ item 37 8 0
    ∷ here 26 0 9 0 0 0
    ∷ here 31 0 1 0 0 10
    ∷ [])
unfolding entered records_of rows_of
negated_rows = refl

-- test, then, else; at the whole test
choice_rows : Rows (ascii "x = a + b ? c : d;")
    (letter 0
    ∷ letter 4
    ∷ letter 8
    ∷ binary 4 4 2 3
    ∷ letter 12
    ∷ letter 16
    ∷ here 18 4 4 5 6 0
    ∷ here 21 0 1 7 0 0
    ∷ item 37 8 0
    ∷ here 26 0 9 0 0 0
    ∷ here 31 0 1 0 0 10
    ∷ [])
unfolding entered records_of rows_of
choice_rows = refl

-- an implied `true` before its item, at the dictionary's position; a key is a span
dictionary_rows : Rows (ascii "x = {a, 'b': 1};")
    (letter 0
    ∷ here 1 4 0 0 0 0
    ∷ row 35 0 0 0 2 0 393221 0
    ∷ here 4 13 1 0 0 0
    ∷ row 35 0 0 0 4 3 720904 0
    ∷ here 9 4 5 0 0 0
    ∷ here 21 0 1 6 0 0
    ∷ item 37 7 0
    ∷ here 26 0 8 0 0 0
    ∷ here 31 0 1 0 0 9
    ∷ [])
unfolding entered records_of rows_of
dictionary_rows = refl

-- the inner lambda's id first; an implied return at its `|`
lambda_rows : Rows (ascii "x = || |b| b;")
    (letter 0
    ∷ item 34 589832 0
    ∷ letter 11
    ∷ here 22 7 3 0 0 0
    ∷ here 31 7 1 0 2 4
    ∷ here 12 7 5 0 0 0
    ∷ here 22 4 6 0 0 0
    ∷ here 31 4 2 0 0 7
    ∷ here 12 4 8 0 0 0
    ∷ here 21 0 1 9 0 0
    ∷ item 37 10 0
    ∷ here 26 0 11 0 0 0
    ∷ here 31 0 3 0 0 12
    ∷ [])
unfolding entered records_of rows_of
lambda_rows = refl

-- `var` has its mark and no global number; the numbers count from 0
declaration_rows : Rows (ascii "let a = 1; let var b = 2; let c = 3;")
    (here 4 8 1 0 0 0
    ∷ here 29 0 0 327684 1 0
    ∷ item 36 2 0
    ∷ here 4 23 2 0 0 0
    ∷ here 29 11 1 1310739 4 0
    ∷ item 37 5 3
    ∷ here 4 34 3 0 0 0
    ∷ here 29 26 0 2031646 7 0
    ∷ row 36 0 0 0 8 6 1 0
    ∷ here 26 0 9 0 0 0
    ∷ here 31 0 1 0 0 10
    ∷ [])
unfolding entered records_of rows_of
declaration_rows = refl

-- a class with its parent, before a unit's function
parent_rows : Rows (ascii "class A extends B {}")
    (here 32 0 1 458758 1114128 0
    ∷ here 30 0 1 0 0 0
    ∷ item 37 2 0
    ∷ here 26 0 3 0 0 0
    ∷ here 31 0 2 0 0 4
    ∷ [])
unfolding entered records_of rows_of
parent_rows = refl

-- first part, test, third part, body; the 1 of `++` at its target
loop_rows : Rows (ascii "for (a = b; c; ++d) { break; continue; }")
    (letter 5
    ∷ letter 9
    ∷ here 21 5 1 2 0 0
    ∷ letter 12
    ∷ letter 17
    ∷ here 4 17 1 0 0 0
    ∷ binary 17 4 5 6
    ∷ here 21 15 5 7 0 0
    ∷ here 24 22 0 0 0 0
    ∷ item 37 9 0
    ∷ here 25 29 0 0 0 0
    ∷ item 37 11 10
    ∷ here 26 20 12 0 0 0
    ∷ here 28 0 3 4 8 13
    ∷ item 37 14 0
    ∷ here 26 0 15 0 0 0
    ∷ here 31 0 1 0 0 16
    ∷ [])
unfolding entered records_of rows_of
loop_rows = refl

-- test, then, else; the binary of `op=` at the target
if_rows : Rows (ascii "if (a) b -= c; else {}")
    (letter 4
    ∷ letter 7
    ∷ letter 12
    ∷ binary 7 5 2 3
    ∷ here 21 7 2 4 0 0
    ∷ here 26 20 0 0 0 0
    ∷ here 27 0 1 5 6 0
    ∷ item 37 7 0
    ∷ here 26 0 8 0 0 0
    ∷ here 31 0 1 0 0 9
    ∷ [])
unfolding entered records_of rows_of
if_rows = refl

-- the unit stands past the blanks, on the second line here
late_unit_rows : Rows (ascii "\n  a.b[c] = $d;")
    (row 10 3 2 3 262147 0 0 0
    ∷ row 14 4 2 4 1 393221 0 0
    ∷ row 10 7 2 7 524295 0 0 0
    ∷ row 13 6 2 6 2 3 0 0
    ∷ row 11 12 2 12 917517 0 0 0
    ∷ row 21 3 2 3 4 5 0 0
    ∷ item 37 6 0
    ∷ row 26 3 2 3 7 0 0 0
    ∷ row 31 3 2 3 1 0 0 8
    ∷ [])
unfolding entered records_of rows_of
late_unit_rows = refl

-- the operator of each binary among the rows
unfoldable operators_in : List (List ℕ) → List ℕ
operators_in [] = []
operators_in (r ∷ rs) = elim (eqb (get_or r 0 0) 17) [ true ↦ get_or r 4 0 ∷ operators_in rs | false ↦ operators_in rs ]

-- "`a op= b` is `a = a op b`, `++a` is `a = a + 1`", by the operator's number
signs_of_assignment :
    operators_in (rows_of (records_of (unit (ascii "a <<= b; a >>= b; a *= b; a /= b; a %= b; a += b; a -= b; a &= b; a ^= b; a |= b; ++a; --a;") 256).events))
    ≡ 6 ∷ 7 ∷ 1 ∷ 2 ∷ 3 ∷ 4 ∷ 5 ∷ 16 ∷ 17 ∷ 18 ∷ 4 ∷ 5 ∷ []
unfolding entered records_of rows_of operators_in
signs_of_assignment = refl

-- ---- answers

-- 30 after several names: "newest first, up to the first equal"
duplicates :
    Answers (ascii "x = {a, b, a};") (says 30 1 13 5 3)
    × Answers (ascii "x = {a, b, b};") (says 30 1 13 5 2)
    × Answers (ascii "fun f(a, b, b) {}") (says 30 1 14 2 2)
    × Answers (ascii "fun f() {} fun g() {} fun f() {}") (says 30 1 23 14 3)
    × Answers (ascii "class A {} class B {} class A {}") (says 30 1 23 6 3)
    × Answers (ascii "class A { m() {} n() {} m() {} }") (says 30 1 26 6 3)
unfolding entered records_of comparisons_of
duplicates = (refl, refl, refl, refl, refl, refl)

-- 25 before the pending binary, 28 after `else`; plus adds no record, each minus one; an index is a target; `nil` is implied; 10 after
-- blanks; past the end the column moves
refusals :
    Answers (ascii "f(a + b = 1);") (says 25 1 9 3 0)
    × Answers (ascii "if (a) {} else let b = 1;") (says 28 1 16 4 0)
    × Answers (ascii "x = +2;") (says 0 1 8 6 0)
    × Answers (ascii "x = - -2;") (says 0 1 10 8 0)
    × Answers (ascii "a[1] = 2;") (says 0 1 10 8 0)
    × Answers (ascii "return;") (says 0 1 8 5 0)
    × Answers (ascii "f(1  ") (says 10 1 6 3 0)
    × Answers (ascii "x = \"\\") (says 20 1 8 1 0)
unfolding entered records_of comparisons_of
refusals = (refl, refl, refl, refl, refl, refl, refl, refl)

-- 6 and 5 where the Rust has come to
places :
    Pooled 3 (ascii "x = a + b   + c;") (says 6 1 14 3 0)
    × Pooled 3 (ascii "x = a + b  ? c : d;") (says 6 1 13 3 0)
    × Pooled 4 (ascii "x = a ? b : c  ;") (says 6 1 16 4 0)
    × Pooled 1 (ascii "x = {a  };") (says 6 1 9 1 0)
    × Nested 1 (ascii "for (;  a;) {}") (says 5 1 9 0 0)
unfolding entered records_of comparisons_of
places = (refl, refl, refl, refl, refl)

-- 7 where "one more .. comparison would pass its limit"
comparison_limits :
    Compared 1 (ascii "x = {a, b, c};") (says 7 1 13 5 1)
    × Compared 2 (ascii "x = {a, b, c};") (says 7 1 13 5 2)
    × Compared 3 (ascii "x = {a, b, c};") (says 0 1 15 12 3)
unfolding entered records_of comparisons_of
comparison_limits = (refl, refl, refl)

-- "Places count characters": `x = "é" + ;` in UTF-8
characters_are_counted : Answers (ascii "x = \"" ++ (195 ∷ 169 ∷ ascii "\" + ;")) (says 13 1 11 2 0)
unfolding entered records_of comparisons_of
characters_are_counted = refl

-- so many times a byte and another
unfoldable times : ℕ → ℕ → ℕ → Text
times zero a b = []
times (suc n) a b = a ∷ b ∷ times n a b

-- a call with one argument more: each is `1`
abbrev calling : ℕ → Text
calling n = ascii "f(" ++ (times n 49 44 ++ ascii "1);")

-- "Arguments: at most 254"
arguments : Answers (calling 253) (says 0 1 512 514 0) × Answers (calling 254) (says 31 1 513 511 0)
unfolding entered records_of comparisons_of times
arguments = (refl, refl)

-- 65,536 bytes are 1 before nesting 0 is 2; 65,535 aren't
too_long :
    (answer_of (entered (times 32768 32 32) 1024 0 0 false) ≡ says 1 0 0 0 0)
    × (answer_of (entered (32 ∷ times 32767 32 32) 1024 0 0 false) ≡ says 2 0 0 0 0)
unfolding entered records_of comparisons_of times
too_long = (refl, refl)
