-- Expressions read by the definitions, by computation. Assumes nothing.
use Rattle.std.specs.Prelude.{◌≡◌, refl, List, [], ◌∷◌, ℕ, ◌+◌}
use Rattle.characters.specs.declared.place.Place.{Place}
use Rattle.characters.specs.Text.{Text, ascii, next, past, start, tails}
use Rattle.characters.specs.Blanks.{blanks, pass}
use Rattle.characters.specs.Names.{along, name, same, numbered, word_of}
use Rattle.characters.specs.Tokens.{spells, token, expected}
use Rattle.literals.specs.Numbers.{number, decimal, digits, run, past_digits, dotted, fraction, exponent_or, exponent, whole, based, digit_of}
use Rattle.literals.specs.Strings.{among, decode, escape, hex_by, key_of, letter_of, same_key, scan, string, value_in, width_in}
use Rattle.reading.specs.declared.answer.Answer.{Answer}
use Rattle.reading.specs.Answers.{answer_of}
use Rattle.reading.specs.Events.{Rec, Outcome, records_of, comparisons_of}
use Rattle.reading.specs.Limits.{limited}
use Rattle.reading.specs.Process.{reading, call}
use Rattle.records.specs.declared.kind.Kind.{Kind}
use Rattle.records.specs.declared.kind.Kind.TheVariants as kinds
use Rattle.records.specs.declared.row.Row.{Row}
use Rattle.records.specs.Rows.{record_of}
use Rattle.records.specs.Words.{span_word}
use Rattle.grammar.specs.Operators.{first_of, any_of, is_assignment}
use Rattle.grammar.specs.Leaves.{row_of, leaf_row, prefix_of, atom_of, postfix_of, link_of, close_of, follow_of, key_at}
use Rattle.grammar.specs.Expressions.{expression}
use Rattle.grammar.specs.Grammar.{grammar}

-- an expression at the start of a text, with a nesting limit, 100 records and 100 comparisons
unfoldable pub read : Text → ℕ → Outcome
unfolding reading grammar blanks pass past name along word_of numbered same number decimal digits run past_digits dotted fraction exponent_or exponent whole based digit_of string scan escape spells token expected first_of any_of is_assignment close_of follow_of key_at prefix_of atom_of postfix_of link_of
read s nest = reading (grammar s) (limited nest 100 100) (call expression start)

abbrev says : ℕ → ℕ → ℕ → ℕ → ℕ → Answer
says number line column records comparisons = record { number = number; line = line; column = column; records = records; comparisons = comparisons }

-- a place in the first line
abbrev at : ℕ → Place
at k = record { offset = k; line = 1; column = k + 1 }

-- a row that holds a span of the text
abbrev span_row : Kind → Place → ℕ → ℕ → Row
span_row k p from to = row_of k p (span_word from to) 0 0

-- a name of so many letters
abbrev named : ℕ → ℕ → Rec
named k n = record_of (span_row kinds.Name (at k) k (k + n))

-- THE KEY of a page. `child + "/" + week == nil` is the test of the choice: the sum is compared, and then chosen by.
abbrev key : Text
key = ascii "child + \"/\" + week == nil ? \"now\" : week"

key_is_drawn : records_of (read key 64).events
    ≡ named 0 5
    ∷ record_of (span_row kinds.String (at 8) 8 11)
    ∷ record_of (row_of kinds.Binary (at 0) 4 1 2)
    ∷ named 14 4
    ∷ record_of (row_of kinds.Binary (at 0) 4 3 4)
    ∷ record_of (row_of kinds.Nil (at 22) 0 0 0)
    ∷ record_of (row_of kinds.Binary (at 0) 12 5 6)
    ∷ record_of (span_row kinds.String (at 28) 28 33)
    ∷ named 36 4
    ∷ record_of (row_of kinds.Choice (at 0) 7 8 9)
    ∷ []
unfolding read records_of
key_is_drawn = refl

-- ---- examples of document 01, each the value of its `x = ..;`: columns are less by four, records by one

-- a nested choice: `a ? b : c ? d : e` "nests right"
choice_nests_right : records_of (read (ascii "a ? b : c ? d : e;") 64).events
    ≡ named 0 1
    ∷ named 4 1
    ∷ named 8 1
    ∷ named 12 1
    ∷ named 16 1
    ∷ record_of (row_of kinds.Choice (at 8) 3 4 5)
    ∷ record_of (row_of kinds.Choice (at 0) 1 2 6)
    ∷ []
unfolding read records_of
choice_nests_right = refl

-- each answer: number, line, column, records, comparisons
answers : List Answer
unfolding read records_of comparisons_of same_key key_of decode value_in width_in letter_of among hex_by next tails
answers =
    answer_of (read (ascii "9223372036854775807;") 64)
    ∷ answer_of (read (ascii "-9223372036854775808;") 64)
    ∷ answer_of (read (ascii "0x8000000000000000;") 64)
    ∷ answer_of (read (ascii "a ? b : c = d;") 64)
    ∷ answer_of (read (ascii "{\"a\": 1, a: 2};") 64)
    ∷ answer_of (read (ascii "\"\\x80\";") 64)
    ∷ answer_of (read (ascii "a. b();") 64)
    ∷ answer_of (read (ascii "f(1);") 1)
    ∷ []

values_as_01_says : answers
    ≡ says 0 1 20 1 0
    ∷ says 14 1 21 0 0
    ∷ says 14 1 19 0 0
    ∷ says 25 1 11 3 0
    ∷ says 30 1 11 2 1
    ∷ says 20 1 6 0 0
    ∷ says 11 1 3 1 0
    ∷ says 5 1 3 1 0
    ∷ []
unfolding answers
values_as_01_says = refl

-- `-(5)`: the literal, and the negated one at its position
negated : records_of (read (ascii "-(5);") 64).events
    ≡ record_of (leaf_row kinds.Int (at 2) 5) ∷ record_of (leaf_row kinds.Int (at 2) 18446744073709551611) ∷ []
unfolding read records_of
negated = refl
