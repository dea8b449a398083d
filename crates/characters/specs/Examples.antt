-- Examples of the rules, by computation. Assumes nothing.
use Rattle.std.specs.Prelude.{◌≡◌, refl, [], ◌∷◌, ◌++◌, ℕ, ◌+◌}
use Rattle.characters.specs.declared.place.Place.{Place}
use Rattle.characters.specs.declared.refusal.Refusal.TheVariants.{EndOfInput, ExpectedIdentifier, ExpectedToken, ReservedWord}
use Rattle.characters.specs.Answers.{taken, failed, found, missing}
use Rattle.characters.specs.Text.{Text, ascii, start, past, next, tails}
use Rattle.characters.specs.Blanks.{pass, blanks, line_end, file_start}
use Rattle.characters.specs.Names.{name, along, free_name, same, numbered, word_of}
use Rattle.characters.specs.Tokens.{spells, token, keyword, expected}

-- a place in the first line, with no character of several bytes before it
abbrev at : ℕ → Place
at k = record { offset = k; line = 1; column = k + 1 }

-- `é` as its two bytes
abbrev e_acute : Text
e_acute = 195 ∷ 169 ∷ []

-- ---- steps

-- one character of two bytes moves the column by one
one_character : next e_acute start ≡ record { offset = 2; line = 1; column = 2 }
unfolding next past tails
one_character = refl

-- LF starts a line
line_feed : next (10 ∷ []) start ≡ record { offset = 1; line = 2; column = 1 }
unfolding next past tails
line_feed = refl

-- past the end the column still moves
past_the_end : next [] start ≡ record { offset = 0; line = 1; column = 2 }
unfolding next
past_the_end = refl

-- ---- blanks

-- space, tab, LF, FF, CR
all_blanks : blanks (32 ∷ 9 ∷ 12 ∷ 13 ∷ 10 ∷ 120 ∷ []) start ≡ taken start (record { offset = 5; line = 2; column = 1 })
unfolding blanks pass past
all_blanks = refl

-- not VT
vertical_tab : blanks (11 ∷ []) start ≡ taken start start
unfolding blanks pass past
vertical_tab = refl

-- `//` to line end, at LF alone
line_comment : blanks (ascii "//x" ++ (13 ∷ 10 ∷ []) ++ ascii "y") start ≡ taken start (record { offset = 5; line = 2; column = 1 })
unfolding blanks pass past
line_comment = refl

-- nested `/* */`
nested : blanks (ascii "/*/**/*/y") start ≡ taken start (at 8)
unfolding blanks pass past
nested = refl

-- `/*//*/` is not closed: the inner `/*` nests
inner_opens : blanks (ascii "/*//*/") start ≡ failed EndOfInput (at 6)
unfolding blanks pass past
inner_opens = refl

-- `/*/ */` is one comment
not_at_once : blanks (ascii "/*/ */") start ≡ taken start (at 6)
unfolding blanks pass past
not_at_once = refl

-- a character of two bytes in a comment is one column
comment_columns : blanks (ascii "/*" ++ e_acute ++ ascii "*/") start ≡ taken start (record { offset = 6; line = 1; column = 6 })
unfolding blanks pass past
comment_columns = refl

-- a line that opens with `#!` is skipped in file form
first_line : file_start (ascii "#!x" ++ (10 ∷ []) ++ ascii "y") ≡ record { offset = 4; line = 2; column = 1 }
unfolding file_start line_end past
first_line = refl

-- ---- names

a_name : name (ascii "_a1 b") start ≡ taken start (at 3)
unfolding name along past
a_name = refl

no_name : name (ascii "1a") start ≡ failed ExpectedIdentifier start
unfolding name along past
no_name = refl

reserved_name : free_name (ascii "in") start ≡ failed ReservedWord start
unfolding free_name name along past word_of numbered same
reserved_name = refl

one_letter_more : free_name (ascii "inn") start ≡ taken start (at 3)
unfolding free_name name along past word_of numbered same
one_letter_more = refl

-- `from` is no reserved word
from_is_free : free_name (ascii "from") start ≡ taken start (at 4)
unfolding free_name name along past word_of numbered same
from_is_free = refl

last_of_28 : word_of (ascii "export") ≡ 28
unfolding word_of numbered same
last_of_28 = refl

-- ---- tokens and keywords

a_token : token (ascii " ++a") start (ascii "++") ≡ found (at 1) (at 3)
unfolding token blanks pass past spells
a_token = refl

a_keyword : keyword (ascii " break;") start (ascii "break") ≡ found (at 1) (at 6)
unfolding keyword blanks pass past spells
a_keyword = refl

before_a_digit : keyword (ascii " break1") start (ascii "break") ≡ missing (at 1)
unfolding keyword blanks pass past spells
before_a_digit = refl

-- 10 comes after the blanks
not_there : expected (ascii " a") start (ascii ";") ≡ failed ExpectedToken (at 1)
unfolding expected token blanks pass past spells
not_there = refl

unclosed : token (ascii "/*") start (ascii ";") ≡ failed EndOfInput (at 2)
unfolding token blanks pass past spells
unclosed = refl
