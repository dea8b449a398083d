-- Strings by computing: each escape and each way to be refused, asked for at 1:1. The answers are those of the Rust. Assumes nothing.
use Rattle.std.specs.Prelude.{◌≡◌, refl, true, false, [], ◌∷◌, ◌++◌, ℕ}
use Rattle.characters.specs.declared.refusal.Refusal.TheVariants.{EndOfInput, BadStringEscape}
use Rattle.characters.specs.Text.{Text, ascii, past, tails, next, start}
use Rattle.characters.specs.Utf8.{table, fits, row_in, sequence_of, bits, value_of, char_of}
use Rattle.characters.specs.Names.{same}
use Rattle.literals.specs.Numbers.{digit_of}
use Rattle.literals.specs.Strings.{letter_of, among, hex_by, closing, digits, unicode, escape, scan, string, value_in, width_in, decode, decoded, key_of, same_key}
use Rattle.characters.specs.Answers.{Must, failed, taken}

-- a literal that is read up to an offset, a line and a column
abbrev up_to : ℕ → ℕ → ℕ → Must
up_to o l c = taken start (record { offset = o; line = l; column = c })

-- 19 and 20 there
abbrev ends : ℕ → ℕ → ℕ → Must
ends o l c = failed EndOfInput (record { offset = o; line = l; column = c })

abbrev wrong : ℕ → ℕ → ℕ → Must
wrong o l c = failed BadStringEscape (record { offset = o; line = l; column = c })

abbrev Reads : Text → Must → Type 0
Reads t r = string t start ≡ r

-- the quotes
quotes :
    Reads (ascii "\"\"") (up_to 2 1 3)
    × Reads (ascii "''x") (up_to 2 1 3)
    × Reads (ascii "\"a'b\"") (up_to 5 1 6)
    × Reads (ascii "\"a") (ends 2 1 3)
    × Reads (ascii "\"a'") (ends 3 1 4)
    × Reads (ascii "") (ends 0 1 1)
unfolding digit_of letter_of among hex_by closing digits unicode escape scan string past tails next
quotes = (refl, refl, refl, refl, refl, refl)

-- any character may stand in a string; places count characters
raw :
    Reads (ascii "\"a\nb\"") (up_to 5 2 3)
    × Reads (ascii "\"\t\"") (up_to 3 1 4)
    × Reads (ascii "\"" ++ (195 ∷ 169 ∷ []) ++ ascii "\"") (up_to 4 1 4)
    × Reads (ascii "\"" ++ (240 ∷ 159 ∷ 152 ∷ 128 ∷ []) ++ (195 ∷ 169 ∷ []) ++ ascii "\"") (up_to 8 1 5)
    × Reads (ascii "\"//\"") (up_to 4 1 5)
unfolding digit_of letter_of among hex_by closing digits unicode escape scan string past tails next
raw = (refl, refl, refl, refl, refl)

-- the short escapes
short :
    Reads (ascii "\"\\\\\\'\\\"\\t\\r\\n\\0\"") (up_to 16 1 17)
    × Reads (ascii "\"\\a\"") (wrong 3 1 4)
    × Reads (ascii "\"\\\n\"") (wrong 3 2 1)
    × Reads (ascii "\"\\" ++ (195 ∷ 169 ∷ []) ++ ascii "\"") (wrong 4 1 4)
    × Reads (ascii "\"\\") (wrong 2 1 4)
unfolding digit_of letter_of among hex_by closing digits unicode escape scan string past tails next
short = (refl, refl, refl, refl, refl)

-- `\x`: two characters are always taken
hex :
    Reads (ascii "\"\\x41\"") (up_to 6 1 7)
    × Reads (ascii "\"\\x7F\"") (up_to 6 1 7)
    × Reads (ascii "\"\\x80\"") (wrong 5 1 6)
    × Reads (ascii "\"\\x\";") (wrong 5 1 6)
    × Reads (ascii "\"\\x") (wrong 3 1 6)
    × Reads (ascii "\"\\x4") (wrong 4 1 6)
    × Reads (ascii "\"\\x4\n\"") (wrong 5 2 1)
    × Reads (ascii "\"\\x" ++ (195 ∷ 169 ∷ []) ++ ascii "4\"") (wrong 6 1 6)
    × Reads (ascii "\"\\x4g\"") (wrong 5 1 6)
unfolding digit_of letter_of among hex_by closing digits unicode escape scan string past tails next
hex = (refl, refl, refl, refl, refl, refl, refl, refl, refl)

-- `\u{}`
brace :
    Reads (ascii "\"\\u{41}\"") (up_to 8 1 9)
    × Reads (ascii "\"\\u{10FFFF}\"") (up_to 12 1 13)
    × Reads (ascii "\"\\u{110000}\"") (wrong 11 1 12)
    × Reads (ascii "\"\\u{000041}\"") (up_to 12 1 13)
    × Reads (ascii "\"\\u{0000041}\"") (wrong 10 1 11)
    × Reads (ascii "\"\\u{D7FF}\"") (up_to 10 1 11)
    × Reads (ascii "\"\\u{D800}\"") (wrong 9 1 10)
    × Reads (ascii "\"\\u{DFFF}\"") (wrong 9 1 10)
    × Reads (ascii "\"\\u{E000}\"") (up_to 10 1 11)
    × Reads (ascii "\"\\u41\"") (wrong 3 1 4)
    × Reads (ascii "\"\\u") (wrong 3 1 4)
    × Reads (ascii "\"\\u{}\"") (wrong 4 1 5)
    × Reads (ascii "\"\\u{") (wrong 4 1 5)
    × Reads (ascii "\"\\u{41\"") (wrong 6 1 7)
    × Reads (ascii "\"\\u{41") (wrong 6 1 7)
unfolding digit_of letter_of among hex_by closing digits unicode escape scan string past tails next
brace = (refl, refl, refl, refl, refl, refl, refl, refl, refl, refl, refl, refl, refl, refl, refl)

-- ---- decoded characters

decoded_raw : decoded (ascii "a " ++ (195 ∷ 169 ∷ []) ++ (240 ∷ 159 ∷ 152 ∷ 128 ∷ [])) ≡ 97 ∷ 32 ∷ 233 ∷ 128512 ∷ []
unfolding digit_of letter_of among hex_by closing digits unicode escape value_in width_in decode table fits row_in sequence_of bits value_of char_of
decoded_raw = refl

decoded_short : decoded (ascii "\\\\\\'\\\"\\t\\r\\n\\0") ≡ 92 ∷ 39 ∷ 34 ∷ 9 ∷ 13 ∷ 10 ∷ 0 ∷ []
unfolding digit_of letter_of among hex_by closing digits unicode escape value_in width_in decode table fits row_in sequence_of bits value_of char_of
decoded_short = refl

decoded_long : decoded (ascii "\\x41\\u{1F600}b") ≡ 65 ∷ 128512 ∷ 98 ∷ []
unfolding digit_of letter_of among hex_by closing digits unicode escape value_in width_in decode table fits row_in sequence_of bits value_of char_of
decoded_long = refl

decoded_wrong : decoded (ascii "\\q") ≡ 92 ∷ 113 ∷ []
unfolding digit_of letter_of among hex_by closing digits unicode escape value_in width_in decode table fits row_in sequence_of bits value_of char_of
decoded_wrong = refl

-- "Values compare by decoded characters"

key_name : same_key (ascii "\"\\x61\" a 'b' \"\\u{e9}\" " ++ (195 ∷ 169 ∷ [])) (record { from = 0; to = 6 }) (record { from = 7; to = 8 }) ≡ true
unfolding digit_of letter_of among hex_by closing digits unicode escape value_in width_in decode table fits row_in sequence_of bits value_of char_of key_of same_key same
key_name = refl

key_other : same_key (ascii "\"\\x61\" a 'b' \"\\u{e9}\" " ++ (195 ∷ 169 ∷ [])) (record { from = 0; to = 6 }) (record { from = 9; to = 12 }) ≡ false
unfolding digit_of letter_of among hex_by closing digits unicode escape value_in width_in decode table fits row_in sequence_of bits value_of char_of key_of same_key same
key_other = refl
