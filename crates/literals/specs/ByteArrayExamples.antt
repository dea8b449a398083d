-- Bytearrays by computing: each run and each way to be refused, the place 1:1 being past `#[`. The answers are those of the Rust. Assumes nothing.
use Rattle.std.specs.Prelude.{◌≡◌, refl, List, [], ◌∷◌, ◌++◌, ℕ}
use Rattle.characters.specs.declared.refusal.Refusal.TheVariants.{EndOfInput, BadByteArray}
use Rattle.characters.specs.Text.{Text, ascii, past, tails, next, start}
use Rattle.characters.specs.Blanks.{pass, blanks}
use Rattle.literals.specs.Numbers.{digit_of}
use Rattle.literals.specs.Strings.{letter_of, among}
use Rattle.literals.specs.ByteArrays.{opening, outside, between, mark, slash, line_end, printed, ascii as asciiRun, is_alphanumeric, pair, hex, bit_of, bits, eight, binary, step, Contents, shut, halted, read, contents}

-- the bytes of an array that is read up to an offset, a line and a column
abbrev taken : ℕ → ℕ → ℕ → List ℕ → Contents
taken o l c bytes = shut (record { offset = o; line = l; column = c }) bytes

-- 19 and 21 there
abbrev ends : ℕ → ℕ → ℕ → Contents
ends o l c = halted EndOfInput (record { offset = o; line = l; column = c })

abbrev wrong : ℕ → ℕ → ℕ → Contents
wrong o l c = halted BadByteArray (record { offset = o; line = l; column = c })

abbrev Reads : Text → Contents → Type 0
Reads t r = contents t start ≡ r

-- the frame
frame :
    Reads (ascii "]") (taken 1 1 2 ([]))
    × Reads (ascii " \n /* c */ // d\n]") (taken 17 3 2 ([]))
    × Reads (ascii " ") (ends 1 1 2)
    × Reads (ascii "/* ") (ends 3 1 4)
    × Reads (ascii "a]") (wrong 1 1 2)
    × Reads ((195 ∷ 169 ∷ []) ++ ascii "]") (wrong 2 1 2)
    × Reads (ascii "\\c]") (wrong 2 1 3)
    × Reads (ascii "\\") (wrong 1 1 3)
unfolding digit_of letter_of among pass blanks past tails next opening outside between mark slash line_end printed asciiRun is_alphanumeric pair hex bit_of bits eight binary step read contents
frame = (refl, refl, refl, refl, refl, refl, refl, refl)

-- `\a`: "spaces after `\a` are content"
ascii_runs :
    Reads (ascii "\\a hi]") (taken 6 1 7 (32 ∷ 104 ∷ 105 ∷ []))
    × Reads (ascii "\\a hi ]") (taken 7 1 8 (32 ∷ 104 ∷ 105 ∷ 32 ∷ []))
    × Reads (ascii "\\a\th]") (wrong 2 1 3)
    × Reads (ascii "\\a\\\\\\'\\\"\\t\\r\\n\\0]") (taken 17 1 18 (92 ∷ 39 ∷ 34 ∷ 9 ∷ 13 ∷ 10 ∷ 0 ∷ []))
    × Reads (ascii "\\a\\q]") (wrong 4 1 5)
    × Reads (ascii "\\aa\\ab]") (wrong 5 1 6)
    × Reads (ascii "\\aab\r\n \\acd]") (taken 12 2 7 (97 ∷ 98 ∷ 99 ∷ 100 ∷ []))
    × Reads (ascii "\\aab \n]") (wrong 5 1 6)
    × Reads (ascii "\\x20\\a\n]") (wrong 6 1 7)
    × Reads (ascii "\\ahi //c\n]") (taken 10 2 2 (104 ∷ 105 ∷ 32 ∷ []))
    × Reads (ascii "\\ahi/*c*/\\x41]") (taken 14 1 15 (104 ∷ 105 ∷ 65 ∷ []))
    × Reads (ascii "\\aa/b]") (taken 6 1 7 (97 ∷ 47 ∷ 98 ∷ []))
    × Reads (ascii "\\aa\\x41\\b01000001]") (taken 18 1 19 (97 ∷ 65 ∷ 65 ∷ []))
    × Reads (ascii "\\aa" ++ (12 ∷ []) ++ ascii "]") (taken 5 1 6 (97 ∷ []))
    × Reads (ascii "\\aa" ++ (0 ∷ []) ++ ascii "]") (wrong 4 1 5)
    × Reads (ascii "\\aa" ++ (127 ∷ []) ++ ascii "]") (wrong 4 1 5)
    × Reads (ascii "\\a" ++ (195 ∷ 169 ∷ []) ++ ascii "]") (wrong 4 1 4)
    × Reads (ascii "\\aab") (ends 4 1 5)
unfolding digit_of letter_of among pass blanks past tails next opening outside between mark slash line_end printed asciiRun is_alphanumeric pair hex bit_of bits eight binary step read contents
ascii_runs = (refl, refl, refl, refl, refl, refl, refl, refl, refl, refl, refl, refl, refl, refl, refl, refl, refl, refl)

-- `\x`: two characters are taken
hex_runs :
    Reads (ascii "\\x 41 4a/**/fF]") (taken 15 1 16 (65 ∷ 74 ∷ 255 ∷ []))
    × Reads (ascii "\\x zz]") (wrong 5 1 6)
    × Reads (ascii "\\x4]") (wrong 4 1 5)
    × Reads (ascii "\\x4") (wrong 3 1 5)
    × Reads (ascii "\\x1\n]") (wrong 4 2 1)
    × Reads (ascii "\\x1" ++ (195 ∷ 169 ∷ []) ++ ascii "]") (wrong 5 1 5)
    × Reads (ascii "\\x41,]") (wrong 5 1 6)
    × Reads (ascii "\\x]") (taken 3 1 4 ([]))
unfolding digit_of letter_of among pass blanks past tails next opening outside between mark slash line_end printed asciiRun is_alphanumeric pair hex bit_of bits eight binary step read contents
hex_runs = (refl, refl, refl, refl, refl, refl, refl, refl)

-- `\b`: eight characters
binary_runs :
    Reads (ascii "\\b 00000001 11111111]") (taken 21 1 22 (1 ∷ 255 ∷ []))
    × Reads (ascii "\\b0101]") (wrong 7 1 8)
    × Reads (ascii "\\b01010102]") (wrong 10 1 11)
    × Reads (ascii "\\b2]") (wrong 3 1 4)
    × Reads (ascii "\\b0101") (wrong 6 1 8)
unfolding digit_of letter_of among pass blanks past tails next opening outside between mark slash line_end printed asciiRun is_alphanumeric pair hex bit_of bits eight binary step read contents
binary_runs = (refl, refl, refl, refl, refl)
