-- Examples that compute, each with the answer of the Rust: a text, and the number literal at its start. Where no digit stands, the Rust
-- reads no number; the definition's answer there is 16. Assumes nothing.
use Rattle.std.specs.Prelude.{◌≡◌, refl, List, [], ◌∷◌, ◌++◌, map, ℕ, zero, suc, pos, Ok, Result}
use Rattle.characters.specs.declared.refusal.Refusal.{Refusal}
use Rattle.characters.specs.declared.refusal.Refusal.TheVariants.{
  OutsideInt64,
  IntegerTooLarge,
  ExpectedDigit,
  MisplacedSeparator,
  NoExponentDigits,
}
use Rattle.characters.specs.Text.{Text, ascii, on_by, start}
use Rattle.literals.specs.declared.numbers.Numeral.TheVariants.{Int, Float}
use Rattle.literals.specs.Numbers.{digit_of, run, digits, whole, based, exponent, exponent_or, fraction, dotted, past_digits, decimal, number}
use Rattle.characters.specs.Answers.{failed}
use Rattle.characters.specs.declared.refusal.Refused.{Refused}
use Rattle.literals.specs.declared.numbers.Numeral.{Numeral}

-- an answer, its place so many characters on
abbrev int : ℕ → ℕ → Result Numeral Refused
int v n = Ok (Int (pos v) (on_by n start))

abbrev float : ℕ → Result Numeral Refused
float n = Ok (Float (on_by n start))

abbrev bad : Refusal → ℕ → Result Numeral Refused
bad k n = failed k (on_by n start)

-- a byte so many times
abbrev many : ℕ → ℕ → Text
many zero b = []
many (suc n) b = b ∷ many n b

abbrev Cases : Type 0
Cases = List (Text × Result Numeral Refused)

-- what is read is what is told
abbrev Right : Cases → Type 0
Right cs = map (λ (c : Text × Result Numeral Refused). number c.0 start) cs ≡ map (λ (c : Text × Result Numeral Refused). c.1) cs

-- decimal integers, and where they end
plain : Right
    ((ascii "0", int 0 1)
    ∷ (ascii "7", int 7 1)
    ∷ (ascii "00", int 0 2)
    ∷ (ascii "007", int 7 3)
    ∷ (ascii "10", int 10 2)
    ∷ (ascii "123", int 123 3)
    ∷ (ascii "5;", int 5 1)
    ∷ (ascii "5 6", int 5 1)
    ∷ (ascii "12a", int 12 2)
    ∷ (ascii "9x", int 9 1)
    ∷ (ascii "1_2", int 12 3)
    ∷ (ascii "1_2_3", int 123 5)
    ∷ (ascii "0_1", int 1 3)
    ∷ (ascii "1_0_", bad MisplacedSeparator 3)
    ∷ (ascii "1_", bad MisplacedSeparator 1)
    ∷ (ascii "1__2", bad MisplacedSeparator 1)
    ∷ (ascii "1_a", bad MisplacedSeparator 1)
    ∷ (ascii "1_.5", bad MisplacedSeparator 1)
    ∷ (ascii "_1", bad ExpectedDigit 0)
    ∷ (ascii "", bad ExpectedDigit 0)
    ∷ (ascii "a", bad ExpectedDigit 0)
    ∷ (ascii "-1", bad ExpectedDigit 0)
    ∷ (ascii "+1", bad ExpectedDigit 0)
    ∷ (ascii ".5", bad ExpectedDigit 0)
    ∷ [])
unfolding digit_of run digits whole based exponent exponent_or fraction dotted past_digits decimal number
plain = refl

-- the largest integer, and beyond it, however long
limits : Right
    ((ascii "9223372036854775807", int 9223372036854775807 19)
    ∷ (ascii "9223372036854775808", bad OutsideInt64 19)
    ∷ (ascii "9223372036854775809", bad OutsideInt64 19)
    ∷ (ascii "9223372036854775810", bad OutsideInt64 19)
    ∷ (ascii "9223372036854775817", bad OutsideInt64 19)
    ∷ (ascii "09223372036854775807", int 9223372036854775807 20)
    ∷ (ascii "9_223_372_036_854_775_807", int 9223372036854775807 25)
    ∷ (ascii "9_223_372_036_854_775_808;", bad OutsideInt64 25)
    ∷ (ascii "000000000000000000000000009223372036854775807", int 9223372036854775807 45)
    ∷ (ascii "10000000000000000000", bad OutsideInt64 20)
    ∷ (ascii "18446744073709551615", bad OutsideInt64 20)
    ∷ (ascii "18446744073709551616", bad OutsideInt64 20)
    ∷ (ascii "18446744073709551617", bad OutsideInt64 20)
    ∷ (ascii "36893488147419103232", bad OutsideInt64 20)
    ∷ (ascii "46116860184273871904", bad OutsideInt64 20)
    ∷ (ascii "92233720368547758070", bad OutsideInt64 20)
    ∷ (ascii "340282366920938463463374607431768211456", bad OutsideInt64 39)
    ∷ (many 1000 57, bad OutsideInt64 1000)
    ∷ (many 1000 48 ++ ascii "1", int 1 1001)
    ∷ (ascii "1" ++ many 64 48, bad OutsideInt64 65)
    ∷ [])
unfolding digit_of run digits whole based exponent exponent_or fraction dotted past_digits decimal number
limits = refl

-- fractions: only before a digit; `._` is 17
fractions : Right
    ((ascii "1.5", float 3)
    ∷ (ascii "0.0", float 3)
    ∷ (ascii "1.5.2", float 3)
    ∷ (ascii "1.", int 1 1)
    ∷ (ascii "1.a", int 1 1)
    ∷ (ascii "5.e3", int 5 1)
    ∷ (ascii "1.;", int 1 1)
    ∷ (ascii "1._a", bad MisplacedSeparator 1)
    ∷ (ascii "1._5", bad MisplacedSeparator 1)
    ∷ (ascii "1.5_", bad MisplacedSeparator 3)
    ∷ (ascii "1.5_0", float 5)
    ∷ (ascii "1.5__0", bad MisplacedSeparator 3)
    ∷ (ascii "1.5_a", bad MisplacedSeparator 3)
    ∷ (ascii "1_0.2_5", float 7)
    ∷ (ascii "1.5._a", float 3)
    ∷ (ascii "10.idiv(3)", int 10 2)
    ∷ (ascii "99999999999999999999.5", float 22)
    ∷ (ascii "1..2", int 1 1)
    ∷ (ascii "0.5e", bad NoExponentDigits 4)
    ∷ (ascii "1.e5", int 1 1)
    ∷ [])
unfolding digit_of run digits whole based exponent exponent_or fraction dotted past_digits decimal number
fractions = refl

-- exponents: 18 without a digit
exponents : Right
    ((ascii "1e5", float 3)
    ∷ (ascii "1E5", float 3)
    ∷ (ascii "1e+5", float 4)
    ∷ (ascii "1e-5", float 4)
    ∷ (ascii "1e", bad NoExponentDigits 2)
    ∷ (ascii "1e+", bad NoExponentDigits 3)
    ∷ (ascii "1e-", bad NoExponentDigits 3)
    ∷ (ascii "1e_5", bad NoExponentDigits 2)
    ∷ (ascii "1e+_5", bad NoExponentDigits 3)
    ∷ (ascii "1ea", bad NoExponentDigits 2)
    ∷ (ascii "1e++5", bad NoExponentDigits 3)
    ∷ (ascii "1e5_", bad MisplacedSeparator 3)
    ∷ (ascii "1e5_0", float 5)
    ∷ (ascii "1e5__0", bad MisplacedSeparator 3)
    ∷ (ascii "1e5e6", float 3)
    ∷ (ascii "1e5.5", float 3)
    ∷ (ascii "1e5._a", float 3)
    ∷ (ascii "0e0", float 3)
    ∷ (ascii "1.5e10", float 6)
    ∷ (ascii "1.5E-1_0", float 8)
    ∷ (ascii "1.5e", bad NoExponentDigits 4)
    ∷ (ascii "1_0e1_0", float 7)
    ∷ (ascii "1e05;", float 4)
    ∷ (ascii "9223372036854775808e0", float 21)
    ∷ (ascii "1_e5", bad MisplacedSeparator 1)
    ∷ (ascii "1ee5", bad NoExponentDigits 2)
    ∷ [])
unfolding digit_of run digits whole based exponent exponent_or fraction dotted past_digits decimal number
exponents = refl

-- `0x`: lower case x, digits of either case
hex : Right
    ((ascii "0x0", int 0 3)
    ∷ (ascii "0xF", int 15 3)
    ∷ (ascii "0xff", int 255 4)
    ∷ (ascii "0xAbC", int 2748 5)
    ∷ (ascii "0x7FFFFFFFFFFFFFFF", int 9223372036854775807 18)
    ∷ (ascii "0x8000000000000000", bad OutsideInt64 18)
    ∷ (ascii "0xFFFFFFFFFFFFFFFF", bad OutsideInt64 18)
    ∷ (ascii "0x10000000000000000", bad OutsideInt64 19)
    ∷ (ascii "0x00000000000000000000000000000000000000001", int 1 43)
    ∷ (ascii "0x_1", bad ExpectedDigit 2)
    ∷ (ascii "0x", bad ExpectedDigit 2)
    ∷ (ascii "0x;", bad ExpectedDigit 2)
    ∷ (ascii "0xg", bad ExpectedDigit 2)
    ∷ (ascii "0X1", int 0 1)
    ∷ (ascii "0x1_", bad MisplacedSeparator 3)
    ∷ (ascii "0x1_2", int 18 5)
    ∷ (ascii "0x1__2", bad MisplacedSeparator 3)
    ∷ (ascii "0x1_g", bad MisplacedSeparator 3)
    ∷ (ascii "0xF_F_F", int 4095 7)
    ∷ (ascii "0x1.5", int 1 3)
    ∷ (ascii "0x1._a", int 1 3)
    ∷ (ascii "0x1e5", int 485 5)
    ∷ (ascii "0x1e+5", int 30 4)
    ∷ (ascii "0x8_0", int 128 5)
    ∷ (ascii "0x7FFF_FFFF_FFFF_FFFF", int 9223372036854775807 21)
    ∷ [])
unfolding digit_of run digits whole based exponent exponent_or fraction dotted past_digits decimal number
hex = refl

-- 15 comes at the 32nd significant digit if the first is 8 or more, else at the 33rd
hex_limit : Right
    ((ascii "0x8" ++ many 30 48, bad OutsideInt64 33)
    ∷ (ascii "0x8" ++ many 31 48, bad IntegerTooLarge 33)
    ∷ (ascii "0xF" ++ many 31 70, bad IntegerTooLarge 33)
    ∷ (ascii "0x7" ++ many 31 70, bad OutsideInt64 34)
    ∷ (ascii "0x1" ++ many 31 48, bad OutsideInt64 34)
    ∷ (ascii "0x7" ++ many 32 70, bad IntegerTooLarge 34)
    ∷ (ascii "0x1" ++ many 32 48, bad IntegerTooLarge 34)
    ∷ (ascii "0x1" ++ many 33 48, bad IntegerTooLarge 34)
    ∷ (ascii "0x000_8" ++ many 30 48 ++ ascii "_0", bad IntegerTooLarge 38)
    ∷ (ascii "0x0" ++ many 40 48 ++ ascii "7" ++ many 31 102, bad OutsideInt64 75)
    ∷ (ascii "0x0" ++ many 40 48 ++ ascii "7" ++ many 32 102, bad IntegerTooLarge 75)
    ∷ (ascii "0x8" ++ many 30 48 ++ ascii "_", bad MisplacedSeparator 33)
    ∷ (ascii "0x8" ++ many 30 48 ++ ascii "_g", bad MisplacedSeparator 33)
    ∷ (ascii "0x1" ++ many 31 48 ++ ascii ";", bad OutsideInt64 34)
    ∷ (ascii "0x1" ++ many 31 48 ++ ascii "_", bad MisplacedSeparator 34)
    ∷ [])
unfolding digit_of run digits whole based exponent exponent_or fraction dotted past_digits decimal number
hex_limit = refl

-- `0b`, and 15 at the 128th significant digit
binary : Right
    ((ascii "0b0", int 0 3)
    ∷ (ascii "0b1", int 1 3)
    ∷ (ascii "0b101", int 5 5)
    ∷ (ascii "0b102", int 2 4)
    ∷ (ascii "0b2", bad ExpectedDigit 2)
    ∷ (ascii "0b", bad ExpectedDigit 2)
    ∷ (ascii "0b_1", bad ExpectedDigit 2)
    ∷ (ascii "0b1_", bad MisplacedSeparator 3)
    ∷ (ascii "0b1_0", int 2 5)
    ∷ (ascii "0b1__0", bad MisplacedSeparator 3)
    ∷ (ascii "0B1", int 0 1)
    ∷ (ascii "0b1_2", bad MisplacedSeparator 3)
    ∷ (ascii "0b" ++ many 63 49, int 9223372036854775807 65)
    ∷ (ascii "0b1" ++ many 63 48, bad OutsideInt64 66)
    ∷ (ascii "0b" ++ many 64 49, bad OutsideInt64 66)
    ∷ (ascii "0b1" ++ many 126 48, bad OutsideInt64 129)
    ∷ (ascii "0b" ++ many 127 49, bad OutsideInt64 129)
    ∷ (ascii "0b1" ++ many 127 48, bad IntegerTooLarge 129)
    ∷ (ascii "0b" ++ many 128 49, bad IntegerTooLarge 129)
    ∷ (ascii "0b0" ++ many 200 48 ++ ascii "1" ++ many 126 48, bad OutsideInt64 330)
    ∷ (ascii "0b0" ++ many 200 48 ++ ascii "1" ++ many 127 49, bad IntegerTooLarge 330)
    ∷ (ascii "0b" ++ many 127 49 ++ ascii "_1", bad IntegerTooLarge 130)
    ∷ (ascii "0b" ++ many 127 49 ++ ascii "_", bad MisplacedSeparator 129)
    ∷ [])
unfolding digit_of run digits whole based exponent exponent_or fraction dotted past_digits decimal number
binary = refl
