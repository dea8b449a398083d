-- Number literals: decimal, `0x` and `0b`. Values are sums without bound; the limits are tested on them. Assumes nothing.
use Rattle.std.specs.Prelude.{Bool, true, false, ◌&&◌, ◌||◌, [], ◌∷◌, ℕ, ◌+◌, ◌-◌, ◌*◌, ◌^◌, leb, ltb, eqb, pos, drop, Ok, Result, Err}
use Rattle.characters.specs.declared.place.Place.{Place}
use Rattle.characters.specs.declared.refusal.Refusal.{Refusal}
use Rattle.characters.specs.declared.refusal.Refusal.TheVariants.{
  OutsideInt64,
  IntegerTooLarge,
  ExpectedDigit,
  MisplacedSeparator,
  NoExponentDigits,
}
use Rattle.literals.specs.declared.numbers.Numeral.TheVariants.{Int, Float}
use Rattle.characters.specs.Text.{Text, byte_at, on_by}
use Rattle.characters.specs.Answers.{failed}
use Rattle.characters.specs.declared.refusal.Refused.{Refused}
use Rattle.literals.specs.Answers.{digits_to}
use Rattle.literals.specs.declared.numbers.Digits.{Digits}
use Rattle.literals.specs.declared.numbers.Numeral.{Numeral}

-- the value of a byte as a digit, `0` to `9`, `A` to `F`, `a` to `f`; 16 of any other. A digit of a radix has a value below it
unfoldable pub digit_of : ℕ → ℕ
digit_of b =
    elim (leb 48 b && leb b 57) [
      | true ↦ b - 48
      | false ↦ elim (leb 65 b && leb b 70) [ true ↦ b - 55 | false ↦ elim (leb 97 b && leb b 102) [ true ↦ b - 87 | false ↦ 16 ] ]
    ]

abbrev pub is_digit_in : ℕ → ℕ → Bool
is_digit_in radix b = ltb (digit_of b) radix

-- "Refusal 15 comes at the digit which would reach 2 to the 127th", where there is this limit
abbrev pub reaches : Bool → ℕ → Bool
reaches limited v = limited && leb (2 ^ 127) v

-- "digits with single `_` between digits", v their value so far: the value and the place after them, or the refusal.
-- A `_` that no digit follows is 17 at the `_`; 15 is before its digit
unfoldable pub run : Bool → ℕ → ℕ → Text → Place → Result Digits Refused
run limited radix v [] p = digits_to v p
run limited radix v (b ∷ s) p =
    elim (is_digit_in radix b) [
      | true ↦
          elim (reaches limited (v * radix + digit_of b)) [
            | true ↦ failed IntegerTooLarge p
            | false ↦ run limited radix (v * radix + digit_of b) s (on_by 1 p)
          ]
      | false ↦
          elim (eqb b 95) [
            | true ↦ elim (is_digit_in radix (byte_at s 0)) [ true ↦ run limited radix v s (on_by 1 p) | false ↦ failed MisplacedSeparator p ]
            | false ↦ digits_to v p
          ]
    ]

-- a run that has to be there: the given refusal where no digit stands
unfoldable pub digits : Bool → Refusal → ℕ → Text → Place → Result Digits Refused
digits limited none radix s p =
    elim (is_digit_in radix (byte_at s p.offset)) [ true ↦ run limited radix 0 (drop p.offset s) p | false ↦ failed none p ]

-- "Integers reach 9223372036854775807"
abbrev pub most : ℕ
most = 9223372036854775807

-- an integer literal: beyond that number it is 14, after the literal
unfoldable pub whole : ℕ → Place → Result Numeral Refused
whole v q = elim (leb v most) [ true ↦ Ok (Int (pos v) q) | false ↦ failed OutsideInt64 q ]

abbrev pub whole_of : Result Digits Refused → Result Numeral Refused
whole_of (Ok d) = whole d.value d.next
whole_of (Err e) = Err e

abbrev pub float_of : Result Digits Refused → Result Numeral Refused
float_of (Ok d) = Ok (Float d.next)
float_of (Err e) = Err e

-- "`0x` and `0b`", from the place after them: 16 where no digit follows
unfoldable pub based : ℕ → Text → Place → Result Numeral Refused
based radix s p = whole_of (digits true ExpectedDigit radix s p)

-- "optional sign"
abbrev pub signed : Text → Place → Place
signed s p = elim (eqb (byte_at s p.offset) 43 || eqb (byte_at s p.offset) 45) [ true ↦ on_by 1 p | false ↦ p ]

-- "exponent `e`/`E`, optional sign, digits", from the place after the `e`: "`1e_5` is 18"
unfoldable pub exponent : Text → Place → Result Numeral Refused
exponent s p = float_of (digits false NoExponentDigits 10 s (signed s p))

-- the exponent at a place, or what the literal is without one
unfoldable pub exponent_or : Text → Place → Result Numeral Refused → Result Numeral Refused
exponent_or s p plain =
    elim (eqb (byte_at s p.offset) 101 || eqb (byte_at s p.offset) 69) [ true ↦ exponent s (on_by 1 p) | false ↦ plain ]

abbrev pub past_fraction : Text → Result Digits Refused → Result Numeral Refused
past_fraction s (Ok d) = exponent_or s d.next (Ok (Float d.next))
past_fraction s (Err e) = Err e

-- the digits of a fraction, from the place after the dot
unfoldable pub fraction : Text → Place → Result Numeral Refused
fraction s p = past_fraction s (digits false ExpectedDigit 10 s p)

-- a dot at p, after digits of the value v: "a fraction only when `.` is followed by a digit, and `._` is 17", at the dot
unfoldable pub dotted : Text → ℕ → Place → Result Numeral Refused
dotted s v p =
    elim (eqb (byte_at s (p.offset + 1)) 95) [
      | true ↦ failed MisplacedSeparator p
      | false ↦ elim (is_digit_in 10 (byte_at s (p.offset + 1))) [ true ↦ fraction s (on_by 1 p) | false ↦ whole v p ]
    ]

-- what follows the first digits
unfoldable pub past_digits : Text → ℕ → Place → Result Numeral Refused
past_digits s v p = elim (eqb (byte_at s p.offset) 46) [ true ↦ dotted s v p | false ↦ exponent_or s p (whole v p) ]

abbrev pub decimal_of : Text → Result Digits Refused → Result Numeral Refused
decimal_of s (Ok d) = past_digits s d.value d.next
decimal_of s (Err e) = Err e

-- "Decimal: digits with single `_` between digits"; 16 where no digit stands
unfoldable pub decimal : Text → Place → Result Numeral Refused
decimal s p = decimal_of s (digits false ExpectedDigit 10 s p)

-- the number literal at a place: `0x` and `0b` first
unfoldable pub number : Text → Place → Result Numeral Refused
number s p =
    elim (eqb (byte_at s p.offset) 48) [
      | true ↦
          elim (eqb (byte_at s (p.offset + 1)) 120) [
            | true ↦ based 16 s (on_by 2 p)
            | false ↦ elim (eqb (byte_at s (p.offset + 1)) 98) [ true ↦ based 2 s (on_by 2 p) | false ↦ decimal s p ]
          ]
      | false ↦ decimal s p
    ]
