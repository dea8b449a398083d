-- Plain literals, which most numbers and strings are: a reader can look for them first, and `PlainLaws` says that they are what the rules say.
-- Nothing here need be believed. Assumes nothing.
use Rattle.std.specs.Prelude.{◌≡◌, Bool, true, false, ◌&&◌, ◌||◌, not, [], ◌∷◌, ℕ, zero, suc, ◌+◌, ◌-◌, ◌*◌, ◌≤◌, ◌<◌, ◌^◌, leb, ltb, eqb, None, Option, Some}
use Rattle.characters.specs.Text.{Text, byte_at}
use Rattle.characters.specs.Counts.{end_of}
use Rattle.characters.specs.Names.{is_digit, is_name_byte, part}

-- where a literal ends, if there is one: 0 stands for none
abbrev pub some_end : ℕ → Option ℕ
some_end zero = None
some_end (suc n) = Some (suc n)

-- ---- integers

-- a number may go on with a byte of names (a digit's separator, an exponent, `0x`) or with a dot
abbrev pub goes_on : ℕ → Bool
goes_on b = is_name_byte b || eqb b 46

-- the digits from o to e, one to eighteen, with nothing behind them that they could go on with
abbrev pub is_int : Text → ℕ → ℕ → Bool
is_int s o e = ltb o e && leb e (o + 18) && not (goes_on (byte_at s e))

-- where the plain integer at an offset ends; 0 where there is none
unfoldable pub int_end : Text → ℕ → ℕ
int_end s o = elim (is_int s o (end_of is_digit s o)) [ true ↦ end_of is_digit s o | false ↦ 0 ]

-- ---- fractions

-- the digits from o to a dot at d and from behind it to e, with nothing behind them that they could go on with
abbrev pub is_float : Text → ℕ → ℕ → ℕ → Bool
is_float s o d e = ltb o d && eqb (byte_at s d) 46 && ltb (d + 1) e && not (goes_on (byte_at s e))

-- where the digits end that stand one byte behind the digits at an offset
abbrev pub fraction_end : Text → ℕ → ℕ
fraction_end s o = end_of is_digit s (end_of is_digit s o + 1)

-- where the plain fraction at an offset ends; 0 where there is none
unfoldable pub float_end : Text → ℕ → ℕ
float_end s o = elim (is_float s o (end_of is_digit s o) (fraction_end s o)) [ true ↦ fraction_end s o | false ↦ 0 ]

-- ---- the value of an integer

-- the value of decimal digits behind others of the value v
unfoldable pub value_from : ℕ → Text → ℕ
value_from v [] = v
value_from v (b ∷ s) = value_from (v * 10 + (b - 48)) s

abbrev pub int_value : Text → ℕ → ℕ → ℕ
int_value s from to = value_from 0 (part s from to)

-- from one offset to another stand at most eighteen digits
pub record Few (s : Text) (from to : ℕ) : Type 0 where
  pub forward : from ≤ to
  pub few : to ≤ from + 18
  pub digits : to ≤ end_of is_digit s from

-- what reading a plain integer answers
pub record IntOf (s : Text) (from to r : ℕ) : Type 0 where
  pub is : r ≡ int_value s from to
  pub small : r < 10 ^ 18

-- ---- strings

-- a byte that means itself in a string: printable ASCII but the backslash
abbrev pub is_itself : ℕ → Bool
is_itself b = leb 32 b && leb b 126 && not (eqb b 92)

-- and that is not the quote q
abbrev pub is_plain : ℕ → ℕ → Bool
is_plain q b = is_itself b && not (eqb b q)

-- where such bytes behind the quote at an offset end
abbrev pub content_end : Text → ℕ → ℕ
content_end s o = end_of (is_plain (byte_at s o)) s (o + 1)

-- past the closing quote of the plain string that opens at an offset; 0 where it is none
unfoldable pub string_end : Text → ℕ → ℕ
string_end s o = elim (eqb (byte_at s (content_end s o)) (byte_at s o)) [ true ↦ content_end s o + 1 | false ↦ 0 ]
