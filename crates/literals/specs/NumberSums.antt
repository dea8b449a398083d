-- How the code sums digits in 64 bits: the value is held at 2^63, and the digits that may still come are counted. Assumes nothing.
use Rattle.std.specs.Prelude.{true, false, ℕ, ◌+◌, ◌-◌, ◌*◌, ◌≤◌, ◌<◌, min, ltb, eqb, Err, Ok, Result}
use Rattle.characters.specs.Answers.{failed}
use Rattle.characters.specs.declared.refusal.Refused.{Refused}
use Rattle.literals.specs.Answers.{digits_to}
use Rattle.literals.specs.declared.numbers.Digits.{Digits}

-- a value, held at the first number that no integer literal reaches
abbrev pub held : ℕ → ℕ
held v = min v 9223372036854775808

abbrev pub held_run : Result Digits Refused → Result Digits Refused
held_run (Ok t) = digits_to (held t.value) t.next
held_run (Err e) = Err e

-- a radix, with the largest value whose product with it is below 2^63
pub record Base (radix room : ℕ) : Type 0 where
  pub small : radix ≤ 16
  pub under : room * radix < 9223372036854775808
  pub over : 9223372036854775808 ≤ (room + 1) * radix

-- the radices of `0x` and `0b`
pub data Power : ℕ → Type 0 where
  two : Power 2
  sixteen : Power 16

-- How many digits may follow below 2^127, once d has followed a value: one fewer behind a significant digit, and behind the first,
-- by its size, as many as 01 says: "hex, the 32nd significant digit if the first is 8 or more, else the 33rd; binary, the 128th"
unfoldable pub fewer_of : ℕ → ℕ → ℕ → ℕ → ℕ
fewer_of value left radix d =
    elim (ltb 0 value) [
      | true ↦ left - 1
      | false ↦
          elim (eqb d 0) [
            | true ↦ left
            | false ↦ elim (eqb radix 2) [ true ↦ 126 | false ↦ elim (ltb d 8) [ true ↦ 31 | false ↦ 30 ] ]
          ]
    ]
