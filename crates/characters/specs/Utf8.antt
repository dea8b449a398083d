-- UTF-8 by RFC 3629: which texts are well-formed, where the well-formed prefix of a text ends, and which character a text begins with.
-- Assumes nothing.
use Rattle.std.specs.Prelude.{Bool, true, false, ◌&&◌, ◌⊎◌, ℕ, zero, suc, ◌+◌, ◌-◌, ◌*◌, ◌≤◌, ◌<◌, leb, eqb, length, take}
use mathlib.Core.List.{List, [], ◌∷◌, ◌++◌, Memᴰ}
use Rattle.characters.specs.declared.place.Place.{Place}
use Rattle.characters.specs.Text.{Text, past, start}

-- the bytes from `low` to `high`, both included: the RFC's `%xC2-DF`
pub record Range : Type 0 where
  pub low : ℕ
  pub high : ℕ

infix 90 ◌to◌
abbrev pub ◌to◌ : ℕ → ℕ → Range
low to high = record { low = low; high = high }

-- a row of the table: a range for each byte of a character
abbrev pub Row : Type 0
Row = List Range

-- UTF8-tail = %x80-BF
abbrev pub tail : Range
tail = 0x80 to 0xBF

-- section 4: UTF8-char = UTF8-1 / UTF8-2 / UTF8-3 / UTF8-4, a row for each alternative
unfoldable pub table : List Row
table =
    -- UTF8-1 = %x00-7F
    (0x00 to 0x7F ∷ [])
    -- UTF8-2 = %xC2-DF UTF8-tail
    ∷ (0xC2 to 0xDF ∷ tail ∷ [])
    -- UTF8-3 = %xE0 %xA0-BF UTF8-tail / %xE1-EC 2( UTF8-tail ) / %xED %x80-9F UTF8-tail / %xEE-EF 2( UTF8-tail )
    ∷ (0xE0 to 0xE0 ∷ 0xA0 to 0xBF ∷ tail ∷ [])
    ∷ (0xE1 to 0xEC ∷ tail ∷ tail ∷ [])
    ∷ (0xED to 0xED ∷ 0x80 to 0x9F ∷ tail ∷ [])
    ∷ (0xEE to 0xEF ∷ tail ∷ tail ∷ [])
    -- UTF8-4 = %xF0 %x90-BF 2( UTF8-tail ) / %xF1-F3 3( UTF8-tail ) / %xF4 %x80-8F 2( UTF8-tail )
    ∷ (0xF0 to 0xF0 ∷ 0x90 to 0xBF ∷ tail ∷ tail ∷ [])
    ∷ (0xF1 to 0xF3 ∷ tail ∷ tail ∷ tail ∷ [])
    ∷ (0xF4 to 0xF4 ∷ 0x80 to 0x8F ∷ tail ∷ tail ∷ [])
    ∷ []

-- the bytes that a row spells: one in each of its ranges
pub data Spells : Row → Text → Type 0 where
  none : Spells [] []
  byte : {r : Range} {row : Row} {b : ℕ} {s : Text} → r.low ≤ b → b ≤ r.high → Spells row s → Spells (r ∷ row) (b ∷ s)

-- UTF8-octets = *( UTF8-char )
pub data WellFormed : Text → Type 0 where
  empty : WellFormed []
  then : {row : Row} {a s : Text} → Memᴰ row table → Spells row a → WellFormed s → WellFormed (a ++ s)

-- ---- the same, computed

-- whether a byte lies in a range
abbrev pub inside : Range → ℕ → Bool
inside r b = leb r.low b && leb b r.high

-- whether a text begins with bytes that a row spells
unfoldable pub fits : Row → Text → Bool
fits [] s = true
fits (r ∷ row) [] = false
fits (r ∷ row) (b ∷ s) = inside r b && fits row s

-- the first row that fits at the front of a text; the empty row where none does
unfoldable pub row_in : List Row → Text → Row
row_in [] s = []
row_in (row ∷ rows) s = elim (fits row s) [ true ↦ row | false ↦ row_in rows s ]

-- the number of bytes of the character at the front of a text; 0 where no character is
unfoldable pub sequence_of : Text → ℕ
sequence_of s = length (row_in table s)

-- the length of the well-formed prefix, where `left` bytes of a character are still to pass
unfoldable pub prefix_in : ℕ → Text → ℕ
prefix_in left [] = 0
prefix_in zero (b ∷ s) = elim (sequence_of (b ∷ s)) [ zero ↦ 0 | suc n ↦ suc (prefix_in n s) ]
prefix_in (suc left) (b ∷ s) = suc (prefix_in left s)

-- the length of the well-formed prefix: the longest well-formed text that a text begins with
abbrev pub prefix_of : Text → ℕ
prefix_of s = prefix_in 0 s

-- whether the prefix is the whole text
abbrev pub well_formed : Text → Bool
well_formed s = eqb (prefix_of s) (length s)

-- the place after the bytes of a text
unfoldable pub place_after : Text → Place → Place
place_after [] p = p
place_after (b ∷ s) p = place_after s (past b p)

-- "refusal 3 gives the place after the well-formed prefix"
abbrev pub prefix_place : Text → Place
prefix_place s = place_after (take (prefix_of s) s) start

-- ---- which character

-- section 3: a lead is 0xxxxxxx, 110xxxxx, 1110xxxx or 11110xxx, by the number of bytes after it
abbrev pub mark : ℕ → ℕ
mark zero = 0x00
mark (suc zero) = 0xC0
mark (suc (suc zero)) = 0xE0
mark (suc (suc (suc n))) = 0xF0

-- section 3: a byte after the lead is 10xxxxxx, and has the next six bits
unfoldable pub bits : ℕ → Text → ℕ
bits v [] = v
bits v (b ∷ s) = bits (v * 64 + (b - 0x80)) s

-- the number that the bytes of one character stand for
unfoldable pub value_of : Text → ℕ
value_of [] = 0
value_of (b ∷ s) = bits (b - mark (length s)) s

-- the character of so many bytes at the front of a text
abbrev pub char_by : ℕ → Text → ℕ
char_by zero s = 0xFFFD
char_by (suc n) s = value_of (take (suc n) s)

-- the character at the front of a text. "Past the end" it is NUL. Bytes that are no character stand for U+FFFD, which Unicode keeps for that:
-- a text that has any is refused before it is read
unfoldable pub char_of : Text → ℕ
char_of [] = 0
char_of (b ∷ s) = char_by (sequence_of (b ∷ s)) (b ∷ s)

-- a Unicode scalar value: at most 10FFFF, and "the character numbers between U+D800 and U+DFFF" are prohibited
abbrev pub Scalar : ℕ → Type 0
Scalar v = (v < 0xD800) ⊎ ((0xE000 ≤ v) × (v ≤ 0x10FFFF))
