-- A text is its bytes. Places in it count characters. Assumes nothing.
use Rattle.std.specs.Prelude.{◌≡◌, Bool, true, false, ◌&&◌, List, [], ◌∷◌, ℕ, ◌+◌, ◌≤◌, ◌<◌, ◌^◌, leb, ltb, eqb, length, get_or, drop}
use Prim.Native.Char.{code}
use Prim.Native.String.{String}
use Rattle.characters.specs.declared.place.Place.{Place}

abbrev pub Text : Type 0
Text = List ℕ

-- the byte at an offset; past the end 256, which is no byte
abbrev pub byte_at : Text → ℕ → ℕ
byte_at s o = get_or s o 256

-- what reading a byte answers
pub record ByteOf (s : Text) (o r : ℕ) : Type 0 where
  pub is : r ≡ byte_at s o
  pub inside : o < length s → r < 256

-- an ASCII text as it is written
abbrev pub ascii : String → Text
ascii String.[] = []
ascii (String.◌∷◌ c s) = code c ∷ ascii s

-- "first place 1:1"
abbrev pub start : Place
start = record { offset = 0; line = 1; column = 1 }

-- a byte below 80 is a character of its own
abbrev pub is_ascii : ℕ → Bool
is_ascii b = ltb b 128

-- the bytes 80 to BF go on with a character that began before them (RFC 3629, `UTF8-tail`)
abbrev pub is_tail : ℕ → Bool
is_tail b = leb 128 b && ltb b 192

-- so many characters on, each of one byte and none an LF
abbrev pub on_by : ℕ → Place → Place
on_by n p = record { offset = p.offset + n; line = p.line; column = p.column + n }

-- after an LF
abbrev pub line_on : Place → Place
line_on p = record { offset = p.offset + 1; line = p.line + 1; column = 1 }

-- after a byte that is no character of its own
abbrev pub tail_on : Place → Place
tail_on p = record { offset = p.offset + 1; line = p.line; column = p.column }

abbrev pub past_by : Bool → Bool → Place → Place
past_by true tail p = line_on p
past_by false true p = tail_on p
past_by false false p = on_by 1 p

-- the place after a byte of the text: LF starts a line, and "places count characters", so a tail leaves the column
unfoldable pub past : ℕ → Place → Place
past b p = past_by (eqb b 10) (is_tail b) p

-- "Reading past the end yields NUL and still moves the column"
abbrev pub past_end : Place → Place
past_end p = record { offset = p.offset; line = p.line; column = p.column + 1 }

-- past the tails that a text begins with
unfoldable pub tails : Text → Place → Place
tails [] p = p
tails (b ∷ s) p = elim (is_tail b) [ true ↦ tails s (past b p) | false ↦ p ]

abbrev pub next_by : Text → Place → Place
next_by [] p = past_end p
next_by (b ∷ s) p = tails s (past b p)

-- the place after the character at a place
unfoldable pub next : Text → Place → Place
next s p = next_by (drop p.offset s) p

-- A place that a caller can hold: in the text or at its end, and small enough to step on.
pub record Stands (s : Text) (p : Place) : Type 0 where
  pub short : length s < 2 ^ 31
  pub inside : p.offset ≤ length s
  pub lines : p.line ≤ p.offset + 1
  pub columns : p.column ≤ p.offset + 1
