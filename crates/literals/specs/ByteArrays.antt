-- Bytearrays: where a literal ends or is refused, and its bytes. "Runs opened by `\a`, `\x`, `\b` as in `parse_bytearray`." Assumes nothing.
use Rattle.std.specs.Prelude.{Bool, true, false, ◌&&◌, ◌||◌, not, List, [], ◌∷◌, ℕ, zero, suc, ◌+◌, ◌-◌, ◌*◌, leb, ltb, eqb, drop, Err, Ok, Result}
use Rattle.characters.specs.declared.place.Place.{Place}
use Rattle.characters.specs.declared.refusal.Refusal.{Refusal}
use Rattle.characters.specs.declared.refusal.Refusal.TheVariants.{EndOfInput, BadByteArray}
use Rattle.characters.specs.Text.{Text, byte_at, on_by, next}
use Rattle.characters.specs.Blanks.{blanks}
use Rattle.literals.specs.Numbers.{digit_of}
use Rattle.literals.specs.Strings.{letter_of}
use Rattle.literals.specs.declared.bytearrays.Mode.{Mode}
use Rattle.literals.specs.declared.bytearrays.Mode.TheVariants.{Between, Ascii, Hex, Binary}
use Rattle.literals.specs.declared.bytearrays.Seen.TheVariants.{Byte, Opened, Shut}
use Rattle.characters.specs.Answers.{Must, failed, taken}
use Rattle.characters.specs.declared.refusal.Refused.{Refused}
use Rattle.literals.specs.declared.bytearrays.Seen.{Seen}

-- 21 past the character behind the byte at a place
abbrev pub unknown : Text → Place → Result Seen Refused
unknown s p = failed BadByteArray (next s (on_by 1 p))

-- ---- between runs

abbrev pub opening_by : Text → Place → ℕ → Result Seen Refused
opening_by s p b =
    elim (eqb b 97) [
      | true ↦ Ok (Opened Ascii (on_by 2 p))
      | false ↦
          elim (eqb b 120) [
            | true ↦ Ok (Opened Hex (on_by 2 p))
            | false ↦
                elim (eqb b 98) [ true ↦ Ok (Opened Binary (on_by 2 p)) | false ↦ unknown s p ]
          ]
    ]

-- a `\` stands here, and its letter opens a run
unfoldable pub opening : Text → Place → Result Seen Refused
opening s p = opening_by s p (byte_at s (p.offset + 1))

abbrev pub outside_by : Text → Place → ℕ → Result Seen Refused
outside_by s p b =
    elim (eqb b 256) [
      | true ↦ failed EndOfInput p
      | false ↦
          elim (eqb b 93) [
            | true ↦ Ok (Shut (on_by 1 p))
            | false ↦
                elim (eqb b 92) [ true ↦ opening s p | false ↦ failed BadByteArray (next s p) ]
          ]
    ]

-- past the blanks between runs
unfoldable pub outside : Text → Place → Result Seen Refused
outside s p = outside_by s p (byte_at s p.offset)

abbrev pub past_blanks : (Place → Result Seen Refused) → Must → Result Seen Refused
past_blanks f (Ok t) = f t.next
past_blanks f (Err e) = Err e

unfoldable pub between : Text → Place → Result Seen Refused
between s p = past_blanks (outside s) (blanks s p)

-- ---- `\a`

abbrev pub plain : ℕ → Place → Seen
plain b p = Byte b Ascii (on_by 1 p)

abbrev pub coded : ℕ → Place → Seen
coded v p = Byte v Ascii (on_by 2 p)

abbrev pub mark_by : Text → Place → ℕ → Result Seen Refused
mark_by s p b =
    elim (ltb (letter_of b) 256) [
      | true ↦ Ok (coded (letter_of b) p)
      | false ↦ elim (eqb b 120) [ true ↦ between s p | false ↦ elim (eqb b 98) [ true ↦ between s p | false ↦ unknown s p ] ]
    ]

-- a `\` in the run: an escape of one letter, or another run opens. `\a` is neither
unfoldable pub mark : Text → Place → Result Seen Refused
mark s p = mark_by s p (byte_at s (p.offset + 1))

abbrev pub slash_by : Text → Place → ℕ → Result Seen Refused
slash_by s p b = elim (eqb b 47) [ true ↦ between s p | false ↦ elim (eqb b 42) [ true ↦ between s p | false ↦ Ok (plain 47 p) ] ]

-- a `/` in the run: "comments close the run"
unfoldable pub slash : Text → Place → Result Seen Refused
slash s p = slash_by s p (byte_at s (p.offset + 1))

-- "a line end is 21 when the last byte so far is 20 hex, even one written by `\x`"
unfoldable pub line_end : Text → ℕ → Place → Result Seen Refused
line_end s last p = elim (eqb last 32) [ true ↦ failed BadByteArray p | false ↦ between s p ]

-- "characters beyond printable ASCII close the run", and the `]`; "spaces after `\a` are content"
unfoldable pub printed : Text → ℕ → Place → Result Seen Refused
printed s b p = elim (leb 32 b && leb b 126 && not (eqb b 93)) [ true ↦ Ok (plain b p) | false ↦ between s p ]

abbrev pub ascii_by : Text → ℕ → Place → ℕ → Result Seen Refused
ascii_by s last p b =
    elim (eqb b 92) [
      | true ↦ mark s p
      | false ↦
          elim (eqb b 47) [
            | true ↦ slash s p
            | false ↦
                elim (eqb b 13 || eqb b 10) [
                  | true ↦ line_end s last p
                  | false ↦ elim (eqb b 9) [ true ↦ failed BadByteArray p | false ↦ printed s b p ]
                ]
          ]
    ]

unfoldable pub ascii : Text → ℕ → Place → Result Seen Refused
ascii s last p = ascii_by s last p (byte_at s p.offset)

-- ---- `\x`

unfoldable pub is_alphanumeric : ℕ → Bool
is_alphanumeric b = (leb 48 b && leb b 57) || (leb 65 b && leb b 90) || (leb 97 b && leb b 122)

abbrev pub pair_by : Text → Place → ℕ → ℕ → Result Seen Refused
pair_by s p h l = elim (ltb h 16 && ltb l 16) [ true ↦ Ok (Byte (h * 16 + l) Hex (on_by 2 p)) | false ↦ unknown s p ]

-- a letter or digit begins a pair, of two characters whatever they are
unfoldable pub pair : Text → Place → Result Seen Refused
pair s p = elim (is_alphanumeric (byte_at s p.offset)) [ true ↦ pair_by s p (digit_of (byte_at s p.offset)) (digit_of (byte_at s (p.offset + 1))) | false ↦ outside s p ]

unfoldable pub hex : Text → Place → Result Seen Refused
hex s p = past_blanks (pair s) (blanks s p)

-- ---- `\b`

-- the value of a bit; 2 where a byte is none
unfoldable pub bit_of : ℕ → ℕ
bit_of b = elim (eqb b 48) [ true ↦ 0 | false ↦ elim (eqb b 49) [ true ↦ 1 | false ↦ 2 ] ]

-- so many bits are still to come, and those before them spell v
unfoldable pub bits : ℕ → ℕ → Text → Place → Result Seen Refused
bits zero v s p = Ok (Byte v Binary p)
bits (suc left) v s p =
    elim (ltb (bit_of (byte_at s p.offset)) 2) [
      | true ↦ bits left (v * 2 + bit_of (byte_at s p.offset)) s (on_by 1 p)
      | false ↦ failed BadByteArray (next s p)
    ]

-- a 0 or 1 begins a byte of eight
unfoldable pub eight : Text → Place → Result Seen Refused
eight s p = elim (ltb (bit_of (byte_at s p.offset)) 2) [ true ↦ bits 8 0 s p | false ↦ outside s p ]

unfoldable pub binary : Text → Place → Result Seen Refused
binary s p = past_blanks (eight s) (blanks s p)

-- ---- the whole

-- what the text at a place is, in a run or between runs, `last` being the last byte so far; 256 where there is none
unfoldable pub step : Text → Mode → ℕ → Place → Result Seen Refused
step s Between last p = between s p
step s Ascii last p = ascii s last p
step s Hex last p = hex s p
step s Binary last p = binary s p

-- the bytes of a bytearray with the place after it, or its refusal
pub data Contents : Type 0 where
  shut : Place → List ℕ → Contents
  halted : Refusal → Place → Contents

abbrev pub push : ℕ → Contents → Contents
push v (shut p l) = shut p (v ∷ l)
push v (halted k p) = halted k p

-- step by step. So many bytes at the front of the text are read already
unfoldable pub read : Text → ℕ → Text → Mode → ℕ → Place → Contents
read s left [] m last p = halted EndOfInput p
read s zero (b ∷ t) m last p =
    elim (step s m last p) [
      | Ok (Byte v n q) ↦ push v (read s (q.offset - (p.offset + 1)) t n v q)
      | Ok (Opened n q) ↦ read s (q.offset - (p.offset + 1)) t n last q
      | Ok (Shut q) ↦ shut q []
      | Err e ↦ halted e.refusal e.at
    ]
read s (suc left) (b ∷ t) m last p = read s left t m last p

-- the bytearray whose `#[` ends at a place
unfoldable pub contents : Text → Place → Contents
contents s p = read s 0 (drop p.offset s) Between 256 p

abbrev pub span_by : Place → Contents → Must
span_by p (shut q l) = taken p q
span_by p (halted k q) = failed k q

-- up to past its `]`
unfoldable pub bytearray : Text → Place → Must
bytearray s p = span_by p (contents s p)

abbrev pub listed : Contents → List ℕ
listed (shut q l) = l
listed (halted k q) = []

-- its bytes; none where it is refused
unfoldable pub bytes_of : Text → Place → List ℕ
bytes_of s p = listed (contents s p)
