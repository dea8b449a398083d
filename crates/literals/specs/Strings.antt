-- Strings: where a literal ends or is refused, and the characters that it spells. Assumes nothing.
use Rattle.std.specs.Prelude.{Bool, true, false, ◌&&◌, ◌||◌, List, [], ◌∷◌, ℕ, zero, suc, ◌+◌, ◌-◌, ◌*◌, leb, ltb, eqb, drop, Err, None, Ok, Option, Result}
use Rattle.characters.specs.declared.place.Place.{Place}
use Rattle.characters.specs.declared.place.Span.{Span}
use Rattle.characters.specs.declared.refusal.Refusal.TheVariants.{EndOfInput, BadStringEscape}
use Rattle.characters.specs.Text.{Text, byte_at, on_by, past, next}
use Rattle.characters.specs.Utf8.{char_of, sequence_of}
use Rattle.characters.specs.Names.{part, same}
use Rattle.literals.specs.Numbers.{digit_of}
use Rattle.literals.specs.declared.strings.BadEscape.TheVariants.{Short, NotHex, Unknown}
use Rattle.characters.specs.Answers.{Must, failed, taken}
use Rattle.literals.specs.Answers.{means, spells_as}
use Rattle.literals.specs.declared.strings.BadEscape.{BadEscape}
use Rattle.literals.specs.declared.strings.Escaped.{Escaped}
use Rattle.literals.specs.declared.strings.Spelled.{Spelled}

-- "`\xHH` to 7F": both digits are there and spell at most 7F
unfoldable pub hex_by : ℕ → ℕ → Result Escaped BadEscape
hex_by h l = elim (ltb h 16 && ltb l 16 && leb (h * 16 + l) 127) [ true ↦ means (h * 16 + l) 3 | false ↦ Err NotHex ]

-- "a Unicode scalar value"
abbrev pub is_scalar : ℕ → Bool
is_scalar v = ltb v 55296 || (leb 57344 v && leb v 1114111)

-- n digits that spell v stand between the braces
abbrev pub named : ℕ → ℕ → Result Escaped BadEscape
named zero v = Err (Short 2)
named (suc n) v = elim (is_scalar v) [ true ↦ means v (suc n + 3) | false ↦ Err (Short (suc n + 3)) ]

-- the byte b stands after n digits that spell v, and is no digit
unfoldable pub closing : ℕ → ℕ → ℕ → Result Escaped BadEscape
closing b n v = elim (eqb b 125) [ true ↦ named n v | false ↦ Err (Short (n + 2)) ]

-- "`\u{}` with 1 to 6 hex digits", of which n are read and spell v
unfoldable pub digits : ℕ → ℕ → Text → Result Escaped BadEscape
digits n v [] = Err (Short (n + 2))
digits n v (b ∷ s) =
    elim (ltb (digit_of b) 16) [
      | true ↦ elim (ltb n 6) [ true ↦ digits (n + 1) (v * 16 + digit_of b) s | false ↦ Err (Short (n + 2)) ]
      | false ↦ closing b n v
    ]

-- what follows `\u`
unfoldable pub unicode : Text → ℕ → Result Escaped BadEscape
unicode s o = elim (eqb (byte_at s o) 123) [ true ↦ digits 0 0 (drop (o + 1) s) | false ↦ Err (Short 1) ]

-- the escapes of one letter, `\\ \' \" \t \r \n \0`, with their characters
abbrev pub letters : List (ℕ × ℕ)
letters = (92, 92) ∷ (39, 39) ∷ (34, 34) ∷ (116, 9) ∷ (114, 13) ∷ (110, 10) ∷ (48, 0) ∷ []

unfoldable pub among : List (ℕ × ℕ) → ℕ → ℕ
among [] b = 256
among (e ∷ es) b = elim (eqb b e.0) [ true ↦ e.1 | false ↦ among es b ]

-- the character of such an escape; 256 where a byte is none of the letters
unfoldable pub letter_of : ℕ → ℕ
letter_of b = among letters b

abbrev pub escape_by : Text → ℕ → ℕ → Result Escaped BadEscape
escape_by s o b =
    elim (ltb (letter_of b) 256) [
      | true ↦ means (letter_of b) 1
      | false ↦
          elim (eqb b 120) [
            | true ↦ hex_by (digit_of (byte_at s (o + 1))) (digit_of (byte_at s (o + 2)))
            | false ↦ elim (eqb b 117) [ true ↦ unicode s (o + 1) | false ↦ Err Unknown ]
          ]
    ]

-- "escapes `\\ \' \" \t \r \n \0`, `\xHH`, `\u{}`": what follows the `\` before an offset
unfoldable pub escape : Text → ℕ → Result Escaped BadEscape
escape s o = escape_by s o (byte_at s o)

-- the bytes that are surely there, where an escape is read
abbrev pub reach : Result Escaped BadEscape → ℕ
reach (Ok x) = x.width
reach (Err (Short n)) = n
reach (Err NotHex) = 1
reach (Err Unknown) = 0

-- the place that a wrong escape is refused at, the place after its `\` being p: `\x` takes two more characters, whatever they are
abbrev pub strayed : Text → Place → BadEscape → Place
strayed s p (Short n) = on_by n p
strayed s p NotHex = next s (next s (on_by 1 p))
strayed s p Unknown = next s p

-- The rest of the string that began at `at` with the quote q, from the place p on. The bytes of an escape are left out one by one, so that the
-- text falls: so many of those at the front are read already.
unfoldable pub scan : Text → Place → ℕ → ℕ → Text → Place → Must
scan s at q left [] p = failed EndOfInput p
scan s at q zero (b ∷ t) p =
    elim (eqb b q) [
      | true ↦ taken at (past b p)
      | false ↦
          elim (eqb b 92) [
            | true ↦
                elim (escape s (p.offset + 1)) [
                  | Ok x ↦ scan s at q x.width t (on_by (1 + x.width) p)
                  | Err e ↦ failed BadStringEscape (strayed s (on_by 1 p) e)
                ]
            | false ↦ scan s at q zero t (past b p)
          ]
    ]
scan s at q (suc left) (b ∷ t) p = scan s at q left t p

abbrev pub string_by : Text → Place → Text → Must
string_by s p [] = failed EndOfInput p
string_by s p (q ∷ t) = scan s p q 0 t (past q p)

-- the string whose opening quote stands at a place, up to past its closing quote
unfoldable pub string : Text → Place → Must
string s p = string_by s p (drop p.offset s)

-- ---- the characters that a string spells: Unicode scalar values

abbrev pub escape_value : Result Escaped BadEscape → ℕ
escape_value (Ok x) = x.value
escape_value (Err e) = 92

abbrev pub escape_width : Result Escaped BadEscape → ℕ
escape_width (Ok x) = x.width
escape_width (Err e) = 0

-- the character of an escape whose `\` ends at an offset, and the offset after it
abbrev pub spelled_by : Result Escaped BadEscape → ℕ → Spelled
spelled_by x at = record { value = escape_value x; next = at + escape_width x }

-- the character that begins with the byte b, before the text t: one of ASCII, an escape, or one by RFC 3629. A `\` that opens no escape is itself
unfoldable pub value_in : ℕ → Text → ℕ
value_in b t = elim (eqb b 92) [ true ↦ escape_value (escape t 0) | false ↦ elim (ltb b 128) [ true ↦ b | false ↦ char_of (b ∷ t) ] ]

-- how many bytes more it has
unfoldable pub width_in : ℕ → Text → ℕ
width_in b t = elim (eqb b 92) [ true ↦ escape_width (escape t 0) | false ↦ elim (ltb b 128) [ true ↦ 0 | false ↦ sequence_of (b ∷ t) - 1 ] ]

-- the characters of what stands between the quotes, of which so many bytes are read already
unfoldable pub decode : ℕ → Text → List ℕ
decode left [] = []
decode zero (b ∷ t) = value_in b t ∷ decode (width_in b t) t
decode (suc left) (b ∷ t) = decode left t

abbrev pub decoded : Text → List ℕ
decoded t = decode 0 t

abbrev pub piece_in : ℕ → Text → Option Spelled
piece_in o [] = None
piece_in o (b ∷ t) = spells_as (value_in b t) (o + 1 + width_in b t)

-- the character at an offset, and the offset after it
unfoldable pub piece : Text → ℕ → Option Spelled
piece s o = piece_in o (drop o s)

-- every escape of a text is one
unfoldable pub sound : ℕ → Text → Bool
sound zero [] = true
sound (suc left) [] = false
sound zero (b ∷ t) =
    elim (eqb b 92) [
      | true ↦ elim (escape t 0) [ Ok x ↦ sound x.width t | Err e ↦ false ]
      | false ↦ sound zero t
    ]
sound (suc left) (b ∷ t) = sound left t

-- ---- keys: "Values compare by decoded characters"

abbrev pub is_quote : ℕ → Bool
is_quote b = eqb b 34 || eqb b 39

-- what a key spells, from one offset to another: a string without its quotes, or a name
unfoldable pub key_of : Text → ℕ → ℕ → Text
key_of s from to = elim (is_quote (byte_at s from)) [ true ↦ part s (from + 1) (to - 1) | false ↦ part s from to ]

unfoldable pub same_key : Text → Span → Span → Bool
same_key s a b = same (decoded (key_of s a.from a.to)) (decoded (key_of s b.from b.to))
