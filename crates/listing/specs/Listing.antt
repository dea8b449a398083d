-- THE LISTING: the line of each record, out of its row and the text, and the last line. What a field means stands in the table of kinds;
-- here stands how each meaning prints. Assumes nothing.
use Rattle.std.specs.Prelude.{Bool, true, false, ◌||◌, List, [], ◌∷◌, ◌++◌, ℕ, zero, suc, ◌+◌, ◌-◌, ◌/◌, ◌%◌, ltb, eqb, length, get_or, None, Option, Some}
use Rattle.characters.specs.declared.place.Place.{Place}
use Rattle.characters.specs.Text.{Text, ascii, start, on_by}
use Rattle.characters.specs.Names.{part, same}
use Rattle.literals.specs.Strings.{decoded, key_of}
use Rattle.literals.specs.ByteArrays.{bytes_of}
use Rattle.reading.specs.declared.answer.Answer.{Answer}
use Rattle.records.specs.declared.kind.Kind.{Kind}
use Rattle.records.specs.declared.kind.Kind.TheVariants as kinds
use Rattle.records.specs.declared.row.Row.{Row}
use Rattle.records.specs.Kinds.{Meaning, expression, statement, function, class, items, span, low, high, mark, operator, id, number, unused, shape, number_of, meaning_at}
use Rattle.records.specs.Words.{span_of, whole_of}
use Rattle.records.specs.Rows.{row_at}
use Rattle.listing.specs.declared.fields.Form.{Form}
use Rattle.listing.specs.declared.fields.Form.TheVariants.{Hidden, Plain, Named, Quoted, Array, Float, Int, Prefix, Sign}

-- ---- numbers

-- At most so many decimal digits of a number.
unfoldable pub digits : ℕ → ℕ → Text
digits zero n = []
digits (suc more) n = elim (ltb n 10) [ true ↦ (48 + n) ∷ [] | false ↦ digits more (n / 10) ++ ((48 + n % 10) ∷ []) ]

-- A number in decimal. It has no more digits than it counts, and one.
unfoldable pub decimal : ℕ → Text
decimal n = digits (suc n) n

-- "value in decimal, `-` before a negative one": of an int64 in two's complement.
unfoldable pub signed : ℕ → Text
signed v = elim (ltb v 9223372036854775808) [ true ↦ decimal v | false ↦ 45 ∷ decimal (18446744073709551616 - v) ]

-- A position: line and column.
abbrev pub place : ℕ → ℕ → Text
place line column = decimal line ++ (58 ∷ decimal column)

-- ---- what a span of the text prints as

-- The bytes of a span, as far as they stand in the text.
abbrev pub spanned : Text → ℕ → Text
spanned s word = part s (span_of word).from (span_of word).to

-- "name or `-`": 0 is no span.
unfoldable pub name : Text → ℕ → Text
name s word = elim (eqb word 0) [ true ↦ 45 ∷ [] | false ↦ spanned s word ]

-- RFC 3629, section 3: the bytes of a character.
unfoldable pub utf8 : ℕ → Text
utf8 v =
    elim (ltb v 0x80) [
      | true ↦ v ∷ []
      | false ↦
          elim (ltb v 0x800) [
            | true ↦ (0xC0 + v / 64) ∷ (0x80 + v % 64) ∷ []
            | false ↦
                elim (ltb v 0x10000) [
                  | true ↦ (0xE0 + v / 4096) ∷ (0x80 + v / 64 % 64) ∷ (0x80 + v % 64) ∷ []
                  | false ↦ (0xF0 + v / 262144 % 8) ∷ (0x80 + v / 4096 % 64) ∷ (0x80 + v / 64 % 64) ∷ (0x80 + v % 64) ∷ []
                ]
          ]
    ]

-- One decoded character of a string: itself.
abbrev pub character : ℕ → Text
character v = utf8 v

unfoldable pub characters : List ℕ → Text
characters [] = []
characters (v ∷ vs) = character v ++ characters vs

-- The characters that a string or a key spells: a string stands with its quotes, a key may be a name.
abbrev pub spelled : Text → List ℕ
spelled t = decoded (key_of t 0 (length t))

-- "Strings print as their decoded characters between double quotes."
unfoldable pub quoted : Text → Text
quoted t = 34 ∷ characters (spelled t) ++ (34 ∷ [])

-- The sixteen hex digits, capitals.
abbrev pub hex : ℕ → ℕ
hex d = elim (ltb d 10) [ true ↦ 48 + d | false ↦ 55 + d ]

-- "two hex digits a byte, capitals, a space between; nothing if empty": a space before each, the first one's being the field's.
abbrev pub pair : ℕ → Text
pair v = 32 ∷ hex (v / 16 % 16) ∷ hex (v % 16) ∷ []

unfoldable pub pairs : List ℕ → Text
pairs [] = []
pairs (v ∷ vs) = pair v ++ pairs vs

-- A bytearray stands with its `#[`, past which its bytes are read.
unfoldable pub bytes : Text → Text
bytes t = pairs (bytes_of t (on_by 2 start))

-- "the literal as written, `-` before it where the minus mark is set"
abbrev pub minus : ℕ → Text
minus m = elim (eqb m 1) [ true ↦ 45 ∷ [] | false ↦ [] ]

-- ---- signs

-- "sign (`-` or `!`)", by the operator's number from 1.
abbrev pub prefixes : List Text
prefixes = [] ∷ ascii "-" ∷ ascii "!" ∷ []

-- The signs of binaries, in the order of the Rust's table.
abbrev pub signs : List Text
signs =
    []
    ∷ ascii "*"
    ∷ ascii "/"
    ∷ ascii "%"
    ∷ ascii "+"
    ∷ ascii "-"
    ∷ ascii "<<"
    ∷ ascii ">>"
    ∷ ascii "<="
    ∷ ascii "<"
    ∷ ascii ">="
    ∷ ascii ">"
    ∷ ascii "=="
    ∷ ascii "!="
    ∷ ascii "&&"
    ∷ ascii "||"
    ∷ ascii "&"
    ∷ ascii "^"
    ∷ ascii "|"
    ∷ []

-- ---- how a field prints

-- Whether two kinds are the same.
abbrev is : Kind → Kind → Bool
is j k = eqb (number_of j) (number_of k)

-- A span is a name, but of these kinds.
abbrev pub span_form : Kind → Form
span_form k =
    elim (is k kinds.String || is k kinds.Pair) [
      | true ↦ Quoted
      | false ↦ elim (is k kinds.Bytes) [ true ↦ Array | false ↦ elim (is k kinds.Float) [ true ↦ Float | false ↦ Named ] ]
    ]

-- A float's mark is printed before its literal.
abbrev pub mark_form : Kind → Form
mark_form k = elim (is k kinds.Float) [ true ↦ Hidden | false ↦ Plain ]

abbrev pub sign_form : Kind → Form
sign_form k = elim (is k kinds.Unary) [ true ↦ Prefix | false ↦ Sign ]

abbrev pub form_by : Kind → Meaning → Form
form_by k expression = Plain
form_by k statement = Plain
form_by k function = Plain
form_by k class = Plain
form_by k items = Plain
form_by k span = span_form k
form_by k low = Int
form_by k high = Hidden
form_by k mark = mark_form k
form_by k operator = sign_form k
form_by k id = Plain
form_by k number = Plain
form_by k unused = Hidden

-- How the field with this index prints, by what the table of kinds says of it.
abbrev pub form_at : Kind → ℕ → Form
form_at k i = form_by k (meaning_at k i)

-- A field with the space before it, out of its word and the next.
unfoldable pub field : Text → Form → ℕ → ℕ → Text
field s Hidden word next = []
field s Plain word next = 32 ∷ decimal word
field s Named word next = 32 ∷ name s word
field s Quoted word next = 32 ∷ quoted (spanned s word)
field s Array word next = bytes (spanned s word)
field s Float word next = 32 ∷ minus next ++ spanned s word
field s Int word next = 32 ∷ signed (whole_of word next)
field s Prefix word next = 32 ∷ get_or prefixes word []
field s Sign word next = 32 ∷ get_or signs word []

-- ---- lines

-- The name of a kind in the listing.
abbrev pub name_of : Kind → Text
name_of k = ascii (shape k).name

-- The kinds that are listed as `item`.
abbrev pub is_item : Kind → Bool
is_item k = same (name_of k) (ascii "item")

-- "position (items none)"
abbrev pub positioned : Kind → Place → Text
positioned k p = elim (is_item k) [ true ↦ [] | false ↦ 32 ∷ place p.line p.column ]

abbrev pub fields : Text → Row → Text
fields s w =
    field s (form_at w.kind 0) w.a w.b
    ++ field s (form_at w.kind 1) w.b w.c
    ++ field s (form_at w.kind 2) w.c w.d
    ++ field s (form_at w.kind 3) w.d 0

-- "Each line: record number, kind, position (items none), fields", and the line end.
unfoldable pub line_of : Text → ℕ → Row → Text
line_of s n w = decimal n ++ (32 ∷ name_of w.kind) ++ positioned w.kind w.position ++ fields s w ++ (10 ∷ [])

abbrev pub line_by : Text → ℕ → Option Row → Text
line_by s n (Some w) = line_of s n w
line_by s n None = decimal n ++ (ascii " ?" ++ (10 ∷ []))

-- The line of the record with this number. Where the pool has no such record, a `?` stands for it.
unfoldable pub line_at : Text → List ℕ → ℕ → Text
line_at s pool n = line_by s n (row_at pool n)

-- "Last line: `ok`, records, comparisons; or `refused`, number, place, records, comparisons." 0 is no refusal's number.
abbrev pub counts : Answer → Text
counts a = decimal a.records ++ (32 ∷ decimal a.comparisons) ++ (10 ∷ [])

unfoldable pub last_line : Answer → Text
last_line a =
    elim (eqb a.number 0) [
      | true ↦ ascii "ok " ++ counts a
      | false ↦ ascii "refused " ++ decimal a.number ++ (32 ∷ place a.line a.column) ++ (32 ∷ counts a)
    ]

-- The lines of so many records, after so many others.
unfoldable pub lines : Text → List ℕ → ℕ → ℕ → Text
lines s pool made zero = []
lines s pool made (suc n) = line_at s pool (made + 1) ++ lines s pool (made + 1) n

-- What `plushlist` prints: "the records made, after a refusal too", and the last line.
unfoldable pub listing_of : Text → List ℕ → Answer → Text
listing_of s pool a = lines s pool 0 a.records ++ last_line a
