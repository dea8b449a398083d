-- Blanks: what stands between tokens and means nothing. Assumes nothing.
use Rattle.std.specs.Prelude.{Bool, true, false, ◌&&◌, ◌||◌, not, [], ◌∷◌, ℕ, zero, suc, eqb, ltb, drop}
use Rattle.characters.specs.declared.place.Place.{Place}
use Rattle.characters.specs.declared.refusal.Refusal.TheVariants.{EndOfInput}
use Rattle.characters.specs.Answers.{Must, taken, failed}
use Rattle.characters.specs.Text.{Text, byte_at, past, start}

-- "Blank is space, tab, LF, FF, CR (not VT)"
abbrev pub is_blank : ℕ → Bool
is_blank b = eqb b 32 || eqb b 9 || eqb b 10 || eqb b 12 || eqb b 13

-- a byte and the text behind it begin with the sign x y
abbrev pub begins : ℕ → ℕ → ℕ → Text → Bool
begins x y b s = eqb b x && eqb (byte_at s 0) y

-- what is being passed over
pub data Mode : Type 0 where
  between : Mode  -- blanks, up to a token
  line : Mode  -- "`//` to line end"
  block : ℕ → Mode  -- "nested `/* */`": a comment with so many others around it
  passing : Mode → Mode  -- the second byte of a sign, and then on

-- out of a comment with so many others around it
abbrev pub out : ℕ → Mode
out zero = between
out (suc d) = block d

-- from `at` on, the place reached; an unclosed comment is refused there, at the end of the text
unfoldable pub pass : Place → Mode → Text → Place → Must
pass at between [] p = taken at p
pass at between (b ∷ s) p =
    elim (is_blank b) [
      | true ↦ pass at between s (past b p)
      | false ↦
          elim (begins 47 47 b s) [
            | true ↦ pass at line s (past b p)
            | false ↦ elim (begins 47 42 b s) [ true ↦ pass at (passing (block zero)) s (past b p) | false ↦ taken at p ]
          ]
    ]
pass at line [] p = taken at p
pass at line (b ∷ s) p = elim (eqb b 10) [ true ↦ pass at between s (past b p) | false ↦ pass at line s (past b p) ]
pass at (block d) [] p = failed EndOfInput p
pass at (block d) (b ∷ s) p =
    elim (begins 47 42 b s) [
      | true ↦ pass at (passing (block (suc d))) s (past b p)
      | false ↦ elim (begins 42 47 b s) [ true ↦ pass at (passing (out d)) s (past b p) | false ↦ pass at (block d) s (past b p) ]
    ]
pass at (passing m) [] p = taken at p
pass at (passing m) (b ∷ s) p = pass at m s (past b p)

-- the blanks at a place: where they begin and the place after them, or 19
unfoldable pub blanks : Text → Place → Must
blanks s p = pass p between (drop p.offset s) p

-- how many plain spaces a text begins with
unfoldable pub spaces_in : Text → ℕ
spaces_in [] = zero
spaces_in (b ∷ s) = elim (eqb b 32) [ true ↦ suc (spaces_in s) | false ↦ zero ]

-- and how many stand from an offset on
abbrev pub spaces : Text → ℕ → ℕ
spaces s o = spaces_in (drop o s)

-- may a blank begin with this byte? A comment begins with `/`, and every other blank is at most a space
abbrev pub opens_blank : ℕ → Bool
opens_blank b = ltb b 33 || eqb b 47

-- every byte but LF goes on with its line
abbrev pub is_in_line : ℕ → Bool
is_in_line b = not (eqb b 10)

-- past the LF that ends a line, or at the end of the text
unfoldable pub line_end : Text → Place → Place
line_end [] p = p
line_end (b ∷ s) p = elim (eqb b 10) [ true ↦ past b p | false ↦ line_end s (past b p) ]

-- "file form, which first skips a line opening with `#!`"
unfoldable pub file_start : Text → Place
file_start s = elim (eqb (byte_at s 0) 35 && eqb (byte_at s 1) 33) [ true ↦ line_end s start | false ↦ start ]
