-- SHEETS: a lent buffer of bytes, and the place in it that is written next. Assumes nothing.
use Rattle.std.specs.Prelude.{◌≡◌, Bool, true, false, List, [], ◌∷◌, ℕ, ◌+◌, ltb, length, set}
use Rattle.characters.specs.Text.{Text}

-- The buffer's bytes, and where the next one goes. A place past the buffer's length says that something did not fit.
pub record Sheet : Type 0 where
  pub out : List ℕ
  pub at : ℕ

abbrev pub sheet : List ℕ → ℕ → Sheet
sheet out at = record { out = out; at = at }

abbrev pub put_by : Bool → ℕ → Sheet → Sheet
put_by true b w = sheet (set w.out w.at b) (w.at + 1)
put_by false b w = sheet w.out (length w.out + 1)

-- One byte more. Where there is no room nothing is written, and the place is one past the length from then on.
unfoldable pub put : ℕ → Sheet → Sheet
put b w = put_by (ltb w.at (length w.out)) b w

-- So many bytes more, one after the other.
unfoldable pub wrote : Text → Sheet → Sheet
wrote [] w = w
wrote (b ∷ t) w = wrote t (put b w)

-- What every printing function ensures: the sheet as it leaves it is the one that it was lent with these bytes more. So it determines the
-- place answered and every byte of the buffer.
pub record Writes (t : Text) (w later : Sheet) : Type 0 where
  pub is : later ≡ wrote t w
