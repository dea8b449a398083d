-- A list of cases is one text. A case is a small letter, a space, the length of its text in decimal digits and an LF, then the text and
-- an LF. Assumes nothing.
use Rattle.std.specs.Prelude.{Result, Ok, Err, Option, Some, None, ◌≡◌, Bool, true, false, ◌&&◌, [], ◌∷◌, ℕ, ◌+◌, ◌-◌, ◌*◌, ◌<◌, leb, ltb, eqb, drop}
use Rattle.characters.specs.Text.{Text, byte_at}
use Rattle.cases.specs.declared.Case.{Case}
use Rattle.cases.specs.declared.BadCase.{BadCase}
use Rattle.cases.specs.declared.Size.{Size}

-- a small letter
abbrev pub is_kind : ℕ → Bool
is_kind b = leb 97 b && leb b 122

abbrev pub is_digit : ℕ → Bool
is_digit b = leb 48 b && leb b 57

abbrev pub sized : ℕ → ℕ → Size
sized v o = record { value = v; after = o }

-- the number that a text goes on with: its value, and the offset after its digits. It is not read on past nine digits
unfoldable pub size_in : Text → ℕ → ℕ → Size
size_in [] v o = sized v o
size_in (b ∷ s) v o = elim (ltb v 100000000 && is_digit b) [ true ↦ size_in s (v * 10 + (b - 48)) (o + 1) | false ↦ sized v o ]

unfoldable pub size_at : Text → ℕ → Size
size_at s o = size_in (drop o s) 0 o

-- what reading a number answers
pub record SizeOf (s : Text) (o : ℕ) (r : Size) : Type 0 where
  pub is : r ≡ size_at s o
  pub small : r.value < 1000000000

-- what may stand at an offset of a list: a case, its end, or neither
abbrev pub Met : Type 0
Met = Result (Option Case) BadCase

abbrev pub case_of : ℕ → ℕ → ℕ → ℕ → Met
case_of k f t n = Ok (Some (record { kind = k; from = f; to = t; next = n }))

abbrev pub ended : Met
ended = Ok None

abbrev pub bad : ℕ → Met
bad o = Err (record { at = o })

abbrev pub pick_case : Bool → Met → Met → Met
pick_case true a b = a
pick_case false a b = b

-- the text from f up to t, if an LF follows it
abbrev pub text_at : Text → ℕ → ℕ → ℕ → ℕ → Met
text_at s o k f t = pick_case (eqb (byte_at s t) 10) (case_of k f t (t + 1)) (bad o)

-- the text after its length, of which there is at least one digit, and an LF
abbrev pub sized_at : Text → ℕ → ℕ → Size → Met
sized_at s o k z = pick_case (ltb (o + 2) z.after && eqb (byte_at s z.after) 10) (text_at s o k (z.after + 1) (z.after + 1 + z.value)) (bad o)

-- the case whose first byte is k
abbrev pub opened_at : Text → ℕ → ℕ → Met
opened_at s o k = pick_case (is_kind k && eqb (byte_at s (o + 1)) 32) (sized_at s o k (size_at s (o + 2))) (bad o)

-- the case at an offset: `ended` past the end, `bad` where none begins
unfoldable pub case_at : Text → ℕ → Met
case_at s o = pick_case (eqb (byte_at s o) 256) ended (opened_at s o (byte_at s o))
