-- What the leaves of the grammar answer, where it is a record, and what they begin with. Assumes nothing.
use Rattle.std.specs.Prelude.{◌≡◌, ℕ, Result, Ok, Err, Option, Some}
use Rattle.characters.specs.declared.place.Place.{Place}
use Rattle.characters.specs.declared.refusal.Refused.{Refused}
use Rattle.characters.specs.Answers.{taken}
use Rattle.characters.specs.Text.{Text, ByteOf}
use Rattle.characters.specs.Blanks.{blanks}
use Rattle.grammar.specs.declared.blanks.Front.{Front}
use Rattle.grammar.specs.declared.heads.Assignment.{Assignment}
use Rattle.grammar.specs.declared.heads.ClassHead.{ClassHead}
use Rattle.grammar.specs.declared.heads.LetHead.{LetHead}

-- an assignment sign of this operator, up to `p`
abbrev pub assigns : ℕ → Place → Option Assignment
assigns k p = Some (record { op = k; next = p })

-- the head of a `let`: `var` or not, its name, and the place after its `=`
abbrev pub lets_name : ℕ → ℕ → Place → Result LetHead Refused
lets_name m w p = Ok (record { mark = m; span = w; next = p })

-- the head of a class: its parent or 0, and the place after its `{`
abbrev pub opens_class : ℕ → Place → Result ClassHead Refused
opens_class k p = Ok (record { parent = k; next = p })

-- what stands past the blanks at a place, or the refusal of the blanks
abbrev pub Passes : Text → Place → Result Front Refused → Type 0
Passes s at (Ok f) = (taken at f.here ≡ blanks s at) × ByteOf s f.here.offset f.byte
Passes s at (Err e) = Err e ≡ blanks s at
