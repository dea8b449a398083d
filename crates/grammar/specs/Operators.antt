-- The operators: "Binding, tightest first: `* / %`; `+ -`; `<< >>`; `<= < >= >`; `== !=`; `&`; `^`; `|`; `&&`; `||`; then `? :`".
-- Assumes nothing.
use Rattle.std.specs.Prelude.{Bool, true, false, ◌&&◌, ◌||◌, not, List, [], ◌∷◌, ℕ, suc, get_or}
use Rattle.characters.specs.Text.{Text, ascii}
use Rattle.characters.specs.Tokens.{spells}

-- an operator's sign, and its strength: the lower, the tighter
pub record Operator : Type 0 where
  pub sign : Text
  pub strength : ℕ

abbrev op : Prim.Native.String.String → ℕ → Operator
op s k = record { sign = ascii s; strength = k }

-- the table of the Rust, in its order: of two signs that begin alike the longer stands first
abbrev pub operators : List Operator
operators =
    op "*" 3
    ∷ op "/" 3
    ∷ op "%" 3
    ∷ op "+" 4
    ∷ op "-" 4
    ∷ op "<<" 5
    ∷ op ">>" 5
    ∷ op "<=" 6
    ∷ op "<" 6
    ∷ op ">=" 6
    ∷ op ">" 6
    ∷ op "==" 7
    ∷ op "!=" 7
    ∷ op "&&" 11
    ∷ op "||" 12
    ∷ op "&" 8
    ∷ op "^" 9
    ∷ op "|" 10
    ∷ []

abbrev none : Operator
none = record { sign = []; strength = 0 }

-- the operator of a number, from 1
abbrev pub operator_of : ℕ → Operator
operator_of k = get_or (none ∷ operators) k none

abbrev pub strength_of : ℕ → ℕ
strength_of k = (operator_of k).strength

-- "then `? :`": looser than every operator; it also ends a chain
abbrev pub loosest : ℕ
loosest = 13

-- the first operator, numbered from k, that a text begins with; 0 where there is none
unfoldable pub first_of : ℕ → List Operator → Text → ℕ
first_of k [] t = 0
first_of k (o ∷ os) t = elim (spells o.sign t) [ true ↦ k | false ↦ first_of (suc k) os t ]

-- the signs of assignment
abbrev pub assignments : List Text
assignments =
    ascii "<<="
    ∷ ascii ">>="
    ∷ ascii "*="
    ∷ ascii "/="
    ∷ ascii "%="
    ∷ ascii "+="
    ∷ ascii "-="
    ∷ ascii "&="
    ∷ ascii "^="
    ∷ ascii "|="
    ∷ []

unfoldable pub any_of : List Text → Text → Bool
any_of [] t = false
any_of (w ∷ ws) t = spells w t || any_of ws t

-- an assignment sign stands here: one of those, or a `=` that opens no `==`
unfoldable pub is_assignment : Text → Bool
is_assignment t = any_of assignments t || (spells (ascii "=") t && not (spells (ascii "==") t))
