-- What the program shows on the way: the place after a token stands in the text, what stands between quotes is short, and an integer is a
-- natural number. Assumes nothing.
use Rattle.std.specs.Prelude.{Ok}
use Rattle.std.proofs.Common.{◌≡◌, ap, sym, subst, ◌∙◌, ℕ, ◌≤◌, ◌<◌, ◌^◌, arith, T, ℤ, pos, negsuc, nat_abs, length}
use mathlib.Core.Path.{subst⁻¹}
use lib.Signed.{non_neg}
use mir.Syntax.{w64}
use mir.Val.{Fits, SFits, to_z, of_z}
use mir.ValLaws.{to_z-of_z}
use Rattle.characters.specs.declared.place.Place.{Place}
use Rattle.characters.specs.Text.{Text, Stands}
use Rattle.characters.specs.Tokens.{token}
use Rattle.characters.specs.TokenLaws.{TokenOn, token_on}
use Rattle.literals.specs.NumberLaws.{Small}
use Rattle.literals.specs.Strings.{key_of}
use Rattle.literals.specs.SpellingLaws.{key_length}
use Rattle.characters.specs.Answers.{found}
use Rattle.characters.specs.declared.tokens.Look.{Look}
use Rattle.characters.specs.declared.tokens.Look.TheVariants.{Found}

-- the place after a token
pub past_token : {s : Text} {p h n : Place} {x : Look} (w : Text) → Stands s p → Ok x ≡ token s p w → x ≡ Found h n → Stands s n
past_token {s} {p} {h} {n} w k e f = let a : TokenOn s p w (found h n) = subst (TokenOn s p w) (sym e ∙ ap Ok f) (token_on s p w k) in a.1.stands

-- what stands between quotes is no longer than the text
pub key_short : (s : Text) (f t : ℕ) {x : Text} → x ≡ key_of s f t → length s < 2 ^ 31 → length x < 2 ^ 31
key_short s f t e h =
    let l : length (key_of s f t) ≤ length s = key_length s f t in
    subst⁻¹ (λ (y : Text). length y < 2 ^ 31) e (omega arith)

-- the value of an integer literal is a natural number
abbrev Natural : ℤ → Type 0
Natural z = T (non_neg z) × Fits w64 (nat_abs z)

natural_by : (z : ℤ) → Small z → Natural z
natural_by (pos v) h = (tt, record { fits = omega arith })
natural_by (negsuc v) h = absurd h

small_fits : (z : ℤ) → Small z → SFits w64 z
small_fits (pos v) h = record { sfits = omega arith }
small_fits (negsuc v) h = absurd h

pub natural : (z : ℤ) → Small z → Natural (to_z w64 (of_z w64 z))
natural z h = subst⁻¹ Natural (to_z-of_z w64 z (small_fits z h)) (natural_by z h)
