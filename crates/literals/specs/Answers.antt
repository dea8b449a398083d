-- What the leaves of literals answer. Assumes nothing.
use Rattle.std.specs.Prelude.{◌≡◌, ℕ, Result, Ok, Option, Some}
use Rattle.std.proofs.Common.{ap}
use Rattle.characters.specs.declared.place.Place.{Place}
use Rattle.characters.specs.declared.refusal.Refused.{Refused}
use Rattle.characters.specs.declared.place.Token.{Token}
use Rattle.characters.specs.Answers.{taken}
use Rattle.literals.specs.declared.numbers.Digits.{Digits}
use Rattle.literals.specs.declared.strings.BadEscape.{BadEscape}
use Rattle.literals.specs.declared.strings.Escaped.{Escaped}
use Rattle.literals.specs.declared.strings.Spelled.{Spelled}

-- a run of digits with this value, up to `p`
abbrev pub digits_to : ℕ → Place → Result Digits Refused
digits_to v p = Ok (record { value = v; next = p })

-- an escape that means `v`, of so many bytes
abbrev pub means : ℕ → ℕ → Result Escaped BadEscape
means v w = Ok (record { value = v; width = w })

-- a character, and the offset after it
abbrev pub spells_as : ℕ → ℕ → Option Spelled
spells_as v n = Some (record { value = v; next = n })

-- the same answer has the same parts
pub taken_here : {h n h' n' : Place} → taken h n ≡ taken h' n' → h ≡ h'
taken_here {h} {n} {h'} {n'} e = let f : ◌≡◌ {A = Token} (record { here = h; next = n }) (record { here = h'; next = n' }) = cc in ap (λ (t : Token). t.here) f

pub means_width : {v w v' w' : ℕ} → means v w ≡ means v' w' → w ≡ w'
means_width {v} {w} {v'} {w'} e = let f : ◌≡◌ {A = Escaped} (record { value = v; width = w }) (record { value = v'; width = w' }) = cc in ap (λ (x : Escaped). x.width) f

pub spells_parts : {x y : Spelled} → Some x ≡ Some y → (x.value ≡ y.value) × (x.next ≡ y.next)
spells_parts {x} {y} e = let f : x ≡ y = cc in (ap (λ (z : Spelled). z.value) f, ap (λ (z : Spelled). z.next) f)
