-- What readers answer: what they took or found, or why they refuse. Assumes nothing.
use Rattle.std.specs.Prelude.{Result, Ok, Err, IsErr, IsErrAnd, ◌≡◌}
use Rattle.std.proofs.Common.{ap, ◌∙◌}
use Rattle.std.proofs.lemmas.Result.{err_from_is_err_and}
use Rattle.characters.specs.declared.place.Place.{Place}
use Rattle.characters.specs.declared.refusal.Refusal.{Refusal}
use Rattle.characters.specs.declared.refusal.Refused.{Refused}
use Rattle.characters.specs.declared.place.Token.{Token}
use Rattle.characters.specs.declared.tokens.Look.{Look}
use Rattle.characters.specs.declared.tokens.Look.TheVariants.{Found, Missing}

-- what has to be there
abbrev pub Must : Type 0
Must = Result Token Refused

-- what may be there
abbrev pub Looked : Type 0
Looked = Result Look Refused

-- a token from h to n
abbrev pub taken : Place → Place → Must
taken h n = Ok (record { here = h; next = n })

-- refused at p, whatever was to be read
abbrev pub failed : {T : Type 0} → Refusal → Place → Result T Refused
failed k p = Err (record { refusal = k; at = p })

-- what may be there is, from h to n
pattern abbrev pub found : Place → Place → Looked
found h n = Ok (Found h n)

-- what may be there is not, at h
pattern abbrev pub missing : Place → Looked
missing h = Ok (Missing h)

-- the same token taken is at the same places
pub taken_next : {h n h' n' : Place} → taken h n ≡ taken h' n' → n ≡ n'
taken_next {h} {n} {h'} {n'} e = let f : ◌≡◌ {A = Token} (record { here = h; next = n }) (record { here = h'; next = n' }) = cc in ap (λ (t : Token). t.next) f

-- what a `?` hands on is the refusal that it was given
pub handed : {T E : Type 0} {r : Result T E} {d : E} → IsErr r × IsErrAnd r (λ (x : E). x ≡ d) → r ≡ Err d
handed {T} {E} {r} {d} h = let p = err_from_is_err_and {Q = λ (x : E). x ≡ d} r h.1 in p.1 ∙ ap Err p.2
