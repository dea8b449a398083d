-- Where the tokens of a list lead: an expected token, and what follows an element. Assumes nothing.
use Rattle.std.specs.Prelude.{◌≡◌, [], ◌∷◌, ℕ, ◌+◌, ◌≤◌, Err, Ok}
use Rattle.std.proofs.Common.{ap, arith}
use Rattle.characters.specs.declared.place.Place.{Place}
use Rattle.characters.specs.Answers.{Looked, Must, found, missing}
use Rattle.characters.specs.Text.{Text, Stands}
use Rattle.characters.specs.PlaceLaws.{Reached, Advanced, reached_on, advanced_on}
use Rattle.characters.specs.Tokens.{token, expected, needed}
use Rattle.characters.specs.TokenLaws.{TokenOn, token_on}
use Rattle.grammar.specs.Leaves.{comma_by, follow_by, follow_of}

-- An expected token leads over itself.
abbrev pub ExpectedOn : Text → Place → Must → Type 0
ExpectedOn s p (Ok t) = Reached s p t.next
ExpectedOn s p (Err e) = Unit {0}

-- So it is of every expected token.
pub expected_leads : (s : Text) (p : Place) (w : Text) → Stands s p → ExpectedOn s p (expected s p w)
unfolding expected
expected_leads s p w h = go (token s p w) (token_on s p w h)
  where
    go : (l : Looked) → TokenOn s p w l → ExpectedOn s p (needed l)
    go (found a n) g = reached_on g.0 g.1
    go (missing a) g = tt
    go (Err e) g = tt

-- A token of one byte is gone over.
token_byte : (s : Text) (p : Place) (b : ℕ) {h n : Place} → TokenOn s p (b ∷ []) (found h n) → Advanced s p n
token_byte s p b {h} {n} g =
    let o : n.offset ≡ h.offset + 1 = ap (λ (x : Place). x.offset) g.2 in
    let i : p.offset ≤ h.offset = g.0.further in
    record { stands = g.1.stands; further = omega arith }

-- What follows an element leads over the sign that closes the list, or over a comma.
abbrev pub FollowOn : Text → Place → Looked → Type 0
FollowOn s p (found h n) = Advanced s p n
FollowOn s p (missing n) = Advanced s p n
FollowOn s p (Err e) = Unit {0}

-- So it is of every list.
pub follow_leads : (s : Text) (p : Place) (b : ℕ) → Stands s p → FollowOn s p (follow_of s p b)
unfolding follow_of
follow_leads s p b h = go (token s p (b ∷ [])) (token_on s p (b ∷ []) h)
  where
    comma : (a : Place) → Reached s p a → (l : Looked) → TokenOn s a (44 ∷ []) l → FollowOn s p (comma_by (needed l))
    comma a r (found k n) g = advanced_on r (token_byte s a 44 g)
    comma a r (missing k) g = tt
    comma a r (Err e) g = tt

    go : (l : Looked) → TokenOn s p (b ∷ []) l → FollowOn s p (follow_by s l)
    go (found a n) g = token_byte s p b g
    go (missing a) g = unfold expected in comma a g (token s a (44 ∷ [])) (token_on s a (44 ∷ []) g.stands)
    go (Err e) g = tt
