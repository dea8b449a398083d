-- Tokens and keywords: what may stand past the blanks. Assumes nothing.
use Rattle.std.specs.Prelude.{Ok, Err, Bool, true, false, ◌&&◌, not, [], ◌∷◌, ℕ, ◌+◌, eqb, length, drop}
use Rattle.characters.specs.declared.place.Place.{Place}
use Rattle.characters.specs.declared.refusal.Refusal.TheVariants.{ExpectedToken}
use Rattle.characters.specs.declared.tokens.Look.{Look}
use Rattle.characters.specs.declared.tokens.Look.TheVariants.{Found, Missing}
use Rattle.characters.specs.Answers.{Must, Looked, taken, failed, found, missing}
use Rattle.characters.specs.Text.{Text, byte_at, on_by}
use Rattle.characters.specs.Blanks.{blanks}
use Rattle.characters.specs.Names.{is_name_byte}

-- a text begins with these bytes
unfoldable pub spells : Text → Text → Bool
spells [] s = true
spells (w ∷ ws) [] = false
spells (w ∷ ws) (b ∷ s) = eqb w b && spells ws s

-- so many bytes of one character each stand at a place, or do not
abbrev pub look_by : Bool → ℕ → Place → Look
look_by true n q = Found q (on_by n q)
look_by false n q = Missing q

abbrev pub found_by : Bool → ℕ → Place → Looked
found_by t n q = Ok (look_by t n q)

-- a token of these bytes stands at a place
abbrev pub is_token : Text → Place → Text → Bool
is_token s q w = spells w (drop q.offset s)

-- "A keyword isn't followed by a letter, digit or `_`"
abbrev pub is_keyword : Text → Place → Text → Bool
is_keyword s q w = is_token s q w && not (is_name_byte (byte_at s (q.offset + length w)))

abbrev pub token_past : Text → Text → Must → Looked
token_past s w (Ok t) = found_by (is_token s t.next w) (length w) t.next
token_past s w (Err e) = Err e

-- the token past the blanks
unfoldable pub token : Text → Place → Text → Looked
token s p w = token_past s w (blanks s p)

abbrev pub keyword_past : Text → Text → Must → Looked
keyword_past s w (Ok t) = found_by (is_keyword s t.next w) (length w) t.next
keyword_past s w (Err e) = Err e

-- the keyword past the blanks
unfoldable pub keyword : Text → Place → Text → Looked
keyword s p w = keyword_past s w (blanks s p)

abbrev pub needed : Looked → Must
needed (found h n) = taken h n
needed (missing h) = failed ExpectedToken h
needed (Err e) = Err e

-- the token past the blanks, or 10 at "the place reached"
unfoldable pub expected : Text → Place → Text → Must
expected s p w = needed (token s p w)
