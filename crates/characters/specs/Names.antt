-- Names and reserved words. Assumes nothing.
use Rattle.std.specs.Prelude.{Ok, Err, Bool, true, false, ◌&&◌, ◌||◌, List, [], ◌∷◌, ℕ, suc, ◌+◌, ◌-◌, ◌*◌, leb, eqb, take, drop}
use Rattle.characters.specs.declared.place.Place.{Place}
use Rattle.characters.specs.declared.refusal.Refusal.TheVariants.{ExpectedIdentifier, ReservedWord}
use Rattle.characters.specs.Answers.{Must, taken, failed}
use Rattle.characters.specs.Text.{Text, byte_at, ascii, past}

abbrev pub is_digit : ℕ → Bool
is_digit b = leb 48 b && leb b 57

-- a small letter: what most bytes of names are
abbrev pub is_small : ℕ → Bool
is_small b = leb 97 b && leb b 122

-- a letter or `_`: what a name begins with
abbrev pub is_letter : ℕ → Bool
is_letter b = is_small b || (leb 65 b && leb b 90) || eqb b 95

-- "a letter, digit or `_`": what a name goes on with, and what no keyword is followed by
abbrev pub is_name_byte : ℕ → Bool
is_name_byte b = is_letter b || is_digit b

-- past the bytes of a name
unfoldable pub along : Text → Place → Place
along [] p = p
along (b ∷ s) p = elim (is_name_byte b) [ true ↦ along s (past b p) | false ↦ p ]

-- the bytes of the name that a text begins with
unfoldable pub run : Text → Text
run [] = []
run (b ∷ s) = elim (is_name_byte b) [ true ↦ b ∷ run s | false ↦ [] ]

abbrev pub name_by : Bool → Text → Place → Must
name_by true s p = taken p (along s p)
name_by false s p = failed ExpectedIdentifier p

-- the name at a place, with no blanks before it, or 11
unfoldable pub name : Text → Place → Must
name s p = name_by (is_letter (byte_at s p.offset)) (drop p.offset s) p

-- the bytes from one offset to another
abbrev pub part : Text → ℕ → ℕ → Text
part s from to = take (to - from) (drop from s)

-- two texts of the same bytes
unfoldable pub same : Text → Text → Bool
same [] [] = true
same [] (b ∷ t) = false
same (a ∷ s) [] = false
same (a ∷ s) (b ∷ t) = eqb a b && same s t

-- "Reserved words (28, in `is_reserved`)", in the order of the Rust
abbrev pub reserved : List Text
reserved =
    ascii "true"
    ∷ ascii "false"
    ∷ ascii "nil"
    ∷ ascii "let"
    ∷ ascii "var"
    ∷ ascii "fun"
    ∷ ascii "class"
    ∷ ascii "extends"
    ∷ ascii "if"
    ∷ ascii "else"
    ∷ ascii "loop"
    ∷ ascii "while"
    ∷ ascii "for"
    ∷ ascii "return"
    ∷ ascii "break"
    ∷ ascii "continue"
    ∷ ascii "assert"
    ∷ ascii "instanceof"
    ∷ ascii "import"
    ∷ ascii "try"
    ∷ ascii "catch"
    ∷ ascii "finally"
    ∷ ascii "throw"
    ∷ ascii "yield"
    ∷ ascii "do"
    ∷ ascii "in"
    ∷ ascii "match"
    ∷ ascii "export"
    ∷ []

-- the first of the words, numbered from k, that a name is; 0 where it is none of them
unfoldable pub numbered : ℕ → List Text → Text → ℕ
numbered k [] n = 0
numbered k (w ∷ ws) n = elim (same w n) [ true ↦ k | false ↦ numbered (suc k) ws n ]

-- the number of a reserved word, from 1; 0 of any other name
unfoldable pub word_of : Text → ℕ
word_of n = numbered 1 reserved n

abbrev pub free_by : Text → Must → Must
free_by s (Ok t) = elim (eqb (word_of (part s t.here.offset t.next.offset)) 0) [ true ↦ Ok t | false ↦ failed ReservedWord t.here ]
free_by s (Err e) = Err e

-- the name at a place where reserved words are barred: 12 at the name's start
unfoldable pub free_name : Text → Place → Must
free_name s p = free_by s (name s p)

-- bytes as one number, each a digit to the base 256
unfoldable pub fold_of : ℕ → Text → ℕ
fold_of v [] = v
fold_of v (b ∷ s) = fold_of (v * 256 + b) s
