-- How a reserved word is looked up: tables by which a name's length and first two letters name the one word that it can be. Assumes nothing.
use Rattle.std.specs.Prelude.{List, [], ◌∷◌, map, ℕ, ◌+◌, ◌*◌, ◌%◌, length, drop}
use Rattle.characters.specs.Text.{Text, byte_at}
use Rattle.characters.specs.Names.{reserved, fold_of}

-- the numbers that a name is looked up by
abbrev pub slot_of : ℕ → ℕ → ℕ → ℕ
slot_of n a b = (21 * a + b + 14 * n) % 64

abbrev pub head_of : ℕ → ℕ → ℕ → ℕ
head_of n a b = 65536 * n + 256 * a + b

abbrev pub slot : Text → ℕ
slot w = slot_of (length w) (byte_at w 0) (byte_at w 1)

abbrev pub head : Text → ℕ
head w = head_of (length w) (byte_at w 0) (byte_at w 1)

abbrev pub tail : Text → ℕ
tail w = fold_of 0 (drop 2 w)

-- each reserved word has a slot of its own, which holds its number
unfoldable pub slots : List ℕ
slots = 0 ∷ 0 ∷ 15 ∷ 11 ∷ 0 ∷ 2 ∷ 21 ∷ 0 ∷ 0 ∷ 0 ∷ 0 ∷ 0 ∷ 0 ∷ 0 ∷ 0 ∷ 0 ∷ 0 ∷ 7 ∷ 0 ∷ 14 ∷ 0 ∷ 28 ∷ 0 ∷ 18 ∷ 27 ∷ 3 ∷ 0 ∷ 0 ∷ 24 ∷ 0 ∷ 19 ∷ 9 ∷ 20 ∷ 0 ∷ 0 ∷ 8 ∷ 0 ∷ 0 ∷ 0 ∷ 26 ∷ 0 ∷ 22 ∷ 0 ∷ 4 ∷ 0 ∷ 10 ∷ 1 ∷ 0 ∷ 0 ∷ 12 ∷ 23 ∷ 0 ∷ 0 ∷ 0 ∷ 0 ∷ 13 ∷ 0 ∷ 5 ∷ 0 ∷ 0 ∷ 17 ∷ 6 ∷ 16 ∷ 25 ∷ []

-- of each reserved word, by its number: its length and first two letters, and the letters after them
unfoldable pub heads : List ℕ
heads = 0 ∷ map head reserved

unfoldable pub rests : List ℕ
unfolding fold_of
rests = 0 ∷ map tail reserved
