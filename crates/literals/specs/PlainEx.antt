-- Examples that compute: a text, and where the plain literal at its start ends; 0 where it has none. Assumes nothing.
use Rattle.std.specs.Prelude.{◌≡◌, refl, List, [], ◌∷◌, map, ℕ}
use Rattle.characters.specs.Text.{Text, ascii}
use Rattle.characters.specs.Counts.{count_of}
use Rattle.literals.specs.Plain.{int_end, float_end, value_from, int_value, string_end}

-- what is answered is what is told
abbrev Right : (Text → ℕ) → List (Text × ℕ) → Type 0
Right f cs = map (λ (c : Text × ℕ). f c.0) cs ≡ map (λ (c : Text × ℕ). c.1) cs

-- eighteen digits are plain, nineteen are not
ints : Right (λ t. int_end t 0)
    ((ascii "0", 1)
    ∷ (ascii "12;", 2)
    ∷ (ascii "7 + 1", 1)
    ∷ (ascii "999999999999999999,", 18)
    ∷ (ascii "9999999999999999999", 0)
    ∷ (ascii "1.5", 0)
    ∷ (ascii "1_0", 0)
    ∷ (ascii "1e5", 0)
    ∷ (ascii "0x1F", 0)
    ∷ (ascii "a1", 0)
    ∷ (ascii "", 0)
    ∷ [])
unfolding int_end count_of
ints = refl

-- a dot wants digits on both sides; a name, a separator, an exponent or a second dot behind them is not plain
floats : Right (λ t. float_end t 0)
    ((ascii "1.5", 3)
    ∷ (ascii "12.50;", 5)
    ∷ (ascii "0.0 + 1", 3)
    ∷ (ascii "12", 0)
    ∷ (ascii "1.", 0)
    ∷ (ascii "1.a", 0)
    ∷ (ascii ".5", 0)
    ∷ (ascii "1_0.5", 0)
    ∷ (ascii "1._5", 0)
    ∷ (ascii "1.5_0", 0)
    ∷ (ascii "1.5e3", 0)
    ∷ (ascii "1.5E3", 0)
    ∷ (ascii "1.5x", 0)
    ∷ (ascii "1.5.a", 0)
    ∷ (ascii "", 0)
    ∷ [])
unfolding float_end count_of
floats = refl

values : Right (λ t. int_value t 0 3) ((ascii "007", 7) ∷ (ascii "123;", 123) ∷ (ascii "999", 999) ∷ [])
unfolding value_from
values = refl

-- an escape, a line end and a character above ASCII are not plain; the other quote is
strings : Right (λ t. string_end t 0)
    ((ascii "'a b' ", 5)
    ∷ (ascii "''", 2)
    ∷ (34 ∷ 39 ∷ 34 ∷ [], 3)
    ∷ (ascii "'a", 0)
    ∷ (39 ∷ 92 ∷ 110 ∷ 39 ∷ [], 0)
    ∷ (39 ∷ 10 ∷ 39 ∷ [], 0)
    ∷ (39 ∷ 195 ∷ 169 ∷ 39 ∷ [], 0)
    ∷ [])
unfolding string_end count_of
strings = refl
