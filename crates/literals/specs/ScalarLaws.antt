-- Every character that a string spells is a Unicode scalar value. Assumes nothing.
use Rattle.std.specs.Prelude.{◌≡◌, refl, true, ◌&&◌, ◌⊎◌, ℕ, zero, suc, ◌+◌, ◌*◌, ◌<◌, leb, ltb, eqb, drop, Result}
use Rattle.std.proofs.Common.{ap, ◌∙◌, inl, inr, arith, ltb-true, leb-true, lt-ltb, le-ltb, le-leb}
use Rattle.std.proofs.Math.Bool.{and-eq-true_iff}
use mathlib.Core.List.Memᴰ
use mathlib.Core.List.{[], ◌∷◌, Memᴰ}
use Rattle.characters.specs.Text.{Text, byte_at}
use Rattle.characters.specs.Utf8.{Scalar, char_of}
use Rattle.characters.specs.Utf8Laws.{char_scalar}
use Rattle.literals.specs.Numbers.{digit_of}
use Rattle.literals.specs.NumberLaws.{choice}
use Rattle.literals.specs.Strings.{hex_by, is_scalar, named, closing, digits, unicode, letter_of, escape, escape_value, value_in, width_in, decode, decoded}
use Rattle.literals.specs.declared.strings.BadEscape.{BadEscape}
use Rattle.literals.specs.declared.strings.Escaped.{Escaped}

-- a scalar value passes the test
pub scalar_true : (v : ℕ) → Scalar v → is_scalar v ≡ true
scalar_true v (inl h) = rw (lt-ltb v 55296 h)
scalar_true v (inr h) = rw (le-ltb v 55296 (omega arith), le-leb 57344 v h.0, le-leb v 1114111 h.1)

-- so does each number below the surrogates
low_scalar : (v : ℕ) → v < 55296 → is_scalar v ≡ true
low_scalar v h = scalar_true v (inl h)

-- ---- escapes

-- an escape means a scalar value
abbrev MeansScalar : Result Escaped BadEscape → Type 0
MeansScalar e = is_scalar (escape_value e) ≡ true

-- each form of an escape does
named_scalar : (n v : ℕ) → MeansScalar (named n v)
named_scalar zero v = refl
named_scalar (suc n) v = choice MeansScalar (is_scalar v) (λ x. x) (λ x. refl)

digits_scalar : (n v : ℕ) (t : Text) → MeansScalar (digits n v t)
unfolding digits closing
digits_scalar n v [] = refl
digits_scalar n v (b ∷ t) =
    choice MeansScalar (ltb (digit_of b) 16) (λ x. choice MeansScalar (ltb n 6) (λ y. digits_scalar (n + 1) (v * 16 + digit_of b) t) (λ y. refl))
    (λ x. choice MeansScalar (eqb b 125) (λ y. named_scalar n v) (λ y. refl))

hex_scalar : (h l : ℕ) → MeansScalar (hex_by h l)
unfolding hex_by
hex_scalar h l =
    choice MeansScalar (ltb h 16 && ltb l 16 && leb (h * 16 + l) 127)
    (λ x. low_scalar (h * 16 + l) (omega (arith, leb-true (h * 16 + l) 127 ((and-eq-true_iff (ltb h 16 && ltb l 16) (leb (h * 16 + l) 127)).0 x).1))) (λ x. refl)

unicode_scalar : (t : Text) (o : ℕ) → MeansScalar (unicode t o)
unfolding unicode
unicode_scalar t o = choice MeansScalar (eqb (byte_at t o) 123) (λ x. digits_scalar 0 0 (drop (o + 1) t)) (λ x. refl)

escape_scalar : (t : Text) (o : ℕ) → MeansScalar (escape t o)
unfolding escape
escape_scalar t o =
    choice MeansScalar (ltb (letter_of b) 256) (λ x. low_scalar (letter_of b) (omega (arith, ltb-true (letter_of b) 256 x)))
    (λ x. choice MeansScalar (eqb b 120) (λ y. hex_scalar (digit_of (byte_at t (o + 1))) (digit_of (byte_at t (o + 2))))
    (λ y. choice MeansScalar (eqb b 117) (λ z. unicode_scalar t (o + 1)) (λ z. refl)))
  where
    b : ℕ
    b = byte_at t o

-- ---- characters

-- the character that begins with a byte
value_scalar : (b : ℕ) (t : Text) → is_scalar (value_in b t) ≡ true
unfolding value_in
value_scalar b t =
    choice P (eqb b 92) (λ x. escape_scalar t 0)
    (λ x. choice P (ltb b 128) (λ y. low_scalar b (omega (arith, ltb-true b 128 y))) (λ y. scalar_true (char_of (b ∷ t)) (char_scalar (b ∷ t))))
  where
    P : ℕ → Type 0
    P v = is_scalar v ≡ true

-- the characters, where so many bytes are read already
decode_scalar : (t : Text) (left v : ℕ) → Memᴰ v (decode left t) → is_scalar v ≡ true
unfolding decode
decode_scalar [] left v m = absurd (Memᴰ.not-nil m)
decode_scalar (b ∷ t) zero v m = go (Memᴰ.cases_cons m) (decode_scalar t (width_in b t) v)
  where
    go : (v ≡ value_in b t) ⊎ Memᴰ v (decode (width_in b t) t) → (Memᴰ v (decode (width_in b t) t) → is_scalar v ≡ true) → is_scalar v ≡ true
    go (inl e) ih = ap is_scalar e ∙ value_scalar b t
    go (inr m) ih = ih m
decode_scalar (b ∷ t) (suc left) v m = decode_scalar t left v m

-- the characters of any text, and so of what stands between the quotes of an accepted string
pub decoded_scalar : (t : Text) (v : ℕ) → Memᴰ v (decoded t) → is_scalar v ≡ true
decoded_scalar t v m = decode_scalar t 0 v m
