-- Several bytes as one number, as the code looks at them. Nothing here need be believed: `ascii_end` is held to `end_of`. Assumes nothing.
use Rattle.std.specs.Prelude.{◌≡◌, true, ℕ, zero, suc, ◌+◌, ◌*◌, ◌<◌, get_or}
use Rattle.characters.specs.Text.{Text, is_ascii}

-- a byte in a wider number
pub record Wide (b r : ℕ) : Type 0 where
  pub is : r ≡ b
  pub small : r < 256

-- n bytes from i + j on as one number, each a digit to the base 256, the first the lowest
unfoldable pub digits_from : Text → ℕ → ℕ → ℕ → ℕ
digits_from s i j zero = 0
digits_from s i j (suc n) = get_or s (i + j) 0 + 256 * digits_from s i (suc j) n

-- the highest bit of each of n bytes
unfoldable pub top_bits : ℕ → ℕ
top_bits zero = 0
top_bits (suc n) = top_bits n * 256 + 128

-- n bytes from i on are ASCII
pub record Low (n : ℕ) (s : Text) (i : ℕ) : Type 0 where
  pub each : (j : ℕ) → j < n → is_ascii (get_or s (i + j) 0) ≡ true
