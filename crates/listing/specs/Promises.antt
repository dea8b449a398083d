-- WHAT A CALLER OF THE PRINTING FUNCTIONS MAY RELY ON, of any bytes that they print. Each proof is one citation. Assumes nothing.
use Rattle.std.specs.Prelude.{◌≡◌, List, ◌++◌, ℕ, ◌+◌, ◌-◌, ◌≤◌, ◌<◌, length, get_or, take, drop}
use Rattle.characters.specs.Text.{Text}
use Rattle.reading.specs.declared.answer.Answer.{Answer}
use Rattle.listing.specs.Sheets.{Sheet, Writes, sheet}
use Rattle.listing.specs.Listing.{line_at, last_line}
use Rattle.listing.specs.Laws.Sheets.{writes_one, writes_fitting, writes_cut}
use Rattle.listing.specs.Laws.Lengths.{at_length, SmallAnswer, last_length}

-- One sheet alone meets the contract: the place answered and each byte of the buffer are determined.
pub determined : {t : Text} {w l m : Sheet} → Writes t w l → Writes t w m → l ≡ m
determined = writes_one

-- Where there is room, the bytes stand where the place was, the place is behind them, and every other byte is as it was.
pub fitting : {t : Text} {out later : List ℕ} {at r : ℕ} → at + length t ≤ length out → Writes t (sheet out at) (sheet later r)
    → (r ≡ at + length t) × (later ≡ take at out ++ t ++ drop (at + length t) out)
fitting = writes_fitting

-- Where there is none, the place is one past the buffer's length, and what fits of the bytes stands there.
pub cut : {t : Text} {out later : List ℕ} {at r : ℕ} → at ≤ length out → length out < at + length t → Writes t (sheet out at) (sheet later r)
    → (r ≡ length out + 1) × (later ≡ take at out ++ take (length out - at) t)
cut = writes_cut

-- A record's line is at most 262,209 bytes long, whatever the text and the pool, whose words are of 32 bits.
pub line_short : (s : Text) (pool : List ℕ) (n : ℕ) → n < 4294967296 → ((i : ℕ) → get_or pool i 0 < 4294967296) → length (line_at s pool n) ≤ 262209
line_short = at_length

-- The last line, of an answer whose numbers are of 32 bits, at most 65.
pub last_short : (a : Answer) → SmallAnswer a → length (last_line a) ≤ 65
last_short = last_length
