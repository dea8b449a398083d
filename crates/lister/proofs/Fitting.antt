-- Every line fits in a sheet of 262,209 bytes: the place after it is inside. Assumes nothing.
use Rattle.std.proofs.Common.{List, ℕ, ◌≤◌, ◌<◌, arith, length, get_or}
use Rattle.characters.specs.Text.{Text}
use Rattle.reading.specs.declared.answer.Answer.{Answer}
use Rattle.listing.specs.Sheets.{Writes, sheet}
use Rattle.listing.specs.Listing.{line_at, last_line}
use Rattle.listing.specs.Laws.Lengths.{SmallAnswer}
use Rattle.listing.specs.Promises.{fitting, line_short, last_short}

-- What has room ends inside the sheet.
ends : (t : Text) {out later : List ℕ} {r : ℕ} → length t ≤ 262209 → 262209 ≤ length out → Writes t (sheet out 0) (sheet later r) → r ≤ length out
ends t l h w = let z = (fitting (omega arith) w).0 in omega arith

pub line_ends : (s : Text) (pool : List ℕ) (n : ℕ) {out later : List ℕ} {r : ℕ} → n < 4294967296 → ((i : ℕ) → get_or pool i 0 < 4294967296)
    → 262209 ≤ length out → Writes (line_at s pool n) (sheet out 0) (sheet later r) → r ≤ length out
line_ends s pool n l w = ends (line_at s pool n) (line_short s pool n l w)

pub last_ends : (a : Answer) {out later : List ℕ} {r : ℕ} → SmallAnswer a → 262209 ≤ length out → Writes (last_line a) (sheet out 0) (sheet later r) → r ≤ length out
last_ends a s = ends (last_line a) (let z = last_short a s in omega arith)
