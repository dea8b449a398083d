-- The laws of packed fields: what was packed is unpacked. Assumes nothing.
use Rattle.std.specs.Prelude.{◌≡◌, ℕ, ◌+◌, ◌*◌, ◌/◌, ◌%◌, ◌≤◌, ◌<◌}
use Rattle.std.proofs.Common.{arith}
use Rattle.records.specs.Words.{span_word, span_of, low_of, high_of, whole_of}

-- A span of a text of at most 65,535 bytes.
pub span_back : (s e : ℕ) → s ≤ 65535 → e ≤ 65535 → span_of (span_word s e) ≡ record { from = s; to = e }
span_back s e a b =
    let p : (s + 65536 * e) % 65536 ≡ s = omega arith in
    let q : (s + 65536 * e) / 65536 ≡ e = omega arith in
    λ i. record { from = p i; to = q i }

-- An int64 of its halves.
pub whole_back : (v : ℕ) → whole_of (low_of v) (high_of v) ≡ v
whole_back v = omega arith

-- The halves of an int64.
pub low_back : (l h : ℕ) → l < 4294967296 → low_of (whole_of l h) ≡ l
low_back l h a = omega arith

pub high_back : (l h : ℕ) → l < 4294967296 → high_of (whole_of l h) ≡ h
high_back l h a = omega arith
