-- Fields that are packed: a span of the text in one word, an int64 in two. Assumes nothing.
use Rattle.std.specs.Prelude.{ℕ, ◌+◌, ◌*◌, ◌/◌, ◌%◌}
use Rattle.characters.specs.declared.place.Span.{Span}

-- A span: where it starts, and where it ends times 65,536. "Text is at most 65,535 bytes", so both halves have sixteen bits.
abbrev pub span_word : ℕ → ℕ → ℕ
span_word from to = from + 65536 * to

-- The span that a word holds.
abbrev pub span_of : ℕ → Span
span_of word = record { from = word % 65536; to = word / 65536 }

-- The halves of an int64 in two's complement, and the whole of two halves.
abbrev pub low_of : ℕ → ℕ
low_of value = value % 4294967296

abbrev pub high_of : ℕ → ℕ
high_of value = value / 4294967296

abbrev pub whole_of : ℕ → ℕ → ℕ
whole_of low high = low + 4294967296 * high
