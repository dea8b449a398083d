-- `pair` reads two hex digits; the first is a byte of the text. Assumes nothing.
use Rattle.std.proofs.Common.{sym, ◌∙◌}
use borrow.Author.Tests.{not-false}
use Rattle.literals.specs.StringLaws.{byte_in}
use Rattle.literals.specs.ByteArrayLaws.{alnum_byte}
use Rattle.literals.proofs.bytearrays.pair.Goals as goal

pub stray-requires : goal.stray-requires
stray-requires c = (c.requires, byte_in c.byte-b.ensures (alnum_byte _ (sym c.alphanumeric.ensures ∙ not-false _ c.if-not-alphanumeric.false-raw)))
