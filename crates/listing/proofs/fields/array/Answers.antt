-- `array` prints the bytes of a bytearray. Assumes nothing.
use Rattle.std.proofs.Common.{ap, ◌<◌, length}
use mathlib.Core.Path.{subst⁻¹}
use Rattle.listing.specs.Laws.Texts.{spanned_length}
use Rattle.listing.specs.Laws.Sheets.{said}
use Rattle.listing.specs.Listing.{bytes}
use Rattle.characters.specs.Text.{Text}
use Rattle.listing.proofs.fields.array.Goals as goal

pub bytes-requires : goal.bytes-requires
bytes-requires c = subst⁻¹ (λ (x : Text). length x < 2147483648) c.spanned-literal.ensures (spanned_length _ _ c.ranges.word.fits)

pub returns : goal.returns
returns c = said (ap bytes c.spanned-literal.ensures) c.bytes.ensures
