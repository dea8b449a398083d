-- `string` prints a space and a string. Assumes nothing.
use Rattle.std.proofs.Common.{ap, ◌∷◌, ◌<◌, length}
use mathlib.Core.Path.{subst⁻¹}
use Rattle.listing.specs.Laws.Texts.{spanned_length}
use Rattle.listing.specs.Laws.Sheets.{said, then}
use Rattle.listing.specs.Listing.{quoted}
use Rattle.characters.specs.Text.{Text}
use Rattle.listing.proofs.fields.string.Goals as goal

pub quoted-requires : goal.quoted-requires
quoted-requires c = subst⁻¹ (λ (x : Text). length x < 2147483648) c.spanned-literal.ensures (spanned_length _ _ c.ranges.word.fits)

pub returns : goal.returns
returns c = said (ap (λ (x : Text). 32 ∷ quoted x) c.spanned-literal.ensures) (then c.put-next.ensures c.quoted.ensures)
