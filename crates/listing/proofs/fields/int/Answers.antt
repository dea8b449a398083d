-- `int` prints a space and an int64. Assumes nothing.
use Rattle.std.proofs.Common.{ap, ◌∷◌, ℕ}
use Rattle.listing.specs.Laws.Sheets.{said, then}
use Rattle.listing.specs.Listing.{signed}
use Rattle.listing.proofs.fields.int.Goals as goal

pub returns : goal.returns
returns c = said (ap (λ (v : ℕ). 32 ∷ signed v) c.whole-value.ensures) (then c.put-next.ensures c.signed.ensures)
