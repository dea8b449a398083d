-- `pair` prints a space and two digits. Assumes nothing.
use Rattle.std.proofs.Common.{[], ◌∷◌}
use Rattle.listing.specs.Laws.Sheets.{said}
use Rattle.listing.proofs.texts.pair.Goals as goal

pub returns : goal.returns
returns c = said (λ i. 32 ∷ c.hex-h.ensures i ∷ c.hex-l.ensures i ∷ []) c.copy.ensures
