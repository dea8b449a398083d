-- `hex` is a digit up to 9, and a capital from 10 on. Assumes nothing.
use Rattle.listing.specs.Laws.Texts.{hex_low, hex_high}
use Rattle.listing.proofs.texts.hex.Goals as goal

pub returns-then-d-lt10 : goal.returns-then-d-lt10
returns-then-d-lt10 c = hex_low _ c.if-d-lt10.true

pub returns : goal.returns
returns c = hex_high _ c.if-d-lt10.false
