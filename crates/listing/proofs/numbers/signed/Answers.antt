-- `signed` prints a minus before what is negative. Assumes nothing.
use Rattle.listing.specs.Laws.Numbers.{signed_up, signed_down}
use Rattle.listing.specs.Laws.Sheets.{said, then}
use Rattle.listing.proofs.numbers.signed.Goals as goal

pub returns-then-v-lt9223372036854775808 : goal.returns-then-v-lt9223372036854775808
returns-then-v-lt9223372036854775808 c = said (signed_up _ c.if-v-lt9223372036854775808.true) c.decimal.ensures

pub returns : goal.returns
returns c = said (signed_down _ c.if-v-lt9223372036854775808.false c.ranges.v.fits) (then c.put-next.ensures c.decimal-2.ensures)
