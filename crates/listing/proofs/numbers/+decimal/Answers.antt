-- `decimal` prints a number's tenth before its last digit. Assumes nothing.
use Rattle.listing.specs.Laws.Sheets.{said, then}
use Rattle.listing.specs.Laws.Numbers.{decimal_one, decimal_more}
use Rattle.listing.proofs.numbers.+decimal.Goals as goal

pub returns-then-n-lt10 : goal.returns-then-n-lt10
returns-then-n-lt10 t c = said (decimal_one _ c.if-n-lt10.true) c.put.ensures

pub returns : goal.returns
returns t c = said (decimal_more _ c.if-n-lt10.false) (then c.decimal-next.ensures c.put-2.ensures)
