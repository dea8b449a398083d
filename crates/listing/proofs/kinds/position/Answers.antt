-- `position` prints where the letter says so. Assumes nothing.
use Rattle.listing.specs.Laws.Kinds.{position_some, position_none}
use Rattle.listing.specs.Laws.Sheets.{said, then, none}
use Rattle.listing.proofs.kinds.position.Goals as goal

pub returns-then-b-eq112 : goal.returns-then-b-eq112
returns-then-b-eq112 c = said (position_some c.args.kind c.args.p c.letter-b.ensures c.if-b-eq112.true) (then c.put-next.ensures c.place.ensures)

pub returns : goal.returns
returns c = said (position_none c.args.kind c.args.p c.letter-b.ensures c.if-b-eq112.false) none
