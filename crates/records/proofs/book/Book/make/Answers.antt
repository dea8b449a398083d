-- `Book::make`: the row laid where there is room, and 6 where there is none. Assumes nothing.
use Rattle.records.proofs.Laws.Nodes.{row_made, row_refused}
use Rattle.records.proofs.book.Book.make.Goals as goal

pub returns-then-made-cap-clause-makes : goal.returns-then-made-cap-clause-makes
returns-then-made-cap-clause-makes c = row_made c.requires c.if-made-cap.true c.lay-self.ensures

pub returns-clause-makes : goal.returns-clause-makes
returns-clause-makes c = row_refused c.if-made-cap.false
