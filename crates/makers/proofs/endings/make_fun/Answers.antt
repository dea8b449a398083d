-- `make_fun` by its rule: an id, then a record. Assumes nothing.
use Rattle.makers.proofs.Ending.{fun_made}
use Rattle.makers.proofs.endings.make_fun.Goals as goal

pub returns-clause-acts : goal.returns-clause-acts
returns-clause-acts c = fun_made c.next-id.ensures c.numbered-book.ensures c.fun_row-made.ensures c.make.ensures.makes
