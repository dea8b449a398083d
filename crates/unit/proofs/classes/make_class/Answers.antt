-- `make_class` by its rule: an id, then a record. Assumes nothing.
use Rattle.unit.specs.Laws.Classes.{class_made}
use Rattle.unit.proofs.classes.make_class.Goals as goal

pub returns-clause-acts : goal.returns-clause-acts
returns-clause-acts c = class_made c.next-id.ensures c.numbered-book.ensures c.class_row-class.ensures c.make.ensures.makes
