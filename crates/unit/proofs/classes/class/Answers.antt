-- `class` takes a level. Assumes nothing.
use Rattle.unit.specs.Laws.Classes.{class_deep, class_entered}
use Rattle.unit.proofs.classes.class.Goals as goal

pub returns-then-left-eq0-clause-reads : goal.returns-then-left-eq0-clause-reads
returns-then-left-eq0-clause-reads c = class_deep c.if-left-eq0.true

pub returns-clause-reads : goal.returns-clause-reads
returns-clause-reads c = class_entered c.if-left-eq0.false c.named_class.ensures.reads
