-- `is_bare` looks at the name, then at the last parameter. Assumes nothing.
use Rattle.unit.specs.Laws.Classes.{bare_other, bare_is}
use Rattle.unit.proofs.classes.is_bare.Goals as goal

pub returns-then-is_init : goal.returns-then-is_init
returns-then-is_init c = bare_is c.is_init.ensures c.if-is_init.true c.held_of.ensures

pub returns-else-is_init : goal.returns-else-is_init
returns-else-is_init c = bare_other c.is_init.ensures c.if-is_init.false _
