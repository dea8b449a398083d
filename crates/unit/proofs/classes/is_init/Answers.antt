-- `is_init` compares four bytes. Assumes nothing.
use Rattle.std.proofs.Common.{◌∙◌, ne_eqb}
use Rattle.unit.specs.Laws.Classes.{init_sized, init_spelled}
use Rattle.unit.proofs.classes.is_init.Goals as goal

pub returns-then-size-eq4 : goal.returns-then-size-eq4
returns-then-size-eq4 c = init_spelled _ _ _ c.if-size-eq4.true c.spelled.ensures

pub returns-else-size-eq4 : goal.returns-else-size-eq4
returns-else-size-eq4 c = ne_eqb _ 4 c.if-size-eq4.false ∙ init_sized _ _ _ c.requires.0 c.requires.1 c.if-size-eq4.false
