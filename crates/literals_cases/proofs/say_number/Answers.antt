-- `say_number` prints the value of an integer, which is a natural number. Assumes nothing.
use Rattle.std.specs.Prelude.{Ok}
use Rattle.std.proofs.Common.{ap}
use Rattle.literals.specs.NumberLaws.{int_small}
use Rattle.literals_cases.proofs.Going.{natural}
use Rattle.literals_cases.proofs.say_number.Goals as goal

pub overflow_cast-v : goal.overflow_cast-v
overflow_cast-v c = natural c.in-Ok-Int.value (int_small c.requires c.in-Ok-Int.ensures (ap Ok c.in-Ok-Int.field-0-is))
