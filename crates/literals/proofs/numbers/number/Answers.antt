-- `number` goes by the first two bytes; behind `0x` and `0b` the text goes on. Assumes nothing.
use Rattle.std.proofs.Common.{sym, ◌∙◌, arith, lit≤}
use Rattle.literals.specs.NumberSums.{two, sixteen}
use Rattle.literals.specs.NumberLaws.{over_two}
use Rattle.literals.proofs.numbers.number.Goals as goal

pub based-requires : goal.based-requires
based-requires c = (
  rw c.on.ensures (over_two c.args.text.now c.args.at 120 c.requires (sym c.byte.ensures.is ∙ c.in-120.is) (omega arith)).stands,
  record { small = lit≤ tt; under = lit≤ tt; over = lit≤ tt },
  sixteen,
)

pub based-requires-in-98 : goal.based-requires-in-98
based-requires-in-98 c = (
  rw c.on-in-98.ensures (over_two c.args.text.now c.args.at 98 c.requires (sym c.byte.ensures.is ∙ c.in-98.is) (omega arith)).stands,
  record { small = lit≤ tt; under = lit≤ tt; over = lit≤ tt },
  two,
)
