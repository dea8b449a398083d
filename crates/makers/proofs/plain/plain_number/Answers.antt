-- `plain_number` looks at the digits once: they are a plain integer, or begin a plain fraction. Assumes nothing.
use Rattle.std.proofs.Common.{refl, arith}
use Rattle.literals.specs.PlainLaws.{end_found, is_int_lem, int_few}
use Rattle.makers.specs.Laws.PlainMade.{number_ends, number_made}
use Rattle.makers.proofs.plain.plain_number.Goals as goal

pub plain_int-value-requires : goal.plain_int-value-requires
plain_int-value-requires c = int_few (is_int_lem c.args.text.now c.args.at.offset (end_found _ _ c.in-Some.ensures).0 (end_found _ _ c.in-Some.ensures).1)

pub overflow_sub-result : goal.overflow_sub-result
overflow_sub-result c = let z = (number_ends c.requires.1 (end_found _ _ c.in-Some.ensures).0 (end_found _ _ c.in-Some.ensures).1).0 in omega arith

pub returns : goal.returns
returns c = number_made c.requires.1 (end_found _ _ c.in-Some.ensures).0 (end_found _ _ c.in-Some.ensures).1 c.plain_int-value.ensures c.leaf_row-made_row.ensures c.lay.ensures refl
