-- `plain_string` goes along a plain string to its end. Assumes nothing.
use Rattle.std.proofs.Common.{refl, arith}
use Rattle.literals.specs.PlainLaws.{end_found}
use Rattle.makers.specs.Laws.PlainMade.{string_ends, spans_short, string_made}
use Rattle.makers.proofs.plain.plain_string.Goals as goal

pub pack-span-requires : goal.pack-span-requires
pack-span-requires c = spans_short c.requires.0 c.requires.1 (string_ends c.requires.1 c.requires.3 (end_found _ _ c.in-Some.ensures).0 (end_found _ _ c.in-Some.ensures).1)

pub overflow_sub-result : goal.overflow_sub-result
overflow_sub-result c = let z = (string_ends c.requires.1 c.requires.3 (end_found _ _ c.in-Some.ensures).0 (end_found _ _ c.in-Some.ensures).1).0 in omega arith

pub returns : goal.returns
returns c = string_made c.requires.0 c.requires.1 c.requires.3 (end_found _ _ c.in-Some.ensures).0 (end_found _ _ c.in-Some.ensures).1 c.pack-span.ensures c.row-made_row.ensures c.lay.ensures refl
