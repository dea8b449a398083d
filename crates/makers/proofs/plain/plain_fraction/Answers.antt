-- `plain_fraction` goes along a plain fraction to its end. Assumes nothing.
use Rattle.std.proofs.Common.{refl, arith}
use Rattle.literals.specs.PlainLaws.{end_found}
use Rattle.makers.specs.Laws.PlainMade.{float_spans, spans_short, float_made}
use Rattle.makers.proofs.plain.plain_fraction.Goals as goal

pub pack-span-requires : goal.pack-span-requires
pack-span-requires c = spans_short c.requires.0 c.requires.1 (float_spans c.requires.1 (end_found _ _ c.in-Some.ensures).0 (end_found _ _ c.in-Some.ensures).1)

pub overflow_sub-result : goal.overflow_sub-result
overflow_sub-result c = let z = (float_spans c.requires.1 (end_found _ _ c.in-Some.ensures).0 (end_found _ _ c.in-Some.ensures).1).0 in omega arith

pub returns : goal.returns
returns c = float_made c.requires.0 c.requires.1 (end_found _ _ c.in-Some.ensures).0 (end_found _ _ c.in-Some.ensures).1 c.pack-span.ensures c.row-made_row.ensures c.lay.ensures refl
