-- `rests` looks at one byte, and at a second where the first could double. Assumes nothing.
use Rattle.std.proofs.Common.{◌<◌, inl, inr, arith}
use Rattle.makers.specs.Laws.PlainEnds.{rests_sign, rests_other}
use Rattle.makers.proofs.plain.rests.Goals as goal

pub returns-in-43 : goal.returns-in-43
returns-in-43 c = rests_sign c.in-43.is c.byte-b.ensures c.byte-c.ensures

pub returns-in_default : goal.returns-in_default
returns-in_default c = let l : c.byte-b.result < 45 = omega arith in rests_other c.byte-b.ensures (omega arith) (inl (omega arith)) c.in_default.in_default-own.rest.0.1 c.in_default.in_default-own.rest.1

pub returns-in_default-2 : goal.returns-in_default-2
returns-in_default-2 c = rests_other c.byte-b.ensures (omega arith) (inr (omega arith)) c.in_default.in_default-own.rest.0.1 c.in_default.in_default-own.rest.1
