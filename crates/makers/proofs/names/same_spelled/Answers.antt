-- `same_spelled` compares byte by byte while bytes are characters. What is left of both texts compares as they do. Assumes nothing.
use Rattle.std.proofs.Common.{sym, ◌∙◌}
use Rattle.makers.specs.Laws.NamesWalk.{spell_ends, spell_off, spell_on}
use Rattle.makers.proofs.names.same_spelled.Goals as goal

pub returns-then-x-y : goal.returns-then-x-y
returns-then-x-y c = spell_off c.loop-i.invariant c.byte-x.ensures c.byte-y.ensures (sym c.is_long.ensures ∙ c.if-is_long.false) (sym c.is_long-in-loop-i.ensures ∙ c.if-is_long-2.false) c.if-x-y.true

pub returns-then-x-eq256 : goal.returns-then-x-eq256
returns-then-x-eq256 c = spell_ends c.loop-i.invariant c.byte-x.ensures c.byte-y.ensures c.if-x-y.false c.if-x-eq256.true

pub loop-i-preserved : goal.loop-i-preserved
loop-i-preserved c = spell_on c.loop-i.invariant c.byte-x.ensures c.byte-y.ensures (sym c.is_long.ensures ∙ c.if-is_long.false) (sym c.is_long-in-loop-i.ensures ∙ c.if-is_long-2.false) c.if-x-y.false c.if-x-eq256.false
