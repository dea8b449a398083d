-- `assign_of` goes by the first byte. Assumes nothing.
use Rattle.std.proofs.Common.{arith}
use Rattle.characters.specs.Tokens.{spells}
use Rattle.grammar.specs.Heads.{assign_in}
use Rattle.grammar.proofs.Heading.{assign_first, assign_none, equals_twice, equals_once}
use Rattle.grammar.proofs.assignments.assign_of.Goals as goal

pub returns-then-b-eq61 : goal.returns-then-b-eq61
returns-then-b-eq61 c = assign_first 61 c.requires c.byte-a.ensures c.in-61.is (omega arith) (equals_twice c.requires c.byte-b.ensures c.if-b-eq61.true)

pub returns-in-37 : goal.returns-in-37
unfolding assign_in spells
returns-in-37 c = assign_first 37 c.requires c.byte-a.ensures c.in-37.is (omega arith) c.compound.ensures

pub returns-in-38 : goal.returns-in-38
unfolding assign_in spells
returns-in-38 c = assign_first 38 c.requires c.byte-a.ensures c.in-38.is (omega arith) c.compound-in-38.ensures

pub returns-in-42 : goal.returns-in-42
unfolding assign_in spells
returns-in-42 c = assign_first 42 c.requires c.byte-a.ensures c.in-42.is (omega arith) c.compound-in-42.ensures

pub returns-in-43 : goal.returns-in-43
unfolding assign_in spells
returns-in-43 c = assign_first 43 c.requires c.byte-a.ensures c.in-43.is (omega arith) c.compound-in-43.ensures

pub returns-in-45 : goal.returns-in-45
unfolding assign_in spells
returns-in-45 c = assign_first 45 c.requires c.byte-a.ensures c.in-45.is (omega arith) c.compound-in-45.ensures

pub returns-in-47 : goal.returns-in-47
unfolding assign_in spells
returns-in-47 c = assign_first 47 c.requires c.byte-a.ensures c.in-47.is (omega arith) c.compound-in-47.ensures

pub returns-in-60 : goal.returns-in-60
unfolding assign_in spells
returns-in-60 c = assign_first 60 c.requires c.byte-a.ensures c.in-60.is (omega arith) c.shift.ensures

pub returns-else-b-eq61 : goal.returns-else-b-eq61
returns-else-b-eq61 c = assign_first 61 c.requires c.byte-a.ensures c.in-61.is (omega arith) (equals_once c.requires c.byte-b.ensures c.if-b-eq61.false c.on-next.ensures)

pub returns-in-62 : goal.returns-in-62
unfolding assign_in spells
returns-in-62 c = assign_first 62 c.requires c.byte-a.ensures c.in-62.is (omega arith) c.shift-in-62.ensures

pub returns-in-94 : goal.returns-in-94
unfolding assign_in spells
returns-in-94 c = assign_first 94 c.requires c.byte-a.ensures c.in-94.is (omega arith) c.compound-in-94.ensures

pub returns-in-124 : goal.returns-in-124
unfolding assign_in spells
returns-in-124 c = assign_first 124 c.requires c.byte-a.ensures c.in-124.is (omega arith) c.compound-in-124.ensures

pub returns-in_default : goal.returns-in_default
returns-in_default c = assign_none c.requires c.byte-a.ensures c.in_default.in_default-own.rest
