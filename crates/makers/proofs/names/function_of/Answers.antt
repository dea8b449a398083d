-- `function_of` takes the name of a `let` that declares a function. Assumes nothing.
use Rattle.std.proofs.Common.{arith}
use Rattle.makers.specs.Laws.NamesWalk.{function_not, function_named}
use Rattle.makers.proofs.names.function_of.Goals as goal

pub returns-then-role-ne2 : goal.returns-then-role-ne2
returns-then-role-ne2 c = function_not _ _ c.kind_of-kind.ensures c.if-kind.false c.held_of-word.ensures (omega arith) c.role_of-role.ensures c.if-role-ne2.true

pub returns : goal.returns
returns c = function_named _ _ c.kind_of-kind.ensures c.if-kind.false c.held_of-word.ensures (omega arith) c.role_of-role.ensures c.if-role-ne2.false c.unpack.ensures
