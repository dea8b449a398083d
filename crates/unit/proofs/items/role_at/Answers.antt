-- `role_at` looks at the kind, then at what a `let` declares. Assumes nothing.
use Rattle.std.proofs.Common.{arith}
use Rattle.unit.specs.Laws.Items.{role_none, role_constant, role_named, role_other}
use Rattle.unit.proofs.items.role_at.Goals as goal

pub returns-then-kind : goal.returns-then-kind
returns-then-kind c = role_none _ _ c.kind_of-kind.ensures c.if-kind.true

pub returns-in-0 : goal.returns-in-0
returns-in-0 c = role_constant _ _ c.kind_of-kind.ensures c.if-kind.false c.held_of-word.ensures (omega arith) (rw c.words.ensures at c.role_of-role.ensures) c.in-0.is

pub returns-in-2 : goal.returns-in-2
returns-in-2 c = role_named _ _ c.kind_of-kind.ensures c.if-kind.false c.held_of-word.ensures (omega arith) (rw c.words.ensures at c.role_of-role.ensures) c.in-2.is c.unpack-name.ensures

pub returns-in_default : goal.returns-in_default
returns-in_default c = role_other _ _ c.kind_of-kind.ensures c.if-kind.false c.held_of-word.ensures (omega arith) (rw c.words.ensures at c.role_of-role.ensures) (λ z. let d = c.in_default in omega arith) (λ z. let d = c.in_default in omega arith)
