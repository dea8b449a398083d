-- `is_closure` looks at the kind of an earlier record. Assumes nothing.
use Rattle.std.proofs.Common.{sym, ap, ◌∙◌, ℕ, eqb}
use Rattle.records.proofs.Laws.Nodes.{closure_earlier}
use Rattle.makers.specs.Laws.NamesWalk.{closure_late, closure_none}
use Rattle.makers.proofs.names.is_closure.Goals as goal

pub returns-then-number-value : goal.returns-then-number-value
returns-then-number-value c = closure_late _ _ c.if-number-value.true

pub returns-then-value-eq0 : goal.returns-then-value-eq0
returns-then-value-eq0 c = closure_none _ _ c.if-value-eq0.true

pub returns : goal.returns
returns c = ap (λ (k : ℕ). eqb k 12) c.kind_of-kind.ensures ∙ sym (closure_earlier _ _ _ c.if-number-value.false)
