-- `row_at`: outside the pool there is nothing, and inside it is the row by the kind found. Assumes nothing.
use Rattle.std.proofs.Common.{sym, ◌∙◌, None, Some, arith}
use Rattle.records.proofs.Laws.Rows.{row_zero, row_short, row_kind}
use Rattle.records.proofs.pool.row_at.Goals as goal

pub returns-then-number-eq0 : goal.returns-then-number-eq0
returns-then-number-eq0 c = sym (row_zero _ _ c.if-number-eq0.true)

pub returns-then-pool-end : goal.returns-then-pool-end
returns-then-pool-end c = sym (row_short _ _ c.if-pool-end.true)

pub returns-in_err-kind : goal.returns-in_err-kind
returns-in_err-kind c = c.from_residual.ensures ∙ sym (row_kind _ _ None c.if-number-eq0.false c.if-pool-end.false (grind arith))

pub returns : goal.returns
returns c = sym (row_kind _ _ (Some c.in_ok-kind.kind) c.if-number-eq0.false c.if-pool-end.false (grind arith))
