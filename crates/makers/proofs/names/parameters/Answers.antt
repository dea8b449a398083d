-- `parameters` counts what `params` read. Assumes nothing.
use Rattle.std.proofs.Common.{refl}
use Rattle.makers.specs.Laws.NamesRead.{items_ok, items_err, params_refused, params_over, params_read}
use Rattle.characters.specs.Answers.{handed}
use Rattle.makers.proofs.names.parameters.Goals as goal

pub returns-in_err-items-clause-acts : goal.returns-in_err-items-clause-acts
returns-in_err-items-clause-acts c = rw (handed c.from_residual.ensures) (params_refused c.args.end c.params.ensures.acts (items_err c.in_err-items.was) refl)

pub returns-then-items-ge256-clause-acts : goal.returns-then-items-ge256-clause-acts
returns-then-items-ge256-clause-acts c = params_over c.args.end c.params.ensures.acts (items_ok c.in_ok-items.was) c.if-items-ge256.true refl

pub returns-clause-acts : goal.returns-clause-acts
returns-clause-acts c = params_read c.args.end c.params.ensures.acts (items_ok c.in_ok-items.was) c.if-items-ge256.false refl
