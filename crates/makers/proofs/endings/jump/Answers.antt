-- `jump` takes the `;` and makes one record. Assumes nothing.
use Rattle.makers.proofs.Ending.{jump_fails, jump_made}
use Rattle.characters.specs.Answers.{handed}
use Rattle.makers.proofs.endings.jump.Goals as goal

pub returns-in_err-end-clause-acts : goal.returns-in_err-end-clause-acts
returns-in_err-end-clause-acts c = rw (handed c.from_residual.ensures) (jump_fails c.requires c.args.kind c.args.from c.need.ensures c.in_err-end.was)

pub returns-clause-acts : goal.returns-clause-acts
returns-clause-acts c = jump_made c.requires c.args.kind c.args.from c.need.ensures c.in_ok-end.was c.row-made.ensures c.make.ensures.makes
