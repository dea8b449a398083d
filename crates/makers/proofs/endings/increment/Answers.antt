-- `increment` by its rule: its target, the end token, 1, and what `combine` makes. Assumes nothing.
use Rattle.makers.specs.Laws.Acts.{got_read, got_err}
use Rattle.makers.proofs.Ending.{no_target, no_end, one_full, one_room, incremented}
use Rattle.characters.specs.Answers.{handed}
use Rattle.makers.proofs.endings.increment.Goals as goal

pub returns-then-not-is_target-clause-acts : goal.returns-then-not-is_target-clause-acts
returns-then-not-is_target-clause-acts c = no_target c.requires c.args.end c.args.from c.args.op c.kind_of-kind.ensures c.is_target.ensures c.if-not-is_target.true-raw c.position_of-position.ensures

pub returns-in_err-last-clause-acts : goal.returns-in_err-last-clause-acts
returns-in_err-last-clause-acts c = rw (handed c.from_residual.ensures) (no_end c.requires c.args.end c.args.from c.args.op c.kind_of-kind.ensures c.is_target.ensures c.if-not-is_target.false-raw c.need.ensures c.in_err-last.was)

pub returns-in_err-q-clause-acts : goal.returns-in_err-q-clause-acts
returns-in_err-q-clause-acts c = rw (handed c.from_residual-in_err-q.ensures) (one_full c.requires c.args.end c.args.from c.args.op c.kind_of-kind.ensures c.is_target.ensures c.if-not-is_target.false-raw c.need.ensures c.in_ok-last.was c.make_like.ensures.makes (got_err c.in_err-q.was))

pub combine-requires : goal.combine-requires
combine-requires c = one_room c.requires c.args.end c.args.from c.args.op c.kind_of-kind.ensures c.is_target.ensures c.if-not-is_target.false-raw c.need.ensures c.in_ok-last.was c.make_like.ensures.makes (got_read c.in_ok-q.was)

pub returns-clause-acts : goal.returns-clause-acts
returns-clause-acts c = incremented c.requires c.args.end c.args.from c.args.op c.kind_of-kind.ensures c.is_target.ensures c.if-not-is_target.false-raw c.need.ensures c.in_ok-last.was c.make_like.ensures.makes (got_read c.in_ok-q.was) c.combine.ensures.acts
