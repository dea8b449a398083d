-- `reduce` goes with the rule, one binary at a time. Assumes nothing.
use Rattle.makers.specs.Laws.Acts.{got_read, got_err}
use Rattle.makers.proofs.Reducing.{reducing_on, reduced_full, reduced_empty, reduced_top}
use Rattle.characters.specs.Answers.{handed}
use Rattle.makers.proofs.chains.reduce.Goals as goal

pub returns-in_err-make_like-clause-acts : goal.returns-in_err-make_like-clause-acts
returns-in_err-make_like-clause-acts c = rw (handed c.from_residual.ensures) (reduced_full c.loop-len.invariant.turns c.loop-len-test.true c.strength_of.ensures c.if-new-strength_of.false c.make_like.ensures.makes (got_err c.in_err-make_like.was))

pub loop-len-preserved : goal.loop-len-preserved
loop-len-preserved c = record { lent = cc; turns = reducing_on c.loop-len.invariant.turns c.loop-len-test.true c.strength_of.ensures c.if-new-strength_of.false c.make_like.ensures.makes (got_read c.in_ok-make_like.was) }

pub returns-after-loop-len-clause-acts : goal.returns-after-loop-len-clause-acts
returns-after-loop-len-clause-acts c = reduced_empty c.loop-len.invariant.turns c.loop-len-test.false

pub returns-then-new-strength_of-clause-acts : goal.returns-then-new-strength_of-clause-acts
returns-then-new-strength_of-clause-acts c = reduced_top c.loop-len.invariant.turns c.loop-len-test.true c.strength_of.ensures c.if-new-strength_of.true
