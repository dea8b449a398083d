-- `params`: each turn reads one parameter, and what is left of the text falls. Assumes nothing.
use Rattle.std.proofs.Common.{refl, [], arith}
use Rattle.makers.specs.Laws.Acts.{got_read, got_err, ok_as}
use Rattle.makers.specs.Laws.Turns.{turn_first, turn_less}
use Rattle.makers.specs.Laws.Names.{listed_none, listed_well}
use Rattle.makers.specs.Laws.NamesRead.{gather_halts, gather_ends, gather_here, gather_refused, follow_halts, follow_ends, gather_further, gather_on}
use Rattle.characters.specs.Answers.{handed}
use Rattle.makers.proofs.names.params.Goals as goal

pub loop-close-init : goal.loop-close-init
loop-close-init c = record { lent = refl; turns = record { same = refl; ready = c.requires; turn = turn_first c.requires.stands; few = omega arith; names = []; listed = listed_none; rest = λ left r B d. d } }

pub returns-in_err-close-clause-acts : goal.returns-in_err-close-clause-acts
returns-in_err-close-clause-acts c = rw (handed c.from_residual.ensures) (gather_halts c.loop-close.invariant.turns c.close_of.ensures c.in_err-close.was refl)

pub returns-in-Found-clause-acts : goal.returns-in-Found-clause-acts
returns-in-Found-clause-acts c = gather_ends c.loop-close.invariant.turns c.close_of.ensures (ok_as c.in_ok-close.was c.in-Found.is) refl

pub param-requires : goal.param-requires
param-requires c = (gather_here c.loop-close.invariant.turns c.close_of.ensures (ok_as c.in_ok-close.was c.in-Missing.is), listed_well c.loop-close.invariant.turns.listed)

pub returns-in_err-after-clause-acts : goal.returns-in_err-after-clause-acts
returns-in_err-after-clause-acts c = rw (handed c.from_residual-in_err-after.ensures) (gather_refused c.loop-close.invariant.turns c.close_of.ensures (ok_as c.in_ok-close.was c.in-Missing.is) c.param.ensures.acts (got_err c.in_err-after.was) refl)

pub returns-in_err-follow-clause-acts : goal.returns-in_err-follow-clause-acts
returns-in_err-follow-clause-acts c = rw (handed c.from_residual-in_err-follow.ensures) (follow_halts c.loop-close.invariant.turns c.close_of.ensures (ok_as c.in_ok-close.was c.in-Missing.is) c.param.ensures.acts (got_read c.in_ok-after.was) c.follow_of.ensures c.in_err-follow.was refl)

pub returns-in-Found-follow-clause-acts : goal.returns-in-Found-follow-clause-acts
returns-in-Found-follow-clause-acts c = follow_ends c.loop-close.invariant.turns c.close_of.ensures (ok_as c.in_ok-close.was c.in-Missing.is) c.param.ensures.acts (got_read c.in_ok-after.was) c.follow_of.ensures (ok_as c.in_ok-follow.was c.in-Found-follow.is) refl

pub loop-close-smaller : goal.loop-close-smaller
loop-close-smaller c = turn_less (gather_further c.loop-close.invariant.turns c.close_of.ensures (ok_as c.in_ok-close.was c.in-Missing.is) c.param.ensures.acts (got_read c.in_ok-after.was) c.follow_of.ensures (ok_as c.in_ok-follow.was c.in-Missing-follow.is))

pub loop-close-preserved : goal.loop-close-preserved
loop-close-preserved c = record { lent = cc; turns = gather_on c.loop-close.invariant.turns c.close_of.ensures (ok_as c.in_ok-close.was c.in-Missing.is) c.param.ensures.acts (got_read c.in_ok-after.was) c.follow_of.ensures (ok_as c.in_ok-follow.was c.in-Missing-follow.is) }
