-- `combine` makes a binary and the assignment of it. Assumes nothing.
use Rattle.std.proofs.Common.{refl}
use Rattle.grammar.specs.Statements.{combine_p}
use Rattle.makers.specs.Laws.Acts.{got_read, acts_make, acts_then, acts_halt, lent_made}
use Rattle.characters.specs.Answers.{handed}
use Rattle.makers.proofs.endings.combine.Goals as goal

pub make-requires : goal.make-requires
make-requires c = lent_made c.requires.0.lent c.make_like.ensures.makes

pub returns-in_err-q-clause-acts : goal.returns-in_err-q-clause-acts
unfolding combine_p
returns-in_err-q-clause-acts c = rw (handed c.from_residual.ensures) (acts_halt c.in_err-q.was (acts_make refl c.make_like.ensures.makes))

pub returns-clause-acts : goal.returns-clause-acts
unfolding combine_p
returns-clause-acts c = acts_then (got_read c.in_ok-q.was) (acts_make refl c.make_like.ensures.makes) (acts_make c.row-made.ensures c.make.ensures.makes)
