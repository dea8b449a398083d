-- `make_for` makes `true` first, where the test is left out. Assumes nothing.
use Rattle.std.proofs.Common.{refl, eq-eqb, ne_eqb}
use Rattle.grammar.specs.Statements.{for_end_p}
use Rattle.makers.specs.Laws.Acts.{got_read, acts_make, acts_yes, acts_no, acts_then, acts_halt, lent_made}
use Rattle.characters.specs.Answers.{handed}
use Rattle.makers.proofs.endings.make_for.Goals as goal

pub returns-then-test-ne0-clause-acts : goal.returns-then-test-ne0-clause-acts
unfolding for_end_p
returns-then-test-ne0-clause-acts c = acts_no (ne_eqb _ _ c.if-test-ne0.true) (acts_make refl c.make.ensures.makes)

pub make-requires-3 : goal.make-requires-3
make-requires-3 c = lent_made c.requires.lent c.make-2.ensures.makes

pub returns-in_err-q-clause-acts : goal.returns-in_err-q-clause-acts
unfolding for_end_p
returns-in_err-q-clause-acts c = rw (handed c.from_residual.ensures) (acts_yes (eq-eqb _ _ c.if-test-ne0.false) (acts_halt c.in_err-q.was (acts_make c.row-truth.ensures c.make-2.ensures.makes)))

pub returns-clause-acts : goal.returns-clause-acts
unfolding for_end_p
returns-clause-acts c = acts_yes (eq-eqb _ _ c.if-test-ne0.false) (acts_then (got_read c.in_ok-q.was) (acts_make c.row-truth.ensures c.make-2.ensures.makes) (acts_make refl c.make-3.ensures.makes))
