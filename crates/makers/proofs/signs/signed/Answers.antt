-- `signed` acts by its sign. Assumes nothing.
use Rattle.std.proofs.Common.{eq-eqb, ne_eqb}
use Rattle.grammar.specs.Expressions.{sign_p}
use Rattle.makers.specs.Laws.Acts.{acts_make, acts_yes, acts_no}
use Rattle.makers.proofs.signs.signed.Goals as goal

pub returns-then-sign-eq33-clause-acts : goal.returns-then-sign-eq33-clause-acts
unfolding sign_p
returns-then-sign-eq33-clause-acts c = acts_yes (eq-eqb _ _ c.if-sign-eq33.true) (acts_make c.row-made.ensures c.make.ensures.makes)

pub returns-then-sign-eq45-clause-acts : goal.returns-then-sign-eq45-clause-acts
unfolding sign_p
returns-then-sign-eq45-clause-acts c = acts_no (ne_eqb _ _ c.if-sign-eq33.false) (acts_yes (eq-eqb _ _ c.if-sign-eq45.true) c.minus.ensures.acts)

pub returns-clause-acts : goal.returns-clause-acts
unfolding sign_p
returns-clause-acts c = acts_no (ne_eqb _ _ c.if-sign-eq33.false) (acts_no (ne_eqb _ _ c.if-sign-eq45.false) c.plus.ensures)
