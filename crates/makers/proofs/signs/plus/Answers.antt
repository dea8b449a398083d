-- `plus` leaves a number literal as it is. Assumes nothing.
use Rattle.std.proofs.Common.{refl, sym, ap, ◌∙◌, ◌||◌, ℕ, eqb}
use Rattle.grammar.specs.Expressions.{plus_p}
use Rattle.makers.specs.Laws.Acts.{acts_yes, acts_no, acts_stays, acts_refuses}
use Rattle.makers.proofs.Ending.{kind_not}
use Rattle.makers.proofs.signs.plus.Goals as goal

pub returns-in-4 : goal.returns-in-4
unfolding plus_p
returns-in-4 c = acts_yes (ap (λ (k : ℕ). eqb k 4 || eqb k 5) (sym c.kind_of-kind.ensures ∙ c.in-4.is)) (acts_stays c.requires.1)

pub returns-in-5 : goal.returns-in-5
unfolding plus_p
returns-in-5 c = acts_yes (ap (λ (k : ℕ). eqb k 4 || eqb k 5) (sym c.kind_of-kind.ensures ∙ c.in-5.is)) (acts_stays c.requires.1)

pub returns-in_default : goal.returns-in_default
unfolding plus_p
returns-in_default c = acts_no (rw (kind_not c.kind_of-kind.ensures c.in_default.in_default-own.rest.0.1, kind_not c.kind_of-kind.ensures c.in_default.in_default-own.rest.1) refl) acts_refuses
