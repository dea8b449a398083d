-- `minus` makes a number literal again with its sign turned. Assumes nothing.
use Rattle.std.proofs.Common.{refl, ap, ◌∙◌, ℕ}
use Rattle.grammar.specs.Expressions.{minus_p, minus_int, minus_float}
use Rattle.makers.specs.Laws.Acts.{acts_make, acts_yes, acts_no}
use Rattle.makers.proofs.Ending.{kind_is, kind_not, other_kind, literal_value, leaf_made}
use Rattle.records.specs.declared.kind.Kind.TheVariants as kinds
use Rattle.makers.proofs.signs.minus.Goals as goal

pub returns-in-4-clause-acts : goal.returns-in-4-clause-acts
unfolding minus_p
returns-in-4-clause-acts c = acts_yes (kind_is c.kind_of-kind.ensures c.in-4.is) (leaf_made kinds.Int refl c.leaf_row-made.ensures c.position_of-position.ensures (c.minus_int-value.ensures ∙ ap (λ (x : ℕ). minus_int x) (literal_value _ _ c.kind_of-kind.ensures c.in-4.is refl c.value_of.ensures)) c.make.ensures.makes)

pub returns-in-5-clause-acts : goal.returns-in-5-clause-acts
unfolding minus_p
returns-in-5-clause-acts c = acts_no (other_kind 4 c.kind_of-kind.ensures c.in-5.is refl) (acts_yes (kind_is c.kind_of-kind.ensures c.in-5.is) (leaf_made kinds.Float refl c.leaf_row-made-in-5.ensures c.position_of-position-in-5.ensures (c.minus_float-value.ensures ∙ ap (λ (x : ℕ). minus_float x) (literal_value _ _ c.kind_of-kind.ensures c.in-5.is refl c.value_of-in-5.ensures)) c.make-in-5.ensures.makes))

pub returns-in_default-clause-acts : goal.returns-in_default-clause-acts
unfolding minus_p
returns-in_default-clause-acts c = acts_no (kind_not c.kind_of-kind.ensures c.in_default.in_default-own.rest.0.1) (acts_no (kind_not c.kind_of-kind.ensures c.in_default.in_default-own.rest.1) (acts_make refl c.make_like.ensures.makes))
