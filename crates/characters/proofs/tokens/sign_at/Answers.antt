-- `sign_at` finds its byte or misses it. Assumes nothing.
use Rattle.std.proofs.Common.{refl, ap, eq-eqb, ne_eqb}
use Rattle.characters.specs.declared.tokens.Look.TheVariants.{Found}
use Rattle.characters.proofs.tokens.sign_at.Goals as goal

pub returns-then-b-stands : goal.returns-then-b-stands
returns-then-b-stands c = rw (ne_eqb c.args.b c.args.stands c.if-b-stands.true) refl

pub returns : goal.returns
returns c = rw (eq-eqb c.args.b c.args.stands c.if-b-stands.false) (ap (Found c.args.here) c.on-next.ensures)
