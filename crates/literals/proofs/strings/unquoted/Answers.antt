-- `unquoted` leaves out the quotes. Assumes nothing.
use Rattle.std.proofs.Common.{◌≡◌, ap, ◌∙◌, ℕ, ◌+◌, ◌-◌, arith}
use Rattle.characters.specs.Names.{part}
use Rattle.literals.proofs.strings.unquoted.Goals as goal

pub returns-then-to-eq0 : goal.returns-then-to-eq0
returns-then-to-eq0 c = c.part.ensures ∙ ap (λ (k : ℕ). part c.args.text.now (c.args.from + 1) k) (let z : 0 ≡ c.args.to - 1 = omega arith in z)
