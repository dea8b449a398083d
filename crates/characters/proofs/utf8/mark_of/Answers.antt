-- `mark_of` is `mark`, arm by arm. Assumes nothing.
use Rattle.characters.proofs.Utf8Steps.{mark_high}
use Rattle.characters.proofs.utf8.mark_of.Goals as goal

pub returns-in_default : goal.returns-in_default
returns-in_default c = mark_high c.args.after c.in_default.in_default-own.rest.0.0.1 c.in_default.in_default-own.rest.0.1 c.in_default.in_default-own.rest.1
