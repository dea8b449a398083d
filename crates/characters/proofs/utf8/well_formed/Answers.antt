-- `well_formed`: the prefix is the whole text. Assumes nothing.
use Rattle.std.proofs.Common.{ap, ℕ, eqb, length}
use Rattle.characters.proofs.utf8.well_formed.Goals as goal

pub returns : goal.returns
returns c = ap (λ (n : ℕ). eqb n (length c.args.text.now)) c.prefix.ensures
