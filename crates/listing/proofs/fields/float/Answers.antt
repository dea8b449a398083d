-- `float` prints a space, the minus if there is one, and the literal. Assumes nothing.
use Rattle.std.proofs.Common.{ap, ◌∷◌, ◌++◌}
use Rattle.listing.specs.Laws.Sheets.{said, then}
use Rattle.listing.specs.Listing.{minus}
use Rattle.characters.specs.Text.{Text}
use Rattle.listing.proofs.fields.float.Goals as goal

pub returns : goal.returns
returns c = said (ap (λ (x : Text). 32 ∷ minus c.args.mark ++ x) c.spanned-literal.ensures) (then c.put-first.ensures (then c.minus-next.ensures c.copy.ensures))
