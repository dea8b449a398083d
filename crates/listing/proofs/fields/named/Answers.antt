-- `named` prints a space and a name, or `-`. Assumes nothing.
use Rattle.std.proofs.Common.{ap, ◌∙◌, ◌∷◌}
use Rattle.listing.specs.Laws.Texts.{name_none, name_some}
use Rattle.listing.specs.Laws.Sheets.{said, then}
use Rattle.characters.specs.Text.{Text}
use Rattle.listing.proofs.fields.named.Goals as goal

pub returns-then-word-eq0 : goal.returns-then-word-eq0
returns-then-word-eq0 c = said (ap (λ (x : Text). 32 ∷ x) (name_none _ _ c.if-word-eq0.true)) (then c.put-next.ensures c.put.ensures)

pub returns : goal.returns
returns c = said (ap (λ (x : Text). 32 ∷ x) (c.spanned-name.ensures ∙ name_some _ _ c.if-word-eq0.false)) (then c.put-next.ensures c.copy.ensures)
