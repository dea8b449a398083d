-- `title` prints the word with the kind's number. Assumes nothing.
use Rattle.std.proofs.Common.{ap, ◌∙◌, [], ◌∷◌, ℕ, get_or}
use Rattle.listing.specs.Laws.Words.{split}
use Rattle.listing.specs.Laws.Kinds.{names, name_at}
use Rattle.listing.specs.Laws.Sheets.{said}
use Rattle.characters.specs.Text.{Text}
use Rattle.listing.proofs.kinds.title.Goals as goal

pub returns : goal.returns
unfolding split
returns c = said (ap (λ (x : Text). 32 ∷ x) (ap (λ (n : ℕ). get_or names n []) c.from-number.ensures ∙ name_at c.args.kind)) c.word.ensures
