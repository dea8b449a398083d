-- `word` prints a space and the word that begins past so many others. Assumes nothing.
use Rattle.std.proofs.Common.{ap, ◌∙◌, ◌∷◌}
use Rattle.listing.specs.Laws.Words.{up_to_space, word_at}
use Rattle.listing.specs.Laws.Sheets.{said, then}
use Rattle.characters.specs.Text.{Text}
use Rattle.listing.proofs.fields.word.Goals as goal

pub returns : goal.returns
returns c = said (ap (λ (x : Text). 32 ∷ x) (ap up_to_space c.words_from-rest.ensures ∙ word_at _ _)) (then c.put-next.ensures c.first_word.ensures)
