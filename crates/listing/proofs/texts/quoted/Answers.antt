-- `quoted` prints a quote, the characters and a quote. Assumes nothing.
use Rattle.std.proofs.Common.{◌<◌, refl, arith, length}
use mathlib.Core.Path.{subst⁻¹}
use Rattle.listing.specs.Laws.Texts.{between_quotes}
use Rattle.listing.specs.Laws.Sheets.{said, then}
use Rattle.literals.specs.SpellingLaws.{key_length}
use Rattle.characters.specs.Text.{Text}
use Rattle.listing.proofs.texts.quoted.Goals as goal

pub spelled-next-requires : goal.spelled-next-requires
spelled-next-requires c = let l = key_length c.args.text.now 0 (length c.args.text.now) in subst⁻¹ (λ (x : Text). length x < 2147483648) c.key-inner.ensures (omega arith)

pub returns : goal.returns
returns c = said (between_quotes _ _ _ refl c.key-inner.ensures) (then c.put-first.ensures (then c.spelled-next.ensures c.put.ensures))
