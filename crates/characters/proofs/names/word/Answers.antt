-- `word` asks for the length before it looks. Assumes nothing.
use Rattle.std.specs.Prelude.{None}
use Rattle.characters.specs.WordNumbers.{told}
use Rattle.characters.proofs.Words.{too_short, too_long}
use Rattle.characters.proofs.names.word.Goals as goal

pub returns-then-n-lt2 : goal.returns-then-n-lt2
returns-then-n-lt2 c = told None _ (too_short _ _ _ c.requires.0 c.requires.1 c.if-n-lt2.true)

pub returns-then-n-gt10 : goal.returns-then-n-gt10
returns-then-n-gt10 c = told None _ (too_long _ _ _ c.requires.0 c.requires.1 c.if-n-gt10.true)

pub returns : goal.returns
returns c = told _ _ c.slotted.ensures
