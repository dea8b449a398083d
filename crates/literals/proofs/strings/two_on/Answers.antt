-- `two_on` steps over two characters. Past the end there is no character, and `next` is not asked. Assumes nothing.
use Rattle.std.proofs.Common.{ap, ◌∙◌, rules}
use Rattle.characters.specs.Text.{next}
use Rattle.literals.specs.StringLaws.{next_on, two_end}
use Rattle.literals.proofs.strings.two_on.Goals as goal

pub returns-then-b-eq256 : goal.returns-then-b-eq256
returns-then-b-eq256 c = search (two_end, rules)

pub next-requires : goal.next-requires
next-requires c = search (next_on, rules)

pub returns : goal.returns
returns c = c.next.ensures ∙ ap (next _) c.next-p.ensures
