-- What stands between the quotes is no longer than the text. Assumes nothing.
use Rattle.literals_cases.proofs.Going.{key_short}
use Rattle.literals_cases.proofs.say_string.Goals as goal

pub spell-requires : goal.spell-requires
spell-requires c = key_short c.args.text.now c.in-Ok.token.here.offset c.in-Ok.token.next.offset c.key.ensures c.requires.short
