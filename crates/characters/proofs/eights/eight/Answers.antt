-- `eight` adds up eight bytes. Assumes nothing.
use Rattle.characters.specs.EightLaws.{eight_is}
use Rattle.characters.proofs.eights.eight.Goals as goal

pub returns : goal.returns
returns c = eight_is c.args.text.now c.args.i c.wide-a.ensures.is c.wide-b.ensures.is c.wide-c.ensures.is c.wide-d.ensures.is c.wide-e.ensures.is c.wide-f.ensures.is c.wide-g.ensures.is c.wide-h.ensures.is
