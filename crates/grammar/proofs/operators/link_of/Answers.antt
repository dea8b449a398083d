-- `link_of` tells a link by its first bytes. Assumes nothing.
use Rattle.std.proofs.Common.{ap, ◌∙◌}
use Rattle.grammar.proofs.Links.{linked, operated}
use Rattle.grammar.specs.declared.leaves.Link.TheVariants.{Choice}
use Rattle.grammar.proofs.operators.link_of.Goals as goal

pub returns-in-0 : goal.returns-in-0
returns-in-0 c = linked c.args.at c.byte-a.ensures c.byte-b.ensures c.byte-c.ensures c.sign_of-sign.ensures 0 c.in-0.is

pub returns-in-19 : goal.returns-in-19
returns-in-19 c = ap Choice c.on-next.ensures ∙ linked c.args.at c.byte-a.ensures c.byte-b.ensures c.byte-c.ensures c.sign_of-sign.ensures 19 c.in-19.is

pub returns-in-20 : goal.returns-in-20
returns-in-20 c = linked c.args.at c.byte-a.ensures c.byte-b.ensures c.byte-c.ensures c.sign_of-sign.ensures 20 c.in-20.is

pub returns-in_default : goal.returns-in_default
returns-in_default c = operated c.args.at c.byte-a.ensures c.byte-b.ensures c.byte-c.ensures c.sign_of-sign.ensures c.in_default.in_default-own.rest c.width_of-n.ensures c.on-next-in_default.ensures
