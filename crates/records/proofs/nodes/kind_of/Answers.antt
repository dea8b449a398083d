-- `kind_of`: the first word. Assumes nothing.
use Rattle.records.specs.Nodes.{kind_at}
use Rattle.records.proofs.nodes.kind_of.Goals as goal

pub returns : goal.returns
unfolding kind_at
returns c = c.word_of.ensures
