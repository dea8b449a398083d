-- `position_of`: the three words after the kind. Assumes nothing.
use Rattle.records.specs.Nodes.{place_at}
use Rattle.records.proofs.nodes.position_of.Goals as goal

pub returns : goal.returns
unfolding place_at
returns c = λ i. record { offset = c.word_of-offset.ensures i; line = c.word_of-line.ensures i; column = c.word_of-column.ensures i }
