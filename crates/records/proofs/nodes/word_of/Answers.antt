-- `word_of`: where a record's words stand. Assumes nothing.
use Rattle.std.proofs.Common.{sym}
use Rattle.records.proofs.Laws.Nodes.{word_in}
use Rattle.records.proofs.nodes.word_of.Goals as goal

pub returns : goal.returns
returns c = sym (word_in _ _ _ c.requires.0.some)
