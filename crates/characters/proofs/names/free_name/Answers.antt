-- `free_name` bars the reserved words. Assumes nothing.
use Rattle.characters.specs.WordNumbers.{numbered_back}
use Rattle.characters.proofs.Naming.{name_spans, free_barred, free_taken}
use Rattle.characters.proofs.names.free_name.Goals as goal

pub word-requires : goal.word-requires
word-requires c = name_spans c.requires c.in_ok-read.ensures

pub returns-in-Some : goal.returns-in-Some
returns-in-Some c = free_barred c.args.text.now c.args.at c.in_ok-read.ensures (numbered_back _ c.word.ensures) c.in-Some.is

pub returns-in-None : goal.returns-in-None
returns-in-None c = free_taken c.args.text.now c.args.at c.in_ok-read.ensures (numbered_back _ c.word.ensures) c.in-None.is
