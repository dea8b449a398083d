-- `line_end` goes to where the line stops, and past an LF there. Assumes nothing.
use Rattle.characters.specs.BlankLaws.{line_by_stop}
use Rattle.characters.proofs.blanks.line_end.Goals as goal

pub returns : goal.returns
returns c = line_by_stop c.args.text.now c.args.at c.line_stop-stop.ensures c.if-text-stop.false
