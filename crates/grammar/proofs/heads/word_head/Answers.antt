-- `word_head` has an arm for each word that opens a statement. Assumes nothing.
use Rattle.grammar.proofs.Heading.{word_rest}
use Rattle.grammar.proofs.heads.word_head.Goals as goal

pub returns-in_default : goal.returns-in_default
returns-in_default c =
    let d = c.in_default in
    word_rest c.args.word c.args.here c.args.next d.not-Let d.not-Fun d.not-If d.not-Loop d.not-While d.not-For d.not-Return d.not-Break d.not-Continue d.not-Assert
