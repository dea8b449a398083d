-- `word_atom` has an arm for each word that is an atom. Assumes nothing.
use Rattle.grammar.proofs.Atomic.{word_barred}
use Rattle.grammar.proofs.atoms.word_atom.Goals as goal

pub returns-in_default : goal.returns-in_default
returns-in_default c = word_barred c.args.word c.args.here c.args.next c.in_default.not-True c.in_default.not-False c.in_default.not-Nil
