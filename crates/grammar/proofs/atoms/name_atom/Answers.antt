-- `name_atom` reads a name and looks at its word. Assumes nothing.
use Rattle.std.proofs.Common.{Ok, ap, arith}
use Rattle.characters.specs.WordNumbers.{numbered_back}
use Rattle.grammar.proofs.Atomic.{name_ends, named_atom}
use Rattle.grammar.proofs.atoms.name_atom.Goals as goal

pub word-requires : goal.word-requires
word-requires c = name_ends c.requires.0 c.in_ok-read.ensures

pub returns-in-Some : goal.returns-in-Some
returns-in-Some c = named_atom c.args.text.now c.args.at c.in_ok-read.ensures (numbered_back _ c.in-Some.ensures) c.word_atom.ensures

pub span_atom-requires : goal.span_atom-requires
span_atom-requires c = let z = name_ends c.requires.0 c.in_ok-read.ensures in let l = c.requires.1 in (omega arith, omega arith)

pub returns-in-None : goal.returns-in-None
returns-in-None c = named_atom c.args.text.now c.args.at c.in_ok-read.ensures (numbered_back _ c.in-None.ensures) (ap Ok c.span_atom.ensures)
