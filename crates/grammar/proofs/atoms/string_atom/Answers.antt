-- `string_atom` takes the string's span. Assumes nothing.
use Rattle.grammar.specs.AtomLaws.{string_on}
use Rattle.grammar.proofs.Atomic.{offset_near, span_near}
use Rattle.grammar.proofs.atoms.string_atom.Goals as goal

pub span_atom-requires : goal.span_atom-requires
span_atom-requires c = (offset_near c.requires.0 c.requires.1, span_near c.args.text.now c.args.at c.requires.1 (string_on _ _ c.requires.0) c.in_ok-read.ensures)
