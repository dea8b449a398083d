-- `number_atom` takes an int's value, or a float's span. Assumes nothing.
use Rattle.std.proofs.Common.{ap, Ok}
use Rattle.literals.specs.NumberLaws.{int_small}
use Rattle.grammar.proofs.Atomic.{int_casts, int_by, float_spans}
use Rattle.grammar.proofs.atoms.number_atom.Goals as goal

pub overflow_cast-v : goal.overflow_cast-v
overflow_cast-v c = int_casts c.in-Int.value (int_small c.requires.0 c.in_ok-value.ensures (ap Ok c.in-Int.is))

pub span_atom-requires : goal.span_atom-requires
span_atom-requires c = float_spans c.requires.0 c.requires.1 c.in_ok-value.ensures c.in-Float.is

pub returns-in-Int : goal.returns-in-Int
returns-in-Int c = int_by c.requires.0 c.in_ok-value.ensures c.in-Int.is
