-- `host_atom` takes the name's span, behind the sign. Assumes nothing.
use Rattle.std.proofs.Common.{arith}
use Rattle.literals.specs.StringLaws.{on_stands}
use Rattle.grammar.specs.AtomLaws.{name_spans}
use Rattle.grammar.proofs.Atomic.{offset_near, span_near}
use Rattle.grammar.proofs.atoms.host_atom.Goals as goal

pub span_atom-requires : goal.span_atom-requires
span_atom-requires c = let v = on_stands 1 c.requires.0 (let l = c.requires.2 in omega arith) c.on-after.ensures in (offset_near v c.requires.1, span_near c.args.text.now c.on-after.result c.requires.1 (name_spans _ _ v) c.in_ok-read.ensures)
