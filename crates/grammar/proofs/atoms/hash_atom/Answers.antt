-- `hash_atom` reads on where a `[` follows. Assumes nothing.
use Rattle.std.proofs.Common.{arith}
use Rattle.literals.specs.StringLaws.{byte_in, on_stands}
use Rattle.grammar.specs.AtomLaws.{bytearray_spans}
use Rattle.grammar.proofs.Atomic.{offset_near, span_near}
use Rattle.grammar.proofs.atoms.hash_atom.Goals as goal

pub span_atom-requires : goal.span_atom-requires
span_atom-requires c = (offset_near c.requires.0 c.requires.1, span_near c.args.text.now c.on-p.result c.requires.1 (bytearray_spans _ _ (on_stands 2 c.requires.0 (let l = byte_in c.byte-b.ensures (omega arith) in omega arith) c.on-p.ensures)) c.in_ok-read.ensures)
