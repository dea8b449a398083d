-- `atom_of` goes by the first byte. Assumes nothing.
use Rattle.std.proofs.Common.{arith, rules}
use Rattle.grammar.specs.Leaves.{atom_of}
use Rattle.grammar.proofs.Atomic.{no_digit_low, no_digit_high, from_sign}
use Rattle.grammar.proofs.atoms.atom_of.Goals as goal
use Rattle.grammar.proofs.atoms.atom_of.Goals.{in_default-via-then-b-lt48, in_default-via-else-b-lt48+else-b-lt58}

pub returns-then-is_letter : goal.returns-then-is_letter
unfolding atom_of
returns-then-is_letter c = search rules

pub returns-in-34 : goal.returns-in-34
unfolding atom_of
returns-in-34 c = search rules

pub returns-in-48-to-57 : goal.returns-in-48-to-57
unfolding atom_of
returns-in-48-to-57 c = search rules

pub returns-in_default : goal.returns-in_default
returns-in_default c = from_sign c.args.text.now c.args.at c.byte-b.ensures c.is_letter.ensures c.if-is_letter.false (elim c.in_default.branch [ in_default-via-then-b-lt48 w ↦ no_digit_low c.byte-b.result (omega arith) | in_default-via-else-b-lt48+else-b-lt58 w ↦ no_digit_high c.byte-b.result (omega arith) ]) (search rules) c.sign_atom.ensures
