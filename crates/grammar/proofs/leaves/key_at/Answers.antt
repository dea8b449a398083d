-- `key_at` goes by the first byte. Assumes nothing.
use Rattle.std.proofs.Common.{rules}
use Rattle.grammar.specs.Leaves.{key_at}
use Rattle.grammar.proofs.leaves.key_at.Goals as goal

pub returns-then-b-eq34 : goal.returns-then-b-eq34
unfolding key_at
returns-then-b-eq34 c = search rules

pub returns-then-b-eq39 : goal.returns-then-b-eq39
unfolding key_at
returns-then-b-eq39 c = search rules

pub returns : goal.returns
unfolding key_at
returns c = search rules
