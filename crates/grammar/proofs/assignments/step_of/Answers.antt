-- `step_of` looks at one byte, and at a second only where the first could double. Assumes nothing.
use Rattle.std.proofs.Common.{rules}
use Rattle.grammar.specs.Heads.{step_of}
use Rattle.grammar.proofs.assignments.step_of.Goals as goal

pub returns-then-c-ne43 : goal.returns-then-c-ne43
unfolding step_of
returns-then-c-ne43 c = search rules

pub returns-then-c-ne45 : goal.returns-then-c-ne45
unfolding step_of
returns-then-c-ne45 c = search rules

pub returns-else-c-ne43 : goal.returns-else-c-ne43
unfolding step_of
returns-else-c-ne43 c = search rules

pub returns-else-c-ne45 : goal.returns-else-c-ne45
unfolding step_of
returns-else-c-ne45 c = search rules

pub returns-in_default : goal.returns-in_default
unfolding step_of
returns-in_default c = search rules
