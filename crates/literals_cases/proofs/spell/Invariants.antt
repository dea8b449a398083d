-- `spell` ends: each character that a string spells leaves less of it. Assumes nothing.
use Rattle.std.proofs.Common.{◌-◌, ◌≤◌, length}
use Rattle.literals_cases.proofs.spell.Given as goal

abbrev pub invariant-loop-found : goal.invariant-loop-found
invariant-loop-found l = l.at ≤ length l.inner

abbrev pub decreases-loop-found : goal.decreases-loop-found
decreases-loop-found l = length l.inner - l.at
