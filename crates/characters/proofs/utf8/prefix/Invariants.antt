-- `prefix` adds up characters: the length passed, and the prefix of what is left, are the prefix of the text. Assumes nothing.
use Rattle.std.proofs.Common.{◌-◌, length}
use Rattle.characters.proofs.Utf8Steps.{Answers}
use Rattle.characters.proofs.utf8.prefix.Given as goal

abbrev pub invariant-loop-at : goal.invariant-loop-at
invariant-loop-at l = Answers l.text l.at

abbrev pub decreases-loop-at : goal.decreases-loop-at
decreases-loop-at l = length l.text - l.at
