-- `block_end` goes past a comment, whose inner comments nest. Assumes nothing.
use Rattle.std.proofs.Common.{◌-◌, length}
use Rattle.characters.proofs.Passing.{InBlock}
use Rattle.characters.proofs.blanks.block_end.Given as goal

abbrev pub invariant-loop-depth : goal.invariant-loop-depth
invariant-loop-depth l = InBlock l.text l.at l.p l.depth

abbrev pub decreases-loop-depth : goal.decreases-loop-depth
decreases-loop-depth l = length l.text - l.p.offset
