-- `list`: the sheet keeps its length. Assumes nothing.
use Rattle.std.proofs.Common.{◌≡◌, length}
use Rattle.lister.proofs.list.Given as goal

abbrev pub invariant-loop-number : goal.invariant-loop-number
invariant-loop-number l = 262209 ≡ length l.sheet
