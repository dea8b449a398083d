-- `spaces` counts spaces: what is counted and what is left make up the whole run. Assumes nothing.
use Rattle.std.proofs.Common.{refl, arith}
use Rattle.characters.proofs.Places.{byte_in}
use Rattle.characters.proofs.Passing.{space_step, space_out}
use Rattle.characters.proofs.blanks.spaces.Goals as goal

pub loop-o-init : goal.loop-o-init
loop-o-init c = record { same = refl; further = omega arith }

pub overflow_add-o : goal.overflow_add-o
overflow_add-o c = let i = byte_in c.byte.ensures (omega arith) in omega arith

pub loop-o-smaller : goal.loop-o-smaller
loop-o-smaller c = let i = byte_in c.byte.ensures (omega arith) in omega arith

pub loop-o-preserved : goal.loop-o-preserved
loop-o-preserved c = space_step c.byte.ensures c.loop-o.invariant c.loop-o-test.true

pub returns : goal.returns
returns c = space_out c.byte.ensures c.loop-o.invariant c.loop-o-test.false
