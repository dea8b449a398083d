-- `fold` makes one number of at most eight bytes. Assumes nothing.
use Rattle.std.proofs.Common.{arith}
use Rattle.characters.proofs.Naming.{folding_starts, folding_room, folding_on, folded}
use Rattle.characters.proofs.names.fold.Goals as goal

pub loop-i-init : goal.loop-i-init
loop-i-init c = folding_starts _ _ _ c.requires.0

pub overflow_mul-v : goal.overflow_mul-v
overflow_mul-v c = let h = folding_room c.loop-i.invariant (λ i. omega (arith, c.type_inv.text i)) c.requires.1 c.requires.2 c.loop-i-test.true in omega arith

pub overflow_cast-v : goal.overflow_cast-v
overflow_cast-v c = let h = c.requires.1 in let i = c.loop-i-test.true in let b = c.byte.ensures.inside (omega arith) in omega arith

pub overflow_add-v : goal.overflow_add-v
overflow_add-v c = let h = folding_room c.loop-i.invariant (λ i. omega (arith, c.type_inv.text i)) c.requires.1 c.requires.2 c.loop-i-test.true in let k = c.requires.1 in let i = c.loop-i-test.true in let b = c.byte.ensures.inside (omega arith) in omega arith

pub loop-i-preserved : goal.loop-i-preserved
loop-i-preserved c = folding_on c.loop-i.invariant c.requires.1 c.loop-i-test.true c.byte.ensures

pub returns : goal.returns
returns c = folded c.loop-i.invariant c.loop-i-test.false
