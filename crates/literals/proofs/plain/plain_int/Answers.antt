-- `plain_int` sums up digits: the value so far and the digits left make the whole. Assumes nothing.
use Rattle.std.proofs.Common.{arith}
use Rattle.literals.proofs.Plains.{valued_starts, valued_room, valued_digit, valued_on, valued_done}
use Rattle.literals.proofs.plain.plain_int.Goals as goal

pub loop-i-init : goal.loop-i-init
loop-i-init c = valued_starts c.requires

pub bounds-text-i : goal.bounds-text-i
bounds-text-i c = (valued_digit c.requires c.loop-i.invariant c.loop-i-test.true).0

pub overflow_sub-digit : goal.overflow_sub-digit
overflow_sub-digit c = let d = valued_digit c.requires c.loop-i.invariant c.loop-i-test.true in omega arith

pub overflow_mul-value : goal.overflow_mul-value
overflow_mul-value c = let r = valued_room c.requires c.loop-i.invariant in omega arith

pub overflow_cast-value : goal.overflow_cast-value
overflow_cast-value c = let d = valued_digit c.requires c.loop-i.invariant c.loop-i-test.true in omega arith

pub overflow_add-value : goal.overflow_add-value
overflow_add-value c = let r = valued_room c.requires c.loop-i.invariant in let d = valued_digit c.requires c.loop-i.invariant c.loop-i-test.true in omega arith

pub loop-i-preserved : goal.loop-i-preserved
loop-i-preserved c = valued_on c.requires c.loop-i.invariant c.loop-i-test.true

pub returns : goal.returns
returns c = valued_done c.requires c.loop-i.invariant c.loop-i-test.false
