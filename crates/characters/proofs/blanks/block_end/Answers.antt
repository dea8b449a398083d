-- `block_end` goes past a comment, whose inner comments nest. Assumes nothing.
use Rattle.std.proofs.Common.{arith}
use Rattle.characters.proofs.Places.{on_less, not_ended, stepped}
use Rattle.characters.specs.PlaceLaws.{room}
use Rattle.characters.proofs.Passing.{two, block_opens, block_step, block_sign, block_deeper, block_less, block_closed, block_fails}
use Rattle.characters.proofs.blanks.block_end.Goals as goal

pub on-p-requires : goal.on-p-requires
on-p-requires c = let h = room c.requires.0 in (omega arith, omega arith)

pub loop-depth-init : goal.loop-depth-init
loop-depth-init c = block_opens c.requires.0 c.requires.1 c.requires.2 c.on-p.ensures

pub returns-in-256 : goal.returns-in-256
returns-in-256 c = block_fails c.loop-depth.invariant c.byte-b.ensures c.in-256.is

pub overflow_add-depth : goal.overflow_add-depth
overflow_add-depth c = let h = room c.loop-depth.invariant.stands in let u = c.loop-depth.invariant.deep in omega arith

pub on-p-requires-then-byte-eq42 : goal.on-p-requires-then-byte-eq42
on-p-requires-then-byte-eq42 c = let h = room c.loop-depth.invariant.stands in (omega arith, omega arith)

pub loop-depth-smaller-then-byte-eq42 : goal.loop-depth-smaller-then-byte-eq42
loop-depth-smaller-then-byte-eq42 c = let h = two c.loop-depth.invariant.stands c.byte.ensures (omega arith) c.on-p-then-byte-eq42.ensures in let i = h.0.stands.inside in let j = h.1 in omega arith

pub loop-depth-preserved-then-byte-eq42 : goal.loop-depth-preserved-then-byte-eq42
loop-depth-preserved-then-byte-eq42 c = block_deeper c.loop-depth.invariant c.byte-b.ensures c.in-47.is c.byte.ensures c.if-byte-eq42.true c.on-p-then-byte-eq42.ensures

pub on-p-requires-else-byte-eq42 : goal.on-p-requires-else-byte-eq42
on-p-requires-else-byte-eq42 c = let h = room c.loop-depth.invariant.stands in (omega arith, omega arith)

pub loop-depth-smaller-else-byte-eq42 : goal.loop-depth-smaller-else-byte-eq42
loop-depth-smaller-else-byte-eq42 c = on_less 1 _ (block_sign 42 c.loop-depth.invariant c.byte-b.ensures c.in-47.is c.byte.ensures c.if-byte-eq42.false (omega arith) (omega arith) c.on-p-else-byte-eq42.ensures).stands c.on-p-else-byte-eq42.ensures (omega arith)

pub loop-depth-preserved-else-byte-eq42 : goal.loop-depth-preserved-else-byte-eq42
loop-depth-preserved-else-byte-eq42 c = block_sign 42 c.loop-depth.invariant c.byte-b.ensures c.in-47.is c.byte.ensures c.if-byte-eq42.false (omega arith) (omega arith) c.on-p-else-byte-eq42.ensures

pub on-p-requires-then-byte-eq47 : goal.on-p-requires-then-byte-eq47
on-p-requires-then-byte-eq47 c = let h = room c.loop-depth.invariant.stands in (omega arith, omega arith)

pub returns-then-depth-eq0 : goal.returns-then-depth-eq0
returns-then-depth-eq0 c = block_closed c.loop-depth.invariant c.byte-b.ensures c.in-42.is c.byte-in-42.ensures c.if-byte-eq47.true c.on-p-then-byte-eq47.ensures c.if-depth-eq0.true

pub loop-depth-smaller-then-byte-eq47 : goal.loop-depth-smaller-then-byte-eq47
loop-depth-smaller-then-byte-eq47 c = let h = two c.loop-depth.invariant.stands c.byte-in-42.ensures (omega arith) c.on-p-then-byte-eq47.ensures in let i = h.0.stands.inside in let j = h.1 in omega arith

pub loop-depth-preserved-then-byte-eq47 : goal.loop-depth-preserved-then-byte-eq47
loop-depth-preserved-then-byte-eq47 c = block_less c.loop-depth.invariant c.byte-b.ensures c.in-42.is c.byte-in-42.ensures c.if-byte-eq47.true c.on-p-then-byte-eq47.ensures c.if-depth-eq0.false

pub on-p-requires-else-byte-eq47 : goal.on-p-requires-else-byte-eq47
on-p-requires-else-byte-eq47 c = let h = room c.loop-depth.invariant.stands in (omega arith, omega arith)

pub loop-depth-smaller-else-byte-eq47 : goal.loop-depth-smaller-else-byte-eq47
loop-depth-smaller-else-byte-eq47 c = on_less 1 _ (block_sign 47 c.loop-depth.invariant c.byte-b.ensures c.in-42.is c.byte-in-42.ensures c.if-byte-eq47.false (omega arith) (omega arith) c.on-p-else-byte-eq47.ensures).stands c.on-p-else-byte-eq47.ensures (omega arith)

pub loop-depth-preserved-else-byte-eq47 : goal.loop-depth-preserved-else-byte-eq47
loop-depth-preserved-else-byte-eq47 c = block_sign 47 c.loop-depth.invariant c.byte-b.ensures c.in-42.is c.byte-in-42.ensures c.if-byte-eq47.false (omega arith) (omega arith) c.on-p-else-byte-eq47.ensures

pub past-p-requires : goal.past-p-requires
past-p-requires c = let h = room c.loop-depth.invariant.stands in (omega arith, omega arith, omega arith)

pub loop-depth-smaller : goal.loop-depth-smaller
loop-depth-smaller c = let h = stepped c.loop-depth.invariant.stands c.byte-b.ensures (not_ended c.byte-b.ensures c.in_default.in_default-own.rest.0.0.1) c.past-p.ensures in let i = h.stands.inside in omega arith

pub loop-depth-preserved : goal.loop-depth-preserved
loop-depth-preserved c = block_step c.loop-depth.invariant c.byte-b.ensures (not_ended c.byte-b.ensures c.in_default.in_default-own.rest.0.0.1) (λ h g. c.in_default.in_default-own.rest.0.1 h) (λ h g. c.in_default.in_default-own.rest.1 h) c.past-p.ensures
