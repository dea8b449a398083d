-- `bits` reads eight bits. Those still to come answer for the whole; those passed bound the value. Assumes nothing.
use Rattle.std.proofs.Common.{◌≡◌, subst, ℕ, ◌+◌, ◌-◌, ◌*◌, arith}
use Rattle.literals.specs.ByteArrayLaws.{Bits, bits_end, bits_step, bits_wrong}
use Rattle.literals.proofs.bytearrays.bits.Goals as goal

pub returns-then-d-ge2 : goal.returns-then-d-ge2
returns-then-d-ge2 c = bits_wrong c.loop.invariant (omega arith) c.byte-b.ensures c.bit-d.ensures c.if-d-ge2.true c.next.ensures

pub loop-preserved : goal.loop-preserved
loop-preserved c =
    subst (λ (k : ℕ). Bits c.args.text.now c.args.at c.on-p.result (c.loop.v * 2 + c.bit-d.result) k) (let z : 8 - c.loop.counter - 1 ≡ 8 - (c.loop.counter + 1) = omega arith in z)
    (bits_step c.loop.invariant (omega arith) c.byte-b.ensures c.bit-d.ensures c.if-d-ge2.false c.on-p.ensures)

pub returns : goal.returns
returns c = bits_end c.loop.invariant (omega arith)
