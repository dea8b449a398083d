-- `bits` reads eight bits. Those still to come answer for the whole; those passed bound the value. Assumes nothing.
use Rattle.std.proofs.Common.{◌-◌}
use Rattle.literals.specs.ByteArrayLaws.{Bits}
use Rattle.literals.proofs.bytearrays.bits.Given as goal

abbrev pub invariant-loop : goal.invariant-loop
invariant-loop l = Bits l.text l.initial.p l.p l.v (8 - l.counter)
