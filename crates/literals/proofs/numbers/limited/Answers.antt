-- `limited` reads the digits of `0x` and `0b`. The invariant is that of `decimals`, and the count of digits that may follow is right.
-- Assumes nothing.
use Rattle.std.proofs.Common.{refl, arith, rules}
use Rattle.literals.proofs.NumberRuns.{going_start, going_limited, going_full, going_past, going_broken, going_end, digit_less, byte_less}
use Rattle.literals.proofs.numbers.limited.Goals as goal

pub loop-p-init : goal.loop-p-init
loop-p-init c = going_start refl c.requires.0 (omega arith)

pub returns-then-left-eq0 : goal.returns-then-left-eq0
returns-then-left-eq0 c =
    going_full c.loop-p.invariant c.requires.2 c.byte-b.ensures.is
    c.digit-d.ensures c.if-d-radix.true c.if-left-eq0.true

pub loop-p-smaller-then-d-radix : goal.loop-p-smaller-then-d-radix
loop-p-smaller-then-d-radix c =
    digit_less c.args.text.now c.loop-p.p c.on-p.result
    c.byte-b.result c.digit-d.result
    c.byte-b.ensures.is c.digit-d.ensures
    (omega (arith, c.requires.1.small)) c.on-p.ensures

pub loop-p-preserved-then-d-radix : goal.loop-p-preserved-then-d-radix
loop-p-preserved-then-d-radix c =
    going_limited c.loop-p.invariant c.requires.2 c.requires.1
    c.byte-b.ensures.is c.digit-d.ensures
    c.if-d-radix.true c.if-left-eq0.false c.fewer-left.ensures
    c.sum-value.ensures c.on-p.ensures

pub returns-then-radix-e : goal.returns-then-radix-e
returns-then-radix-e c =
    going_broken c.loop-p.invariant
    c.byte-b.ensures.is
    c.digit-d.ensures c.if-d-radix.false
    c.if-b-eq95.true c.on-q.ensures c.byte-c.ensures.is
    c.digit-e.ensures c.if-radix-e.true

pub loop-p-smaller : goal.loop-p-smaller
loop-p-smaller c = search (byte_less, rules)

pub loop-p-preserved : goal.loop-p-preserved
loop-p-preserved c =
    going_past c.loop-p.invariant
    c.byte-b.ensures.is
    c.digit-d.ensures c.if-d-radix.false
    c.if-b-eq95.true c.on-q.ensures c.byte-c.ensures.is
    c.digit-e.ensures c.if-radix-e.false

pub returns-else-b-eq95 : goal.returns-else-b-eq95
returns-else-b-eq95 c =
    going_end c.loop-p.invariant c.byte-b.ensures.is
    c.digit-d.ensures c.if-d-radix.false c.if-b-eq95.false
