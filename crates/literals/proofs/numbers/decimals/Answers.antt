-- `decimals` reads a run of decimal digits. The invariant: what is left, with the sum so far, answers for the whole. The measure is what is
-- left of the text. Assumes nothing.
use Rattle.std.proofs.Common.{◌∙◌, false, rules}
use Rattle.literals.proofs.NumberRuns.{going_start, digits_some, digits_none, going_decimal, going_past, going_broken, going_end, digit_less, byte_less}
use Rattle.literals.proofs.numbers.decimals.Goals as goal

pub returns-then-f-ge10 : goal.returns-then-f-ge10
returns-then-f-ge10 c = search (digits_none, rules)

pub loop-value-init : goal.loop-value-init
loop-value-init c = search (going_start, rules)

pub loop-value-smaller-then-d-lt10 : goal.loop-value-smaller-then-d-lt10
loop-value-smaller-then-d-lt10 c =
    digit_less c.args.text.now c.loop-value.p c.on-p.result
    c.byte-b.result c.digit-d.result
    c.byte-b.ensures.is c.digit-d.ensures (search rules)
    c.on-p.ensures

pub loop-value-preserved-then-d-lt10 : goal.loop-value-preserved-then-d-lt10
loop-value-preserved-then-d-lt10 c = search (going_decimal, rules)

pub returns-then-e-ge10 : goal.returns-then-e-ge10
returns-then-e-ge10 c =
    going_broken c.loop-value.invariant c.byte-b.ensures.is
    c.digit-d.ensures c.if-d-lt10.false
    c.if-b-eq95.true c.on-q.ensures c.byte-c.ensures.is
    c.digit-e.ensures c.if-e-ge10.true
    ∙ digits_some false c.args.none
    c.args.text.now c.args.at
    c.byte-first.ensures.is c.digit-f.ensures c.if-f-ge10.false

pub loop-value-smaller : goal.loop-value-smaller
loop-value-smaller c = search (byte_less, rules)

pub loop-value-preserved : goal.loop-value-preserved
loop-value-preserved c =
    going_past c.loop-value.invariant
    c.byte-b.ensures.is
    c.digit-d.ensures c.if-d-lt10.false
    c.if-b-eq95.true c.on-q.ensures c.byte-c.ensures.is
    c.digit-e.ensures c.if-e-ge10.false

pub returns-else-b-eq95 : goal.returns-else-b-eq95
returns-else-b-eq95 c =
    going_end c.loop-value.invariant c.byte-b.ensures.is c.digit-d.ensures c.if-d-lt10.false c.if-b-eq95.false
    ∙ digits_some false c.args.none
    c.args.text.now c.args.at
    c.byte-first.ensures.is c.digit-f.ensures c.if-f-ge10.false
