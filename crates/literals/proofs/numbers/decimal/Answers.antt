-- `decimal` is a run of digits, and what may follow it. The value that the run hands on is held, which changes no answer. Assumes nothing.
use Rattle.std.proofs.Common.{ap, ◌∙◌, arith, false}
use Rattle.characters.specs.Answers.{handed}
use Rattle.characters.specs.PlaceLaws.{in_text}
use Rattle.characters.specs.declared.refusal.Refusal.TheVariants.{ExpectedDigit}
use Rattle.literals.specs.Numbers.{exponent_or}
use Rattle.literals.proofs.NumberParts.{digits_stand, decimal_is, past_dot, past_plain}
use Rattle.literals.proofs.numbers.decimal.Goals as goal

pub returns-in_err-read : goal.returns-in_err-read
returns-in_err-read c = handed c.from_residual.ensures ∙ decimal_is c.args.text.now c.args.at c.in_err-read.ensures

pub dotted-requires : goal.dotted-requires
dotted-requires c = (
  digits_stand false ExpectedDigit 10 (omega arith) c.requires c.in_ok-read.ensures,
  in_text c.args.text.now c.in_ok-read.read.next.offset (omega (arith, c.byte-b.ensures.is)),
)

pub returns-then-b-eq46 : goal.returns-then-b-eq46
returns-then-b-eq46 c =
    c.dotted.ensures
    ∙ past_dot c.args.text.now c.in_ok-read.read.next c.byte-b.ensures.is c.in_ok-read.read.value c.if-b-eq46.true
    ∙ decimal_is c.args.text.now c.args.at c.in_ok-read.ensures

pub exponent_or-requires : goal.exponent_or-requires
exponent_or-requires c = digits_stand false ExpectedDigit 10 (omega arith) c.requires c.in_ok-read.ensures

pub returns : goal.returns
returns c =
    c.exponent_or.ensures
    ∙ ap (exponent_or c.args.text.now c.in_ok-read.read.next) c.integer-plain.ensures
    ∙ past_plain c.args.text.now c.in_ok-read.read.next c.byte-b.ensures.is c.in_ok-read.read.value c.if-b-eq46.false
    ∙ decimal_is c.args.text.now c.args.at c.in_ok-read.ensures
