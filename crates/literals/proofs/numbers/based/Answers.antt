-- `based` is a run of digits behind a first one, read as an integer. Assumes nothing.
use Rattle.std.proofs.Common.{◌∙◌, true}
use Rattle.characters.specs.Answers.{handed}
use Rattle.characters.specs.declared.refusal.Refusal.TheVariants.{ExpectedDigit}
use Rattle.literals.proofs.NumberRuns.{digits_some, digits_none}
use Rattle.literals.proofs.NumberParts.{based_is}
use Rattle.literals.proofs.numbers.based.Goals as goal

pub returns-then-radix-f : goal.returns-then-radix-f
returns-then-radix-f c =
    based_is c.args.text.now c.args.at c.args.radix
    (digits_none true c.args.text.now c.byte-first.ensures.is c.digit-f.ensures c.if-radix-f.true)

pub returns-in_err-read : goal.returns-in_err-read
returns-in_err-read c =
    handed c.from_residual.ensures
    ∙ based_is c.args.text.now c.args.at c.args.radix
    (c.in_err-read.ensures ∙ digits_some true ExpectedDigit c.args.text.now c.args.at c.byte-first.ensures.is c.digit-f.ensures c.if-radix-f.false)

pub returns : goal.returns
returns c =
    c.integer.ensures
    ∙ based_is c.args.text.now c.args.at c.args.radix
    (c.in_ok-read.ensures ∙ digits_some true ExpectedDigit c.args.text.now c.args.at c.byte-first.ensures.is c.digit-f.ensures c.if-radix-f.false)
