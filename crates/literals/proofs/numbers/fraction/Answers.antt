-- `fraction` is a run of digits, and what may follow it. Assumes nothing.
use Rattle.std.proofs.Common.{◌∙◌, arith, false}
use Rattle.characters.specs.Answers.{handed}
use Rattle.characters.specs.declared.refusal.Refusal.TheVariants.{ExpectedDigit}
use Rattle.literals.proofs.NumberParts.{digits_stand, fraction_is}
use Rattle.literals.proofs.numbers.fraction.Goals as goal

pub returns-in_err-read : goal.returns-in_err-read
returns-in_err-read c = handed c.from_residual.ensures ∙ fraction_is c.args.text.now c.args.at c.in_err-read.ensures

pub exponent_or-requires : goal.exponent_or-requires
exponent_or-requires c = digits_stand false ExpectedDigit 10 (omega arith) c.requires c.in_ok-read.ensures

pub returns : goal.returns
returns c = c.exponent_or.ensures ∙ fraction_is c.args.text.now c.args.at c.in_ok-read.ensures
