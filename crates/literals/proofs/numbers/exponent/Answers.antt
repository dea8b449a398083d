-- `exponent` is the run of digits behind the sign, read as a float. Assumes nothing.
use Rattle.std.proofs.Common.{◌∙◌}
use Rattle.characters.specs.Answers.{handed}
use Rattle.literals.proofs.NumberParts.{exponent_is}
use Rattle.literals.proofs.numbers.exponent.Goals as goal

pub returns-in_err-read : goal.returns-in_err-read
returns-in_err-read c = handed c.from_residual.ensures ∙ exponent_is c.args.text.now c.args.at c.signed-p.ensures c.in_err-read.ensures

pub returns : goal.returns
returns c = exponent_is c.args.text.now c.args.at c.signed-p.ensures c.in_ok-read.ensures
