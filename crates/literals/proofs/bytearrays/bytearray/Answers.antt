-- `bytearray` goes step by step up to the `]`. What is left of the text answers for the whole; each step leaves less of it. Assumes nothing.
use Rattle.std.specs.Prelude.{Ok}
use Rattle.std.proofs.Common.{ap, refl, ◌∙◌, arith}
use Rattle.characters.specs.Answers.{handed}
use Rattle.literals.specs.ByteArrayLaws.{byte_further, opened_further, reading_byte, reading_opened, reading_refused, reading_shut, reading_start}
use Rattle.literals.proofs.bytearrays.bytearray.Goals as goal

pub loop-value-init : goal.loop-value-init
loop-value-init c = reading_start c.requires

pub step-requires : goal.step-requires
step-requires c = c.loop-value.invariant.stands

pub loop-value-smaller-in-Byte : goal.loop-value-smaller-in-Byte
loop-value-smaller-in-Byte c = let a = byte_further c.loop-value.invariant c.in_ok-value.ensures (ap Ok c.in-Byte.is) in let x = a.further in let y = a.stands.inside in omega arith

pub loop-value-preserved-in-Byte : goal.loop-value-preserved-in-Byte
loop-value-preserved-in-Byte c = reading_byte c.loop-value.invariant c.in_ok-value.ensures (ap Ok c.in-Byte.is)

pub loop-value-smaller : goal.loop-value-smaller
loop-value-smaller c = let a = opened_further c.loop-value.invariant c.in_ok-value.ensures (ap Ok c.in-Opened.is) in let x = a.further in let y = a.stands.inside in omega arith

pub loop-value-preserved : goal.loop-value-preserved
loop-value-preserved c = reading_opened c.loop-value.invariant c.in_ok-value.ensures (ap Ok c.in-Opened.is)

pub returns-in-Shut : goal.returns-in-Shut
returns-in-Shut c = reading_shut c.loop-value.invariant c.in_ok-value.ensures (ap Ok c.in-Shut.is)

pub returns-in_err-value : goal.returns-in_err-value
returns-in_err-value c = handed c.from_residual.ensures ∙ reading_refused c.loop-value.invariant c.in_err-value.ensures refl
