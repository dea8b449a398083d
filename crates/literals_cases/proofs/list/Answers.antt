-- `list` goes as the reading of a bytearray does, step by step, and each step leaves less of the text. Assumes nothing.
use Rattle.std.specs.Prelude.{Ok}
use Rattle.std.proofs.Common.{ap}
use Rattle.literals.specs.ByteArrayLaws.{byte_further, opened_further, reading_byte, reading_opened, reading_start}
use Rattle.cases.specs.WalkLaws.{less}
use Rattle.literals_cases.proofs.list.Goals as goal

pub loop-seen-init : goal.loop-seen-init
loop-seen-init c = reading_start c.requires

pub loop-seen-smaller-in-Byte : goal.loop-seen-smaller-in-Byte
loop-seen-smaller-in-Byte c = less (byte_further c.loop-seen.invariant c.in-Ok.ensures (ap Ok c.in-Byte.is))

pub loop-seen-preserved-in-Byte : goal.loop-seen-preserved-in-Byte
loop-seen-preserved-in-Byte c = reading_byte c.loop-seen.invariant c.in-Ok.ensures (ap Ok c.in-Byte.is)

pub loop-seen-smaller : goal.loop-seen-smaller
loop-seen-smaller c = less (opened_further c.loop-seen.invariant c.in-Ok.ensures (ap Ok c.in-Opened.is))

pub loop-seen-preserved : goal.loop-seen-preserved
loop-seen-preserved c = reading_opened c.loop-seen.invariant c.in-Ok.ensures (ap Ok c.in-Opened.is)
