-- `pairs` prints byte after byte. What is left of the bytearray leads to the whole; each step leaves less of it. Assumes nothing.
use Rattle.std.specs.Prelude.{Ok}
use Rattle.std.proofs.Common.{ap, refl, arith}
use Rattle.listing.specs.Laws.Texts.{printing_start, printing_byte, printing_opened, printing_shut, printing_refused, byte_further, opened_further}
use Rattle.listing.proofs.texts.pairs.Goals as goal

pub loop-seen-init : goal.loop-seen-init
loop-seen-init c = printing_start c.requires

pub loop-seen-smaller-in-Byte : goal.loop-seen-smaller-in-Byte
loop-seen-smaller-in-Byte c = let a = byte_further c.loop-seen.invariant c.in-Ok.ensures (ap Ok c.in-Byte.is) in let x = a.further in let y = a.stands.inside in omega arith

pub loop-seen-preserved-in-Byte : goal.loop-seen-preserved-in-Byte
loop-seen-preserved-in-Byte c = printing_byte c.loop-seen.invariant c.in-Ok.ensures (ap Ok c.in-Byte.is) c.pair-next.ensures c.pair-next.auto.out

pub loop-seen-smaller : goal.loop-seen-smaller
loop-seen-smaller c = let a = opened_further c.loop-seen.invariant c.in-Ok.ensures (ap Ok c.in-Opened.is) in let x = a.further in let y = a.stands.inside in omega arith

pub loop-seen-preserved : goal.loop-seen-preserved
loop-seen-preserved c = printing_opened c.loop-seen.invariant c.in-Ok.ensures (ap Ok c.in-Opened.is)

pub returns-in-Shut : goal.returns-in-Shut
returns-in-Shut c = printing_shut c.loop-seen.invariant c.in-Ok.ensures (ap Ok c.in-Shut.is)

pub returns : goal.returns
returns c = printing_refused c.loop-seen.invariant c.in_default.ensures refl
