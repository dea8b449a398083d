-- `last_line` goes along a line to the end of the text. Assumes nothing.
use Rattle.std.proofs.Common.{refl, arith}
use Rattle.characters.specs.PlaceLaws.{room}
use Rattle.characters.proofs.Places.{not_ended, stepped}
use Rattle.characters.proofs.Passing.{line_step, line_out}
use Rattle.characters.proofs.blanks.last_line.Goals as goal

pub loop-p-init : goal.loop-p-init
loop-p-init c = record { same = refl; stands = c.requires.0; further = omega arith }

pub returns-then-b-eq256 : goal.returns-then-b-eq256
returns-then-b-eq256 c = line_out c.loop-p.invariant c.byte-b.ensures c.if-b-eq256.true

pub past-p-requires : goal.past-p-requires
past-p-requires c = let h = room c.loop-p.invariant.stands in (omega arith, omega arith, omega arith)

pub loop-p-smaller : goal.loop-p-smaller
loop-p-smaller c = let h = stepped c.loop-p.invariant.stands c.byte-b.ensures (not_ended c.byte-b.ensures c.if-b-eq256.false) c.past-p.ensures in omega arith

pub loop-p-preserved : goal.loop-p-preserved
loop-p-preserved c = line_step c.loop-p.invariant c.byte-b.ensures c.requires.1 c.if-b-eq256.false c.past-p.ensures
