-- `Place::next` steps over one character: its first byte, then the tails. Assumes nothing.
use Rattle.std.proofs.Common.{◌<◌, refl, sym, arith}
use Rattle.std.proofs.lemmas.Grind.{common_steps}
use Rattle.characters.specs.PlaceLaws.{room, next_end}
use Rattle.characters.proofs.Places.{ended, not_ended, stepped, tailing_on, nexted}
use Rattle.characters.proofs.place.Place.next.Goals as goal

pub returns-then-b-eq256 : goal.returns-then-b-eq256
returns-then-b-eq256 c = sym (next_end _ _ (ended c.byte-b.ensures c.if-b-eq256.true))

pub past-p-requires : goal.past-p-requires
past-p-requires c = let h = room c.requires in (omega arith, omega arith, omega arith)

pub loop-p-init : goal.loop-p-init
loop-p-init c = record { same = refl; stands = (stepped c.requires c.byte-b.ensures (not_ended c.byte-b.ensures c.if-b-eq256.false) c.past-p.ensures).stands }

pub returns-then-not-matches : goal.returns-then-not-matches
returns-then-not-matches c = nexted c.args.self c.byte-b.ensures c.if-b-eq256.false c.past-p.ensures c.loop-p.invariant c.byte-t.ensures (grind (arith, common_steps))

pub past-p-requires-in-loop-p : goal.past-p-requires-in-loop-p
past-p-requires-in-loop-p c = let h = room c.loop-p.invariant.stands in (omega arith, omega arith, omega arith)

pub loop-p-smaller : goal.loop-p-smaller
loop-p-smaller c = let l : c.byte-t.result < 256 = grind (arith, common_steps) in let h = stepped c.loop-p.invariant.stands c.byte-t.ensures l c.past-p-in-loop-p.ensures in omega arith

pub loop-p-preserved : goal.loop-p-preserved
loop-p-preserved c = tailing_on c.loop-p.invariant c.byte-t.ensures (grind (arith, common_steps)) (grind (arith, common_steps)) c.past-p-in-loop-p.ensures
