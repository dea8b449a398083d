-- `skip` goes past blanks. Assumes nothing.
use Rattle.std.proofs.Common.{refl, arith}
use Rattle.std.proofs.lemmas.Grind.{common_steps}
use Rattle.characters.specs.PlaceLaws.{room}
use Rattle.characters.specs.BlankLaws.{spaced_stands}
use Rattle.characters.proofs.Places.{on_less, less}
use Rattle.characters.proofs.Passing.{space_here, blanks_begin, blank_on, blank_spaces, blank_line, comment_line, token_here, slash_here}
use Rattle.characters.proofs.blanks.skip.Goals as goal

pub loop-n-init : goal.loop-n-init
loop-n-init c = blanks_begin c.requires

pub on-p-requires : goal.on-p-requires
on-p-requires c = let h = room (spaced_stands c.loop-n.invariant.stands c.spaces-n.ensures refl) in (omega arith, omega arith)

pub loop-n-smaller-in-32-1 : goal.loop-n-smaller-in-32-1
loop-n-smaller-in-32-1 c = on_less _ _ (blank_spaces c.loop-n.invariant c.spaces-n.ensures c.on-p.ensures).stands c.on-p.ensures (space_here c.byte-b.ensures c.in-32.is c.spaces-n.ensures)

pub loop-n-preserved-in-32-1 : goal.loop-n-preserved-in-32-1
loop-n-preserved-in-32-1 c = blank_spaces c.loop-n.invariant c.spaces-n.ensures c.on-p.ensures

pub loop-n-preserved-in-10-1 : goal.loop-n-preserved-in-10-1
loop-n-preserved-in-10-1 c = blank_line c.loop-n.invariant c.byte-b.ensures c.in-10.is c.line_on-p.ensures

-- a tab, FF or CR
pub loop-n-smaller : goal.loop-n-smaller
loop-n-smaller c = on_less 1 _ (blank_on c.loop-n.invariant c.byte-b.ensures (grind (arith, common_steps)) (grind (arith, common_steps)) (λ h. grind (arith, common_steps)) c.on-p-in-9.ensures).stands c.on-p-in-9.ensures (omega arith)

pub loop-n-preserved : goal.loop-n-preserved
loop-n-preserved c = blank_on c.loop-n.invariant c.byte-b.ensures (grind (arith, common_steps)) (grind (arith, common_steps)) (λ h. grind (arith, common_steps)) c.on-p-in-9.ensures

pub loop-n-smaller-in-47-c : goal.loop-n-smaller-in-47-c
loop-n-smaller-in-47-c c = less (comment_line c.loop-n.invariant c.byte-b.ensures c.in-47.is c.byte-c.ensures c.in-47-c.is c.line_end-p.ensures).1

pub loop-n-preserved-in-47-c : goal.loop-n-preserved-in-47-c
loop-n-preserved-in-47-c c = (comment_line c.loop-n.invariant c.byte-b.ensures c.in-47.is c.byte-c.ensures c.in-47-c.is c.line_end-p.ensures).0

pub returns-in_default-c : goal.returns-in_default-c
returns-in_default-c c = slash_here c.loop-n.invariant c.byte-b.ensures c.in-47.is c.byte-c.ensures (λ h. omega arith) (λ h. omega arith)

pub returns-in_default : goal.returns-in_default
returns-in_default c = token_here c.loop-n.invariant c.byte-b.ensures (grind (arith, common_steps)) (λ h. omega arith)

pub returns-in_default-2 : goal.returns-in_default-2
returns-in_default-2 c = token_here c.loop-n.invariant c.byte-b.ensures (grind (arith, common_steps)) (λ h. omega arith)
