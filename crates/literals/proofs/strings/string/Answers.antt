-- `string` reads up to the closing quote. What is left of the text answers for the whole; each turn leaves less of it. Assumes nothing.
use Rattle.std.proofs.Common.{ap, refl, ◌∙◌, arith, rules}
use Rattle.characters.specs.declared.place.Place.{Place}
use Rattle.characters.specs.PlaceLaws.{past_offset, room}
use Rattle.literals.specs.Strings.{strayed}
use Rattle.literals.specs.StringLaws.{byte_in, escape_room, no_quote, not_ended, on_stands, scan_on, scan_past, scan_refused, scan_start, scanned, scanned_end}
use Rattle.literals.proofs.strings.string.Goals as goal

pub returns-then-quote-eq256 : goal.returns-then-quote-eq256
returns-then-quote-eq256 c = no_quote c.args.at c.byte-quote.ensures c.if-quote-eq256.true

pub loop-at-init : goal.loop-at-init
loop-at-init c = search (scan_start, rules)

pub returns-then-b-eq256 : goal.returns-then-b-eq256
returns-then-b-eq256 c = scanned_end c.loop-at.invariant c.byte-b.ensures c.if-b-eq256.true

pub returns-then-b-quote : goal.returns-then-b-quote
returns-then-b-quote c = search (scanned, rules)

pub overflow_add-escaped : goal.overflow_add-escaped
overflow_add-escaped c = let w = escape_room c.loop-at.invariant c.byte-b.ensures c.if-b-eq92.true refl c.in-Ok.ensures in search rules

pub on-p-requires : goal.on-p-requires
on-p-requires c = let w = escape_room c.loop-at.invariant c.byte-b.ensures c.if-b-eq92.true refl c.in-Ok.ensures in search (room, rules)

pub loop-at-smaller-in-Ok : goal.loop-at-smaller-in-Ok
loop-at-smaller-in-Ok c = let w = escape_room c.loop-at.invariant c.byte-b.ensures c.if-b-eq92.true refl c.in-Ok.ensures in let z = ap (λ (q : Place). q.offset) c.on-p.ensures in omega arith

pub loop-at-preserved-in-Ok : goal.loop-at-preserved-in-Ok
loop-at-preserved-in-Ok c = scan_past c.loop-at.invariant c.byte-b.ensures c.if-b-quote.false c.if-b-eq92.true c.in-Ok.ensures c.on-p.ensures

pub stray-requires : goal.stray-requires
stray-requires c = let w = escape_room c.loop-at.invariant c.byte-b.ensures c.if-b-eq92.true refl c.in-Err.ensures in ((on_stands 1 c.loop-at.invariant.stands (omega arith) c.on.ensures), let z = ap (λ (q : Place). q.offset) c.on.ensures in omega arith)

pub returns-in-Err : goal.returns-in-Err
returns-in-Err c = scan_refused c.loop-at.invariant c.byte-b.ensures c.if-b-quote.false c.if-b-eq92.true c.in-Err.ensures (c.stray.ensures ∙ ap (λ (q : Place). strayed c.args.text.now q c.in-Err.e) c.on.ensures)

pub loop-at-smaller : goal.loop-at-smaller
loop-at-smaller c = let l = byte_in c.byte-b.ensures (not_ended c.byte-b.ensures c.if-b-eq256.false) in let z = ap (λ (q : Place). q.offset) c.past-p-else-b-eq92.ensures ∙ past_offset _ _ in omega arith

pub loop-at-preserved : goal.loop-at-preserved
loop-at-preserved c = search (scan_on, rules)
