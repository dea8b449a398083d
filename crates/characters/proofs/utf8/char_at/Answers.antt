-- `char_at`: the end, ASCII and bytes that are no character answer at once; a lead and each byte after it then add their bits to those before.
-- Assumes nothing.
use Rattle.std.proofs.Common.{◌+◌, ◌-◌, arith, rules}
use Rattle.characters.proofs.Utf8Steps.{char_past, char_none, char_ascii, char_done, beyond, second_read, third_read, fourth_read}
use Rattle.characters.proofs.utf8.char_at.Goals as goal

pub returns-then-text-at : goal.returns-then-text-at
returns-then-text-at c = char_past c.args.text.now c.args.at c.if-text-at.true

pub overflow_cast-b : goal.overflow_cast-b
overflow_cast-b c = omega (arith, c.type_inv.text c.args.at)

pub returns-then-b-lt128 : goal.returns-then-b-lt128
returns-then-b-lt128 c = char_ascii c.args.text.now c.args.at (search rules) c.if-b-lt128.true

pub returns-then-width-eq0 : goal.returns-then-width-eq0
returns-then-width-eq0 c = char_none c.args.text.now c.args.at c.sequence-width.result (search rules) c.sequence-width.ensures c.if-width-eq0.true

pub overflow_sub-one : goal.overflow_sub-one
overflow_sub-one c = let w = beyond c.args.text.now c.args.at c.sequence-width.result (search rules) c.if-b-lt128.false c.sequence-width.ensures c.if-width-eq0.false in omega (arith, w.lead, c.mark_of.ensures)

pub six_more-two-requires : goal.six_more-two-requires
six_more-two-requires c = let w = beyond c.args.text.now c.args.at c.sequence-width.result (search rules) c.if-b-lt128.false c.sequence-width.ensures c.if-width-eq0.false in (omega (arith, c.type_inv.text c.args.at), omega (arith, w.some, w.room), w.others 1 (omega arith) w.some)

pub returns-then-after-eq1 : goal.returns-then-after-eq1
returns-then-after-eq1 c = char_done c.args.text.now c.args.at (c.sequence-width.result - 1) 1 c.six_more-two.result (second_read c.args.text.now c.args.at c.sequence-width.result (search rules) c.if-b-lt128.false c.sequence-width.ensures c.if-width-eq0.false c.mark_of.result c.mark_of.ensures _ c.six_more-two.ensures) c.if-after-eq1.true

pub six_more-three-requires : goal.six_more-three-requires
six_more-three-requires c = let w = beyond c.args.text.now c.args.at c.sequence-width.result (search rules) c.if-b-lt128.false c.sequence-width.ensures c.if-width-eq0.false in (omega (arith, c.type_inv.text c.args.at, c.type_inv.text (c.args.at + 1)), omega (arith, w.some, w.room), w.others 2 (omega arith) (omega (arith, w.some)))

pub returns-then-after-eq2 : goal.returns-then-after-eq2
returns-then-after-eq2 c = char_done c.args.text.now c.args.at (c.sequence-width.result - 1) 2 c.six_more-three.result (third_read c.args.text.now c.args.at c.sequence-width.result (search rules) c.if-b-lt128.false c.sequence-width.ensures c.if-width-eq0.false c.mark_of.result c.mark_of.ensures _ c.six_more-two.ensures _ c.six_more-three.ensures c.if-after-eq1.false) c.if-after-eq2.true

pub six_more-requires : goal.six_more-requires
six_more-requires c = let w = beyond c.args.text.now c.args.at c.sequence-width.result (search rules) c.if-b-lt128.false c.sequence-width.ensures c.if-width-eq0.false in (omega (arith, c.type_inv.text c.args.at, c.type_inv.text (c.args.at + 1), c.type_inv.text (c.args.at + 2)), omega (arith, w.some, w.room), w.others 3 (omega arith) (omega (arith, w.some)))

pub returns : goal.returns
returns c = let w = beyond c.args.text.now c.args.at c.sequence-width.result (search rules) c.if-b-lt128.false c.sequence-width.ensures c.if-width-eq0.false in char_done c.args.text.now c.args.at (c.sequence-width.result - 1) 3 c.six_more.result (fourth_read c.args.text.now c.args.at c.sequence-width.result (search rules) c.if-b-lt128.false c.sequence-width.ensures c.if-width-eq0.false c.mark_of.result c.mark_of.ensures _ c.six_more-two.ensures _ c.six_more-three.ensures c.if-after-eq1.false _ c.six_more.ensures c.if-after-eq2.false) (omega (arith, w.some, w.most))
