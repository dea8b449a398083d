-- `opened` is the table's row of a lead: in each arm the row of every byte that comes there is computed. Assumes nothing.
use Rattle.std.proofs.Common.{refl, arith}
use Rattle.characters.specs.Utf8.{table}
use Rattle.characters.specs.Utf8Laws.{opened_in}
use Rattle.characters.proofs.Utf8Steps.{opened_at_lem}
use Rattle.characters.proofs.utf8.opened.Goals as goal

pub returns-in-224 : goal.returns-in-224
unfolding table opened_in
returns-in-224 c = opened_at_lem _ 0xE0 1 refl c.args.b (omega arith) (omega arith)

pub returns-in-237 : goal.returns-in-237
unfolding table opened_in
returns-in-237 c = opened_at_lem _ 0xED 1 refl c.args.b (omega arith) (omega arith)

pub returns-in-240 : goal.returns-in-240
unfolding table opened_in
returns-in-240 c = opened_at_lem _ 0xF0 1 refl c.args.b (omega arith) (omega arith)

pub returns-in-244 : goal.returns-in-244
unfolding table opened_in
returns-in-244 c = opened_at_lem _ 0xF4 1 refl c.args.b (omega arith) (omega arith)

pub returns-in-0-to-127 : goal.returns-in-0-to-127
unfolding table opened_in
returns-in-0-to-127 c = opened_at_lem _ 0x00 0x80 refl c.args.b (omega arith) (omega arith)

pub returns-in-194-to-223 : goal.returns-in-194-to-223
unfolding table opened_in
returns-in-194-to-223 c = opened_at_lem _ 0xC2 30 refl c.args.b (omega arith) (omega arith)

pub returns-in-225-to-236 : goal.returns-in-225-to-236
unfolding table opened_in
returns-in-225-to-236 c = opened_at_lem _ 0xE1 12 refl c.args.b (omega arith) (omega arith)

pub returns-in-238-to-239 : goal.returns-in-238-to-239
unfolding table opened_in
returns-in-238-to-239 c = opened_at_lem _ 0xEE 2 refl c.args.b (omega arith) (omega arith)

pub returns-in-241-to-243 : goal.returns-in-241-to-243
unfolding table opened_in
returns-in-241-to-243 c = opened_at_lem _ 0xF1 3 refl c.args.b (omega arith) (omega arith)

pub returns-in_default : goal.returns-in_default
unfolding table opened_in
returns-in_default c = opened_at_lem _ 0x80 66 refl c.args.b (omega arith) (omega arith)

pub returns-in_default-2 : goal.returns-in_default-2
unfolding table opened_in
returns-in_default-2 c = opened_at_lem _ 0xF5 11 refl c.args.b (omega arith) (omega arith)
