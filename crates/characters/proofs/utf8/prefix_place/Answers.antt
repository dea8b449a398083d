-- `prefix_place` steps over the bytes of the prefix, one by one. Assumes nothing.
use Rattle.std.proofs.Common.{◌≡◌, ap, ◌∙◌, ℕ, ◌≤◌, arith, length, take, rules}
use Rattle.characters.specs.Text.{Text, start}
use Rattle.characters.specs.Utf8.{prefix_of, place_after}
use Rattle.characters.specs.Utf8Laws.{prefix_length}
use Rattle.characters.proofs.Utf8Steps.{place_none, place_more, place_room}
use Rattle.characters.proofs.utf8.prefix_place.Goals as goal

within : (s : Text) {n : ℕ} → n ≡ prefix_of s → n ≤ length s
within s e = omega (arith, prefix_length s)

pub loop-at-init : goal.loop-at-init
loop-at-init c = (search rules, c.start-p.ensures ∙ place_none c.args.text.now)

pub bounds-text-at : goal.bounds-text-at
bounds-text-at c = let h = within c.args.text.now c.prefix-end.ensures in search rules

pub overflow_cast-text : goal.overflow_cast-text
overflow_cast-text c = omega (arith, c.type_inv.text c.loop-at.at)

pub past-p-requires : goal.past-p-requires
past-p-requires c = place_room c.args.text.now c.loop-at.at c.loop-at.p c.requires c.loop-at.invariant.1

pub loop-at-preserved : goal.loop-at-preserved
loop-at-preserved c = let h = within c.args.text.now c.prefix-end.ensures in (search rules, place_more c.args.text.now c.loop-at.at c.loop-at.p c.past-p.result (search rules) c.loop-at.invariant.1 c.past-p.ensures)

pub returns : goal.returns
returns c = c.loop-at.invariant.1 ∙ ap (λ (n : ℕ). place_after (take n c.args.text.now) start) (let e : c.loop-at.at ≡ prefix_of c.args.text.now = omega (arith, c.prefix-end.ensures) in e)
