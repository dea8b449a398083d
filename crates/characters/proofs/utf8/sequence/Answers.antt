-- `sequence` is the width of the row that fits at `at`: the end, ASCII, and what a lead asks for. Assumes nothing.
use Rattle.std.proofs.Common.{◌≤◌, rules}
use mathlib.Core.Path.{subst⁻¹}
use Rattle.characters.specs.declared.utf8.Lead.{Lead}
use Rattle.characters.proofs.Utf8Steps.{lead_narrow, sequence_past, sequence_ascii, sequence_follows}
use Rattle.characters.proofs.utf8.sequence.Goals as goal

pub returns-then-text-at : goal.returns-then-text-at
returns-then-text-at c = sequence_past c.args.text.now c.args.at c.if-text-at.true

pub returns-then-b-lt128 : goal.returns-then-b-lt128
returns-then-b-lt128 c = sequence_ascii c.args.text.now c.args.at (search rules) c.if-b-lt128.true

pub follow-requires : goal.follow-requires
follow-requires c = (search rules, subst⁻¹ (λ (l : Lead). l.0 ≤ 4) c.opened.ensures (lead_narrow _))

pub returns : goal.returns
returns c = sequence_follows c.args.text.now c.args.at c.opened.result c.follow.result (search rules) c.opened.ensures c.follow.ensures
