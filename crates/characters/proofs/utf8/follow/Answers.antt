-- `follow` tests the bytes after a lead one by one: those that passed leave the lead's width to the others. Assumes nothing.
use Rattle.std.proofs.Common.{sym, ◌∙◌, rules}
use Rattle.characters.proofs.Utf8Steps.{follow_narrow, follow_short, second_yes, second_no, third_yes, fourth_yes, other_no, all_passed}
use Rattle.characters.proofs.utf8.follow.Goals as goal

pub returns-then-width-lt2 : goal.returns-then-width-lt2
returns-then-width-lt2 c = follow_narrow _ _ c.if-width-lt2.true

pub returns-then-text-at : goal.returns-then-text-at
returns-then-text-at c = follow_short c.args.lead c.args.text.now c.args.at (search rules) (search rules) c.if-text-at.true

pub returns-then-not-in_range : goal.returns-then-not-in_range
returns-then-not-in_range c = second_no c.args.lead c.args.text.now c.args.at (search rules) (search rules) (sym c.in_range.ensures ∙ c.if-not-in_range.true)

pub returns-then-width-eq2 : goal.returns-then-width-eq2
returns-then-width-eq2 c = all_passed c.args.lead c.args.text.now c.args.at 2 (second_yes c.args.lead c.args.text.now c.args.at (search rules) (search rules) (sym c.in_range.ensures ∙ c.if-not-in_range.false)) c.if-width-eq2.true

pub returns-then-not-in_range-2 : goal.returns-then-not-in_range-2
returns-then-not-in_range-2 c = other_no c.args.lead c.args.text.now c.args.at 2 (second_yes c.args.lead c.args.text.now c.args.at (search rules) (search rules) (sym c.in_range.ensures ∙ c.if-not-in_range.false)) (search rules) (search rules) (sym c.in_range-2.ensures ∙ c.if-not-in_range-2.true)

pub returns-then-width-eq3 : goal.returns-then-width-eq3
returns-then-width-eq3 c = all_passed c.args.lead c.args.text.now c.args.at 3 (third_yes c.args.lead c.args.text.now c.args.at (sym c.in_range.ensures ∙ c.if-not-in_range.false) (sym c.in_range-2.ensures ∙ c.if-not-in_range-2.false) (search rules) (search rules)) c.if-width-eq3.true

pub returns-then-not-in_range-3 : goal.returns-then-not-in_range-3
returns-then-not-in_range-3 c = other_no c.args.lead c.args.text.now c.args.at 3 (third_yes c.args.lead c.args.text.now c.args.at (sym c.in_range.ensures ∙ c.if-not-in_range.false) (sym c.in_range-2.ensures ∙ c.if-not-in_range-2.false) (search rules) (search rules)) (search rules) (search rules) (sym c.in_range-3.ensures ∙ c.if-not-in_range-3.true)

pub returns : goal.returns
returns c = all_passed c.args.lead c.args.text.now c.args.at 4 (fourth_yes c.args.lead c.args.text.now c.args.at (sym c.in_range.ensures ∙ c.if-not-in_range.false) (sym c.in_range-2.ensures ∙ c.if-not-in_range-2.false) (search rules) (search rules) (sym c.in_range-3.ensures ∙ c.if-not-in_range-3.false)) (search rules)
