-- `class_of` compares the keyword only where its first byte stands. Assumes nothing.
use Rattle.std.proofs.Common.{refl, rules, ap, sym, Ok, ◌∙◌}
use Rattle.characters.specs.Answers.{handed}
use Rattle.characters.specs.Text.{ascii}
use Rattle.characters.specs.Tokens.{keyword}
use Rattle.grammar.specs.Heads.{class_of, class_by}
use Rattle.grammar.proofs.Leafing.{passed}
use Rattle.grammar.proofs.Heading.{keyword_missing, keyword_there, past_keyword, past_none}
use Rattle.grammar.proofs.declarations.class_of.Goals as goal

pub returns-in_err-front : goal.returns-in_err-front
unfolding class_of keyword
returns-in_err-front c = search rules

pub opened-requires : goal.opened-requires
opened-requires c = passed c.requires.0 c.in_ok-front.ensures.0

pub returns-then-front-ne101 : goal.returns-then-front-ne101
unfolding class_of
returns-then-front-ne101 c = c.opened.ensures ∙ ap (class_by c.args.text.now) (keyword_missing 101 (ascii "xtends") c.requires.0 c.in_ok-front.ensures.0 c.in_ok-front.ensures.1 c.if-front-ne101.true)

pub keyword-requires : goal.keyword-requires
keyword-requires c = passed c.requires.0 c.in_ok-front.ensures.0

pub returns-in_err-next : goal.returns-in_err-next
unfolding class_of
returns-in_err-next c = handed c.from_residual-in_err-next.ensures ∙ ap (class_by c.args.text.now) (c.in_err-next.ensures ∙ keyword_there c.args.at 101 (ascii "extends") c.in_ok-front.ensures.0 c.in_ok-front.ensures.1 c.if-front-ne101.false refl)

pub parent-requires : goal.parent-requires
parent-requires c = (past_keyword (ascii "extends") (passed c.requires.0 c.in_ok-front.ensures.0) c.in_ok-next.ensures c.in-Found.is, c.requires.1)

pub opened-requires-in-Missing : goal.opened-requires-in-Missing
opened-requires-in-Missing c = past_none (ascii "extends") (passed c.requires.0 c.in_ok-front.ensures.0) c.in_ok-next.ensures c.in-Missing.is

pub returns-in-Found : goal.returns-in-Found
unfolding class_of
returns-in-Found c = c.parent.ensures ∙ ap (class_by c.args.text.now) (sym (ap Ok c.in-Found.is) ∙ c.in_ok-next.ensures ∙ keyword_there c.args.at 101 (ascii "extends") c.in_ok-front.ensures.0 c.in_ok-front.ensures.1 c.if-front-ne101.false refl)

pub returns-in-Missing : goal.returns-in-Missing
unfolding class_of
returns-in-Missing c = c.opened-in-Missing.ensures ∙ ap (class_by c.args.text.now) (sym (ap Ok c.in-Missing.is) ∙ c.in_ok-next.ensures ∙ keyword_there c.args.at 101 (ascii "extends") c.in_ok-front.ensures.0 c.in_ok-front.ensures.1 c.if-front-ne101.false refl)
