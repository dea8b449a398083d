-- `let_of` compares the keyword only where its first byte stands. Assumes nothing.
use Rattle.std.proofs.Common.{refl, rules, ap, sym, Ok, ◌∙◌}
use Rattle.characters.specs.Answers.{handed}
use Rattle.characters.specs.Text.{ascii}
use Rattle.characters.specs.Tokens.{keyword}
use Rattle.grammar.specs.Heads.{let_of, let_by}
use Rattle.grammar.proofs.Leafing.{passed}
use Rattle.grammar.proofs.Heading.{keyword_missing, keyword_there, past_keyword, past_none}
use Rattle.grammar.proofs.declarations.let_of.Goals as goal

pub returns-in_err-front : goal.returns-in_err-front
unfolding let_of keyword
returns-in_err-front c = search rules

pub let_named-requires : goal.let_named-requires
let_named-requires c = (passed c.requires.0 c.in_ok-front.ensures.0, c.requires.1)

pub returns-then-front-ne118 : goal.returns-then-front-ne118
unfolding let_of
returns-then-front-ne118 c = c.let_named.ensures ∙ ap (let_by c.args.text.now) (keyword_missing 118 (ascii "ar") c.requires.0 c.in_ok-front.ensures.0 c.in_ok-front.ensures.1 c.if-front-ne118.true)

pub keyword-requires : goal.keyword-requires
keyword-requires c = passed c.requires.0 c.in_ok-front.ensures.0

pub returns-in_err-next : goal.returns-in_err-next
unfolding let_of
returns-in_err-next c = handed c.from_residual-in_err-next.ensures ∙ ap (let_by c.args.text.now) (c.in_err-next.ensures ∙ keyword_there c.args.at 118 (ascii "var") c.in_ok-front.ensures.0 c.in_ok-front.ensures.1 c.if-front-ne118.false refl)

pub let_named-requires-in-Found : goal.let_named-requires-in-Found
let_named-requires-in-Found c = (past_keyword (ascii "var") (passed c.requires.0 c.in_ok-front.ensures.0) c.in_ok-next.ensures c.in-Found.is, c.requires.1)

pub let_named-requires-in-Missing : goal.let_named-requires-in-Missing
let_named-requires-in-Missing c = (past_none (ascii "var") (passed c.requires.0 c.in_ok-front.ensures.0) c.in_ok-next.ensures c.in-Missing.is, c.requires.1)

pub returns-in-Found : goal.returns-in-Found
unfolding let_of
returns-in-Found c = c.let_named-in-Found.ensures ∙ ap (let_by c.args.text.now) (sym (ap Ok c.in-Found.is) ∙ c.in_ok-next.ensures ∙ keyword_there c.args.at 118 (ascii "var") c.in_ok-front.ensures.0 c.in_ok-front.ensures.1 c.if-front-ne118.false refl)

pub returns-in-Missing : goal.returns-in-Missing
unfolding let_of
returns-in-Missing c = c.let_named-in-Missing.ensures ∙ ap (let_by c.args.text.now) (sym (ap Ok c.in-Missing.is) ∙ c.in_ok-next.ensures ∙ keyword_there c.args.at 118 (ascii "var") c.in_ok-front.ensures.0 c.in_ok-front.ensures.1 c.if-front-ne118.false refl)
