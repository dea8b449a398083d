-- `replay`: each case lies in the list, the next one begins further on, and each way out is an end of the walk. Assumes nothing.
use Rattle.std.specs.Prelude.{Ok}
use Rattle.std.proofs.Common.{sym, ap, ◌∙◌, arith}
use mathlib.Core.Path.{subst⁻¹}
use Rattle.characters.specs.Answers.{handed}
use Rattle.cases.specs.Walks.{Walked, ends, stops, goes_on}
use Rattle.cases.proofs.Within.{there, within}
use Rattle.cases.proofs.replay.Goals as goal

pub returns-in_err-case : goal.returns-in_err-case
returns-in_err-case g c =
    subst⁻¹ (Walked c.args.list.now 0) (handed c.from_residual.ensures) (c.loop-answer.invariant _ (stops (sym c.next.ensures ∙ c.in_err-case.was)))

pub slice_bounds-answer-count : goal.slice_bounds-answer-count
slice_bounds-answer-count g c = let l = within (there _ _ c.next.ensures c.in_ok-case.was c.in-Some.is) in omega (arith, l.whole)

pub slice_bounds-answer-start : goal.slice_bounds-answer-start
slice_bounds-answer-start g c = let l = within (there _ _ c.next.ensures c.in_ok-case.was c.in-Some.is) in omega (arith, l.whole)

pub slice_bounds-answer-end : goal.slice_bounds-answer-end
slice_bounds-answer-end g c = let l = within (there _ _ c.next.ensures c.in_ok-case.was c.in-Some.is) in omega (arith, l.inside)

pub loop-answer-smaller : goal.loop-answer-smaller
loop-answer-smaller g c = let l = within (there _ _ c.next.ensures c.in_ok-case.was c.in-Some.is) in omega (arith, l.ends, l.further)

pub loop-answer-preserved : goal.loop-answer-preserved
loop-answer-preserved g c = λ r w. c.loop-answer.invariant r (goes_on (there _ _ c.next.ensures c.in_ok-case.was c.in-Some.is) w)

pub returns : goal.returns
returns g c = c.loop-answer.invariant _ (ends (sym c.next.ensures ∙ c.in_ok-case.was ∙ ap Ok c.in_default.is))
