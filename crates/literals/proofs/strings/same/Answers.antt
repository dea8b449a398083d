-- `same` walks over two texts at once. What is left of them compares as they do; each turn leaves less of the first. Assumes nothing.
use Rattle.std.proofs.Common.{sym, ◌∙◌, arith}
use Rattle.literals.specs.SpellingLaws.{both_end, compare_on, differ, first_ends, piece_inside, second_ends}
use Rattle.literals.proofs.strings.same.Goals as goal

pub returns-in-None-None : goal.returns-in-None-None
returns-in-None-None c = both_end c.loop-x.invariant (sym c.in-None-None.is-0 ∙ c.piece.ensures) (sym c.in-None-None.is-1 ∙ c.piece-in-loop-x.ensures)

pub returns-then-x-y : goal.returns-then-x-y
returns-then-x-y c = differ c.loop-x.invariant c.in-Some-Some.ensures c.in-Some-Some.ensures' c.if-x-y.true

pub loop-x-smaller : goal.loop-x-smaller
loop-x-smaller c = let z = piece_inside _ _ _ c.in-Some-Some.ensures in omega arith

pub loop-x-preserved : goal.loop-x-preserved
loop-x-preserved c = compare_on c.loop-x.invariant c.in-Some-Some.ensures c.in-Some-Some.ensures' c.if-x-y.false

pub returns-in_default : goal.returns-in_default
returns-in_default c = first_ends c.loop-x.invariant (sym c.in_default.is-0 ∙ c.piece.ensures) c.in_default.ensures

pub returns-in_default-2 : goal.returns-in_default-2
returns-in_default-2 c = second_ends c.loop-x.invariant c.in_default.ensures c.in_default.ensures'
