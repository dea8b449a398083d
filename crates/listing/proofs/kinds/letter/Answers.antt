-- `letter` reads the table at the kind's row. Assumes nothing.
use Rattle.std.proofs.Common.{ap, ◌∙◌, ℕ, ◌+◌, ◌*◌, arith, get_or}
use Rattle.listing.specs.Laws.Kinds.{rows, letter_at, number_bound}
use Rattle.records.specs.Kinds.{kinds}
use Rattle.characters.specs.Names.{same}
use Rattle.listing.proofs.kinds.letter.Goals as goal

pub overflow_mul-at : goal.overflow_mul-at
overflow_mul-at c = let z = number_bound c.args.kind in let y = c.from-number.ensures in omega arith

pub overflow_add-at : goal.overflow_add-at
overflow_add-at c = let z = number_bound c.args.kind in let y = c.from-number.ensures in omega arith

pub returns : goal.returns
unfolding same
returns c = c.byte.ensures.is ∙ ap (λ (n : ℕ). get_or (rows kinds) (n * 6 + c.args.i) 256) c.from-number.ensures ∙ letter_at c.args.kind c.args.i (omega arith)
