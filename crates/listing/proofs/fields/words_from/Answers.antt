-- `words_from` counts spaces. So many words are still to pass. Assumes nothing.
use Rattle.std.proofs.Common.{sym, subst, ℕ, ◌+◌, arith}
use Rattle.listing.specs.Laws.Words.{Passing, passing_space, passing_other, passing_end, passing_none}
use Rattle.listing.proofs.fields.words_from.Goals as goal
use Rattle.listing.proofs.fields.words_from.Goals.{then-words-i-eq32, else-words-i-eq32}

pub returns-then-left-eq0 : goal.returns-then-left-eq0
returns-then-left-eq0 c = passing_none c.loop-i.invariant c.if-left-eq0.true

pub loop-i-preserved : goal.loop-i-preserved
loop-i-preserved c =
    elim c.if-words-i-eq32.branch [
      | then-words-i-eq32 w ↦ subst (λ (k : ℕ). Passing c.args.words.now c.args.n k (c.loop-i.i + 1)) (sym w.left-is) (passing_space c.loop-i.invariant (omega arith) c.loop-i-test.true w.if-words-i-eq32.true)
      | else-words-i-eq32 w ↦ subst (λ (k : ℕ). Passing c.args.words.now c.args.n k (c.loop-i.i + 1)) (sym w.left-is) (passing_other c.loop-i.invariant (omega arith) c.loop-i-test.true w.if-words-i-eq32.false)
    ]

pub returns : goal.returns
returns c = passing_end c.loop-i.invariant c.loop-i-test.false
