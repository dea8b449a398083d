-- `token` skips the blanks, tests and steps. Assumes nothing.
use Rattle.std.proofs.Common.{arith}
use borrow.Author.Tests.{not-false}
use Rattle.characters.proofs.Looking.{passed, fits_after}
use Rattle.characters.proofs.tokens.token.Goals as goal

pub spelled-requires : goal.spelled-requires
spelled-requires c = (passed c.requires c.in_ok-here.ensures).stands.inside

pub overflow_cast-w : goal.overflow_cast-w
overflow_cast-w c = let h = fits_after _ c.requires c.in_ok-here.ensures c.spelled.ensures (not-false _ c.if-not-spelled.false-raw) in let s = c.requires.short in omega arith

pub on-next-requires : goal.on-next-requires
on-next-requires c = let h = fits_after _ c.requires c.in_ok-here.ensures c.spelled.ensures (not-false _ c.if-not-spelled.false-raw) in let k = (passed c.requires c.in_ok-here.ensures).stands.columns in let s = c.requires.short in (omega arith, omega arith)
