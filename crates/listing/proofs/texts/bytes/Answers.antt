-- `bytes` prints the bytes of a bytearray that is taken. Assumes nothing.
use Rattle.std.proofs.Common.{arith}
use Rattle.listing.specs.Laws.Texts.{bytes_short, bytes_refused, bytes_taken, taken_shut}
use Rattle.listing.specs.Laws.Sheets.{said, none}
use Rattle.listing.proofs.texts.bytes.Goals as goal

pub returns-then-text-lt2 : goal.returns-then-text-lt2
returns-then-text-lt2 c = said (bytes_short _ c.if-text-lt2.true) none

pub pairs-requires : goal.pairs-requires
pairs-requires c = taken_shut _ _ (record { short = c.requires; inside = c.if-text-lt2.false; lines = omega arith; columns = omega arith }) c.in-Ok.ensures

pub returns-in-Ok : goal.returns-in-Ok
returns-in-Ok c = said (bytes_taken _) c.pairs.ensures

pub returns-in-Err : goal.returns-in-Err
returns-in-Err c = said (bytes_refused _ c.in-Err.ensures) none
