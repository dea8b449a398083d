-- `Kind::try_from` looks a number up in the list of kinds: where no arm fits, nothing stands there. Assumes nothing.
use Rattle.std.proofs.Common.{arith}
use Rattle.records.proofs.Laws.Kinds.{kind_none}
use Rattle.records.proofs.kind.KindTryFromU32.try_from.Goals as goal

pub returns-in_default : goal.returns-in_default
returns-in_default c = rw (kind_none c.args.number (λ p. omega arith))
