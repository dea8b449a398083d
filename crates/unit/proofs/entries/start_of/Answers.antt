-- `start_of` by its mark. Assumes nothing.
use Rattle.std.proofs.Common.{false}
use Rattle.unit.specs.Suits.Units.{start_stands}
use Rattle.unit.specs.Laws.Entering.{starts_file, starts_string}
use Rattle.unit.proofs.entries.start_of.Goals as goal

pub file_start-requires : goal.file_start-requires
file_start-requires c = start_stands _ false c.requires

pub returns-then-file : goal.returns-then-file
returns-then-file c = starts_file _ c.if-file.true c.file_start.ensures

pub returns-else-file : goal.returns-else-file
returns-else-file c = starts_string _ c.if-file.false c.start.ensures
