-- `read`: 1, 2, 3, or the reading of the unit. Assumes nothing.
use Rattle.std.proofs.Common.{rules}
use Rattle.unit.specs.Laws.Entering.{enters_long, enters_nest, enters_unsound, enters_ready, enters_read}
use Rattle.unit.proofs.entries.read.Goals as goal

pub returns-then-text-gt65535 : goal.returns-then-text-gt65535
returns-then-text-gt65535 c = enters_long _ _ _ _ _ c.if-text-gt65535.true c.refused.ensures

pub returns-then-nest-lt1 : goal.returns-then-nest-lt1
returns-then-nest-lt1 c = enters_nest _ _ _ _ _ c.if-text-gt65535.false c.then-nest-lt1.either c.refused-then-nest-lt1.ensures

pub returns-then-not-well_formed : goal.returns-then-not-well_formed
returns-then-not-well_formed c = enters_unsound _ _ _ _ _ c.if-text-gt65535.false c.if-nest-lt1.false c.if-nest-gt256.false c.well_formed-2.ensures c.if-not-well_formed.true c.prefix_place-at.ensures c.refused-then-not-well_formed.ensures

pub start_of-at-requires : goal.start_of-at-requires
start_of-at-requires c = c.if-text-gt65535.false

pub unit-read-requires : goal.unit-read-requires
unit-read-requires c = enters_ready c.args.file c.if-text-gt65535.false c.capacity-cap.ensures c.start_of-at.ensures c.start.ensures

pub returns : goal.returns
returns c = enters_read _ _ _ _ _ c.if-text-gt65535.false c.if-nest-lt1.false c.if-nest-gt256.false c.well_formed-2.ensures c.if-not-well_formed.false c.capacity-cap.ensures c.start_of-at.ensures c.start.ensures c.unit-read.ensures.reads c.told.ensures (search rules)
