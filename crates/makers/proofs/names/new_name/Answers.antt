-- `new_name`: each turn passes an item, or counts and compares its name. The item falls, for each refers to an earlier one. Assumes nothing.
use Rattle.std.proofs.Common.{refl}
use Rattle.makers.specs.Laws.NamesWalk.{bytes_as, bytes_short, walk_end, walk_pass, walk_over, walk_same, walk_on}
use Rattle.makers.proofs.names.new_name.Goals as goal

pub returns : goal.returns
returns c = walk_end c.loop-item.invariant c.args.name (bytes_as c.args.naming c.args.text.now c.args.name c.is_spelled-spelled.ensures c.bytes_of-mine.ensures) c.loop-item-test.false

pub loop-item-preserved : goal.loop-item-preserved
loop-item-preserved c = walk_pass c.loop-item.invariant c.loop-item-test.true c.name_at.ensures c.in_default.is c.before_of-before.ensures

pub returns-then-comps-tally : goal.returns-then-comps-tally
returns-then-comps-tally c = walk_over c.loop-item.invariant c.loop-item-test.true c.name_at.ensures c.in-Some.is c.args.name (bytes_as c.args.naming c.args.text.now c.args.name c.is_spelled-spelled.ensures c.bytes_of-mine.ensures) c.if-comps-tally.true

pub same_by-requires : goal.same_by-requires
same_by-requires c = (bytes_short c.args.text.now c.args.name c.is_spelled-spelled.result c.bytes_of-mine.ensures c.requires.0, bytes_short c.args.text.now c.in-Some.other c.is_spelled-spelled.result c.bytes_of-theirs.ensures c.requires.0)

pub returns-then-same_by : goal.returns-then-same_by
returns-then-same_by c = walk_same c.loop-item.invariant c.loop-item-test.true c.name_at.ensures c.in-Some.is c.if-comps-tally.false refl c.is_spelled-spelled.ensures c.bytes_of-theirs.ensures c.same_by.ensures c.args.name (bytes_as c.args.naming c.args.text.now c.args.name c.is_spelled-spelled.ensures c.bytes_of-mine.ensures) c.if-same_by.true

pub loop-item-preserved-else-same_by : goal.loop-item-preserved-else-same_by
loop-item-preserved-else-same_by c = walk_on c.loop-item.invariant c.loop-item-test.true c.name_at.ensures c.in-Some.is c.if-comps-tally.false refl c.is_spelled-spelled.ensures c.bytes_of-theirs.ensures c.same_by.ensures c.if-same_by.false c.before_of-before.ensures
