-- `instance` tests the keyword, looks at what follows, and reads the name of a class. Assumes nothing.
use Rattle.grammar.proofs.Leafing.{passed, instance_stands}
use Rattle.grammar.proofs.leaves.instance.Goals as goal

pub skip-requires : goal.skip-requires
skip-requires c = instance_stands c.requires.0 c.spelled.ensures c.if-not-spelled.false c.on-after.ensures

pub class_name-requires : goal.class_name-requires
class_name-requires c = (passed (instance_stands c.requires.0 c.spelled.ensures c.if-not-spelled.false c.on-after.ensures) c.in_ok-from.ensures, c.requires.1)
