-- `named_class` by its rule: a name that is new, its head and its methods. Assumes nothing.
use Rattle.std.proofs.Common.{arith}
use Rattle.characters.specs.Answers.{handed}
use Rattle.unit.specs.Laws.Exits.{still_refused}
use Rattle.unit.specs.Laws.Classes.{class_packs, class_unnamed, class_clashes, class_ready, class_wrong, class_body, class_read}
use Rattle.makers.specs.Laws.Acts.{got_read, got_err}
use Rattle.unit.proofs.classes.named_class.Goals as goal

pub returns-in_err-token-clause-reads : goal.returns-in_err-token-clause-reads
returns-in_err-token-clause-reads c = rw (handed c.from_residual.ensures) (class_unnamed c.args.from _ c.name_of.ensures c.in_err-token.was)

pub compare_name-requires : goal.compare_name-requires
compare_name-requires c = (let z = c.requires.0.short in omega arith, c.requires.1.chained)

pub returns-in_err-compare_name-clause-reads : goal.returns-in_err-compare_name-clause-reads
returns-in_err-compare_name-clause-reads c = rw (still_refused c.from_residual-in_err-compare_name.ensures c.in_err-compare_name.was) (class_clashes c.requires.0 c.name_of.ensures c.in_ok-token.was c.compare_name.ensures.compared c.compare_name.ensures.same (got_err c.in_err-compare_name.was))

pub class_of-requires : goal.class_of-requires
class_of-requires c = ((class_ready c.requires.0 c.name_of.ensures c.in_ok-token.was c.compare_name.ensures.compared c.compare_name.ensures.same (got_read c.in_ok-compare_name.was)).stands, c.requires.0.short)

pub returns-in_err-head-clause-reads : goal.returns-in_err-head-clause-reads
returns-in_err-head-clause-reads c = rw (handed c.from_residual-in_err-head.ensures) (class_wrong c.requires.0 c.name_of.ensures c.in_ok-token.was c.compare_name.ensures.compared c.compare_name.ensures.same (got_read c.in_ok-compare_name.was) c.class_of.ensures c.in_err-head.was)

pub name_word-word-requires : goal.name_word-word-requires
name_word-word-requires c = class_packs c.requires.0 c.name_of.ensures c.in_ok-token.was

pub methods-requires : goal.methods-requires
methods-requires c = class_body c.requires.0 c.name_of.ensures c.in_ok-token.was c.compare_name.ensures.compared c.compare_name.ensures.same (got_read c.in_ok-compare_name.was) c.class_of.ensures c.in_ok-head.was

pub returns-clause-reads : goal.returns-clause-reads
returns-clause-reads c = class_read c.requires.0 c.name_of.ensures c.in_ok-token.was c.compare_name.ensures.compared c.compare_name.ensures.same (got_read c.in_ok-compare_name.was) c.class_of.ensures c.in_ok-head.was c.name_word-word.ensures c.methods.ensures.reads
