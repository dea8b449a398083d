-- `method` by its rule: a name that is new, its function and its item. Assumes nothing.
use Rattle.std.proofs.Common.{arith}
use Rattle.characters.specs.Answers.{handed}
use Rattle.unit.specs.Laws.Exits.{still_refused}
use Rattle.unit.specs.Laws.Classes.{name_spans, name_packs, method_unnamed, method_again, method_begun, method_refused, method_stored, method_lent, method_init, method_item}
use Rattle.makers.specs.Laws.Acts.{got_read, got_err}
use Rattle.unit.proofs.classes.method.Goals as goal

pub returns-in_err-token-clause-reads : goal.returns-in_err-token-clause-reads
returns-in_err-token-clause-reads c = rw (handed c.from_residual.ensures) (method_unnamed c.requires.0 c.requires.1 c.name.ensures c.in_err-token.was)

pub compare_name-requires : goal.compare_name-requires
compare_name-requires c = (let z = c.requires.0.short in omega arith, c.requires.1.chained)

pub returns-in_err-compare_name-clause-reads : goal.returns-in_err-compare_name-clause-reads
returns-in_err-compare_name-clause-reads c = rw (still_refused c.from_residual-in_err-compare_name.ensures c.in_err-compare_name.was) (method_again c.requires.0 c.requires.1 c.name.ensures c.in_ok-token.was c.compare_name.ensures.compared c.compare_name.ensures.same (got_err c.in_err-compare_name.was))

pub name_word-word-requires : goal.name_word-word-requires
name_word-word-requires c = name_packs c.requires.0 c.name.ensures c.in_ok-token.was

pub func-requires : goal.func-requires
func-requires c = method_begun c.requires.0 c.requires.1 c.name.ensures c.in_ok-token.was c.compare_name.ensures.compared c.compare_name.ensures.same (got_read c.in_ok-compare_name.was)

pub returns-in_err-q-clause-reads : goal.returns-in_err-q-clause-reads
returns-in_err-q-clause-reads c = rw (still_refused c.from_residual-in_err-q.ensures c.in_err-q.was) (method_refused c.requires.0 c.requires.1 c.name.ensures c.in_ok-token.was c.compare_name.ensures.compared c.compare_name.ensures.same (got_read c.in_ok-compare_name.was) c.name_word-word.ensures c.func.ensures.reads (got_err c.in_err-q.was))

pub is_bare-requires : goal.is_bare-requires
is_bare-requires c = ((name_spans c.requires.0 c.name.ensures c.in_ok-token.was).0, (name_spans c.requires.0 c.name.ensures c.in_ok-token.was).1, method_stored c.requires.0 c.requires.1 c.name.ensures c.in_ok-token.was c.compare_name.ensures.compared c.compare_name.ensures.same (got_read c.in_ok-compare_name.was) c.name_word-word.ensures c.func.ensures.reads (got_read c.in_ok-q.was))

pub returns-then-is_bare-clause-reads : goal.returns-then-is_bare-clause-reads
returns-then-is_bare-clause-reads c = method_init c.requires.0 c.requires.1 c.name.ensures c.in_ok-token.was c.compare_name.ensures.compared c.compare_name.ensures.same (got_read c.in_ok-compare_name.was) c.name_word-word.ensures c.func.ensures.reads (got_read c.in_ok-q.was) c.is_bare.ensures c.if-is_bare.true

pub make-requires : goal.make-requires
make-requires c = method_lent c.requires.0 c.requires.1 c.name.ensures c.in_ok-token.was c.compare_name.ensures.compared c.compare_name.ensures.same (got_read c.in_ok-compare_name.was) c.name_word-word.ensures c.func.ensures.reads (got_read c.in_ok-q.was)

pub returns-clause-reads : goal.returns-clause-reads
returns-clause-reads c = method_item c.requires.0 c.requires.1 c.name.ensures c.in_ok-token.was c.compare_name.ensures.compared c.compare_name.ensures.same (got_read c.in_ok-compare_name.was) c.name_word-word.ensures c.func.ensures.reads (got_read c.in_ok-q.was) c.is_bare.ensures c.if-is_bare.false c.item_row-item.ensures c.make.ensures.makes
