-- `statement_end` by its rule: a global, a function whose name is new, or another statement. Assumes nothing.
use Rattle.std.proofs.Common.{◌∙◌, ap, length}
use Rattle.makers.specs.Laws.Acts.{room_of, got_read, got_err}
use Rattle.unit.specs.Laws.Exits.{still_refused}
use Rattle.unit.specs.Laws.Items.{end_constant, end_clashes, function_ready, end_function, end_other}
use Rattle.unit.proofs.items.statement_end.Goals as goal

pub returns-in-Constant-clause-makes : goal.returns-in-Constant-clause-makes
returns-in-Constant-clause-makes c = end_constant c.args.globals.now c.requires.0 c.requires.1 c.requires.3 c.role_at.ensures c.in-Constant.is c.item_row-item.ensures c.make.ensures.makes

pub returns-in_err-compare_name-in-Function-clause-makes : goal.returns-in_err-compare_name-in-Function-clause-makes
returns-in_err-compare_name-in-Function-clause-makes c = rw (still_refused c.from_residual.ensures c.in_err-compare_name-in-Function.was) (end_clashes c.args.globals.now c.requires.0 c.requires.1 c.requires.3 c.role_at.ensures c.in-Function.is c.position_of-from.ensures c.compare_name.ensures.compared c.compare_name.ensures.same (got_err c.in_err-compare_name-in-Function.was))

pub stated-requires : goal.stated-requires
stated-requires c = room_of (function_ready c.args.globals.now c.requires.0 c.requires.1 c.requires.3 c.role_at.ensures c.in-Function.is c.position_of-from.ensures c.compare_name.ensures.compared c.compare_name.ensures.same (got_read c.in_ok-compare_name-in-Function.was))

pub returns-in_ok-compare_name-in-Function-clause-makes : goal.returns-in_ok-compare_name-in-Function-clause-makes
returns-in_ok-compare_name-in-Function-clause-makes c = end_function c.args.globals.now c.requires.0 c.requires.1 c.requires.3 c.role_at.ensures c.in-Function.is c.position_of-from.ensures c.compare_name.ensures.compared c.compare_name.ensures.same (got_read c.in_ok-compare_name-in-Function.was) c.stated.ensures.acts

pub returns-in-Other-clause-makes : goal.returns-in-Other-clause-makes
returns-in-Other-clause-makes c = end_other c.args.globals.now c.requires.0 c.requires.1 c.requires.3 c.role_at.ensures c.in-Other.is c.stated-in-Other.ensures.acts

pub returns-in_err-compare_name-in-Function-clause-sized : goal.returns-in_err-compare_name-in-Function-clause-sized
returns-in_err-compare_name-in-Function-clause-sized c = ap length c.compare_name.ensures.same

pub returns-in_ok-compare_name-in-Function-clause-sized : goal.returns-in_ok-compare_name-in-Function-clause-sized
returns-in_ok-compare_name-in-Function-clause-sized c = c.stated.ensures.sized ∙ ap length c.compare_name.ensures.same
