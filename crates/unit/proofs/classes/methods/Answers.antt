-- `methods`: each turn reads one method, and what is left of the text falls. Assumes nothing.
use Rattle.std.proofs.Common.{refl, ◌∙◌}
use Rattle.characters.specs.Answers.{handed}
use Rattle.makers.specs.Laws.Acts.{room_of, got_read, got_err, ok_as}
use Rattle.makers.specs.Laws.Turns.{turn_less}
use Rattle.unit.specs.Laws.Exits.{still_refused}
use Rattle.unit.specs.Laws.Classes.{methods_first, methods_halts, methods_ends, methods_here, methods_refused, methods_further, methods_on}
use Rattle.unit.proofs.classes.methods.Goals as goal

pub loop-next-init : goal.loop-next-init
loop-next-init c = record { lent = refl; turns = methods_first c.requires }

pub close_of-requires : goal.close_of-requires
close_of-requires c = c.loop-next.invariant.turns.ready.stands

pub returns-in_err-next-clause-reads : goal.returns-in_err-next-clause-reads
returns-in_err-next-clause-reads c = rw (handed c.from_residual.ensures) (methods_halts c.loop-next.invariant.turns c.close_of.ensures c.args.from c.args.name c.args.parent c.in_err-next.was)

pub make_class-requires : goal.make_class-requires
make_class-requires c = room_of c.loop-next.invariant.turns.ready

pub returns-in-Found-clause-reads : goal.returns-in-Found-clause-reads
returns-in-Found-clause-reads c = methods_ends c.loop-next.invariant.turns c.close_of.ensures c.args.from c.args.name c.args.parent (ok_as c.in_ok-next.was c.in-Found.is) c.make_class.ensures.acts

pub method-requires : goal.method-requires
method-requires c = methods_here c.loop-next.invariant.turns c.close_of.ensures (ok_as c.in_ok-next.was c.in-Missing.is)

pub returns-in_err-here-in-Missing-clause-reads : goal.returns-in_err-here-in-Missing-clause-reads
returns-in_err-here-in-Missing-clause-reads c = rw (still_refused c.from_residual-in_err-here-in-Missing.ensures c.in_err-here-in-Missing.was) (methods_refused c.loop-next.invariant.turns c.close_of.ensures (ok_as c.in_ok-next.was c.in-Missing.is) c.method.ensures.reads c.args.from c.args.name c.args.parent (got_err c.in_err-here-in-Missing.was))

pub loop-next-smaller : goal.loop-next-smaller
loop-next-smaller c = turn_less (methods_further c.loop-next.invariant.turns c.close_of.ensures (ok_as c.in_ok-next.was c.in-Missing.is) c.method.ensures.reads (got_read c.in_ok-here-in-Missing.was))

pub loop-next-preserved : goal.loop-next-preserved
loop-next-preserved c = record {
  lent = c.method.ensures.lent ∙ c.loop-next.invariant.lent;
  turns = methods_on c.loop-next.invariant.turns c.close_of.ensures (ok_as c.in_ok-next.was c.in-Missing.is) c.method.ensures.reads (got_read c.in_ok-here-in-Missing.was);
}
