-- `new_name`: each turn passes an item, or counts and compares its name. The item falls, for each refers to an earlier one. Assumes nothing.
use Rattle.makers.specs.Laws.NamesWalk.{Walks}
use Rattle.makers.proofs.names.new_name.Given as goal

abbrev pub invariant-loop-item : goal.invariant-loop-item
invariant-loop-item l = Walks l.naming l.text l.pool l.comps l.at l.from l.mine l.last l.initial.tally l.item l.tally

abbrev pub decreases-loop-item : goal.decreases-loop-item
decreases-loop-item l = l.item
