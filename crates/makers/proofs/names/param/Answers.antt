-- `param` by its rule: no name, one that stands there already, or a new one and its item. Assumes nothing.
use Rattle.std.proofs.Common.{ap, ◌∙◌, ℕ}
use Rattle.reading.specs.Entry.{nowhere}
use Rattle.records.specs.declared.kind.Kind.TheVariants as kinds
use Rattle.grammar.specs.Leaves.{row_of}
use Rattle.makers.specs.Laws.Acts.{got_read, got_err}
use Rattle.makers.specs.Laws.NamesRead.{free_taken, taken_packs, param_fails, param_clashes, param_made}
use Rattle.characters.specs.Answers.{handed}
use Rattle.makers.proofs.names.param.Goals as goal

pub returns-in_err-here-clause-acts : goal.returns-in_err-here-clause-acts
returns-in_err-here-clause-acts c = rw (handed c.from_residual.ensures) (param_fails c.requires.0 c.requires.1 c.free_name.ensures c.in_err-here.was)

pub returns-in_err-compare_name-clause-acts : goal.returns-in_err-compare_name-clause-acts
returns-in_err-compare_name-clause-acts c = rw (handed c.from_residual-in_err-compare_name.ensures) (param_clashes c.requires.0 c.requires.1 c.free_name.ensures c.in_ok-here.was c.compare_name.ensures.compared c.compare_name.ensures.same (got_err c.in_err-compare_name.was))

pub name_word-word-requires : goal.name_word-word-requires
name_word-word-requires c = taken_packs c.requires.0 (free_taken c.requires.0.stands c.free_name.ensures c.in_ok-here.was)

pub returns-clause-acts : goal.returns-clause-acts
returns-clause-acts c = param_made c.requires.0 c.requires.1 c.free_name.ensures c.in_ok-here.was c.compare_name.ensures.compared c.compare_name.ensures.same (got_read c.in_ok-compare_name.was) (c.row-made.ensures ∙ ap (λ (w : ℕ). row_of kinds.Param nowhere w c.args.last 0) c.name_word-word.ensures) c.make.ensures.makes
