-- `name_at` looks where the names of a list stand. Assumes nothing.
use Rattle.std.proofs.Common.{ap, ◌∙◌, [], ◌∷◌, ℕ}
use Rattle.records.specs.Words.{span_of}
use Rattle.records.specs.Nodes.{held_at}
use Rattle.makers.specs.declared.names.Naming.TheVariants.{Keys, Parameters, Methods, Functions, Classes}
use Rattle.makers.specs.Names.{function_of, class_of}
use Rattle.makers.specs.Laws.NamesWalk.{at_as}
use Rattle.makers.proofs.names.name_at.Goals as goal

pub returns-in-Keys : goal.returns-in-Keys
returns-in-Keys c = at_as _ _ Keys c.in-Keys.is (c.named.ensures ∙ ap (λ (w : ℕ). span_of w ∷ []) c.held_of-word.ensures)

pub returns-in-Parameters : goal.returns-in-Parameters
returns-in-Parameters c = at_as _ _ Parameters c.in-Parameters.is (c.named-in-Parameters.ensures ∙ ap (λ (w : ℕ). span_of w ∷ []) c.held_of-word-in-Parameters.ensures)

pub returns-in-Methods : goal.returns-in-Methods
returns-in-Methods c = at_as _ _ Methods c.in-Methods.is (c.named-in-Methods.ensures ∙ ap (λ (w : ℕ). span_of w ∷ []) (c.held_of-word-in-Methods.ensures ∙ ap (λ (a : ℕ). held_at c.args.pool.now a 1) c.held_of-function.ensures))

pub returns-in-Functions : goal.returns-in-Functions
returns-in-Functions c = at_as _ _ Functions c.in-Functions.is (c.function_of.ensures ∙ ap (function_of c.args.pool.now) c.held_of-statement.ensures)

pub returns-in-Classes : goal.returns-in-Classes
returns-in-Classes c = at_as _ _ Classes c.in-Classes.is (c.class_of.ensures ∙ ap (class_of c.args.pool.now) c.held_of-statement-in-Classes.ensures)
