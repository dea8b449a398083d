-- THE GRAMMAR: the rule of each routine that takes a level. Assumes nothing.
use Rattle.std.specs.Prelude.{true, false}
use Rattle.characters.specs.Text.{Text}
use Rattle.reading.specs.Process.{Grammar}
use Rattle.grammar.specs.Expressions.{Routine, expression, before_assignment, operand, statement, function, lambda, class, prefix_p, expression_p}
use Rattle.grammar.specs.Functions.{function_p, lambda_p}
use Rattle.grammar.specs.Statements.{statement_p}
use Rattle.grammar.specs.Classes.{class_p}

-- "It is tested on entry to the Rust's routine, before blanks; for a named function that is after the name"
unfoldable pub grammar : Text → Grammar Routine
unfolding expression_p prefix_p statement_p function_p lambda_p class_p
grammar s expression p = expression_p s false p
grammar s before_assignment p = expression_p s true p
grammar s operand p = prefix_p s p
grammar s statement p = statement_p s p
grammar s (function from name) p = function_p s from name p
grammar s lambda p = lambda_p s p
grammar s (class from names) p = class_p s from names p
