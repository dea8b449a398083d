-- The rules of statements, each headed by its production. Assumes nothing.
use Rattle.std.specs.Prelude.{Bool, ◌||◌, [], ◌∷◌, ℕ, eqb, Err, None, Ok, Option, Result, Some}
use Rattle.characters.specs.declared.place.Place.{Place}
use Rattle.characters.specs.declared.refusal.Refusal.TheVariants.{InvalidTarget, NotACall, DeclarationAsBody}
use Rattle.characters.specs.declared.refusal.Refused.{Refused}
use Rattle.characters.specs.Text.{Text, ascii}
use Rattle.characters.specs.Tokens.{token, keyword, expected}
use Rattle.reading.specs.declared.node.Node.{Node}
use Rattle.reading.specs.Process.{plain, done, stop, make, call, test, look, must, bind}
use Rattle.records.specs.declared.kind.Kind.{Kind}
use Rattle.records.specs.declared.kind.Kind.TheVariants as kinds
use Rattle.records.specs.declared.row.Row.{Row}
use Rattle.records.specs.Rows.{record_of}
use Rattle.records.specs.Words.{whole_of}
use Rattle.records.specs.Nodes.{role_by}
use Rattle.grammar.specs.declared.heads.StatementHead.TheVariants as head
use Rattle.grammar.specs.declared.heads.StepHead.TheVariants as steps
use Rattle.grammar.specs.declared.heads.Assignment.{Assignment}
use Rattle.grammar.specs.declared.heads.LetHead.{LetHead}
use Rattle.grammar.specs.declared.heads.StatementHead.{StatementHead}
use Rattle.grammar.specs.declared.heads.StepHead.{StepHead}
use Rattle.grammar.specs.Leaves.{row_of, leaf_row}
use Rattle.grammar.specs.Heads.{name_of, head_of, step_of, assign_of, let_of}
use Rattle.grammar.specs.Expressions.{Rule, expression, before_assignment, statement, function, is, true_row, paren_p, postfix_p, waits, binary_row}
use Rattle.grammar.specs.Functions.{name_word, block_p, return_row}

-- a part that is left out: "an absent statement has no record"
abbrev pub absent : Place → Node
absent p = plain 0 p

-- ---- return: 'return' [ expression ] ';'

-- `return;` returns an implied `nil`
abbrev pub nil_row : Place → Row
nil_row from = row_of kinds.Nil from 0 0 0

-- after `return`
unfoldable pub return_p : Text → Place → Place → Rule
return_p s from p =
    look (token s p (ascii ";"))
    (λ h n. bind (make n (record_of (nil_row from)) 0) (λ q e. make q (record_of (return_row from e)) 0))
    (λ h. bind (call expression h) (λ q e. must (expected s q (ascii ";")) (λ k n. make n (record_of (return_row from e)) 0)))

-- ---- break: 'break' ';'    continue: 'continue' ';'

-- after `break` or `continue`, which are one record of that kind
unfoldable pub jump_p : Text → Kind → Place → Place → Rule
jump_p s kind from p = must (expected s p (ascii ";")) (λ h n. make n (record_of (row_of kind from 0 0 0)) 0)

-- ---- condition: '(' expression ')'

-- `(`, and what a parenthesis holds
unfoldable pub condition_p : Text → Place → Rule
unfolding paren_p
condition_p s p = must (expected s p (ascii "(")) (λ h n. paren_p s n)

-- ---- control-body: statement

-- "28 the body statement's" position
unfoldable pub control_body_p : Text → Place → Rule
control_body_p s p = bind (call statement p) (λ q x. test (is kinds.Let x) (stop DeclarationAsBody x.position) (done q x))

-- ---- if: 'if' condition control-body [ 'else' control-body ]

-- test, then, else or 0
abbrev pub if_row : Place → Node → Node → ℕ → Row
if_row from e x other = row_of kinds.If from e.number x.number other

-- the holder comes "after blanks skipped in search of `else`"
unfoldable pub else_p : Text → Place → Node → Node → Place → Rule
unfolding control_body_p
else_p s from e x p =
    look (keyword s p (ascii "else")) (λ h n. bind (control_body_p s n) (λ q y. make q (record_of (if_row from e x y.number)) 0))
    (λ h. make h (record_of (if_row from e x 0)) 0)

-- after `if`
unfoldable pub if_p : Text → Place → Place → Rule
unfolding condition_p control_body_p else_p
if_p s from p = bind (condition_p s p) (λ q e. bind (control_body_p s q) (λ r x. else_p s from e x r))

-- ---- loop: 'loop' control-body    while: 'while' condition control-body

-- first part or 0, test, third part or 0, body
abbrev pub for_row : Place → Node → Node → Node → Node → Row
for_row from first e third x =
    record { kind = kinds.For; position = from; a = first.number; b = e.number; c = third.number; d = x.number }

-- a loop whose body is read. "Implied literals come just before their holder": where the test is left out, `true` is made first
unfoldable pub for_end_p : Place → Node → Node → Node → Node → Place → Rule
for_end_p from first e third x p =
    test (eqb e.number 0) (bind (make p (record_of (true_row from)) 0) (λ q t. make q (record_of (for_row from first t third x)) 0))
    (make p (record_of (for_row from first e third x)) 0)

-- after `loop`: all parts but the body are left out
unfoldable pub loop_p : Text → Place → Place → Rule
unfolding control_body_p for_end_p
loop_p s from p = bind (control_body_p s p) (λ q x. for_end_p from (absent q) (absent q) (absent q) x q)

-- after `while`
unfoldable pub while_p : Text → Place → Place → Rule
unfolding condition_p control_body_p for_end_p
while_p s from p = bind (condition_p s p) (λ q e. bind (control_body_p s q) (λ r x. for_end_p from (absent r) e (absent r) x r))

-- ---- expr-or-assign: ( '++' | '--' ) postfix end | expression [ assignment-sign expression ] end

-- "Targets are names, members, indexes."
abbrev pub is_target : Node → Bool
is_target e = is kinds.Name e || is kinds.Member e || is kinds.Index e

-- "26 the target's position"
unfoldable pub target_p : Node → Rule → Rule
target_p e next = test (is_target e) next (stop InvalidTarget e.position)

-- left, right
abbrev pub assign_row : Place → Node → Node → Row
assign_row from e v = row_of kinds.Assign from e.number v.number 0

-- "the target is recorded once and referred to twice"
unfoldable pub combine_p : Place → ℕ → Node → Node → Place → Rule
combine_p from op e v p = bind (make p (record_of (binary_row (waits op e) v)) 0) (λ q b. make q (record_of (assign_row from e b)) 0)

-- "`a op= b` is `a = a op b`"; the operator 0 is none
unfoldable pub store_p : Place → ℕ → Node → Node → Place → Rule
unfolding combine_p
store_p from op e v p = test (eqb op 0) (make p (record_of (assign_row from e v)) 0) (combine_p from op e v p)

-- "`++a` is `a = a + 1`", and "the binary of `op=` or `++` follows the end token"
unfoldable pub increment_p : Text → ℕ → Place → ℕ → Node → Place → Rule
unfolding target_p combine_p
increment_p s end from op e p =
    target_p e (must (expected s p (end ∷ []))
    (λ h n. bind (make n (record_of (leaf_row kinds.Int e.position 1)) 1) (λ q one. combine_p from op e one q)))

-- "27 the expression's" position
unfoldable pub do_p : Place → Node → Place → Rule
do_p from e p = test (is kinds.Call e) (make p (record_of (row_of kinds.Do from e.number 0 0)) 0) (stop NotACall e.position)

-- what follows the expression of a statement
abbrev pub assign_as : Text → ℕ → Place → Node → Place → Option Assignment → Rule
assign_as s end from e p (Some x) = target_p e (bind (call expression x.next) (λ q v. must (expected s q (end ∷ [])) (λ h m. store_p from x.op e v m)))
assign_as s end from e p None = must (expected s p (end ∷ [])) (λ h n. do_p from e n)

-- by what it begins with
abbrev pub expr_or_assign_as : Text → ℕ → Place → Result StepHead Refused → Rule
expr_or_assign_as s end from (Ok (steps.Step op n)) = bind (postfix_p s n) (λ q e. increment_p s end from op e q)
expr_or_assign_as s end from (Ok steps.Other) = bind (call before_assignment from) (λ q e. assign_as s end from e q (assign_of s q))
expr_or_assign_as s end from (Err e) = stop e.refusal e.at

-- at a place that is past the blanks, which is its position
unfoldable pub expr_or_assign_p : Text → ℕ → Place → Rule
unfolding step_of assign_of postfix_p increment_p target_p store_p do_p
expr_or_assign_p s end p = expr_or_assign_as s end p (step_of s p)

-- ---- for: 'for' '(' ( ';' | statement ) ( ';' | expression ';' ) ( ')' | expr-or-assign ) control-body

-- a `;`, or a statement with its own end
unfoldable pub first_part_p : Text → Place → Rule
first_part_p s p = look (token s p (ascii ";")) (λ h n. done n (absent n)) (λ h. call statement h)

-- a `;`, which implies `true`, or an expression and `;`
unfoldable pub test_part_p : Text → Place → Rule
test_part_p s p =
    look (token s p (ascii ";")) (λ h n. done n (absent n))
    (λ h. bind (call expression h) (λ q e. must (expected s q (ascii ";")) (λ k n. done n e)))

-- "the third part of `for`" adds no level
unfoldable pub third_part_p : Text → Place → Rule
unfolding expr_or_assign_p
third_part_p s p = look (token s p (ascii ")")) (λ h n. done n (absent n)) (λ h. expr_or_assign_p s 41 h)

-- after its `( ; ;`: the third part and the body
unfoldable pub for_rest_p : Text → Place → Node → Node → Place → Rule
unfolding third_part_p control_body_p for_end_p
for_rest_p s from first e p = bind (third_part_p s p) (λ q third. bind (control_body_p s q) (λ r x. for_end_p from first e third x r))

-- after `for`
unfoldable pub for_p : Text → Place → Place → Rule
unfolding first_part_p test_part_p for_rest_p
for_p s from p =
    must (expected s p (ascii "("))
    (λ h n. bind (first_part_p s n) (λ q first. bind (test_part_p s q) (λ r e. for_rest_p s from first e r)))

-- ---- assert: 'assert' condition ';'

-- after `assert`
unfoldable pub assert_p : Text → Place → Place → Rule
unfolding condition_p
assert_p s from p =
    bind (condition_p s p)
    (λ q e. must (expected s q (ascii ";")) (λ h n. make n (record_of (row_of kinds.Assert from e.number 0 0)) 0))

-- ---- let: 'let' [ 'var' ] name '=' expression ';'

-- 1 with `var`, else 0; the name; the value
abbrev pub let_row : Place → ℕ → ℕ → Node → Row
let_row from mark name e = row_of kinds.Let from mark name e.number

-- what a `let` declares, as a number: a function by its value, else a constant or a variable by `var`. "A unit-level `let` whose value is a
-- function is a unit function name too."
abbrev pub role_of : ℕ → Node → ℕ
role_of mark e = role_by (is kinds.Closure e) mark

-- the value of its node: its name, and above it what it declares
unfoldable pub declare_p : Place → ℕ → ℕ → Node → Place → Rule
declare_p from mark name e p = make p (record_of (let_row from mark name e)) (whole_of name (role_of mark e))

-- by what stands up to its `=`
abbrev pub let_as : Text → Place → Result LetHead Refused → Rule
let_as s from (Ok t) = bind (call expression t.next) (λ q e. must (expected s q (ascii ";")) (λ h m. declare_p from t.mark t.span e m))
let_as s from (Err e) = stop e.refusal e.at

-- after `let`
unfoldable pub let_p : Text → Place → Place → Rule
unfolding let_of declare_p
let_p s from p = let_as s from (let_of s p)

-- ---- fun: 'fun' name function

-- the function, the closure of it and the `let` of that, all at the statement's position
unfoldable pub fun_statement_p : Text → Place → Place → Rule
unfolding name_of declare_p
fun_statement_p s from p =
    must (name_of s p)
    (λ h q. bind (call (function from (name_word h q)) q)
    (λ r f. bind (make r (record_of (row_of kinds.Closure from f.number 0 0)) 0) (λ t c. declare_p from 0 (name_word h q) c t)))

-- ---- statement: return | break | continue | if | loop | while | for | assert | let | fun | block | expr-or-assign

-- by what it begins with
abbrev pub statement_as : Text → Result StatementHead Refused → Rule
statement_as s (Ok (head.Return h n)) = return_p s h n
statement_as s (Ok (head.Break h n)) = jump_p s kinds.Break h n
statement_as s (Ok (head.Continue h n)) = jump_p s kinds.Continue h n
statement_as s (Ok (head.If h n)) = if_p s h n
statement_as s (Ok (head.Loop h n)) = loop_p s h n
statement_as s (Ok (head.While h n)) = while_p s h n
statement_as s (Ok (head.For h n)) = for_p s h n
statement_as s (Ok (head.Assert h n)) = assert_p s h n
statement_as s (Ok (head.Let h n)) = let_p s h n
statement_as s (Ok (head.Fun h n)) = fun_statement_p s h n
statement_as s (Ok (head.Block h n)) = block_p s h n
statement_as s (Ok (head.ExprOrAssign h)) = expr_or_assign_p s 59 h
statement_as s (Err e) = stop e.refusal e.at

-- its position is past the blanks
unfoldable pub statement_p : Text → Place → Rule
unfolding head_of return_p jump_p if_p loop_p while_p for_p assert_p let_p fun_statement_p block_p expr_or_assign_p
statement_p s p = statement_as s (head_of s p)
