-- The rules of parameters, blocks, functions and lambdas, each headed by its production. Assumes nothing.
use Rattle.std.specs.Prelude.{Bool, List, [], ◌∷◌, ℕ, zero, suc, ◌+◌, leb, Err, Ok}
use Rattle.characters.specs.declared.place.Place.{Place}
use Rattle.characters.specs.declared.place.Span.{Span}
use Rattle.characters.specs.declared.refusal.Refusal.TheVariants.{Duplicate, TooManyArguments}
use Rattle.characters.specs.Answers.{Must}
use Rattle.characters.specs.Text.{Text, ascii, on_by}
use Rattle.characters.specs.Names.{free_name, part, same}
use Rattle.characters.specs.Tokens.{token, expected}
use Rattle.reading.specs.declared.node.Node.{Node}
use Rattle.reading.specs.Entry.{nowhere}
use Rattle.reading.specs.Process.{done, stop, spent, make, compare, fresh, call, test, look, must, bind}
use Rattle.records.specs.declared.kind.Kind.TheVariants as kinds
use Rattle.records.specs.declared.row.Row.{Row}
use Rattle.records.specs.Rows.{record_of}
use Rattle.records.specs.Words.{span_word}
use Rattle.grammar.specs.Leaves.{row_of, close_of, follow_of}
use Rattle.grammar.specs.Heads.{end_of}
use Rattle.grammar.specs.Expressions.{Rule, expression, statement, turns, list_node, stated_row}

-- ---- names that are compared

-- a name from one place to another
abbrev pub name_span : Place → Place → Span
name_span h q = record { from = h.offset; to = q.offset }

-- the word that holds it in a record
abbrev pub name_word : Place → Place → ℕ
name_word h q = span_word h.offset q.offset

-- names compare by their bytes
unfoldable pub same_name : Text → Span → Span → Bool
same_name s a b = same (part s a.from a.to) (part s b.from b.to)

-- "a new name is compared with the earlier ones of its own kind and list, newest first, up to the first equal": counted when q is reached; 30 is
-- given at `at`
unfoldable pub new_name : Text → Place → Place → Span → List Span → Rule → Rule
unfolding same_name
new_name s q at new [] next = next
new_name s q at new (k ∷ ks) next = bind (compare q) (λ p n. test (same_name s new k) (stop Duplicate at) (new_name s q at new ks next))

-- the names with the one that stands here
abbrev pub with_name : Must → List Span → List Span
with_name (Ok t) names = name_span t.here t.next ∷ names
with_name (Err e) names = names

-- ---- parameters: { name ',' } [ name ] end

-- "for a parameter its name"
abbrev pub param_row : ℕ → ℕ → Row
param_row name last = row_of kinds.Param nowhere name last 0

-- a parameter and its item
unfoldable pub param_p : Text → List Span → ℕ → Place → Rule
unfolding new_name
param_p s names last h =
    must (free_name s h)
    (λ k q. new_name s q q (name_span k q) names (make q (record_of (param_row (name_word k q) last)) 0))

-- the items so far: their names, the last of them and how many there are
unfoldable pub params_p : ℕ → Text → ℕ → List Span → ℕ → ℕ → Place → Rule
unfolding param_p
params_p zero s end names last count p = spent p
params_p (suc f) s end names last count p =
    look (close_of s p end) (λ h n. done n (list_node last count n))
    (λ h. bind (param_p s names last h)
    (λ q i. look (follow_of s q end) (λ k n. done n (list_node i.number (count + 1) n))
    (λ n. params_p f s end (with_name (free_name s h) names) i.number (count + 1) n)))

-- "parameters: at most 255", tested after the closing sign
unfoldable pub parameters_p : Text → ℕ → Place → Rule
unfolding params_p
parameters_p s end p = bind (params_p (turns s) s end [] 0 0 p) (λ q l. test (leb 256 l.value) (stop TooManyArguments q) (done q l))

-- ---- block: '{' { statement } '}'

-- "block: last item"
abbrev pub block_row : Place → ℕ → Row
block_row from last = row_of kinds.Block from last 0 0

-- a statement and its item
unfoldable pub block_item_p : ℕ → Place → Rule
block_item_p last p = bind (call statement p) (λ q x. make q (record_of (stated_row x last)) 0)

-- the statements of the block that stands at `from`
unfoldable pub statements_p : ℕ → Text → Place → ℕ → Place → Rule
unfolding end_of block_item_p
statements_p zero s from last p = spent p
statements_p (suc f) s from last p =
    look (end_of s p) (λ h n. make n (record_of (block_row from last)) 0)
    (λ h. bind (block_item_p last h) (λ q i. statements_p f s from i.number q))

-- after its `{`
unfoldable pub block_p : Text → Place → Place → Rule
unfolding statements_p
block_p s from p = statements_p (turns s) s from 0 p

-- ---- function: '(' parameters block

-- "fun: id, name or `-` (unit, lambda), last parameter item, body"; 0 is no name
abbrev pub fun_row : Place → ℕ → ℕ → ℕ → ℕ → Row
fun_row from id name params body = record { kind = kinds.Fun; position = from; a = id; b = name; c = params; d = body }

-- a function whose body is read: its id, then its record. Its value is its last parameter item
unfoldable pub fun_p : Place → ℕ → Node → Node → Place → Rule
fun_p from name params body q =
    bind (fresh q) (λ p i. make p (record_of (fun_row from i.number name params.number body.number)) params.number)

-- "a function's body block" adds no level
unfoldable pub body_block_p : Text → Place → Rule
unfolding block_p
body_block_p s p = must (expected s p (ascii "{")) (λ h n. block_p s h n)

-- after its name
unfoldable pub function_p : Text → Place → ℕ → Place → Rule
unfolding parameters_p body_block_p fun_p
function_p s from name p =
    must (expected s p (ascii "("))
    (λ h n. bind (parameters_p s 41 n) (λ q l. bind (body_block_p s q) (λ r x. fun_p from name l x r)))

-- ---- lambda: '|' parameters ( block | expression )

-- an implied return has the position of "[its] holder"
abbrev pub return_row : Place → Node → Row
return_row from e = row_of kinds.Return from e.number 0 0

-- "a lambda's implied return" adds no level; its expression has one
unfoldable pub implied_return_p : Place → Place → Rule
implied_return_p from p = bind (call expression p) (λ q e. make q (record_of (return_row from e)) 0)

-- past the blanks a block, or an expression that is returned
unfoldable pub lambda_body_p : Text → Place → Place → Rule
unfolding block_p implied_return_p
lambda_body_p s from p = look (token s p (ascii "{")) (λ h n. block_p s h n) (λ h. implied_return_p from h)

-- at its first `|`, which is its position
unfoldable pub lambda_p : Text → Place → Rule
unfolding parameters_p lambda_body_p fun_p
lambda_p s p = bind (parameters_p s 124 (on_by 1 p)) (λ q l. bind (lambda_body_p s p q) (λ r x. fun_p p 0 l x r))
