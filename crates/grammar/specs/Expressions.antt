-- The rules of expressions, each headed by its production. A rule is data: it says `call` where it goes one level deeper. Assumes nothing.
use Rattle.std.specs.Prelude.{Bool, ◌||◌, List, [], ◌∷◌, ℕ, zero, suc, ◌+◌, ◌-◌, ◌%◌, leb, eqb, length, Err, Ok, Result}
use Rattle.characters.specs.declared.place.Place.{Place}
use Rattle.characters.specs.declared.place.Span.{Span}
use Rattle.characters.specs.declared.refusal.Refusal.TheVariants.{UnaryPlus, AssignmentAsExpression, Duplicate, TooManyArguments}
use Rattle.characters.specs.declared.refusal.Refused.{Refused}
use Rattle.characters.specs.Answers.{Must}
use Rattle.characters.specs.Text.{Text, ascii}
use Rattle.characters.specs.Tokens.{token, expected}
use Rattle.literals.specs.Strings.{same_key}
use Rattle.reading.specs.declared.node.Node.{Node}
use Rattle.reading.specs.Entry.{nowhere}
use Rattle.reading.specs.Process.{Process, done, stop, spent, make, compare, call, test, look, must, bind}
use Rattle.records.specs.declared.kind.Kind.{Kind}
use Rattle.records.specs.declared.kind.Kind.TheVariants as kinds
use Rattle.records.specs.declared.row.Row.{Row}
use Rattle.records.specs.Kinds.{number_of}
use Rattle.records.specs.Rows.{record_of}
use Rattle.records.specs.Words.{span_word}
use Rattle.grammar.specs.declared.leaves.Prefix.TheVariants.{Sign, Other}
use Rattle.grammar.specs.declared.leaves.Atom.TheVariants.{Leaf, Paren, Bracket, Brace, Bar}
use Rattle.grammar.specs.declared.leaves.Postfix.TheVariants as post
use Rattle.grammar.specs.declared.leaves.Suffix.{Suffix}
use Rattle.grammar.specs.declared.leaves.Suffix.TheVariants as suffix
use Rattle.grammar.specs.declared.leaves.Link.{Link}
use Rattle.grammar.specs.declared.leaves.Link.TheVariants.{Choice, Operator, Assign, End}
use Rattle.grammar.specs.declared.leaves.Atom.{Atom}
use Rattle.grammar.specs.declared.leaves.Postfix.{Postfix}
use Rattle.grammar.specs.declared.leaves.Prefix.{Prefix}
use Rattle.grammar.specs.Operators.{strength_of, loosest}
use Rattle.grammar.specs.Leaves.{row_of, leaf_row, prefix_of, atom_of, postfix_of, link_of, close_of, follow_of, key_at}

-- "one higher during each expression, operand of a prefix `!`, `-` or `+`, statement, function or lambda, and class": the routines that
-- take a level
pub data Routine : Type 0 where
  expression : Routine
  before_assignment : Routine  -- an expression that an assignment sign may follow
  operand : Routine
  statement : Routine
  function : Place → ℕ → Routine  -- a named function, from after its name on: its position, and its name as a span
  lambda : Routine  -- from its `|` on
  class : Place → List Span → Routine  -- from after `class` on: its position, and the names of the classes before it, newest first

abbrev pub Rule : Type 0
Rule = Process Routine

-- the turns of a loop: one more than the text has bytes, for each turn reads one
abbrev pub turns : Text → ℕ
turns s = suc (length s)

abbrev pub is : Kind → Node → Bool
is k n = eqb n.kind (number_of k)

-- ---- list: { expression ',' } [ expression ] end

-- the last item, and how many there are
abbrev pub list_node : ℕ → ℕ → Place → Node
list_node last count p = record { number = last; kind = 0; position = p; value = count }

-- "items none": an item has no position. It holds a record and the item before it
abbrev pub held_row : Kind → Node → ℕ → Row
held_row kind n last = row_of kind nowhere n.number last 0

-- the item of an expression, of a statement, of a method's function
abbrev pub item_row : Node → ℕ → Row
item_row n last = held_row kinds.Item n last

abbrev pub stated_row : Node → ℕ → Row
stated_row n last = held_row kinds.Stated n last

abbrev pub method_row : Node → ℕ → Row
method_row n last = held_row kinds.Method n last

-- an element and its item: "An item follows its element"
unfoldable pub element_p : ℕ → Place → Rule
element_p last p = bind (call expression p) (λ q e. make q (record_of (item_row e last)) 0)

unfoldable pub list_p : ℕ → Text → ℕ → ℕ → ℕ → Place → Rule
unfolding element_p
list_p zero s end last count p = spent p
list_p (suc f) s end last count p =
    look (close_of s p end) (λ h n. done n (list_node last count n))
    (λ h. bind (element_p last h)
    (λ q i. look (follow_of s q end) (λ k n. done n (list_node i.number (count + 1) n)) (λ n. list_p f s end i.number (count + 1) n)))

-- ---- dictionary: { key [ ':' expression ] ',' } [ key [ ':' expression ] ] '}'

-- a key from one place to another
abbrev pub key_span : Place → Place → Span
key_span h q = record { from = h.offset; to = q.offset }

abbrev pub pair_row : ℕ → ℕ → Span → Row
pair_row value last key = row_of kinds.Pair nowhere value last (span_word key.from key.to)

-- "a new name is compared with the earlier ones of its own kind and list, newest first, up to the first equal"
unfoldable pub new_key : Text → Place → Span → List Span → Rule → Rule
new_key s q key [] next = next
new_key s q key (k ∷ ks) next = bind (compare q) (λ p n. test (same_key s key k) (stop Duplicate q) (new_key s q key ks next))

-- "implied literals .. their holder's [position], in a dictionary the dictionary's", and "before their item"
abbrev pub true_row : Place → Row
true_row p = row_of kinds.True p 0 0 0

-- the value of a key that ends at q; the dictionary stands at `from`
unfoldable pub value_p : Text → Place → Place → Rule
value_p s from q = look (token s q (ascii ":")) (λ h n. call expression n) (λ h. make h (record_of (true_row from)) 0)

-- a key, its value and its item
unfoldable pub pair_p : Text → Place → List Span → ℕ → Place → Rule
unfolding new_key value_p
pair_p s from keys last h =
    must (key_at s h)
    (λ k q. new_key s q (key_span k q) keys
    (bind (value_p s from q) (λ r v. make r (record_of (pair_row v.number last (key_span k q))) 0)))

-- the keys with the one that stands here
abbrev pub with_key : Must → List Span → List Span
with_key (Ok t) keys = key_span t.here t.next ∷ keys
with_key (Err e) keys = keys

abbrev pub dict_row : Place → ℕ → Row
dict_row from last = row_of kinds.Dict from last 0 0

unfoldable pub dict_p : ℕ → Text → Place → List Span → ℕ → Place → Rule
unfolding pair_p
dict_p zero s from keys last p = spent p
dict_p (suc f) s from keys last p =
    look (close_of s p 125) (λ h n. make n (record_of (dict_row from last)) 0)
    (λ h. bind (pair_p s from keys last h)
    (λ q i. look (follow_of s q 125) (λ k n. make n (record_of (dict_row from i.number)) 0)
    (λ n. dict_p f s from (with_key (key_at s h) keys) i.number n)))

-- ---- atom: literal | name | '$' name | '(' expression ')' | '[' list | '{' dictionary | lambda

-- "Parentheses leave no trace"
unfoldable pub paren_p : Text → Place → Rule
paren_p s p = bind (call expression p) (λ q e. must (expected s q (ascii ")")) (λ h n. done n e))

unfoldable pub array_p : Text → Place → Place → Rule
unfolding list_p
array_p s from p = bind (list_p (turns s) s 93 0 0 p) (λ q l. make q (record_of (row_of kinds.Array from l.number 0 0)) 0)

-- the atom at h
-- a lambda's function, and the closure of it at the same position
unfoldable pub closure_p : Place → Rule
closure_p h = bind (call lambda h) (λ q f. make q (record_of (row_of kinds.Closure h f.number 0 0)) 0)

abbrev pub atom_as : Text → Place → Result Atom Refused → Rule
atom_as s h (Ok (Leaf k v next)) = make next (record_of (leaf_row k h v)) v
atom_as s h (Ok (Paren next)) = paren_p s next
atom_as s h (Ok (Bracket next)) = array_p s h next
atom_as s h (Ok (Brace next)) = dict_p (turns s) s h [] 0 next
atom_as s h (Ok Bar) = closure_p h
atom_as s h (Err e) = stop e.refusal e.at

unfoldable pub atom_p : Text → Place → Rule
unfolding atom_of paren_p array_p dict_p closure_p
atom_p s p = atom_as s p (atom_of s p)

-- ---- postfix: atom { '(' list | '[' expression ']' | '.' name | 'instanceof' name }

-- "Arguments: at most 254", tested after the closing sign
unfoldable pub call_p : Text → Node → Place → Place → Rule
unfolding list_p
call_p s base h p =
    bind (list_p (turns s) s 41 0 0 p)
    (λ q l. test (leb 255 l.value) (stop TooManyArguments q) (make q (record_of (row_of kinds.Call h base.number l.number 0)) 0))

unfoldable pub index_p : Text → Node → Place → Place → Rule
index_p s base h p =
    bind (call expression p)
    (λ q i. must (expected s q (ascii "]")) (λ k n. make n (record_of (row_of kinds.Index h base.number i.number 0)) 0))

-- a base with one suffix more
abbrev pub extend_p : Text → Node → Suffix → Rule
extend_p s base (suffix.Call h n) = call_p s base h n
extend_p s base (suffix.Index h n) = index_p s base h n
extend_p s base (suffix.Member h span n) = make n (record_of (row_of kinds.Member h base.number span 0)) 0
extend_p s base (suffix.InstanceOf h span n) = make n (record_of (row_of kinds.InstanceOf h base.number span 0)) 0

abbrev pub postfix_as : Text → Node → Result Postfix Refused → (Node → Place → Rule) → Rule
postfix_as s base (Ok (post.More x)) again = bind (extend_p s base x) (λ q m. again m q)
postfix_as s base (Ok (post.Rest h)) again = done h base
postfix_as s base (Err e) again = stop e.refusal e.at

unfoldable pub postfixes_p : ℕ → Text → Node → Place → Rule
unfolding postfix_of call_p index_p
postfixes_p zero s base p = spent p
postfixes_p (suc f) s base p = postfix_as s base (postfix_of s p) (postfixes_p f s)

-- at a place that is past the blanks
unfoldable pub postfix_p : Text → Place → Rule
unfolding atom_p postfixes_p
postfix_p s p = bind (atom_p s p) (λ q base. postfixes_p (turns s) s base q)

-- ---- prefix: ( '!' | '-' | '+' ) prefix | postfix

-- the value of a negated int, in two's complement
abbrev pub minus_int : ℕ → ℕ
minus_int v = (18446744073709551616 - v) % 18446744073709551616

-- a float with its minus mark turned
abbrev pub minus_float : ℕ → ℕ
minus_float v = (v % 8589934592 + 4294967296) % 8589934592

-- the operators of `Unary`
abbrev pub minus : ℕ
minus = 1

abbrev pub bang : ℕ
bang = 2

-- "Minus on a number literal gives the negated literal", "a second record", at the operand's position
unfoldable pub minus_p : Node → Place → Rule
minus_p e q =
    test (is kinds.Int e) (make q (record_of (leaf_row kinds.Int e.position (minus_int e.value))) (minus_int e.value))
    (test (is kinds.Float e) (make q (record_of (leaf_row kinds.Float e.position (minus_float e.value))) (minus_float e.value))
    (make q (record_of (row_of kinds.Unary e.position minus e.number 0)) 0))

-- plus on a number literal is that literal; on anything else it is 24
unfoldable pub plus_p : Node → Place → Rule
plus_p e q = test (is kinds.Int e || is kinds.Float e) (done q e) (stop UnaryPlus q)

unfoldable pub sign_p : ℕ → Place → Node → Place → Rule
unfolding minus_p plus_p
sign_p sign h e q =
    test (eqb sign 33) (make q (record_of (row_of kinds.Unary h bang e.number 0)) 0)
    (test (eqb sign 45) (minus_p e q) (plus_p e q))

abbrev pub prefix_as : Text → Result Prefix Refused → Rule
prefix_as s (Ok (Sign sign h n)) = bind (call operand n) (λ q e. sign_p sign h e q)
prefix_as s (Ok (Other h)) = postfix_p s h
prefix_as s (Err e) = stop e.refusal e.at

unfoldable pub prefix_p : Text → Place → Rule
unfolding prefix_of postfix_p sign_p
prefix_p s p = prefix_as s (prefix_of s p)

-- ---- expression: prefix { operator prefix } [ '?' expression ':' expression ]

-- an operator that waits for its right side: its number, and its left side's record and position
pub record Waiting : Type 0 where
  pub op : ℕ
  pub left : ℕ
  pub position : Place

-- the operators that wait, newest first
abbrev pub Pending : Type 0
Pending = List Waiting

-- one that waits, with its left side
abbrev pub waits : ℕ → Node → Waiting
waits op left = record { op = op; left = left.number; position = left.position }

-- "binary and choice take their leftmost operand's [position]"
abbrev pub binary_row : Waiting → Node → Row
binary_row x right = row_of kinds.Binary x.position x.op x.left right.number

-- "A binary is made when an operator that doesn't bind tighter, or `?`, has been taken, or when the chain ends": the pending operators
-- that bind at least as tightly as `new`, newest first, and then on
unfoldable pub reduce_p : ℕ → Place → Pending → Node → (Pending → Node → Rule) → Rule
reduce_p new p [] right next = next [] right
reduce_p new p (x ∷ xs) right next =
    test (leb (strength_of x.op) new)
    (bind (make p (record_of (binary_row x right)) 0) (λ q n. reduce_p new p xs n next))
    (next (x ∷ xs) right)

-- "A choice takes the whole chain before `?` as its test; its arms are full expressions"
unfoldable pub choice_p : Text → Node → Place → Rule
choice_p s e p =
    bind (call expression p)
    (λ q a. must (expected s q (ascii ":"))
    (λ h n. bind (call expression n) (λ q b. make q (record_of (row_of kinds.Choice e.position e.number a.number b.number)) 0)))

abbrev pub link_as : Text → Bool → Pending → Node → Place → Link → (Pending → Node → Place → Rule) → Rule
link_as s allowed xs right p (Choice n) again = reduce_p loosest n xs right (λ ys e. choice_p s e n)
link_as s allowed xs right p (Operator op n) again =
    reduce_p (strength_of op) n xs right (λ ys e. bind (prefix_p s n) (λ q r. again (waits op e ∷ ys) r q))
link_as s allowed xs right p Assign again = test allowed (reduce_p loosest p xs right (λ ys e. done p e)) (stop AssignmentAsExpression p)
link_as s allowed xs right p End again = reduce_p loosest p xs right (λ ys e. done p e)

-- the rest of a chain, its last operand read
unfoldable pub chain_p : ℕ → Text → Bool → Pending → Node → Place → Rule
unfolding link_of reduce_p choice_p prefix_p
chain_p zero s allowed xs right p = spent p
chain_p (suc f) s allowed xs right p = link_as s allowed xs right p (link_of s p) (λ ys r q. chain_p f s allowed ys r q)

unfoldable pub expression_p : Text → Bool → Place → Rule
unfolding prefix_p chain_p
expression_p s allowed p = bind (prefix_p s p) (λ q e. chain_p (turns s) s allowed [] e q)
