-- The rules of classes, each headed by its production. Assumes nothing.
use Rattle.std.specs.Prelude.{Bool, ◌&&◌, List, [], ℕ, zero, suc, eqb, Err, Ok, Result}
use Rattle.characters.specs.declared.place.Place.{Place}
use Rattle.characters.specs.declared.place.Span.{Span}
use Rattle.characters.specs.declared.refusal.Refusal.TheVariants.{InitWithoutParameter}
use Rattle.characters.specs.declared.refusal.Refused.{Refused}
use Rattle.characters.specs.Text.{Text, ascii}
use Rattle.characters.specs.Names.{name, part, same}
use Rattle.reading.specs.declared.node.Node.{Node}
use Rattle.reading.specs.Process.{done, stop, spent, make, fresh, call, test, look, must, bind, plain}
use Rattle.records.specs.declared.kind.Kind.TheVariants as kinds
use Rattle.records.specs.declared.row.Row.{Row}
use Rattle.records.specs.Rows.{record_of}
use Rattle.grammar.specs.declared.heads.ClassHead.{ClassHead}
use Rattle.grammar.specs.Leaves.{close_of}
use Rattle.grammar.specs.Heads.{name_of, class_of}
use Rattle.grammar.specs.Expressions.{Rule, function, turns, method_row}
use Rattle.grammar.specs.Functions.{name_span, name_word, new_name, with_name}

-- ---- method: name function

-- the name from one place to another is `init`
unfoldable pub is_init : Text → Place → Place → Bool
is_init s h q = same (part s h.offset q.offset) (ascii "init")

-- 32: "`init` without parameter", tested when the function is read: it has no last parameter item
unfoldable pub method_end_p : Bool → Node → ℕ → Place → Rule
method_end_p init f last p = test (init && eqb f.value 0) (stop InitWithoutParameter p) (make p (record_of (method_row f last)) 0)

-- a method and its item; the function stands at its name
unfoldable pub method_p : Text → List Span → ℕ → Place → Rule
unfolding new_name is_init method_end_p
method_p s names last h =
    must (name s h)
    (λ k q. new_name s q q (name_span k q) names
    (bind (call (function k (name_word k q)) q) (λ r f. method_end_p (is_init s k q) f last r)))

-- ---- class: 'class' name [ 'extends' name ] '{' { method } '}'

-- the methods so far: their names and the last item
unfoldable pub methods_p : ℕ → Text → List Span → ℕ → Place → Rule
unfolding method_p
methods_p zero s names last p = spent p
methods_p (suc f) s names last p =
    look (close_of s p 125) (λ h n. done n (plain last n))
    (λ h. bind (method_p s names last h) (λ q i. methods_p f s (with_name (name s h) names) i.number q))

-- id, name, parent's name or 0, last method item
abbrev pub class_row : Place → ℕ → ℕ → ℕ → ℕ → Row
class_row from id name parent methods = record { kind = kinds.Class; position = from; a = id; b = name; c = parent; d = methods }

-- a class whose methods are read: its id, then its record. The node's value is its name
unfoldable pub class_end_p : Place → ℕ → ℕ → Node → Place → Rule
class_end_p from name parent methods p = bind (fresh p) (λ q i. make q (record_of (class_row from i.number name parent methods.number)) name)

-- by what stands up to its `{`
abbrev pub class_as : Text → Place → ℕ → Result ClassHead Refused → Rule
class_as s from name (Ok t) = bind (methods_p (turns s) s [] 0 t.next) (λ q l. class_end_p from name t.parent l q)
class_as s from name (Err e) = stop e.refusal e.at

-- after `class`. "30 the class's .. start"
unfoldable pub class_p : Text → Place → List Span → Place → Rule
unfolding name_of new_name class_of methods_p class_end_p
class_p s from names p =
    must (name_of s p) (λ h q. new_name s q from (name_span h q) names (class_as s from (name_word h q) (class_of s q)))
