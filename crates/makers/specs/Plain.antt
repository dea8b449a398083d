-- Plain operands: one leaf that is told by its first byte and read without a reader of its own; and what surely follows an operand.
-- Assumes nothing.
use Rattle.std.specs.Prelude.{◌≡◌, Bool, true, false, List, [], ℕ, ◌<◌, eqb, Ok}
use Rattle.characters.specs.declared.place.Place.{Place}
use Rattle.characters.specs.Text.{Text, Stands, byte_at, on_by}
use Rattle.reading.specs.declared.node.Node.{Node}
use Rattle.reading.specs.Process.{bind}
use Rattle.records.specs.declared.kind.Kind.{Kind}
use Rattle.records.specs.Kinds.{number_of}
use Rattle.records.specs.Rows.{record_of, layout}
use Rattle.records.specs.Nodes.{is_leaf}
use Rattle.grammar.specs.declared.leaves.Prefix.TheVariants.{Other}
use Rattle.grammar.specs.declared.leaves.Atom.TheVariants.{Leaf}
use Rattle.grammar.specs.declared.leaves.Postfix.TheVariants.{Rest}
use Rattle.grammar.specs.declared.leaves.Link.{Link}
use Rattle.grammar.specs.declared.leaves.Link.TheVariants.{Choice, Operator, Assign, End}
use Rattle.grammar.specs.Leaves.{leaf_row, prefix_of, atom_of, postfix_of, link_of}
use Rattle.grammar.specs.Expressions.{Routine, expression, before_assignment, Rule, turns, postfixes_p, chain_p}

-- Past one space, where one stands here.
unfoldable pub near_of : Text → Place → Place
near_of s p = elim (eqb (byte_at s p.offset) 32) [ true ↦ on_by 1 p | false ↦ p ]

-- A leaf of so many bytes stands here with no sign before it, and its record was laid after `made` others.
pub record PlainMade (s : Text) (cap : ℕ) (at : Place) (made bytes : ℕ) (before later : List ℕ) : Type 0 where
  pub kind : Kind
  pub value : ℕ
  pub room : made < cap
  pub sign : prefix_of s at ≡ Ok (Other at)
  pub atom : atom_of s at ≡ Ok (Leaf kind value (on_by bytes at))
  pub leaf : is_leaf (number_of kind) ≡ true
  pub stands : Stands s (on_by bytes at)
  pub pool : later ≡ layout before made (record_of (leaf_row kind at value))

-- THE CONTRACT of what reads a plain operand: so many bytes of one; or 0, and nothing was written.
pub record Plain (s : Text) (cap : ℕ) (at : Place) (made bytes : ℕ) (before later : List ℕ) : Type 0 where
  pub none : bytes ≡ 0 → later ≡ before
  pub some : (bytes ≡ 0 → ⊥) → PlainMade s cap at made bytes before later

-- No blank and no suffix stands here.
pub record Rests (s : Text) (at : Place) (r : Bool) : Type 0 where
  pub rests : r ≡ true → postfix_of s at ≡ Ok (Rest at)

-- A chain ends at this link: nothing that belongs to it follows, or an assignment sign does where one may.
abbrev pub EndsBy : Bool → Link → Type 0
EndsBy assigning (Choice n) = ⊥
EndsBy assigning (Operator op n) = ⊥
EndsBy assigning Assign = assigning ≡ true
EndsBy assigning End = Unit

-- An expression surely ends here.
pub record Over (s : Text) (at : Place) (assigning r : Bool) : Type 0 where
  pub rests : r ≡ true → postfix_of s at ≡ Ok (Rest at)
  pub ends : r ≡ true → EndsBy assigning (link_of s at)

-- ---- the expression that an operand begins

-- an assignment sign may follow it, or none
abbrev pub routine_by : Bool → Routine
routine_by true = before_assignment
routine_by false = expression

-- what follows its first operand: the suffixes, then the chain
abbrev pub rest_p : Text → Bool → Node → Place → Rule
rest_p s assigning e p = bind (postfixes_p (turns s) s e p) (λ q n. chain_p (turns s) s assigning [] n q)
