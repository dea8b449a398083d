-- What stands at a place where a statement, a declaration or a unit's item begins. Assumes nothing.
use Rattle.std.specs.Prelude.{true, false, ◌&&◌, List, [], ◌∷◌, ℕ, ◌+◌, eqb, length, drop, Err, None, Ok, Option, Result}
use Rattle.characters.specs.declared.place.Place.{Place}
use Rattle.characters.specs.declared.refusal.Refusal.TheVariants.{EndOfInput, ExtraSemicolon}
use Rattle.characters.specs.declared.refusal.Refused.{Refused}
use Rattle.characters.specs.Answers.{Looked, Must, failed, found, missing}
use Rattle.characters.specs.Text.{Text, byte_at, ascii, on_by}
use Rattle.characters.specs.Blanks.{blanks}
use Rattle.characters.specs.Names.{is_letter, name, free_name, part, word_of}
use Rattle.characters.specs.Tokens.{spells, is_keyword, token, keyword, expected}
use Rattle.records.specs.Words.{span_word}
use Rattle.grammar.specs.declared.heads.StatementHead.TheVariants as head
use Rattle.grammar.specs.declared.heads.StepHead.TheVariants as steps
use Rattle.grammar.specs.declared.heads.ItemHead.TheVariants as item
use Rattle.grammar.specs.declared.heads.Assignment.{Assignment}
use Rattle.grammar.specs.declared.heads.ClassHead.{ClassHead}
use Rattle.grammar.specs.declared.heads.ItemHead.{ItemHead}
use Rattle.grammar.specs.declared.heads.LetHead.{LetHead}
use Rattle.grammar.specs.declared.heads.StatementHead.{StatementHead}
use Rattle.grammar.specs.declared.heads.StepHead.{StepHead}
use Rattle.grammar.specs.Answers.{assigns, lets_name, opens_class}
use Rattle.grammar.specs.Operators.{assignments}

-- ---- names

-- the name after the blanks that were passed
abbrev pub name_past : Text → Must → Must
name_past s (Ok t) = free_name s t.next
name_past s (Err e) = Err e

-- the name past the blanks, where reserved words are barred: 11 or 12 at its start
unfoldable pub name_of : Text → Place → Must
name_of s p = name_past s (blanks s p)

-- ---- statements

-- the statement that a reserved word opens, by the word's number; every other name is left to the expression
abbrev pub word_head : ℕ → Place → Place → StatementHead
word_head k h q =
    elim (eqb k 14) [
      | true ↦ head.Return h q
      | false ↦ elim (eqb k 15) [
        | true ↦ head.Break h q
        | false ↦ elim (eqb k 16) [
          | true ↦ head.Continue h q
          | false ↦ elim (eqb k 9) [
            | true ↦ head.If h q
            | false ↦ elim (eqb k 11) [
              | true ↦ head.Loop h q
              | false ↦ elim (eqb k 12) [
                | true ↦ head.While h q
                | false ↦ elim (eqb k 13) [
                  | true ↦ head.For h q
                  | false ↦ elim (eqb k 17) [
                    | true ↦ head.Assert h q
                    | false ↦ elim (eqb k 4) [
                      | true ↦ head.Let h q
                      | false ↦ elim (eqb k 6) [ true ↦ head.Fun h q | false ↦ head.ExprOrAssign h ]
                    ]
                  ]
                ]
              ]
            ]
          ]
        ]
      ]
    ]

-- a statement that begins with this name
abbrev pub name_head : Text → Must → Result StatementHead Refused
name_head s (Ok t) = Ok (word_head (word_of (part s t.here.offset t.next.offset)) t.here t.next)
name_head s (Err e) = Err e

-- a statement that begins with this byte
abbrev pub head_by : Text → ℕ → Place → Result StatementHead Refused
head_by s b h =
    elim (is_letter b) [
      | true ↦ name_head s (name s h)
      | false ↦ elim (eqb b 123) [
        | true ↦ Ok (head.Block h (on_by 1 h))
        | false ↦ elim (eqb b 59) [ true ↦ failed ExtraSemicolon h | false ↦ Ok (head.ExprOrAssign h) ]
      ]
    ]

-- a statement after the blanks that were passed
abbrev pub head_past : Text → Must → Result StatementHead Refused
head_past s (Ok t) = head_by s (byte_at s t.next.offset) t.next
head_past s (Err e) = Err e

-- past the blanks what a statement begins with; `;` is 29
unfoldable pub head_of : Text → Place → Result StatementHead Refused
head_of s p = head_past s (blanks s p)

-- the target of `++` or `--`, after the blanks that were passed
abbrev pub step_past : ℕ → Must → Result StepHead Refused
step_past op (Ok t) = Ok (steps.Step op t.next)
step_past op (Err e) = Err e

-- these two bytes: `++` is the operator `+`, `--` the operator `-`, by their numbers
abbrev pub step_by : Text → ℕ → ℕ → Place → Result StepHead Refused
step_by s b c h =
    elim (eqb b 43 && eqb c 43) [
      | true ↦ step_past 4 (blanks s (on_by 2 h))
      | false ↦ elim (eqb b 45 && eqb c 45) [ true ↦ step_past 5 (blanks s (on_by 2 h)) | false ↦ Ok steps.Other ]
    ]

-- at a place that is past the blanks: `++` or `--`, as the operator `+` or `-`, and the place of its target, past the blanks; or neither
unfoldable pub step_of : Text → Place → Result StepHead Refused
step_of s h = step_by s (byte_at s h.offset) (byte_at s (h.offset + 1)) h

-- the operators of the signs of assignment, in the order of those: "`a op= b` is `a = a op b`"
abbrev pub assigning : List ℕ
assigning = 6 ∷ 7 ∷ 1 ∷ 2 ∷ 3 ∷ 4 ∷ 5 ∷ 16 ∷ 17 ∷ 18 ∷ []

-- a `=` that opens no `==`
abbrev pub equals_by : ℕ → ℕ → Place → Option Assignment
equals_by b c p = elim (eqb b 61) [ true ↦ elim (eqb c 61) [ true ↦ None | false ↦ assigns 0 (on_by 1 p) ] | false ↦ None ]

-- the first of these signs that a text begins with, by its operator; or a `=`
unfoldable pub assign_in : List Text → List ℕ → Text → Place → Option Assignment
assign_in [] ks t p = equals_by (byte_at t 0) (byte_at t 1) p
assign_in (w ∷ ws) [] t p = equals_by (byte_at t 0) (byte_at t 1) p
assign_in (w ∷ ws) (k ∷ ks) t p = elim (spells w t) [ true ↦ assigns k (on_by (length w) p) | false ↦ assign_in ws ks t p ]

-- the assignment sign at a place that is past the blanks
unfoldable pub assign_of : Text → Place → Option Assignment
assign_of s p = assign_in assignments assigning (drop p.offset s) p

-- ---- blocks

-- the end of the text, or else what was looked for
abbrev pub end_by : ℕ → Place → Looked → Looked
end_by b p l = elim (eqb b 256) [ true ↦ failed EndOfInput p | false ↦ l ]

-- the `}` of a block, or a statement past the blanks. The end of the text is 19 where it stands before any blanks
unfoldable pub end_of : Text → Place → Looked
end_of s p = end_by (byte_at s p.offset) p (token s p (ascii "}"))

-- ---- declarations

-- after the name: its `=`
abbrev pub let_to : ℕ → Place → Place → Must → Result LetHead Refused
let_to mark h q (Ok t) = lets_name mark (span_word h.offset q.offset) t.next
let_to mark h q (Err e) = Err e

-- after `let`, or after `let var`: the name and its `=`
abbrev pub let_named : Text → ℕ → Must → Result LetHead Refused
let_named s mark (Ok t) = let_to mark t.here t.next (expected s t.next (ascii "="))
let_named s mark (Err e) = Err e

-- `var` was found, or was missing
abbrev pub let_by : Text → Looked → Result LetHead Refused
let_by s (found h n) = let_named s 1 (name_of s n)
let_by s (missing h) = let_named s 0 (name_of s h)
let_by s (Err e) = Err e

-- after `let`: [ 'var' ] name '='
unfoldable pub let_of : Text → Place → Result LetHead Refused
let_of s p = let_by s (keyword s p (ascii "var"))

-- after the name, or after the parent: the `{`
abbrev pub opened_by : ℕ → Must → Result ClassHead Refused
opened_by parent (Ok t) = opens_class parent t.next
opened_by parent (Err e) = Err e

-- after `extends`: the parent's name and the `{`
abbrev pub parent_by : Text → Must → Result ClassHead Refused
parent_by s (Ok t) = opened_by (span_word t.here.offset t.next.offset) (expected s t.next (ascii "{"))
parent_by s (Err e) = Err e

-- `extends` was found, or was missing
abbrev pub class_by : Text → Looked → Result ClassHead Refused
class_by s (found h n) = parent_by s (name_of s n)
class_by s (missing h) = opened_by 0 (expected s h (ascii "{"))
class_by s (Err e) = Err e

-- after the name of a class: [ 'extends' name ] '{'
unfoldable pub class_of : Text → Place → Result ClassHead Refused
class_of s p = class_by s (keyword s p (ascii "extends"))

-- ---- the unit

-- an item that begins with this byte; 256 is the end of the text
abbrev pub item_by : Text → ℕ → Place → ItemHead
item_by s b h =
    elim (eqb b 256) [
      | true ↦ item.End h
      | false ↦ elim (is_keyword s h (ascii "class")) [ true ↦ item.Class h (on_by 5 h) | false ↦ item.Statement h ]
    ]

-- an item after the blanks that were passed
abbrev pub item_past : Text → Must → Result ItemHead Refused
item_past s (Ok t) = Ok (item_by s (byte_at s t.next.offset) t.next)
item_past s (Err e) = Err e

-- past the blanks what an item of the unit begins with
unfoldable pub item_of : Text → Place → Result ItemHead Refused
item_of s p = item_past s (blanks s p)
