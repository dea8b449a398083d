-- What stands at a place: the prefix signs, the atoms, what follows a base, the links of a chain. Assumes nothing.
use Rattle.std.specs.Prelude.{true, false, ◌&&◌, ◌||◌, [], ◌∷◌, ℕ, ◌+◌, eqb, ℤ, pos, negsuc, length, drop, Err, Ok, Result}
use Rattle.characters.specs.declared.place.Place.{Place}
use Rattle.characters.specs.declared.refusal.Refusal.TheVariants.{ReservedWord, UnknownAtom, EndOfInput, PostfixIncrement, IncrementAsExpression}
use Rattle.characters.specs.declared.refusal.Refused.{Refused}
use Rattle.characters.specs.Answers.{Looked, Must, failed, found, missing}
use Rattle.characters.specs.Text.{Text, byte_at, ascii, on_by}
use Rattle.characters.specs.Blanks.{blanks}
use Rattle.characters.specs.Names.{is_digit, is_letter, name, part, word_of}
use Rattle.characters.specs.Tokens.{is_keyword, token, expected}
use Rattle.literals.specs.declared.numbers.Numeral.TheVariants.{Int, Float}
use Rattle.literals.specs.declared.numbers.Numeral.{Numeral}
use Rattle.literals.specs.Numbers.{number}
use Rattle.literals.specs.Strings.{is_quote, string}
use Rattle.literals.specs.ByteArrays.{bytearray}
use Rattle.records.specs.declared.kind.Kind.{Kind}
use Rattle.records.specs.declared.kind.Kind.TheVariants as kinds
use Rattle.records.specs.declared.row.Row.{Row}
use Rattle.records.specs.Words.{span_word, low_of, high_of}
use Rattle.grammar.specs.declared.leaves.Prefix.TheVariants.{Sign, Other}
use Rattle.grammar.specs.declared.leaves.Atom.TheVariants.{Leaf, Paren, Bracket, Brace, Bar}
use Rattle.grammar.specs.declared.leaves.Postfix.TheVariants as post
use Rattle.grammar.specs.declared.leaves.Suffix.TheVariants as suffix
use Rattle.grammar.specs.declared.leaves.Link.{Link}
use Rattle.grammar.specs.declared.leaves.Link.TheVariants.{Choice, Operator, Assign, End}
use Rattle.grammar.specs.declared.leaves.Atom.{Atom}
use Rattle.grammar.specs.declared.leaves.Postfix.{Postfix}
use Rattle.grammar.specs.declared.leaves.Prefix.{Prefix}
use Rattle.grammar.specs.Operators.{operators, first_of, operator_of, is_assignment}

-- ---- rows

abbrev pub row_of : Kind → Place → ℕ → ℕ → ℕ → Row
row_of k p a b c = record { kind = k; position = p; a = a; b = b; c = c; d = 0 }

-- a leaf's row: its value in two words. An int's value is in two's complement; a float's is its span, and a minus mark above it. What is a
-- span of the text has its one word, and a word that says all has 0
abbrev pub leaf_row : Kind → Place → ℕ → Row
leaf_row k p v = row_of k p (low_of v) (high_of v) 0

-- the value of an int literal, before any minus
abbrev pub nat_of : ℤ → ℕ
nat_of (pos n) = n
nat_of (negsuc n) = 0

-- ---- prefix signs

abbrev pub prefix_by : ℕ → ℕ → Place → Result Prefix Refused
prefix_by b c h =
    elim ((eqb b 43 && eqb c 43) || (eqb b 45 && eqb c 45)) [
      | true ↦ failed IncrementAsExpression h
      | false ↦ elim (eqb b 33 || eqb b 45 || eqb b 43) [ true ↦ Ok (Sign b h (on_by 1 h)) | false ↦ Ok (Other h) ]
    ]

abbrev pub prefix_past : Text → Must → Result Prefix Refused
prefix_past s (Ok t) = prefix_by (byte_at s t.next.offset) (byte_at s (t.next.offset + 1)) t.next
prefix_past s (Err e) = Err e

-- past the blanks `!`, `-`, `+` or none of them; `++` and `--` are 23
unfoldable pub prefix_of : Text → Place → Result Prefix Refused
prefix_of s p = prefix_past s (blanks s p)

-- ---- atoms

abbrev pub number_atom : Place → Result Numeral Refused → Result Atom Refused
number_atom h (Ok (Int v q)) = Ok (Leaf kinds.Int (nat_of v) q)
number_atom h (Ok (Float q)) = Ok (Leaf kinds.Float (span_word h.offset q.offset) q)
number_atom h (Err e) = Err e

-- what is a span of the text up to a place
abbrev pub span_atom : Kind → ℕ → Must → Result Atom Refused
span_atom kind from (Ok t) = Ok (Leaf kind (span_word from t.next.offset) t.next)
span_atom kind from (Err e) = Err e

abbrev pub word_atom : ℕ → Place → Place → Result Atom Refused
word_atom k h q =
    elim (eqb k 0) [
      | true ↦ Ok (Leaf kinds.Name (span_word h.offset q.offset) q)
      | false ↦ elim (eqb k 1) [
        | true ↦ Ok (Leaf kinds.True 0 q)
        | false ↦ elim (eqb k 2) [
          | true ↦ Ok (Leaf kinds.False 0 q)
          | false ↦ elim (eqb k 3) [ true ↦ Ok (Leaf kinds.Nil 0 q) | false ↦ failed ReservedWord h ]
        ]
      ]
    ]

-- `true`, `false`, `nil`, a name, or a reserved word, which is 12
abbrev pub name_atom : Text → Must → Result Atom Refused
name_atom s (Ok t) = word_atom (word_of (part s t.here.offset t.next.offset)) t.here t.next
name_atom s (Err e) = Err e

abbrev pub atom_by : Text → ℕ → Place → Result Atom Refused
atom_by s b h =
    elim (is_digit b) [
      | true ↦ number_atom h (number s h)
      | false ↦ elim (is_letter b) [
        | true ↦ name_atom s (name s h)
        | false ↦ elim (is_quote b) [
          | true ↦ span_atom kinds.String h.offset (string s h)
          | false ↦ elim (eqb b 40) [
            | true ↦ Ok (Paren (on_by 1 h))
            | false ↦ elim (eqb b 91) [
              | true ↦ Ok (Bracket (on_by 1 h))
              | false ↦ elim (eqb b 123) [
                | true ↦ Ok (Brace (on_by 1 h))
                | false ↦ elim (eqb b 35 && eqb (byte_at s (h.offset + 1)) 91) [
                  | true ↦ span_atom kinds.Bytes h.offset (bytearray s (on_by 2 h))
                  | false ↦ elim (eqb b 36) [
                    | true ↦ span_atom kinds.Host (h.offset + 1) (name s (on_by 1 h))
                    | false ↦ elim (eqb b 124) [ true ↦ Ok Bar | false ↦ failed UnknownAtom h ]
                  ]
                ]
              ]
            ]
          ]
        ]
      ]
    ]

-- the atom at a place that is past the blanks; 13 where none begins
unfoldable pub atom_of : Text → Place → Result Atom Refused
atom_of s h = atom_by s (byte_at s h.offset) h

-- ---- what follows a base

abbrev pub member_by : Place → Must → Result Postfix Refused
member_by h (Ok t) = Ok (post.More (suffix.Member h (span_word t.here.offset t.next.offset) t.next))
member_by h (Err e) = Err e

abbrev pub instance_by : Place → Must → Result Postfix Refused
instance_by h (Ok t) = Ok (post.More (suffix.InstanceOf h (span_word t.here.offset t.next.offset) t.next))
instance_by h (Err e) = Err e

abbrev pub instance_past : Text → Place → Must → Result Postfix Refused
instance_past s h (Ok t) = instance_by h (name s t.next)
instance_past s h (Err e) = Err e

abbrev pub postfix_by : Text → ℕ → ℕ → Place → Result Postfix Refused
postfix_by s b c h =
    elim (eqb b 40) [
      | true ↦ Ok (post.More (suffix.Call h (on_by 1 h)))
      | false ↦ elim (eqb b 91) [
        | true ↦ Ok (post.More (suffix.Index h (on_by 1 h)))
        | false ↦ elim (eqb b 46) [
          | true ↦ member_by h (name s (on_by 1 h))
          | false ↦ elim (is_keyword s h (ascii "instanceof")) [
            | true ↦ instance_past s h (blanks s (on_by 10 h))
            | false ↦ elim ((eqb b 43 && eqb c 43) || (eqb b 45 && eqb c 45)) [
              | true ↦ failed PostfixIncrement (on_by 2 h)
              | false ↦ Ok (post.Rest h)
            ]
          ]
        ]
      ]
    ]

abbrev pub postfix_past : Text → Must → Result Postfix Refused
postfix_past s (Ok t) = postfix_by s (byte_at s t.next.offset) (byte_at s (t.next.offset + 1)) t.next
postfix_past s (Err e) = Err e

-- past the blanks `(`, `[`, `.` and a name directly, `instanceof` and a name, or none of them; `++` and `--` are 22
unfoldable pub postfix_of : Text → Place → Result Postfix Refused
postfix_of s p = postfix_past s (blanks s p)

-- ---- what follows an operand of a chain

abbrev pub link_by : ℕ → Place → Link
link_by k p = elim (eqb k 0) [ true ↦ End | false ↦ Operator k (on_by (length (operator_of k).sign) p) ]

-- at a place that is past the blanks: `?`, an assignment sign, which is left for the statement, an operator, or the chain's end
unfoldable pub link_of : Text → Place → Link
link_of s p =
    elim (eqb (byte_at s p.offset) 63) [
      | true ↦ Choice (on_by 1 p)
      | false ↦ elim (is_assignment (drop p.offset s)) [ true ↦ Assign | false ↦ link_by (first_of 1 operators (drop p.offset s)) p ]
    ]

-- ---- lists

abbrev pub close_by : ℕ → ℕ → Place → Looked
close_by b end h =
    elim (eqb b 256) [ true ↦ failed EndOfInput h | false ↦ elim (eqb b end) [ true ↦ found h (on_by 1 h) | false ↦ missing h ] ]

abbrev pub close_past : Text → ℕ → Must → Looked
close_past s end (Ok t) = close_by (byte_at s t.next.offset) end t.next
close_past s end (Err e) = Err e

-- past the blanks the sign that closes a list, or an element; the end of the text is 19
unfoldable pub close_of : Text → Place → ℕ → Looked
close_of s p end = close_past s end (blanks s p)

abbrev pub comma_by : Must → Looked
comma_by (Ok t) = missing t.next
comma_by (Err e) = Err e

abbrev pub follow_by : Text → Looked → Looked
follow_by s (found h n) = found h n
follow_by s (missing h) = comma_by (expected s h (ascii ","))
follow_by s (Err e) = Err e

-- past the blanks after an element: found is the sign that closes the list; else a comma is taken, and the list goes on after it; 10 where
-- neither is
unfoldable pub follow_of : Text → Place → ℕ → Looked
follow_of s p end = follow_by s (token s p (end ∷ []))

-- a dictionary key: a string, or a name
unfoldable pub key_at : Text → Place → Must
key_at s p = elim (is_quote (byte_at s p.offset)) [ true ↦ string s p | false ↦ name s p ]
