-- THE HEADS REFUSE PROPERLY: what stands where a statement, a declaration or a unit's item begins is told, or is refused by what is a rule's
-- to give. By cases, along the definition of each. Assumes nothing.
use Rattle.std.specs.Prelude.{Bool, true, false, ◌&&◌, ℕ, ◌+◌, T, eqb, Err, Ok, Result}
use Rattle.characters.specs.declared.place.Place.{Place}
use Rattle.characters.specs.Text.{Text, byte_at, ascii, on_by}
use Rattle.characters.specs.Blanks.{blanks}
use Rattle.characters.specs.Names.{is_letter, name, free_by, free_name, part, word_of}
use Rattle.characters.specs.Tokens.{found_by, is_keyword, keyword_past, keyword, expected}
use Rattle.literals.specs.NumberLaws.{choice}
use Rattle.reading.specs.Suits.{proper}
use Rattle.grammar.specs.declared.heads.StatementHead.TheVariants as head
use Rattle.grammar.specs.declared.heads.StepHead.TheVariants as steps
use Rattle.grammar.specs.declared.heads.ItemHead.TheVariants as item
use Rattle.grammar.specs.Heads.{name_past, name_of, word_head, name_head, head_past, head_of, step_past, step_of, end_of, let_to, let_named, let_by, let_of, opened_by, parent_by, class_by, class_of, item_past, item_of}
use Rattle.unit.specs.Refusing.{MustProper, LookProper, blanks_proper, name_proper, token_proper, expected_proper}
use Rattle.characters.specs.Answers.{Looked, Must, found, missing}
use Rattle.characters.specs.declared.refusal.Refused.{Refused}
use Rattle.grammar.specs.declared.heads.ClassHead.{ClassHead}
use Rattle.grammar.specs.declared.heads.ItemHead.{ItemHead}
use Rattle.grammar.specs.declared.heads.LetHead.{LetHead}
use Rattle.grammar.specs.declared.heads.StatementHead.{StatementHead}
use Rattle.grammar.specs.declared.heads.StepHead.{StepHead}

-- ---- names and keywords

-- A name where reserved words are barred is refused by 11 or 12.
pub free_proper : (s : Text) (p : Place) → MustProper (free_name s p)
unfolding free_name
free_proper s p = go (name s p) (name_proper s p)
  where
    go : (r : Must) → MustProper r → MustProper (free_by s r)
    go (Ok t) g = choice MustProper (eqb (word_of (part s t.here.offset t.next.offset)) 0) (λ e. tt) (λ e. tt)
    go (Err e) g = g

-- So is one past the blanks, or by 19.
pub name_of_proper : (s : Text) (p : Place) → MustProper (name_of s p)
unfolding name_of
name_of_proper s p = go (blanks s p) (blanks_proper s p)
  where
    go : (r : Must) → MustProper r → MustProper (name_past s r)
    go (Ok t) g = free_proper s t.next
    go (Err e) g = g

-- A keyword is refused only by the blanks before it.
pub keyword_proper : (s : Text) (p : Place) (w : Text) → LookProper (keyword s p w)
unfolding keyword
keyword_proper s p w = go (blanks s p) (blanks_proper s p)
  where
    by : (t : Bool) (q : Place) (n : ℕ) → LookProper (found_by t n q)
    by true q n = tt
    by false q n = tt

    go : (r : Must) → MustProper r → LookProper (keyword_past s w r)
    go (Ok t) g = by (is_keyword s t.next w) t.next _
    go (Err e) g = g

-- The end of a block is refused by 19.
pub end_proper : (s : Text) (p : Place) → LookProper (end_of s p)
unfolding end_of
end_proper s p = choice LookProper (eqb (byte_at s p.offset) 256) (λ e. tt) (λ e. token_proper s p (ascii "}"))

-- ---- statements

-- What a statement begins with is told, or is refused properly.
abbrev pub HeadProper : Result StatementHead Refused → Type 0
HeadProper (Ok (head.Return h n)) = Unit {0}
HeadProper (Ok (head.Break h n)) = Unit {0}
HeadProper (Ok (head.Continue h n)) = Unit {0}
HeadProper (Ok (head.If h n)) = Unit {0}
HeadProper (Ok (head.Loop h n)) = Unit {0}
HeadProper (Ok (head.While h n)) = Unit {0}
HeadProper (Ok (head.For h n)) = Unit {0}
HeadProper (Ok (head.Assert h n)) = Unit {0}
HeadProper (Ok (head.Let h n)) = Unit {0}
HeadProper (Ok (head.Fun h n)) = Unit {0}
HeadProper (Ok (head.Block h n)) = Unit {0}
HeadProper (Ok (head.ExprOrAssign h)) = Unit {0}
HeadProper (Err e) = T (proper e.refusal)

-- A word is told.
word_proper : (k : ℕ) (h q : Place) → HeadProper (Ok (word_head k h q))
word_proper k h q =
    choice told (eqb k 14) (λ e. tt)
    (λ e. choice told (eqb k 15) (λ e. tt)
    (λ e. choice told (eqb k 16) (λ e. tt)
    (λ e. choice told (eqb k 9) (λ e. tt)
    (λ e. choice told (eqb k 11) (λ e. tt)
    (λ e. choice told (eqb k 12) (λ e. tt)
    (λ e. choice told (eqb k 13) (λ e. tt)
    (λ e. choice told (eqb k 17) (λ e. tt)
    (λ e. choice told (eqb k 4) (λ e. tt) (λ e. choice told (eqb k 6) (λ e. tt) (λ e. tt))))))))))
  where
    told : StatementHead → Type 0
    told x = HeadProper (Ok x)

-- A statement is refused by 11, 19 or 29.
pub head_proper : (s : Text) (p : Place) → HeadProper (head_of s p)
unfolding head_of
head_proper s p = go (blanks s p) (blanks_proper s p)
  where
    named : (r : Must) → MustProper r → HeadProper (name_head s r)
    named (Ok t) g = word_proper (word_of (part s t.here.offset t.next.offset)) t.here t.next
    named (Err e) g = g

    go : (r : Must) → MustProper r → HeadProper (head_past s r)
    go (Ok t) g =
        choice HeadProper (is_letter (byte_at s t.next.offset)) (λ e. named (name s t.next) (name_proper s t.next))
        (λ e. choice HeadProper (eqb (byte_at s t.next.offset) 123) (λ e. tt) (λ e. choice HeadProper (eqb (byte_at s t.next.offset) 59) (λ e. tt) (λ e. tt)))
    go (Err e) g = g

-- A step is told, or is refused properly.
abbrev pub StepProper : Result StepHead Refused → Type 0
StepProper (Ok (steps.Step op n)) = Unit {0}
StepProper (Ok steps.Other) = Unit {0}
StepProper (Err e) = T (proper e.refusal)

-- A step is refused by the blanks after it.
pub step_proper : (s : Text) (h : Place) → StepProper (step_of s h)
unfolding step_of
step_proper s h =
    choice StepProper (eqb b 43 && eqb c 43) (λ e. past 4 (blanks s (on_by 2 h)) (blanks_proper s (on_by 2 h)))
    (λ e. choice StepProper (eqb b 45 && eqb c 45) (λ e. past 5 (blanks s (on_by 2 h)) (blanks_proper s (on_by 2 h))) (λ e. tt))
  where
    b : ℕ
    b = byte_at s h.offset

    c : ℕ
    c = byte_at s (h.offset + 1)

    past : (op : ℕ) (r : Must) → MustProper r → StepProper (step_past op r)
    past op (Ok t) g = tt
    past op (Err e) g = g

-- ---- declarations

-- The head of a `let` is told, or is refused properly.
abbrev pub LetProper : Result LetHead Refused → Type 0
LetProper (Ok t) = Unit {0}
LetProper (Err e) = T (proper e.refusal)

-- A `let` is refused as its name is, or as its sign.
pub let_proper : (s : Text) (p : Place) → LetProper (let_of s p)
unfolding let_of
let_proper s p = go (keyword s p (ascii "var")) (keyword_proper s p (ascii "var"))
  where
    to : (mark : ℕ) (h q : Place) (r : Must) → MustProper r → LetProper (let_to mark h q r)
    to mark h q (Ok t) g = tt
    to mark h q (Err e) g = g

    named : (mark : ℕ) (r : Must) → MustProper r → LetProper (let_named s mark r)
    named mark (Ok t) g = to mark t.here t.next (expected s t.next (ascii "=")) (expected_proper s t.next (ascii "="))
    named mark (Err e) g = g

    go : (l : Looked) → LookProper l → LetProper (let_by s l)
    go (found h n) g = named 1 (name_of s n) (name_of_proper s n)
    go (missing h) g = named 0 (name_of s h) (name_of_proper s h)
    go (Err e) g = g

-- The head of a class is told, or is refused properly.
abbrev pub ClassProper : Result ClassHead Refused → Type 0
ClassProper (Ok t) = Unit {0}
ClassProper (Err e) = T (proper e.refusal)

-- A class is refused as its parent's name is, or as its sign.
pub class_proper : (s : Text) (p : Place) → ClassProper (class_of s p)
unfolding class_of
class_proper s p = go (keyword s p (ascii "extends")) (keyword_proper s p (ascii "extends"))
  where
    opened : (parent : ℕ) (r : Must) → MustProper r → ClassProper (opened_by parent r)
    opened parent (Ok t) g = tt
    opened parent (Err e) g = g

    above : (r : Must) → MustProper r → ClassProper (parent_by s r)
    above (Ok t) g = opened _ (expected s t.next (ascii "{")) (expected_proper s t.next (ascii "{"))
    above (Err e) g = g

    go : (l : Looked) → LookProper l → ClassProper (class_by s l)
    go (found h n) g = above (name_of s n) (name_of_proper s n)
    go (missing h) g = opened 0 (expected s h (ascii "{")) (expected_proper s h (ascii "{"))
    go (Err e) g = g

-- ---- items

-- An item of the unit is told, or is refused properly.
abbrev pub ItemProper : Result ItemHead Refused → Type 0
ItemProper (Ok (item.End h)) = Unit {0}
ItemProper (Ok (item.Class h n)) = Unit {0}
ItemProper (Ok (item.Statement h)) = Unit {0}
ItemProper (Err e) = T (proper e.refusal)

-- An item is refused by the blanks before it.
pub item_proper : (s : Text) (p : Place) → ItemProper (item_of s p)
unfolding item_of
item_proper s p = go (blanks s p) (blanks_proper s p)
  where
    told : ItemHead → Type 0
    told x = ItemProper (Ok x)

    go : (r : Must) → MustProper r → ItemProper (item_past s r)
    go (Ok t) g =
        choice told (eqb (byte_at s t.next.offset) 256) (λ e. tt)
        (λ e. choice told (is_keyword s t.next (ascii "class")) (λ e. tt) (λ e. tt))
    go (Err e) g = g
