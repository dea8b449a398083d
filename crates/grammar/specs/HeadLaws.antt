-- Laws of the heads: where each leads. Assumes nothing.
use Rattle.std.specs.Prelude.{◌≡◌, Bool, true, false, ◌&&◌, not, ℕ, ◌+◌, ◌≤◌, ◌<◌, leb, eqb, length, Err, None, Ok, Option, Result, Some}
use Rattle.std.proofs.Math.Path.{refl, subst⁻¹}
use Rattle.std.proofs.Common.{ap, arith, length-drop, leb-true, eqb-true}
use mathlib.Core.List.{List, [], ◌∷◌}
use Rattle.std.proofs.Math.ListN.{drop}
use Rattle.characters.specs.declared.place.Place.{Place}
use Rattle.characters.specs.declared.refusal.Refusal.TheVariants.{EndOfInput, ExtraSemicolon, ReservedWord}
use Rattle.characters.specs.declared.refusal.Refused.{Refused}
use Rattle.characters.specs.Answers.{Looked, Must, failed, found, missing, taken}
use Rattle.characters.specs.Text.{Text, byte_at, ascii, on_by, Stands}
use Rattle.characters.specs.PlaceLaws.{Reached, Advanced, reached_on, advanced_on, advanced_reached, in_text, on_by_stands}
use Rattle.characters.specs.Blanks.{blanks}
use Rattle.characters.specs.BlankLaws.{PassedOn, blanks_on}
use Rattle.characters.specs.Names.{is_letter, is_name_byte, name, part, word_of, free_by, free_name}
use Rattle.characters.specs.NameLaws.{NamedOn, name_on}
use Rattle.characters.specs.Tokens.{spells, is_token, is_keyword, token, keyword, needed, expected}
use Rattle.characters.specs.TokenLaws.{spells_fits, TokenOn, token_on, keyword_on}
use Rattle.records.specs.Words.{span_word}
use Rattle.grammar.specs.declared.heads.StatementHead.TheVariants as head
use Rattle.grammar.specs.declared.heads.StepHead.TheVariants as steps
use Rattle.grammar.specs.declared.heads.ItemHead.TheVariants as item
use Rattle.grammar.specs.declared.heads.Assignment.{Assignment}
use Rattle.grammar.specs.declared.heads.ClassHead.{ClassHead}
use Rattle.grammar.specs.declared.heads.ItemHead.{ItemHead}
use Rattle.grammar.specs.declared.heads.LetHead.{LetHead}
use Rattle.grammar.specs.declared.heads.StatementHead.{StatementHead}
use Rattle.grammar.specs.declared.heads.StepHead.{StepHead}
use Rattle.grammar.specs.Answers.{assigns}
use Rattle.grammar.specs.Operators.{assignments}
use Rattle.grammar.specs.Heads.{name_past, name_of, word_head, name_head, head_past, head_of, step_past, step_by, step_of, assigning, assign_in, assign_of, end_of, let_to, let_named, let_by, let_of, opened_by, parent_by, class_by, class_of, item_past, item_of}
use Rattle.grammar.specs.LeafLaws.{one_on}
use Rattle.grammar.specs.LinkLaws.{left, right}

-- ---- names

-- where a name leads: past the blanks, and over it
abbrev pub NameOn : Text → Place → Must → Type 0
NameOn s p (Ok t) = Reached s p t.here × Advanced s t.here t.next
NameOn s p (Err e) = Unit {0}

pub name_of_on : (s : Text) (p : Place) → Stands s p → NameOn s p (name_of s p)
unfolding name_of free_name
name_of_on s p st = go (blanks s p) (blanks_on s p st)
  where
    free : (h : Place) → Reached s p h → (r : Must) → NamedOn s h r → NameOn s p (free_by s r)
    free h a (Ok y) g = by (eqb (word_of (part s y.here.offset y.next.offset)) 0)
      where
        by : (t : Bool) → NameOn s p (elim t as (λ u. Must) [ true ↦ taken y.here y.next | false ↦ failed ReservedWord y.here ])
        by true = (subst⁻¹ (Reached s p) g.0 a, subst⁻¹ (λ (x : Place). Advanced s x y.next) g.0 g.1)
        by false = tt
    free h a (Err e) g = tt

    go : (r : Must) → PassedOn s p p r → NameOn s p (name_past s r)
    go (Ok t) g = free t.next g.1 (name s t.next) (name_on s t.next g.1.stands)
    go (Err e) g = tt

-- ---- statements

-- where a statement's head leads: past the blanks, and over its keyword or `{`
abbrev pub HeadOn : Text → Place → Result StatementHead Refused → Type 0
HeadOn s p (Ok (head.Return h n)) = Reached s p h × Advanced s h n
HeadOn s p (Ok (head.Break h n)) = Reached s p h × Advanced s h n
HeadOn s p (Ok (head.Continue h n)) = Reached s p h × Advanced s h n
HeadOn s p (Ok (head.If h n)) = Reached s p h × Advanced s h n
HeadOn s p (Ok (head.Loop h n)) = Reached s p h × Advanced s h n
HeadOn s p (Ok (head.While h n)) = Reached s p h × Advanced s h n
HeadOn s p (Ok (head.For h n)) = Reached s p h × Advanced s h n
HeadOn s p (Ok (head.Assert h n)) = Reached s p h × Advanced s h n
HeadOn s p (Ok (head.Let h n)) = Reached s p h × Advanced s h n
HeadOn s p (Ok (head.Fun h n)) = Reached s p h × Advanced s h n
HeadOn s p (Ok (head.Block h n)) = Reached s p h × Advanced s h n
HeadOn s p (Ok (head.ExprOrAssign h)) = Reached s p h
HeadOn s p (Err e) = Unit {0}

-- a choice leads where both its sides lead
either : {A : Type 0} (P : A → Type 0) (t : Bool) {x y : A} → P x → P y → P (elim t as (λ b. A) [ true ↦ x | false ↦ y ])
either P true a b = a
either P false a b = b

pub head_on : (s : Text) (p : Place) → Stands s p → HeadOn s p (head_of s p)
unfolding head_of
head_on s p st = go (blanks s p) (blanks_on s p st)
  where
    P : StatementHead → Type 0
    P x = HeadOn s p (Ok x)

    word : (k : ℕ) (h q : Place) → Reached s p h → Advanced s h q → P (word_head k h q)
    word k h q a d =
        either P (eqb k 14) (a, d)
        (either P (eqb k 15) (a, d)
        (either P (eqb k 16) (a, d)
        (either P (eqb k 9) (a, d)
        (either P (eqb k 11) (a, d)
        (either P (eqb k 12) (a, d)
        (either P (eqb k 13) (a, d)
        (either P (eqb k 17) (a, d)
        (either P (eqb k 4) (a, d)
        (either P (eqb k 6) (a, d) a)))))))))

    named : (h : Place) → Reached s p h → (r : Must) → NamedOn s h r → HeadOn s p (name_head s r)
    named h a (Ok t) g = word (word_of (part s t.here.offset t.next.offset)) t.here t.next (subst⁻¹ (Reached s p) g.0 a) (subst⁻¹ (λ (x : Place). Advanced s x t.next) g.0 g.1)
    named h a (Err e) g = tt

    sign : (b : ℕ) (h : Place) → b ≡ byte_at s h.offset → Reached s p h → (x : Bool) → eqb b 123 ≡ x
        → HeadOn s p (elim x as (λ t. Result StatementHead Refused) [ true ↦ Ok (head.Block h (on_by 1 h)) | false ↦ elim (eqb b 59) as (λ t. Result StatementHead Refused) [ true ↦ failed ExtraSemicolon h | false ↦ Ok (head.ExprOrAssign h) ] ])
    sign b h z a true e = let i = eqb-true b 123 e in (a, one_on s h a.stands (omega arith))
    sign b h z a false e = either (HeadOn s p) (eqb b 59) tt a

    go : (r : Must) → PassedOn s p p r → HeadOn s p (head_past s r)
    go (Ok t) g =
        either (HeadOn s p) (is_letter (byte_at s t.next.offset)) (named t.next g.1 (name s t.next) (name_on s t.next g.1.stands))
        (sign (byte_at s t.next.offset) t.next refl g.1 (eqb (byte_at s t.next.offset) 123) refl)
    go (Err e) g = tt

-- ---- steps

-- where a step leads: to its target, over `++` or `--`, which is an operator
abbrev pub StepOn : Text → Place → Result StepHead Refused → Type 0
StepOn s h (Ok (steps.Step op n)) = Advanced s h n × (1 ≤ op) × (op ≤ 18)
StepOn s h (Ok steps.Other) = Unit {0}
StepOn s h (Err e) = Unit {0}

pub step_on : (s : Text) (h : Place) → Stands s h → StepOn s h (step_of s h)
unfolding step_of
step_on s h st = by (byte_at s (h.offset + 1)) refl
  where
    past : (op : ℕ) → 1 ≤ op → op ≤ 18 → h.offset + 2 ≤ length s → (r : Must) → PassedOn s (on_by 2 h) (on_by 2 h) r → StepOn s h (step_past op r)
    past op i j l (Ok t) g =
        let f : h.offset + 2 ≤ t.next.offset = g.1.further in
        (record { stands = g.1.stands; further = omega arith }, i, j)
    past op i j l (Err e) g = tt

    double : (op k b c : ℕ) → 1 ≤ op → op ≤ 18 → k < 256 → c ≡ byte_at s (h.offset + 1) → (x : Bool) → (eqb b k && eqb c k) ≡ x → (y : Result StepHead Refused) → StepOn s h y
        → StepOn s h (elim x as (λ t. Result StepHead Refused) [ true ↦ step_past op (blanks s (on_by 2 h)) | false ↦ y ])
    double op k b c i j l z true e y o =
        let d = eqb-true c k (right (eqb b k) (eqb c k) e) in
        let n = in_text s (h.offset + 1) (omega arith) in
        let f : h.offset + 2 ≤ length s = omega arith in
        past op i j f (blanks s (on_by 2 h)) (blanks_on s (on_by 2 h) (on_by_stands s 2 h st f).stands)
    double op k b c i j l z false e y o = o

    by : (c : ℕ) → c ≡ byte_at s (h.offset + 1) → StepOn s h (step_by s (byte_at s h.offset) c h)
    by c z =
        let b = byte_at s h.offset in
        double 4 43 b c (omega arith) (omega arith) (omega arith) z (eqb b 43 && eqb c 43) refl _
        (double 5 45 b c (omega arith) (omega arith) (omega arith) z (eqb b 45 && eqb c 45) refl (Ok steps.Other) tt)

-- over a token of one byte
one_further : {s : Text} {h n : Place} → Reached s h n → n ≡ on_by 1 h → Advanced s h n
one_further {s} {h} {n} a e =
    let z : n.offset ≡ h.offset + 1 = ap (λ (x : Place). x.offset) e in
    record { stands = a.stands; further = omega arith }

-- ---- blocks

-- where the end of a block leads: past the blanks, and over its `}`
abbrev pub EndOn : Text → Place → Looked → Type 0
EndOn s p (found h n) = Reached s p h × Advanced s h n
EndOn s p (missing h) = Reached s p h
EndOn s p (Err e) = e.refusal ≡ EndOfInput

pub end_on : (s : Text) (p : Place) → Stands s p → EndOn s p (end_of s p)
unfolding end_of
end_on s p st = either (EndOn s p) (eqb (byte_at s p.offset) 256) refl (go (token s p (ascii "}")) (token_on s p (ascii "}") st))
  where
    go : (l : Looked) → TokenOn s p (ascii "}") l → EndOn s p l
    go (found h n) g = (g.0, one_further g.1 g.2)
    go (missing h) g = g
    go (Err e) g = g

-- ---- declarations

-- where a token that has to be there leads: past the blanks, and over it
abbrev pub NeedOn : Text → Place → Must → Type 0
NeedOn s p (Ok t) = Reached s p t.here × Advanced s t.here t.next
NeedOn s p (Err e) = Unit {0}

need_on : (s : Text) (p : Place) (b : ℕ) → Stands s p → NeedOn s p (expected s p (b ∷ []))
unfolding expected
need_on s p b st = go (token s p (b ∷ [])) (token_on s p (b ∷ []) st)
  where
    go : (l : Looked) → TokenOn s p (b ∷ []) l → NeedOn s p (needed l)
    go (found h n) g = (g.0, one_further g.1 g.2)
    go (missing h) g = tt
    go (Err e) g = tt

-- where the head of a `let` leads: over its `=`; the mark is 0 or 1
abbrev pub LetOn : Text → Place → Result LetHead Refused → Type 0
LetOn s p (Ok t) = Advanced s p t.next × (t.mark ≤ 1)
LetOn s p (Err e) = Unit {0}

pub let_on : (s : Text) (p : Place) → Stands s p → LetOn s p (let_of s p)
unfolding let_of
let_on s p st = go (keyword s p (ascii "var")) (keyword_on s p (ascii "var") st)
  where
    to : (mark : ℕ) → mark ≤ 1 → (h q : Place) → Reached s p q → (r : Must) → NeedOn s q r → LetOn s p (let_to mark h q r)
    to mark m h q a (Ok t) g = (advanced_on (reached_on a g.0) g.1, m)
    to mark m h q a (Err e) g = tt

    named : (mark : ℕ) → mark ≤ 1 → (n : Place) → Reached s p n → (r : Must) → NameOn s n r → LetOn s p (let_named s mark r)
    named mark m n a (Ok t) g = to mark m t.here t.next (reached_on a (reached_on g.0 (advanced_reached g.1))) (expected s t.next (ascii "=")) (need_on s t.next 61 g.1.stands)
    named mark m n a (Err e) g = tt

    go : (l : Looked) → TokenOn s p (ascii "var") l → LetOn s p (let_by s l)
    go (found h n) g = named 1 (omega arith) n (reached_on g.0 g.1) (name_of s n) (name_of_on s n g.1.stands)
    go (missing h) g = named 0 (omega arith) h g (name_of s h) (name_of_on s h g.stands)
    go (Err e) g = tt

-- where the head of a class leads: over its `{`
abbrev pub ClassOn : Text → Place → Result ClassHead Refused → Type 0
ClassOn s p (Ok t) = Advanced s p t.next
ClassOn s p (Err e) = Unit {0}

pub class_on : (s : Text) (p : Place) → Stands s p → ClassOn s p (class_of s p)
unfolding class_of
class_on s p st = go (keyword s p (ascii "extends")) (keyword_on s p (ascii "extends") st)
  where
    opened : (parent : ℕ) (q : Place) → Reached s p q → (r : Must) → NeedOn s q r → ClassOn s p (opened_by parent r)
    opened parent q a (Ok t) g = advanced_on (reached_on a g.0) g.1
    opened parent q a (Err e) g = tt

    above : (n : Place) → Reached s p n → (r : Must) → NameOn s n r → ClassOn s p (parent_by s r)
    above n a (Ok t) g =
        opened (span_word t.here.offset t.next.offset) t.next (reached_on a (reached_on g.0 (advanced_reached g.1))) (expected s t.next (ascii "{")) (need_on s t.next 123 g.1.stands)
    above n a (Err e) g = tt

    go : (l : Looked) → TokenOn s p (ascii "extends") l → ClassOn s p (class_by s l)
    go (found h n) g = above n (reached_on g.0 g.1) (name_of s n) (name_of_on s n g.1.stands)
    go (missing h) g = opened 0 h g (expected s h (ascii "{")) (need_on s h 123 g.stands)
    go (Err e) g = tt

-- ---- items

-- where an item's head leads: past the blanks, and over `class`
abbrev pub ItemOn : Text → Place → Result ItemHead Refused → Type 0
ItemOn s p (Ok (item.End h)) = Reached s p h
ItemOn s p (Ok (item.Class h n)) = Reached s p h × Advanced s h n
ItemOn s p (Ok (item.Statement h)) = Reached s p h
ItemOn s p (Err e) = Unit {0}

pub item_on : (s : Text) (p : Place) → Stands s p → ItemOn s p (item_of s p)
unfolding item_of
item_on s p st = go (blanks s p) (blanks_on s p st)
  where
    P : ItemHead → Type 0
    P x = ItemOn s p (Ok x)

    class : (h : Place) → Reached s p h → (t : Bool) → is_keyword s h (ascii "class") ≡ t → P (elim t as (λ u. ItemHead) [ true ↦ item.Class h (on_by 5 h) | false ↦ item.Statement h ])
    class h a true e =
        let l = spells_fits (ascii "class") (drop h.offset s) (left (is_token s h (ascii "class")) (not (is_name_byte (byte_at s (h.offset + 5)))) e) in
        let d = length-drop h.offset s in
        let i : h.offset ≤ length s = a.stands.inside in
        (a, record { stands = (on_by_stands s 5 h a.stands (omega arith)).stands; further = omega arith })
    class h a false e = a

    go : (r : Must) → PassedOn s p p r → ItemOn s p (item_past s r)
    go (Ok t) g = either P (eqb (byte_at s t.next.offset) 256) g.1 (class t.next g.1 (is_keyword s t.next (ascii "class")) refl)
    go (Err e) g = tt

-- ---- assignment signs

-- these bytes after the first of a sign make it the assignment of this operator
abbrev pub assign_rest : Text → ℕ → Text → Place → Option Assignment
assign_rest w op t p = elim (spells w t) [ true ↦ assigns op (on_by (1 + length w) p) | false ↦ None ]

-- where an assignment sign leads: over it; its operator is one, or 0
abbrev pub AssignOn : Text → Place → Option Assignment → Type 0
AssignOn s p (Some x) = Advanced s p x.next × (x.op ≤ 18)
AssignOn s p None = Unit {0}

-- each sign has a byte
abbrev sized : List Text → Bool
sized [] = true
sized (w ∷ ws) = leb 1 (length w) && sized ws

-- each number is 0 or an operator's
abbrev low : List ℕ → Bool
low [] = true
low (k ∷ ks) = leb k 18 && low ks

module _ (s : Text) (p : Place) (st : Stands s p) where
  over : (n : ℕ) → 1 ≤ n → n ≤ length (drop p.offset s) → Advanced s p (on_by n p)
  over n l m =
      let d = length-drop p.offset s in
      let i : p.offset ≤ length s = st.inside in
      record { stands = (on_by_stands s n p st (omega arith)).stands; further = omega arith }

  equals_on : (b : ℕ) → b ≡ byte_at (drop p.offset s) 0 → (x : Bool) → eqb b 61 ≡ x → (y : Bool)
      → AssignOn s p (elim x as (λ u. Option Assignment) [ true ↦ elim y as (λ u. Option Assignment) [ true ↦ None | false ↦ assigns 0 (on_by 1 p) ] | false ↦ None ])
  equals_on b z true e true = tt
  equals_on b z true e false = let i = eqb-true b 61 e in let j = in_text (drop p.offset s) 0 (omega arith) in (over 1 (omega arith) (omega arith), omega arith)
  equals_on b z false e y = tt

  sign_on : (w : Text) (k : ℕ) → leb 1 (length w) ≡ true → leb k 18 ≡ true → (x : Bool) → spells w (drop p.offset s) ≡ x → (y : Option Assignment) → AssignOn s p y
      → AssignOn s p (elim x as (λ u. Option Assignment) [ true ↦ assigns k (on_by (length w) p) | false ↦ y ])
  sign_on w k l m true e y o = (over (length w) (leb-true 1 (length w) l) (spells_fits w (drop p.offset s) e), leb-true k 18 m)
  sign_on w k l m false e y o = o

  signs_on : (ws : List Text) (ks : List ℕ) → sized ws ≡ true → low ks ≡ true → AssignOn s p (assign_in ws ks (drop p.offset s) p)
  unfolding assign_in
  signs_on [] ks l m = let t = drop p.offset s in equals_on (byte_at t 0) refl (eqb (byte_at t 0) 61) refl (eqb (byte_at t 1) 61)
  signs_on (w ∷ ws) [] l m = let t = drop p.offset s in equals_on (byte_at t 0) refl (eqb (byte_at t 0) 61) refl (eqb (byte_at t 1) 61)
  signs_on (w ∷ ws) (k ∷ ks) l m =
      sign_on w k (left (leb 1 (length w)) (sized ws) l) (left (leb k 18) (low ks) m) (spells w (drop p.offset s)) refl (assign_in ws ks (drop p.offset s) p)
      (signs_on ws ks (right (leb 1 (length w)) (sized ws) l) (right (leb k 18) (low ks) m))

  pub assign_on : AssignOn s p (assign_of s p)
  unfolding assign_of
  assign_on = signs_on assignments assigning refl refl
