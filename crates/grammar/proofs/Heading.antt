-- What the readers of heads show on the way. Assumes nothing.
use mathlib.Core.Path.{◌≡◌, refl, sym, ap, subst, subst⁻¹, ◌∙◌}
use mathlib.Core.Bool.{Bool, true, false, ◌&&◌, ◌||◌, not}
use mathlib.Core.List.{List, [], ◌∷◌}
use Prim.Native.Nat.{ℕ, suc, ◌+◌, ◌≤◌, ◌<◌}
use native.Mathlib.Omega.{arith}
use lib.Dec.{ltb, eqb}
use lib.ListN.{length, drop}
use lib.Seq.{drop-cons}
use borrow.Author.Tests.{eq-eqb, ne_eqb, ltb-true, ltb-false}
use Rattle.std.specs.Prelude.{None, Ok, Option, Result}
use Rattle.characters.specs.declared.place.Place.{Place}
use Rattle.characters.specs.declared.refusal.Refused.{Refused}
use Rattle.characters.specs.declared.place.Token.{Token}
use Rattle.characters.specs.declared.tokens.Look.{Look}
use Rattle.characters.specs.declared.tokens.Look.TheVariants.{Found, Missing}
use Rattle.characters.specs.declared.reserved.Word.{Word}
use Rattle.characters.specs.declared.reserved.Word.TheVariants as words
use Rattle.characters.specs.WordNumbers.{number_of, other_word}
use Rattle.characters.specs.Answers.{missing, taken}
use Rattle.characters.specs.Text.{Text, byte_at, ByteOf, ascii, on_by, Stands}
use Rattle.characters.specs.PlaceLaws.{in_text, at_end, from_byte, from_end, front, on_by_stands}
use Rattle.characters.specs.Blanks.{blanks, opens_blank}
use Rattle.characters.specs.BlankLaws.{bare}
use Rattle.characters.specs.Names.{is_name_byte, name, part, word_of}
use Rattle.characters.specs.Tokens.{spells, found_by, is_keyword, keyword_past, keyword}
use Rattle.characters.specs.TokenLaws.{TokenOn, keyword_on, spells_one}
use Rattle.grammar.specs.declared.heads.ItemHead.TheVariants as item
use Rattle.grammar.specs.declared.heads.StatementHead.{StatementHead}
use Rattle.grammar.specs.declared.heads.StatementHead.TheVariants as head
use Rattle.grammar.specs.declared.heads.StepHead.TheVariants as steps
use Rattle.grammar.specs.declared.heads.Assignment.{Assignment}
use Rattle.grammar.specs.declared.heads.ItemHead.{ItemHead}
use Rattle.grammar.specs.declared.heads.StepHead.{StepHead}
use Rattle.grammar.specs.Answers.{assigns}
use Rattle.grammar.specs.Operators.{assignments, any_of}
use Rattle.grammar.specs.Heads.{name_of, word_head, name_head, step_by, step_of, assigning, equals_by, assign_in, assign_of, item_by}
use Rattle.grammar.specs.HeadLaws.{NameOn, name_of_on, assign_rest}
use Rattle.grammar.proofs.Leafing.{spells_first}
use Rattle.grammar.proofs.Links.{NoneOf}

-- ---- keywords

-- no keyword stands where its first byte does not
pub no_keyword : (s : Text) (h : Place) (x : ℕ) (w : Text) → (byte_at s h.offset ≡ x → ⊥) → false ≡ is_keyword s h (x ∷ w)
no_keyword s h x w n = ap (λ (t : Bool). t && not (is_name_byte (byte_at s (h.offset + length (x ∷ w))))) (sym (spells_first s h.offset x w n))

-- any other word opens no statement
pub word_rest : (w : Word) (h q : Place) → (w ≡ words.Let → ⊥) → (w ≡ words.Fun → ⊥) → (w ≡ words.If → ⊥) → (w ≡ words.Loop → ⊥) → (w ≡ words.While → ⊥) → (w ≡ words.For → ⊥) → (w ≡ words.Return → ⊥) → (w ≡ words.Break → ⊥) → (w ≡ words.Continue → ⊥) → (w ≡ words.Assert → ⊥)
    → head.ExprOrAssign h ≡ word_head (number_of w) h q
word_rest w h q n0 n1 n2 n3 n4 n5 n6 n7 n8 n9 =
    let e0 : eqb (number_of w) 14 ≡ false = other_word w words.Return n6 in
    let e1 : eqb (number_of w) 15 ≡ false = other_word w words.Break n7 in
    let e2 : eqb (number_of w) 16 ≡ false = other_word w words.Continue n8 in
    let e3 : eqb (number_of w) 9 ≡ false = other_word w words.If n2 in
    let e4 : eqb (number_of w) 11 ≡ false = other_word w words.Loop n3 in
    let e5 : eqb (number_of w) 12 ≡ false = other_word w words.While n4 in
    let e6 : eqb (number_of w) 13 ≡ false = other_word w words.For n5 in
    let e7 : eqb (number_of w) 17 ≡ false = other_word w words.Assert n9 in
    let e8 : eqb (number_of w) 4 ≡ false = other_word w words.Let n0 in
    let e9 : eqb (number_of w) 6 ≡ false = other_word w words.Fun n1 in
    rw (e0, e1, e2, e3, e4, e5, e6, e7, e8, e9, word_head) refl

-- the statement of a name that was read, by the number of its word
pub named_head : (s : Text) (at : Place) {t : Token} {k : ℕ} {r : StatementHead} → Ok t ≡ name s at → k ≡ word_of (part s t.here.offset t.next.offset)
    → r ≡ word_head k t.here t.next → Ok r ≡ name_head s (name s at)
named_head s at {t} e f g = ap Ok (g ∙ ap (λ (k : ℕ). word_head k t.here t.next) f) ∙ ap (name_head s) e

-- ---- items

-- an item that is not the end, by whether `class` stands there
abbrev pub class_item : Place → Bool → ItemHead
class_item h t = elim t [ true ↦ item.Class h (on_by 5 h) | false ↦ item.Statement h ]

pub item_rest : {s : Text} {b : ℕ} (h : Place) → ByteOf s h.offset b → NoneOf (256 ∷ 99 ∷ []) b → item.Statement h ≡ item_by s b h
item_rest {s} {b} h g n =
    ap (class_item h) (no_keyword s h 99 (ascii "lass") (λ z. n.0.1 (g.is ∙ z)))
    ∙ ap (λ (t : Bool). elim t as (λ u. ItemHead) [ true ↦ item.End h | false ↦ class_item h (is_keyword s h (ascii "class")) ]) (sym (ne_eqb b 256 n.1))

-- ---- steps

module _ {s : Text} {h : Place} {b : ℕ} (v : Stands s h) (g : ByteOf s h.offset b) where
  pub step_rest : NoneOf (45 ∷ 43 ∷ []) b → Ok steps.Other ≡ step_of s h
  unfolding step_of
  step_rest n = none b (byte_at s (h.offset + 1)) n ∙ ap (λ (k : ℕ). step_by s k (byte_at s (h.offset + 1)) h) g.is
    where
      none : (b c : ℕ) → NoneOf (45 ∷ 43 ∷ []) b → Ok steps.Other ≡ step_by s b c h
      none b c n = rw (ne_eqb b 43 n.0.1, ne_eqb b 45 n.1, step_by) refl

  module _ {c : ℕ} (f : ByteOf s (h.offset + 1) c) where
    step_by_lem : {x : Result StepHead Refused} (k : ℕ) → b ≡ k → x ≡ step_by s k c h → x ≡ step_of s h
    unfolding step_of
    step_by_lem k z e = e ∙ ap (λ (j : ℕ). step_by s j c h) (sym z ∙ g.is) ∙ ap (λ (j : ℕ). step_by s (byte_at s h.offset) j h) f.is

    pub plus_alone : b ≡ 43 → (c ≡ 43 → ⊥) → Ok steps.Other ≡ step_of s h
    plus_alone z n = step_by_lem 43 z (let w : (Ok steps.Other) ≡ step_by s 43 c h = rw (ne_eqb c 43 n, step_by) refl in w)

    pub minus_alone : b ≡ 45 → (c ≡ 45 → ⊥) → Ok steps.Other ≡ step_of s h
    minus_alone z n = step_by_lem 45 z (let w : (Ok steps.Other) ≡ step_by s 45 c h = rw (ne_eqb c 45 n, step_by) refl in w)

    pub doubled : {x : Result StepHead Refused} (k : ℕ) → b ≡ k → c ≡ k → x ≡ step_by s k k h → x ≡ step_of s h
    doubled k z y e = step_by_lem k z (e ∙ ap (λ (j : ℕ). step_by s k j h) (sym y))

    pub two_here : (k : ℕ) → k < 256 → c ≡ k → h.offset + 2 ≤ length s
    two_here k l y =
        let z : byte_at s (h.offset + 1) ≡ k = sym f.is ∙ y in
        let i = in_text s (h.offset + 1) (omega arith) in
        omega arith

pub onward : {s : Text} {h q : Place} (n : ℕ) → Stands s h → q ≡ on_by n h → h.offset + n ≤ length s → Stands s q
onward {s} {h} n v z l = subst⁻¹ (Stands s) z (on_by_stands s n h v l).stands

-- ---- declarations

-- past the blanks not the first byte of the keyword stands
pub keyword_missing : {s : Text} {at h q : Place} {c : ℕ} (x : ℕ) (w : Text) → Stands s at → taken h q ≡ blanks s at → ByteOf s q.offset c → (c ≡ x → ⊥) → missing q ≡ keyword s at (x ∷ w)
unfolding keyword
keyword_missing {s} {at} {h} {q} x w v e g n =
    ap (λ (u : Bool). found_by u (length (x ∷ w)) q) (no_keyword s q x w (λ z. n (g.is ∙ z))) ∙ ap (keyword_past s (x ∷ w)) e

-- from past the blanks the same keyword is found, so they are passed once
pub keyword_there : {s : Text} (at : Place) {h q : Place} {c : ℕ} (x : ℕ) (w : Text) → taken h q ≡ blanks s at → ByteOf s q.offset c → c ≡ x → opens_blank x ≡ false → keyword s q w ≡ keyword s at w
unfolding keyword
keyword_there {s} at x w e g z n = ap (keyword_past s w) (sym (bare g (sym (ap opens_blank z)) n)) ∙ ap (keyword_past s w) e

module _ {s : Text} {at h : Place} {l : Look} (w : Text) (v : Stands s at) (e : Ok l ≡ keyword s at w) where
  pub past_keyword : {n : Place} → l ≡ Found h n → Stands s n
  past_keyword f = (subst (TokenOn s at w) (sym e ∙ ap Ok f) (keyword_on s at w v)).1.stands

  pub past_none : l ≡ Missing h → Stands s h
  past_none f = (subst (TokenOn s at w) (sym e ∙ ap Ok f) (keyword_on s at w v)).stands

-- a name that was read
module _ {s : Text} {at : Place} {t : Token} (v : Stands s at) (e : Ok t ≡ name_of s at) where
  named_on : NameOn s at (Ok t)
  named_on = subst (NameOn s at) (sym e) (name_of_on s at v)

  pub named_stands : Stands s t.next
  named_stands = named_on.1.stands

  -- in a short text it makes a span
  pub named_fits : length s ≤ 65535 → (t.here.offset ≤ 65535) × (t.next.offset ≤ 65535)
  named_fits l =
      let i : t.here.offset ≤ length s = named_on.0.stands.inside in
      let j : t.next.offset ≤ length s = named_on.1.stands.inside in
      (omega arith, omega arith)

-- ---- assignment signs

-- once the first byte is known, it is off the text
pub assign_first : {s : Text} {h : Place} {a : ℕ} {x : Option Assignment} (k : ℕ) → Stands s h → ByteOf s h.offset a → a ≡ k → k < 256
    → x ≡ assign_in assignments assigning (k ∷ drop (h.offset + 1) s) h → x ≡ assign_of s h
unfolding assign_of
assign_first {s} {h} k v g z l e = e ∙ ap (λ (t : Text). assign_in assignments assigning t h) (sym (from_byte s h.offset k (sym z ∙ g.is) l))

-- where none of the signs stands, only a `=` is left
no_sign : (ws : List Text) (ks : List ℕ) (t : Text) (p : Place) → any_of ws t ≡ false → equals_by (byte_at t 0) (byte_at t 1) p ≡ assign_in ws ks t p
unfolding assign_in any_of
no_sign [] ks t p e = refl
no_sign (w ∷ ws) [] t p e = refl
no_sign (w ∷ ws) (k ∷ ks) t p e = go (spells w t) e (λ f. no_sign ws ks t p f)
  where
    go : (u : Bool) → (u || any_of ws t) ≡ false → (any_of ws t ≡ false → equals_by (byte_at t 0) (byte_at t 1) p ≡ assign_in ws ks t p)
        → equals_by (byte_at t 0) (byte_at t 1) p ≡ elim u as (λ v. Option Assignment) [ true ↦ assigns k (on_by (length w) p) | false ↦ assign_in ws ks t p ]
    go true e ih = absurd (let z : ◌≡◌ {A = ℕ} 0 1 = cc in omega arith)
    go false e ih = ih e

-- none of the signs begins with the byte here
pub assign_none : {s : Text} {h : Place} {a : ℕ} → Stands s h → ByteOf s h.offset a → NoneOf (124 ∷ 94 ∷ 62 ∷ 61 ∷ 60 ∷ 47 ∷ 45 ∷ 43 ∷ 42 ∷ 38 ∷ 37 ∷ []) a → None ≡ assign_of s h
unfolding assign_of assign_in any_of spells
assign_none {s} {h} {a} v g n = go (drop h.offset s) (front s h.offset ∙ sym g.is)
  where
    go : (t : Text) → byte_at t 0 ≡ a → None ≡ assign_in assignments assigning t h
    go [] e = refl
    go (y ∷ t) e =
        let f : any_of assignments (y ∷ t) ≡ false =
        rw (
          ne_eqb 60 y (λ z. n.0.0.0.0.1 (sym e ∙ sym z)),
          ne_eqb 62 y (λ z. n.0.0.1 (sym e ∙ sym z)),
          ne_eqb 42 y (λ z. n.0.0.0.0.0.0.0.0.1 (sym e ∙ sym z)),
          ne_eqb 47 y (λ z. n.0.0.0.0.0.1 (sym e ∙ sym z)),
          ne_eqb 37 y (λ z. n.0.0.0.0.0.0.0.0.0.0.1 (sym e ∙ sym z)),
          ne_eqb 43 y (λ z. n.0.0.0.0.0.0.0.1 (sym e ∙ sym z)),
          ne_eqb 45 y (λ z. n.0.0.0.0.0.0.1 (sym e ∙ sym z)),
          ne_eqb 38 y (λ z. n.0.0.0.0.0.0.0.0.0.1 (sym e ∙ sym z)),
          ne_eqb 94 y (λ z. n.0.1 (sym e ∙ sym z)),
          ne_eqb 124 y (λ z. n.1 (sym e ∙ sym z)),
        ) refl in
        let d : None ≡ equals_by y (byte_at t 0) h = rw (ne_eqb y 61 (λ z. n.0.0.0.1 (sym e ∙ z)), equals_by) refl in
        d ∙ no_sign assignments assigning (y ∷ t) h f

-- after a `=`
module _ {s : Text} {h : Place} {b : ℕ} (v : Stands s h) (f : ByteOf s (h.offset + 1) b) where
  equals_by_lem : {x : Option Assignment} → x ≡ equals_by 61 b h → x ≡ assign_in assignments assigning (61 ∷ drop (h.offset + 1) s) h
  unfolding assign_in spells
  equals_by_lem e = e ∙ ap (λ (c : ℕ). equals_by 61 c h) (f.is ∙ sym (front s (h.offset + 1)))

  pub equals_twice : b ≡ 61 → None ≡ assign_in assignments assigning (61 ∷ drop (h.offset + 1) s) h
  equals_twice z = equals_by_lem (ap (λ (c : ℕ). equals_by 61 c h) (sym z))

  pub equals_once : {n : Place} → (b ≡ 61 → ⊥) → n ≡ on_by 1 h → assigns 0 n ≡ assign_in assignments assigning (61 ∷ drop (h.offset + 1) s) h
  equals_once n z = ap (assigns 0) z ∙ equals_by_lem (let w : assigns 0 (on_by 1 h) ≡ equals_by 61 b h = rw (ne_eqb b 61 n, equals_by) refl in w)

-- an assignment, by whether the rest of its sign stands there
abbrev rest_by : Text → ℕ → Place → Bool → Option Assignment
rest_by w op p t = elim t [ true ↦ assigns op (on_by (1 + length w) p) | false ↦ None ]

module _ {s : Text} {h : Place} {b : ℕ} (op : ℕ) (v : Stands s h) (f : ByteOf s (h.offset + 1) b) where
  -- by whether a `=` follows
  compound_by : {t : Bool} → eqb 61 b ≡ t → rest_by (ascii "=") op h t ≡ assign_rest (ascii "=") op (drop (h.offset + 1) s) h
  compound_by e = ap (rest_by (ascii "=") op h) (sym e ∙ ap (eqb 61) f.is ∙ sym (spells_one s (h.offset + 1) 61 (omega arith)))

  pub compound_none : (b ≡ 61 → ⊥) → None ≡ assign_rest (ascii "=") op (drop (h.offset + 1) s) h
  compound_none n = compound_by (ne_eqb 61 b (λ z. n (sym z)))

  pub compound_taken : {n : Place} → b ≡ 61 → n ≡ on_by 2 h → assigns op n ≡ assign_rest (ascii "=") op (drop (h.offset + 1) s) h
  compound_taken z y = ap (assigns op) y ∙ compound_by (eq-eqb 61 b (sym z))

  module _ (a : ℕ) (l : a < 256) where
    -- by whether the byte and a `=` follow
    shift_by : {t u : Bool} → eqb a b ≡ t → (t && eqb 61 (byte_at s (h.offset + 2))) ≡ u
        → rest_by (a ∷ 61 ∷ []) op h u ≡ assign_rest (a ∷ 61 ∷ []) op (drop (h.offset + 1) s) h
    unfolding spells
    shift_by {t} {u} e d =
        ap (rest_by (a ∷ 61 ∷ []) op h) (sym d ∙ ap (λ (x : Bool). x && eqb 61 (byte_at s (h.offset + 2))) (sym e ∙ ap (eqb a) f.is) ∙ sym (two (ltb o (length s)) refl))
      where
        o : ℕ
        o = h.offset + 1

        two : (t : Bool) → ltb o (length s) ≡ t → spells (a ∷ 61 ∷ []) (drop o s) ≡ (eqb a (byte_at s o) && eqb 61 (byte_at s (h.offset + 2)))
        two true z =
            let i : suc o ≡ h.offset + 2 = omega arith in
            ap (spells (a ∷ 61 ∷ [])) (drop-cons s o 256 (ltb-true o (length s) z))
            ∙ ap (λ (x : Bool). eqb a (byte_at s o) && x) (spells_one s (suc o) 61 (omega arith) ∙ ap (λ (k : ℕ). eqb 61 (byte_at s k)) i)
        two false z =
            let i : length s ≤ o = ltb-false o (length s) z in
            let j : byte_at s o ≡ 256 = at_end s o i in
            ap (spells (a ∷ 61 ∷ [])) (from_end s o i)
            ∙ ap (λ (x : Bool). x && eqb 61 (byte_at s (h.offset + 2))) (sym (ne_eqb a (byte_at s o) (λ k. omega arith)))

    pub shift_none : (b ≡ a → ⊥) → None ≡ assign_rest (a ∷ 61 ∷ []) op (drop (h.offset + 1) s) h
    shift_none n = shift_by (ne_eqb a b (λ z. n (sym z))) refl

    module _ {c : ℕ} (z : b ≡ a) (g : ByteOf s (h.offset + 2) c) where
      pub shift_alone : (c ≡ 61 → ⊥) → None ≡ assign_rest (a ∷ 61 ∷ []) op (drop (h.offset + 1) s) h
      shift_alone n = shift_by (eq-eqb a b (sym z)) (ne_eqb 61 (byte_at s (h.offset + 2)) (λ y. n (g.is ∙ sym y)))

      pub shift_taken : {n : Place} → c ≡ 61 → n ≡ on_by 3 h → assigns op n ≡ assign_rest (a ∷ 61 ∷ []) op (drop (h.offset + 1) s) h
      shift_taken y w = ap (assigns op) w ∙ shift_by (eq-eqb a b (sym z)) (eq-eqb 61 (byte_at s (h.offset + 2)) (sym (sym g.is ∙ y)))
