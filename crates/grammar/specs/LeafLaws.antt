-- Laws of the leaves: where each leads. Assumes nothing.
use Rattle.std.specs.Prelude.{◌≡◌, refl, Bool, true, false, ◌&&◌, ◌||◌, not, ℕ, ◌+◌, ◌≤◌, ◌<◌, ltb, eqb, length, drop, Err, Ok, Result}
use Rattle.std.proofs.Common.{sym, ◌∙◌, arith, length-drop, ltb-true, ltb-false, eqb-true, ne_eqb}
use Rattle.std.proofs.lemmas.Bool.{eqb-false}
use Rattle.characters.specs.declared.place.Place.{Place}
use Rattle.characters.specs.declared.refusal.Refusal.TheVariants.{EndOfInput, ExpectedToken, PostfixIncrement, IncrementAsExpression}
use Rattle.characters.specs.declared.refusal.Refused.{Refused}
use Rattle.characters.specs.Answers.{Looked, Must, failed, found, missing}
use Rattle.characters.specs.Text.{Text, byte_at, ascii, on_by, Stands}
use Rattle.characters.specs.PlaceLaws.{Reached, Advanced, reached_on, advanced_on, advanced_reached, in_text, at_end, on_by_stands}
use Rattle.characters.specs.Blanks.{blanks}
use Rattle.characters.specs.BlankLaws.{PassedOn, blanks_on}
use Rattle.characters.specs.Names.{is_name_byte, name}
use Rattle.characters.specs.NameLaws.{NamedOn, name_on}
use Rattle.characters.specs.Tokens.{is_token, is_keyword}
use Rattle.characters.specs.TokenLaws.{spells_fits}
use Rattle.literals.specs.Strings.{is_quote, string}
use Rattle.literals.specs.SpellingLaws.{string_accepted}
use Rattle.grammar.specs.declared.leaves.Prefix.TheVariants as prefix
use Rattle.grammar.specs.declared.leaves.Postfix.TheVariants as post
use Rattle.grammar.specs.declared.leaves.Suffix.TheVariants as suffix
use Rattle.grammar.specs.declared.leaves.Postfix.{Postfix}
use Rattle.grammar.specs.declared.leaves.Prefix.{Prefix}
use Rattle.grammar.specs.Leaves.{prefix_past, prefix_of, member_by, instance_by, instance_past, postfix_past, postfix_of, close_past, close_of, key_at}

-- over a byte that stands in the text
pub one_on : (s : Text) (h : Place) → Stands s h → byte_at s h.offset < 256 → Advanced s h (on_by 1 h)
one_on s h st l =
    let i : h.offset < length s = in_text s h.offset l in
    record { stands = (on_by_stands s 1 h st (omega arith)).stands; further = omega arith }

-- ---- prefix signs

-- where a prefix leads: past the blanks, and over a sign
abbrev pub PrefixOn : Text → Place → Result Prefix Refused → Type 0
PrefixOn s p (Ok (prefix.Sign sign h n)) = Reached s p h × Advanced s h n
PrefixOn s p (Ok (prefix.Other h)) = Reached s p h
PrefixOn s p (Err e) = Unit {0}

sign_low : (b : ℕ) → (eqb b 33 || eqb b 45 || eqb b 43) ≡ true → b < 256
sign_low b e = go (ltb b 256) refl
  where
    go : (t : Bool) → ltb b 256 ≡ t → b < 256
    go true z = ltb-true b 256 z
    go false z =
        let l : 256 ≤ b = ltb-false b 256 z in
        let w : ◌≡◌ {A = Bool} false true = sym (rw (ne_eqb b 33 (λ k. omega arith), ne_eqb b 45 (λ k. omega arith), ne_eqb b 43 (λ k. omega arith)) refl) ∙ e in
        let v : ◌≡◌ {A = ℕ} 0 1 = cc in
        absurd (omega arith)

pub prefix_on : (s : Text) (p : Place) → Stands s p → PrefixOn s p (prefix_of s p)
unfolding prefix_of
prefix_on s p st = go (blanks s p) (blanks_on s p st)
  where
    by : (b : ℕ) (h : Place) → b ≡ byte_at s h.offset → Reached s p h → (x y : Bool) → (eqb b 33 || eqb b 45 || eqb b 43) ≡ y
        → PrefixOn s p (elim x as (λ t. Result Prefix Refused) [ true ↦ failed IncrementAsExpression h | false ↦ elim y as (λ t. Result Prefix Refused) [ true ↦ Ok (prefix.Sign b h (on_by 1 h)) | false ↦ Ok (prefix.Other h) ] ])
    by b h z a true y e = tt
    by b h z a false true e = let l = sign_low b e in (a, one_on s h a.stands (omega arith))
    by b h z a false false e = a

    go : (r : Must) → PassedOn s p p r → PrefixOn s p (prefix_past s r)
    go (Ok t) g =
        let b = byte_at s t.next.offset in
        let c = byte_at s (t.next.offset + 1) in
        by b t.next refl g.1 ((eqb b 43 && eqb c 43) || (eqb b 45 && eqb c 45)) (eqb b 33 || eqb b 45 || eqb b 43) refl
    go (Err e) g = tt

-- ---- what follows a base

-- where a postfix leads: past the blanks, and over what it is
abbrev pub PostfixOn : Text → Place → Result Postfix Refused → Type 0
PostfixOn s p (Ok (post.More (suffix.Call h n))) = Reached s p h × Advanced s p n
PostfixOn s p (Ok (post.More (suffix.Index h n))) = Reached s p h × Advanced s p n
PostfixOn s p (Ok (post.More (suffix.Member h span n))) = Reached s p h × Advanced s p n
PostfixOn s p (Ok (post.More (suffix.InstanceOf h span n))) = Reached s p h × Advanced s p n
PostfixOn s p (Ok (post.Rest h)) = Reached s p h
PostfixOn s p (Err e) = Unit {0}

member_on : (s : Text) (p h n : Place) → Reached s p h → Reached s p n → (r : Must) → NamedOn s n r → PostfixOn s p (member_by h r)
member_on s p h n a b (Ok t) g = (a, advanced_on b g.1)
member_on s p h n a b (Err e) g = tt

class_on : (s : Text) (p h n : Place) → Reached s p h → Reached s p n → (r : Must) → NamedOn s n r → PostfixOn s p (instance_by h r)
class_on s p h n a b (Ok t) g = (a, advanced_on b g.1)
class_on s p h n a b (Err e) g = tt

instance_on : (s : Text) (p h n : Place) → Reached s p h → Reached s p n → (r : Must) → PassedOn s n n r → PostfixOn s p (instance_past s h r)
instance_on s p h n a b (Ok t) g = class_on s p h t.next a (reached_on b g.1) (name s t.next) (name_on s t.next g.1.stands)
instance_on s p h n a b (Err e) g = tt

-- a keyword fits into the text
keyword_fits : (s : Text) (h : Place) (w : Text) → Stands s h → is_keyword s h w ≡ true → Reached s h (on_by (length w) h)
keyword_fits s h w st e =
    let l = spells_fits w (drop h.offset s) (left (is_token s h w) (not (is_name_byte (byte_at s (h.offset + length w)))) e) in
    let d = length-drop h.offset s in
    let i : h.offset ≤ length s = st.inside in
    on_by_stands s (length w) h st (omega arith)
  where
    left : (u v : Bool) → (u && v) ≡ true → u ≡ true
    left true v e = refl
    left false v e = e

-- by the tests of `postfix_by`, each with what it shows
postfix_by_lem : (s : Text) (p h : Place) → Reached s p h → (b : ℕ) → b ≡ byte_at s h.offset → (call index dot class double : Bool)
    → eqb b 40 ≡ call → eqb b 91 ≡ index → eqb b 46 ≡ dot → is_keyword s h (ascii "instanceof") ≡ class
    → PostfixOn s p (elim call as (λ t. Result Postfix Refused) [ true ↦ Ok (post.More (suffix.Call h (on_by 1 h))) | false ↦ elim index as (λ t. Result Postfix Refused) [ true ↦ Ok (post.More (suffix.Index h (on_by 1 h))) | false ↦ elim dot as (λ t. Result Postfix Refused) [ true ↦ member_by h (name s (on_by 1 h)) | false ↦ elim class as (λ t. Result Postfix Refused) [ true ↦ instance_past s h (blanks s (on_by 10 h)) | false ↦ elim double as (λ t. Result Postfix Refused) [ true ↦ failed PostfixIncrement (on_by 2 h) | false ↦ Ok (post.Rest h) ] ] ] ] ])
postfix_by_lem s p h a b z true index dot class double c i d k = let y = eqb-true b 40 c in (a, advanced_on a (one_on s h a.stands (omega arith)))
postfix_by_lem s p h a b z false true dot class double c i d k = let y = eqb-true b 91 i in (a, advanced_on a (one_on s h a.stands (omega arith)))
postfix_by_lem s p h a b z false false true class double c i d k =
    let y = eqb-true b 46 d in
    let o = one_on s h a.stands (omega arith) in
    member_on s p h (on_by 1 h) a (reached_on a (advanced_reached o)) (name s (on_by 1 h)) (name_on s (on_by 1 h) o.stands)
postfix_by_lem s p h a b z false false false true double c i d k =
    let o : Reached s h (on_by 10 h) = keyword_fits s h (ascii "instanceof") a.stands k in
    instance_on s p h (on_by 10 h) a (reached_on a o) (blanks s (on_by 10 h)) (blanks_on s (on_by 10 h) o.stands)
postfix_by_lem s p h a b z false false false false true c i d k = tt
postfix_by_lem s p h a b z false false false false false c i d k = a

pub postfix_on : (s : Text) (p : Place) → Stands s p → PostfixOn s p (postfix_of s p)
unfolding postfix_of
postfix_on s p st = go (blanks s p) (blanks_on s p st)
  where
    go : (r : Must) → PassedOn s p p r → PostfixOn s p (postfix_past s r)
    go (Ok t) g =
        let b = byte_at s t.next.offset in
        let c = byte_at s (t.next.offset + 1) in
        postfix_by_lem s p t.next g.1 b refl (eqb b 40) (eqb b 91) (eqb b 46) (is_keyword s t.next (ascii "instanceof")) ((eqb b 43 && eqb c 43) || (eqb b 45 && eqb c 45)) refl refl refl refl
    go (Err e) g = tt

-- ---- lists

-- where the close of a list leads: over it, or to an element
abbrev pub CloseOn : Text → Place → Looked → Type 0
CloseOn s p (found h n) = Advanced s p n
CloseOn s p (missing h) = Reached s p h × (h.offset < length s)
CloseOn s p (Err e) = e.refusal ≡ EndOfInput

-- the text has not ended where a byte stands
here_in : (s : Text) (o : ℕ) → (byte_at s o ≡ 256 → ⊥) → o < length s
here_in s o n = go (ltb o (length s)) refl
  where
    go : (t : Bool) → ltb o (length s) ≡ t → o < length s
    go true z = ltb-true o (length s) z
    go false z = absurd (n (at_end s o (ltb-false o (length s) z)))

pub close_on : (s : Text) (p : Place) (end : ℕ) → Stands s p → CloseOn s p (close_of s p end)
unfolding close_of
close_on s p end st = go (blanks s p) (blanks_on s p st)
  where
    by : (b : ℕ) (h : Place) → b ≡ byte_at s h.offset → Reached s p h → (x y : Bool) → eqb b 256 ≡ x
        → CloseOn s p (elim x as (λ t. Looked) [ true ↦ failed EndOfInput h | false ↦ elim y as (λ t. Looked) [ true ↦ found h (on_by 1 h) | false ↦ missing h ] ])
    by b h z a true y e = refl
    by b h z a false true e =
        let l = here_in s h.offset (λ k. eqb-false b 256 e (z ∙ k)) in
        advanced_on a (record { stands = (on_by_stands s 1 h a.stands (omega arith)).stands; further = omega arith })
    by b h z a false false e = (a, here_in s h.offset (λ k. eqb-false b 256 e (z ∙ k)))

    go : (r : Must) → PassedOn s p p r → CloseOn s p (close_past s end r)
    go (Ok t) g = by (byte_at s t.next.offset) t.next refl g.1 (eqb (byte_at s t.next.offset) 256) (eqb (byte_at s t.next.offset) end) refl
    go (Err e) g = g.0

-- ---- dictionary keys

-- where a key leads: over it
abbrev pub KeyOn : Text → Place → Must → Type 0
KeyOn s p (Ok t) = (t.here ≡ p) × Advanced s p t.next
KeyOn s p (Err e) = Unit {0}

pub key_on : (s : Text) (p : Place) → Stands s p → KeyOn s p (key_at s p)
unfolding key_at
key_on s p st = go (is_quote (byte_at s p.offset))
  where
    by_string : (r : Must) → string s p ≡ r → KeyOn s p r
    by_string (Ok t) e =
        let i = string_accepted s p t.here t.next st e in
        let l : p.offset + 2 ≤ t.next.offset = i.quoted in
        (i.begins, record { stands = i.stands; further = omega arith })
    by_string (Err f) e = tt

    by_name : (r : Must) → NamedOn s p r → KeyOn s p r
    by_name (Ok t) g = (g.0, g.1)
    by_name (Err e) g = tt

    go : (t : Bool) → KeyOn s p (elim t as (λ u. Must) [ true ↦ string s p | false ↦ name s p ])
    go true = by_string (string s p) refl
    go false = by_name (name s p) (name_on s p st)

-- ---- after an element, where no blank stands

-- the closing sign, or a comma, which is taken; by the byte here
abbrev pub follow_at : ℕ → ℕ → Place → Looked
follow_at b end h =
    elim (eqb end b) [ true ↦ found h (on_by 1 h) | false ↦ elim (eqb 44 b) [ true ↦ missing (on_by 1 h) | false ↦ failed ExpectedToken h ] ]
