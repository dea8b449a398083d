-- What the leaves show on the way. Assumes nothing.
use mathlib.Core.Path.{◌≡◌, refl, sym, ap, subst, subst⁻¹, ◌∙◌}
use mathlib.Core.Bool.{Bool, true, false, ◌&&◌, ◌||◌, not}
use mathlib.Core.List.{[], ◌∷◌}
use mathlib.Core.Logic.{◌⊎◌, inl, inr}
use Prim.Native.Nat.{ℕ, zero, suc, ◌+◌, ◌≤◌, ◌<◌}
use native.Mathlib.Omega.{arith}
use lib.Dec.{eqb}
use lib.ListN.{length, drop, length-drop}
use borrow.Author.Tests.{ne_eqb}
use Rattle.std.specs.Prelude.{Ok, Err, Result}
use Rattle.characters.specs.declared.place.Place.{Place}
use Rattle.characters.specs.declared.refusal.Refusal.TheVariants.{ExpectedToken, PostfixIncrement}
use Rattle.characters.specs.declared.refusal.Refused.{Refused}
use Rattle.characters.specs.declared.place.Token.{Token}
use Rattle.characters.specs.Answers.{Looked, Must, failed, found, missing, taken}
use Rattle.characters.specs.Text.{Text, byte_at, ByteOf, ascii, on_by, past, Stands}
use Rattle.characters.specs.PlaceLaws.{front, past_offset, on_by_stands}
use Rattle.characters.specs.Blanks.{is_blank, begins, Mode, between, line, block, passing, out, pass, blanks}
use Rattle.characters.specs.BlankLaws.{PassedOn, blanks_on, rest}
use Rattle.characters.specs.Names.{is_name_byte, name}
use Rattle.characters.specs.NameLaws.{NamedOn, name_on}
use Rattle.characters.specs.Tokens.{spells, found_by, is_keyword, needed, expected}
use Rattle.characters.specs.TokenLaws.{spells_fits, sign_token}
use Rattle.literals.specs.NumberLaws.{choice}
use Rattle.grammar.specs.declared.leaves.Postfix.TheVariants as post
use Rattle.grammar.specs.declared.leaves.Suffix.TheVariants as suffix
use Rattle.grammar.specs.declared.leaves.Postfix.{Postfix}
use Rattle.grammar.specs.LeafLaws.{follow_at}
use Rattle.grammar.specs.Leaves.{member_by, instance_past, postfix_by, comma_by, follow_by, follow_of}

-- past the blanks the text goes on
pub passed : {s : Text} {at h q : Place} → Stands s at → taken h q ≡ blanks s at → Stands s q
passed {s} {at} v e = (subst (PassedOn s at at) (sym e) (blanks_on s at v)).1.stands

-- blanks begin where they were looked for
pub begun : {s : Text} {at : Place} {t : Token} → Stands s at → Ok t ≡ blanks s at → taken at t.next ≡ blanks s at
begun {s} {at} {t} v e = ap (λ (p : Place). taken p t.next) (sym (subst (PassedOn s at at) (sym e) (blanks_on s at v)).0) ∙ e

-- ---- names of members and classes

-- a name in a short text makes a span
pub name_fits : {s : Text} {p : Place} {t : Token} → Stands s p → length s ≤ 65535 → Ok t ≡ name s p → (t.here.offset ≤ 65535) × (t.next.offset ≤ 65535)
name_fits {s} {p} {t} v l e =
    let g : NamedOn s p (Ok t) = subst (NamedOn s p) (sym e) (name_on s p v) in
    let z : t.here.offset ≡ p.offset = ap (λ (x : Place). x.offset) g.0 in
    let i : p.offset ≤ length s = v.inside in
    let j : t.next.offset ≤ length s = g.1.stands.inside in
    (omega arith, omega arith)

pub member_stands : {s : Text} {p h : Place} → Stands s h → p ≡ on_by 1 h → h.offset < length s → Stands s p
member_stands {s} {h} v z l = subst⁻¹ (Stands s) z (on_by_stands s 1 h v (omega arith)).stands

-- ---- `instanceof`

-- a word does not stand where another byte does
pub spells_first : (s : Text) (o x : ℕ) (w : Text) → (byte_at s o ≡ x → ⊥) → spells (x ∷ w) (drop o s) ≡ false
unfolding spells
spells_first s o x w n = go (drop o s) (front s o)
  where
    go : (t : Text) → byte_at t 0 ≡ byte_at s o → spells (x ∷ w) t ≡ false
    go [] e = refl
    go (y ∷ t) e = rw (ne_eqb x y (λ z. n (sym e ∙ sym z))) refl

no_instance : (s : Text) (h : Place) → (byte_at s h.offset ≡ 105 → ⊥) → is_keyword s h (ascii "instanceof") ≡ false
no_instance s h n = ap (λ (t : Bool). t && not (is_name_byte (byte_at s (h.offset + 10)))) (spells_first s h.offset 105 (ascii "nstanceof") n)

-- what follows `instanceof` if it stands there, or else something
abbrev class_or : Text → Place → Result Postfix Refused → Bool → Result Postfix Refused
class_or s h x t = elim t [ true ↦ instance_past s h (blanks s (on_by 10 h)) | false ↦ x ]

-- over its bytes, which stand here, the text goes on
pub instance_stands : {s : Text} {h n : Place} {t : Bool} → Stands s h → t ≡ spells (ascii "instanceof") (drop h.offset s) → t ≡ true → n ≡ on_by 10 h → Stands s n
instance_stands {s} {h} v g z y =
    let l = spells_fits (ascii "instanceof") (drop h.offset s) (sym g ∙ z) in
    let d = length-drop h.offset s in
    let i : h.offset ≤ length s = v.inside in
    subst⁻¹ (Stands s) y (on_by_stands s 10 h v (omega arith)).stands

-- ---- what follows a base

-- the tests of `postfix_by`, apart from their bytes
abbrev postfix_tests : Text → Place → Bool → Bool → Bool → Bool → Result Postfix Refused
postfix_tests s h call index dot double =
    elim call [
      | true ↦ Ok (post.More (suffix.Call h (on_by 1 h)))
      | false ↦ elim index [
        | true ↦ Ok (post.More (suffix.Index h (on_by 1 h)))
        | false ↦ elim dot [
          | true ↦ member_by h (name s (on_by 1 h))
          | false ↦ class_or s h (elim double [ true ↦ failed PostfixIncrement (on_by 2 h) | false ↦ Ok (post.Rest h) ]) (is_keyword s h (ascii "instanceof"))
        ]
      ]
    ]

-- by the bytes that stand there
module _ {s : Text} {h : Place} {b : ℕ} (v : Stands s h) (g : ByteOf s h.offset b) where
  -- once the first byte is known
  postfix_by_lem : (k : ℕ) {x : Result Postfix Refused} → b ≡ k → x ≡ postfix_by s k (byte_at s (h.offset + 1)) h → x ≡ postfix_by s (byte_at s h.offset) (byte_at s (h.offset + 1)) h
  postfix_by_lem k z e = e ∙ ap (λ (x : ℕ). postfix_by s x (byte_at s (h.offset + 1)) h) (sym z ∙ g.is)

  no_class : (k : ℕ) → b ≡ k → (k ≡ 105 → ⊥) → (x : Result Postfix Refused) → x ≡ class_or s h x (is_keyword s h (ascii "instanceof"))
  no_class k z n x = ap (class_or s h x) (sym (no_instance s h (λ e. n (sym z ∙ g.is ∙ e))))

  pub postfix_none : (b ≡ 40 → ⊥) → (b ≡ 91 → ⊥) → (b ≡ 46 → ⊥) → (b ≡ 105 → ⊥) → ((b ≡ 43) ⊎ (b ≡ 45) → ⊥) → Ok (post.Rest h) ≡ postfix_by s (byte_at s h.offset) (byte_at s (h.offset + 1)) h
  postfix_none n₁ n₂ n₃ n₄ n₅ = postfix_by_lem b refl (no_class b refl n₄ (Ok (post.Rest h)) ∙ sym (none b (byte_at s (h.offset + 1)) n₁ n₂ n₃ n₅))
    where
      none : (b c : ℕ) → (b ≡ 40 → ⊥) → (b ≡ 91 → ⊥) → (b ≡ 46 → ⊥) → ((b ≡ 43) ⊎ (b ≡ 45) → ⊥) → postfix_by s b c h ≡ class_or s h (Ok (post.Rest h)) (is_keyword s h (ascii "instanceof"))
      none b c n₁ n₂ n₃ n₅ =
          let d = (eqb b 43 && eqb c 43) || (eqb b 45 && eqb c 45) in
          let x : d ≡ false = rw (ne_eqb b 43 (λ z. n₅ (inl z)), ne_eqb b 45 (λ z. n₅ (inr z))) refl in
          ap (λ (t : Bool). postfix_tests s h t (eqb b 91) (eqb b 46) d) (ne_eqb b 40 n₁)
          ∙ ap (λ (t : Bool). postfix_tests s h false t (eqb b 46) d) (ne_eqb b 91 n₂)
          ∙ ap (λ (t : Bool). postfix_tests s h false false t d) (ne_eqb b 46 n₃)
          ∙ ap (λ (t : Bool). postfix_tests s h false false false t) x

  module _ {c : ℕ} (w : (b ≡ 43) ⊎ (b ≡ 45)) (f : ByteOf s (h.offset + 1) c) where
    pub postfix_double : {n : Place} → c ≡ b → n ≡ on_by 2 h → failed PostfixIncrement n ≡ postfix_by s (byte_at s h.offset) (byte_at s (h.offset + 1)) h
    postfix_double {n} y v = ap (failed PostfixIncrement) v ∙ by w
      where
        to : (k : ℕ) → b ≡ k → (k ≡ 105 → ⊥) → class_or s h (failed PostfixIncrement (on_by 2 h)) (is_keyword s h (ascii "instanceof")) ≡ postfix_by s k k h → failed PostfixIncrement (on_by 2 h) ≡ postfix_by s (byte_at s h.offset) (byte_at s (h.offset + 1)) h
        to k z n e = postfix_by_lem k z (no_class k z n (failed PostfixIncrement (on_by 2 h)) ∙ e ∙ ap (λ (x : ℕ). postfix_by s k x h) (sym z ∙ sym y ∙ f.is))

        by : (b ≡ 43) ⊎ (b ≡ 45) → failed PostfixIncrement (on_by 2 h) ≡ postfix_by s (byte_at s h.offset) (byte_at s (h.offset + 1)) h
        by (inl z) = to 43 z (λ e. omega arith) refl
        by (inr z) = to 45 z (λ e. omega arith) refl

    pub postfix_single : (c ≡ b → ⊥) → Ok (post.Rest h) ≡ postfix_by s (byte_at s h.offset) (byte_at s (h.offset + 1)) h
    postfix_single m = by w
      where
        plus : (c : ℕ) → (c ≡ 43 → ⊥) → class_or s h (Ok (post.Rest h)) (is_keyword s h (ascii "instanceof")) ≡ postfix_by s 43 c h
        plus c n = sym (ap (λ (t : Bool). postfix_tests s h false false false (t || false)) (ne_eqb c 43 n))

        minus : (c : ℕ) → (c ≡ 45 → ⊥) → class_or s h (Ok (post.Rest h)) (is_keyword s h (ascii "instanceof")) ≡ postfix_by s 45 c h
        minus c n = sym (ap (λ (t : Bool). postfix_tests s h false false false t) (ne_eqb c 45 n))

        by : (b ≡ 43) ⊎ (b ≡ 45) → Ok (post.Rest h) ≡ postfix_by s (byte_at s h.offset) (byte_at s (h.offset + 1)) h
        by (inl z) = postfix_by_lem 43 z (no_class 43 z (λ e. omega arith) (Ok (post.Rest h)) ∙ plus c (λ k. m (k ∙ sym z)) ∙ ap (λ (x : ℕ). postfix_by s 43 x h) f.is)
        by (inr z) = postfix_by_lem 45 z (no_class 45 z (λ e. omega arith) (Ok (post.Rest h)) ∙ minus c (λ k. m (k ∙ sym z)) ∙ ap (λ (x : ℕ). postfix_by s 45 x h) f.is)

-- ---- what follows an element

-- past the blanks there are no more
abbrev Settled : Text → Must → Type 0
Settled s (Ok t) = taken t.next t.next ≡ blanks s t.next
Settled s (Err e) = Unit {0}

settled : (s : Text) (at : Place) (l : Text) (m : Mode) (p : Place) → l ≡ drop p.offset s → Settled s (pass at m l p)
unfolding pass blanks
settled s at [] between p e = ap (λ (x : Text). pass p between x p) e
settled s at [] line p e = ap (λ (x : Text). pass p between x p) e
settled s at [] (block d) p e = tt
settled s at [] (passing m) p e = ap (λ (x : Text). pass p between x p) e
settled s at (b ∷ l) m p e = go (λ n. settled s at l n (past b p) ((rest s p.offset b l e).1 ∙ ap (λ (o : ℕ). drop o s) (sym (past_offset b p)))) m
  where
    P : Must → Type 0
    P = Settled s

    go : ((n : Mode) → P (pass at n l (past b p))) → (m : Mode) → P (pass at m (b ∷ l) p)
    go on between =
        choice P (is_blank b) (λ x. on between)
        (λ x. choice P (begins 47 47 b l) (λ y. on line)
        (λ y. choice P (begins 47 42 b l) (λ z. on (passing (block zero)))
        (λ z. let t : pass p between (b ∷ l) p ≡ taken p p = rw (x, y, z, pass) refl in sym t ∙ ap (λ (k : Text). pass p between k p) e)))
    go on line = choice P (eqb b 10) (λ x. on between) (λ x. on line)
    go on (block d) = choice P (begins 47 42 b l) (λ x. on (passing (block (suc d)))) (λ x. choice P (begins 42 47 b l) (λ y. on (passing (out d))) (λ y. on (block d)))
    go on (passing n) = on n

-- so the byte there decides, for the closing sign and for a comma
pub follow_past : {s : Text} {at q : Place} {c end : ℕ} {x : Looked} → Stands s at → taken at q ≡ blanks s at → ByteOf s q.offset c → end < 256
    → x ≡ follow_at c end q → x ≡ follow_of s at end
unfolding follow_of expected blanks
follow_past {s} {at} {q} {c} {end} v e g l z =
    z
    ∙ sym (go (eqb end c))
    ∙ ap (follow_by s) (ap (λ (x : ℕ). found_by (eqb end x) 1 q) g.is ∙ sym (sign_token s at l e))
  where
    again : taken q q ≡ blanks s q
    again = subst (Settled s) (sym e) (settled s at (drop at.offset s) between at refl)

    comma : (u : Bool) → comma_by (needed (found_by u 1 q)) ≡ elim u as (λ w. Looked) [ true ↦ missing (on_by 1 q) | false ↦ failed ExpectedToken q ]
    comma true = refl
    comma false = refl

    go : (u : Bool) → follow_by s (found_by u 1 q) ≡ elim u as (λ w. Looked) [ true ↦ found q (on_by 1 q) | false ↦ elim (eqb 44 c) as (λ w. Looked) [ true ↦ missing (on_by 1 q) | false ↦ failed ExpectedToken q ] ]
    go true = refl
    go false = ap (λ (m : Looked). comma_by (needed m)) (sign_token s q (omega arith) again ∙ ap (λ (x : ℕ). found_by (eqb 44 x) 1 q) (sym g.is)) ∙ comma (eqb 44 c)
