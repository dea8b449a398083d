-- What the readers of tokens show on the way. Assumes nothing.
use mathlib.Core.Path.{◌≡◌, refl, sym, ap, subst, ◌∙◌}
use mathlib.Core.Bool.{Bool, true, false, ◌&&◌}
use mathlib.Core.List.{[], ◌∷◌}
use Prim.Native.Nat.{ℕ, suc, ◌+◌, ◌-◌, ◌≤◌, ◌<◌}
use native.Mathlib.Omega.{arith}
use native.Mathlib.Numerals.{add-one}
use lib.Dec.{eqb}
use lib.ListN.{length, get_or, drop, length-drop, drop_of_length-le}
use lib.Seq.{take_all, drop-cons}
use borrow.Author.Tests.{eq-eqb, ne_eqb}
use Rattle.std.specs.Prelude.{Ok, nat_eq}
use Rattle.std.specs.List.{starts_with, slice_range}
use Rattle.characters.specs.declared.place.Place.{Place}
use Rattle.characters.specs.declared.tokens.Look.{Look}
use Rattle.characters.specs.declared.place.Token.{Token}
use Rattle.characters.specs.Text.{Text, ByteOf, Stands}
use Rattle.characters.specs.PlaceLaws.{Reached}
use Rattle.characters.specs.Blanks.{blanks}
use Rattle.characters.specs.BlankLaws.{PassedOn, blanks_on}
use Rattle.characters.specs.Tokens.{spells, look_by, found_by, token}
use Rattle.characters.specs.TokenLaws.{spells_fits, sign_token}

-- ---- the bytes of a token

starts : (w t : Text) → starts_with nat_eq t w ≡ spells w t
unfolding spells
starts [] t = refl
starts (x ∷ w) [] = refl
starts (x ∷ w) (b ∷ t) = ap (λ (u : Bool). eqb x b && u) (starts w t)

-- std's word for what a text goes on with
pub starts_spelled : (s w : Text) (o : ℕ) → starts_with nat_eq (slice_range s o (length s)) w ≡ spells w (drop o s)
starts_spelled s w o = ap (λ (x : Text). starts_with nat_eq x w) (take_all (length s - o) (drop o s) (let d = length-drop o s in omega arith)) ∙ starts w (drop o s)

-- what is left to compare decides the whole
pub record Spelling (s : Text) (from : ℕ) (w : Text) (i : ℕ) : Type 0 where
  pub same : spells (drop i w) (drop (from + i) s) ≡ spells w (drop from s)
  pub inside : i ≤ length w

pub spelling_starts : (s : Text) (from : ℕ) (w : Text) → Spelling s from w 0
spelling_starts s from w = record { same = ap (λ (k : ℕ). spells w (drop k s)) (let z : from + 0 ≡ from = omega arith in z); inside = omega arith }

spells_short : (w t : Text) → length t < length w → spells w t ≡ false
unfolding spells
spells_short [] t h = absurd (omega arith)
spells_short (x ∷ w) [] h = refl
spells_short (x ∷ w) (b ∷ t) h = go (eqb x b) (spells_short w t (let z : suc (length t) < suc (length w) = h in omega arith))
  where
    go : (u : Bool) → spells w t ≡ false → (u && spells w t) ≡ false
    go true e = e
    go false e = refl

pub no_room : (s : Text) (from : ℕ) (w : Text) → length s - from < length w → false ≡ spells w (drop from s)
no_room s from w h = sym (spells_short w (drop from s) (let d = length-drop from s in omega arith))

spells_at : (s : Text) (from : ℕ) (w : Text) (i : ℕ) → i < length w → from + i < length s → spells (drop i w) (drop (from + i) s) ≡ (eqb (get_or w i 0) (get_or s (from + i) 0) && spells (drop (i + 1) w) (drop (from + (i + 1)) s))
unfolding spells
spells_at s from w i h l =
    ap (λ (x : Text). spells x (drop (from + i) s)) (drop-cons w i 0 h)
    ∙ ap (spells (get_or w i 0 ∷ drop (suc i) w)) (drop-cons s (from + i) 0 l)
    ∙ ap (λ (k : ℕ). eqb (get_or w i 0) (get_or s (from + i) 0) && spells (drop k w) (drop (suc (from + i)) s)) (sym (add-one i))
    ∙ ap (λ (k : ℕ). eqb (get_or w i 0) (get_or s (from + i) 0) && spells (drop (i + 1) w) (drop k s)) (let z : suc (from + i) ≡ from + (i + 1) = omega arith in z)

pub spelling_on : {s : Text} {from : ℕ} {w : Text} {i : ℕ} → Spelling s from w i → i < length w → from + i < length s → get_or s (from + i) 0 ≡ get_or w i 0 → Spelling s from w (i + 1)
spelling_on {s} {from} {w} {i} v h l e = record { same = sym (spells_at s from w i h l ∙ rw (eq-eqb (get_or w i 0) (get_or s (from + i) 0) (sym e)) refl) ∙ v.same; inside = omega arith }

pub spelling_off : {s : Text} {from : ℕ} {w : Text} {i : ℕ} → Spelling s from w i → i < length w → from + i < length s → (get_or s (from + i) 0 ≡ get_or w i 0 → ⊥) → false ≡ spells w (drop from s)
spelling_off {s} {from} {w} {i} v h l n = sym (spells_at s from w i h l ∙ rw (ne_eqb (get_or w i 0) (get_or s (from + i) 0) (λ e. n (sym e))) refl) ∙ v.same

pub spelled_all : {s : Text} {from : ℕ} {w : Text} {i : ℕ} → Spelling s from w i → length w ≤ i → true ≡ spells w (drop from s)
unfolding spells
spelled_all {s} {from} {w} {i} v h = sym (ap (λ (x : Text). spells x (drop (from + i) s)) (drop_of_length-le w h)) ∙ v.same

-- ---- past the blanks

pub passed : {s : Text} {at : Place} {t : Token} → Stands s at → Ok t ≡ blanks s at → Reached s at t.next
passed {s} {at} v e = (subst (PassedOn s at at) (sym e) (blanks_on s at v)).1

pub fits_after : {s : Text} {at : Place} {t : Token} {u : Bool} (w : Text) → Stands s at → Ok t ≡ blanks s at → u ≡ spells w (drop t.next.offset s) → u ≡ true → t.next.offset + length w ≤ length s
fits_after {s} {at} {t} w v e g z =
    let i : t.next.offset ≤ length s = (passed v e).stands.inside in
    let l = spells_fits w (drop t.next.offset s) (sym g ∙ z) in
    let d = length-drop t.next.offset s in
    omega arith

-- the token of one byte
pub sign_by : {s : Text} {at : Place} {t : Token} {b c : ℕ} {l : Look} → Stands s at → Ok t ≡ blanks s at → b < 256 → ByteOf s t.next.offset c → l ≡ look_by (eqb b c) 1 t.next → Ok l ≡ token s at (b ∷ [])
sign_by {s} {at} {t} {b} {c} v e k g z = ap Ok z ∙ ap (λ (x : ℕ). found_by (eqb b x) 1 t.next) g.is ∙ sym (sign_token s at k e)
