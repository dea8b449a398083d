-- What the steps from place to place show on the way. Assumes nothing.
use mathlib.Core.Path.{◌≡◌, refl, sym, ap, subst⁻¹, ◌∙◌}
use mathlib.Core.Bool.{Bool, true, false}
use Prim.Native.Nat.{ℕ, ◌+◌, ◌-◌, ◌≤◌, ◌<◌}
use native.Mathlib.Omega.{arith}
use lib.Dec.{ltb}
use lib.ListN.{length, drop}
use borrow.Author.Tests.{ltb-true, ltb-false}
use Rattle.characters.specs.declared.place.Place.{Place}
use Rattle.characters.specs.Text.{Text, ByteOf, is_tail, on_by, past, tails, next, Stands}
use Rattle.characters.specs.PlaceLaws.{Advanced, Reached, in_text, past_offset, past_stands, tails_on, tails_end, next_end, next_in, on_by_stands}

-- where the byte is 256 the text has ended
pub ended : {s : Text} {o b : ℕ} → ByteOf s o b → b ≡ 256 → length s ≤ o
ended {s} {o} {b} e h = go (ltb o (length s)) refl
  where
    go : (t : Bool) → ltb o (length s) ≡ t → length s ≤ o
    go true t = let l = e.inside (ltb-true o (length s) t) in absurd (omega arith)
    go false t = ltb-false o (length s) t

-- and where it is not, a byte stands there
pub not_ended : {s : Text} {o b : ℕ} → ByteOf s o b → (b ≡ 256 → ⊥) → b < 256
not_ended {s} {o} {b} e h = go (ltb o (length s)) refl
  where
    go : (t : Bool) → ltb o (length s) ≡ t → b < 256
    go true t = e.inside (ltb-true o (length s) t)
    go false t = absurd (h (e.is ∙ Rattle.characters.specs.PlaceLaws.at_end s o (ltb-false o (length s) t)))

pub byte_in : {s : Text} {o b : ℕ} → ByteOf s o b → b < 256 → o < length s
byte_in {s} {o} {b} e h = in_text s o (let z = e.is in omega arith)

-- a step over a byte of the text
pub stepped : {s : Text} {p q : Place} {b : ℕ} → Stands s p → ByteOf s p.offset b → b < 256 → q ≡ past b p → Advanced s p q
stepped {s} {p} {q} {b} h e l z = subst⁻¹ (λ (x : Place). Advanced s p x) z (past_stands s b p h (byte_in e l))

-- what the loop of `next` keeps: what is left of the character leads to the same place
pub record Tailing (s : Text) (p₀ p : Place) : Type 0 where
  pub same : tails (drop p.offset s) p ≡ tails (drop p₀.offset s) p₀
  pub stands : Stands s p

pub tailing_on : {s : Text} {p₀ p q : Place} {t : ℕ} → Tailing s p₀ p → ByteOf s p.offset t → 128 ≤ t → t < 192 → q ≡ past t p → Tailing s p₀ q
tailing_on {s} {p₀} {p} {q} {t} v e l h z =
    record {
      same = ap (λ (x : Place). tails (drop x.offset s) x) z ∙ sym (tails_on s t p e.is l h) ∙ v.same;
      stands = (stepped v.stands e (omega arith) z).stands;
    }

pub nexted : {s : Text} {p₀ p : Place} {b t : ℕ} (at : Place) → ByteOf s at.offset b → (b ≡ 256 → ⊥) → p₀ ≡ past b at → Tailing s p₀ p → ByteOf s p.offset t → is_tail t ≡ false → p ≡ next s at
nexted {s} {p₀} {p} {b} {t} at e h z v f w =
    sym (tails_end s t p f.is w) ∙ v.same ∙ ap (λ (x : Place). tails (drop x.offset s) x) z ∙ sym (next_in s b at e.is (not_ended e h))

-- a step leaves less of the text
pub on_less : {s : Text} {q : Place} (n : ℕ) (p : Place) → Stands s q → q ≡ on_by n p → 0 < n → length s - q.offset < length s - p.offset
on_less {s} {q} n p h z l =
    let o : q.offset ≡ p.offset + n = ap (λ (x : Place). x.offset) z in
    let i : q.offset ≤ length s = h.inside in
    omega arith

pub less : {s : Text} {p q : Place} → Advanced s p q → length s - q.offset < length s - p.offset
less {s} {p} {q} h =
    let i : q.offset ≤ length s = h.stands.inside in
    let j : p.offset < q.offset = h.further in
    omega arith
