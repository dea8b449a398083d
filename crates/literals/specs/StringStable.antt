-- A string is decided by its own bytes: where one is accepted, it is accepted in each text that has the same bytes there, whatever follows.
-- Assumes nothing.
use Rattle.std.specs.Prelude.{◌≡◌, Bool, true, false, eqb, drop, Err, Ok, Result}
use Rattle.std.proofs.Math.Path.{refl, ap}
use Rattle.std.proofs.Common.{sym, ◌∙◌, arith}
use mathlib.Core.List.{[], ◌∷◌}
use Prim.Native.Nat.{ℕ, zero, suc, ◌+◌, ◌-◌, ◌≤◌, ◌<◌}
use Rattle.std.proofs.Math.ListN.{length}
use Rattle.characters.specs.declared.place.Place.{Place}
use Rattle.characters.specs.declared.refusal.Refusal.TheVariants.{BadStringEscape}
use Rattle.characters.specs.Text.{Text, on_by, past, Stands}
use Rattle.characters.specs.PlaceLaws.{past_offset, past_stands, on_by_stands}
use Rattle.characters.specs.BlankLaws.{rest}
use Rattle.characters.specs.AlikeLaws.{Alike, AlikeIn, alike_less, alike_sym, alike_byte, alike_rest, alike_none, alike_from}
use Rattle.literals.specs.declared.strings.BadEscape.TheVariants.{Short, NotHex, Unknown}
use Rattle.literals.specs.StringLaws.{escape_inside}
use Rattle.literals.specs.SpellingLaws.{escape_shift, escape_stable, scan_spelt, string_accepted}
use Rattle.literals.specs.Strings.{escape, reach, strayed, scan, string_by, string}
use Rattle.characters.specs.Answers.{Must, failed, taken}
use Rattle.literals.specs.Answers.{means}
use Rattle.literals.specs.declared.strings.BadEscape.{BadEscape}
use Rattle.literals.specs.declared.strings.Escaped.{Escaped}

module _ (s t : Text) (at : Place) (q : ℕ) (h n : Place) where
  -- a string ends behind each place in it
  onward : (l : Text) (left o : ℕ) (p : Place) → l ≡ drop o s → o + left ≡ p.offset → Stands s p → scan s at q left l p ≡ taken h n → p.offset < n.offset
  onward l left o p z f st e =
      let i = (scan_spelt s at q h n l left o p z f st e).1 in
      omega (arith, i.ends, i.enough)

  -- the rest of a string, where so many bytes are alike that it ends in them
  scan_stable : (l r : Text) (k left o : ℕ) (p : Place)
      → l ≡ drop o s
      → r ≡ drop o t
      → o + left ≡ p.offset
      → Stands s p
      → Alike k l r
      → n.offset ≤ o + k
      → scan s at q left l p ≡ taken h n
      → scan t at q left r p ≡ taken h n
  unfolding scan
  scan_stable l r zero left o p z w f st a m e = absurd (omega (arith, onward l left o p z f st e))
  scan_stable [] [] (suc k) left o p z w f st a m e = e
  scan_stable [] (c ∷ r) (suc k) left o p z w f st a m e = alike_none (alike_sym a)
  scan_stable (b ∷ l) [] (suc k) left o p z w f st a m e = alike_none a
  scan_stable (b ∷ l) (c ∷ r) (suc k) (suc left) o p z w f st a m e = scan_stable l r k left (o + 1) p (rest s o b l z).1 (rest t o c r w).1 (omega arith) st (alike_rest a) (omega arith) e
  scan_stable (b ∷ l) (c ∷ r) (suc k) zero o p z w here st a m e =
      ap (λ (x : ℕ). scan t at q zero (x ∷ r) p) (sym (alike_byte 0 (omega arith) a))
      ∙ go (eqb b q) (eqb b 92) (escape s (p.offset + 1)) refl refl refl
      (λ left p' g u. scan_stable l r k left (o + 1) p' (rest s o b l z).1 (rest t o c r w).1 g u (alike_rest a) (omega arith)) e
    where
      inside : p.offset < length s
      inside = omega (arith, (rest s o b l z).0)

      follows : (x : Text) (d : ℕ) (y : Text) → d ∷ y ≡ drop o x → y ≡ drop (p.offset + 1) x
      follows x d y u = (rest x o d y u).1 ∙ ap (λ (i : ℕ). drop (i + 1) x) (let v : o ≡ p.offset = omega arith in v)

      -- an escape before the end of the string
      same_escape : (v j : ℕ) → p.offset + 1 + j < n.offset → escape s (p.offset + 1) ≡ means v j → escape t (p.offset + 1) ≡ means v j
      same_escape v j u g =
          sym (ap (λ (x : Text). escape x 0) (follows t c r w) ∙ escape_shift t (p.offset + 1))
          ∙ escape_stable l v j r (alike_less (omega arith) (alike_rest a)) (ap (λ (x : Text). escape x 0) (follows s b l z) ∙ escape_shift s (p.offset + 1) ∙ g)

      go : (x y : Bool) (g : Result Escaped BadEscape) → eqb b q ≡ x → eqb b 92 ≡ y → escape s (p.offset + 1) ≡ g
          → ((left : ℕ) (p' : Place) → o + 1 + left ≡ p'.offset → Stands s p' → scan s at q left l p' ≡ taken h n → scan t at q left r p' ≡ taken h n)
          → elim x as (λ v. Must) [
            | true ↦ taken at (past b p)
            | false ↦
                elim y as (λ v. Must) [
                  | true ↦
                      elim g as (λ v. Must) [
                        | Ok x ↦ scan s at q x.width l (on_by (1 + x.width) p)
                        | Err e ↦ failed BadStringEscape (strayed s (on_by 1 p) e)
                      ]
                  | false ↦ scan s at q zero l (past b p)
                ]
          ] ≡ taken h n
          → scan t at q zero (b ∷ r) p ≡ taken h n
      go true y g c d f ih e = rw (c, scan) e
      go false true (Ok x) c d f ih e =
          let u = escape_inside s (p.offset + 1) (omega (arith, inside)) in
          let i : reach (escape s (p.offset + 1)) ≡ x.width = ap reach f in
          let st' = (on_by_stands s (1 + x.width) p st (omega arith)).stands in
          let y = onward l x.width (o + 1) (on_by (1 + x.width) p) (rest s o b l z).1 (omega arith) st' e in
          rw (c, d, same_escape x.value x.width (omega arith) f, scan) (ih x.width (on_by (1 + x.width) p) (omega arith) st' e)
      go false true (Err g) c d f ih e = let v : ◌≡◌ {A = ℕ} 0 1 = cc in absurd (omega arith)
      go false false g c d f ih e = rw (c, d, scan) (ih 0 (past b p) (omega (arith, past_offset b p)) (past_stands s b p st inside).stands e)

-- a string of one text is a string of the other
pub string_stable : (s t : Text) (p h q : Place)
    → Stands s p
    → AlikeIn p.offset q.offset s t
    → string s p ≡ taken h q
    → string t p ≡ taken h q
unfolding string
string_stable s t p h q st a e =
    go (drop p.offset s) (drop p.offset t) refl refl (alike_less (omega (arith, (string_accepted s p h q st e).quoted)) (alike_from a)) e
  where
    go : (l r : Text) → l ≡ drop p.offset s → r ≡ drop p.offset t → Alike (suc (q.offset - (p.offset + 1))) l r → string_by s p l ≡ taken h q → string_by t p r ≡ taken h q
    go [] r z w a e = let v : ◌≡◌ {A = ℕ} 0 1 = cc in absurd (omega arith)
    go (b ∷ l) [] z w a e = alike_none a
    go (b ∷ l) (c ∷ r) z w a e =
        let k = rest s p.offset b l z in
        let f : p.offset + 1 + 0 ≡ (past b p).offset = omega (arith, past_offset b p) in
        let stands = (past_stands s b p st k.0).stands in
        ap (λ (x : ℕ). scan t p x 0 r (past x p)) (sym (alike_byte 0 (omega arith) a))
        ∙ scan_stable s t p b h q l r (q.offset - (p.offset + 1)) 0 (p.offset + 1) (past b p) k.1 (rest t p.offset c r w).1 f stands (alike_rest a) (omega arith) e
