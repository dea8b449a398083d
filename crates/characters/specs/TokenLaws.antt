-- Laws of tokens: where they lead. Assumes nothing.
use Rattle.std.specs.Prelude.{Ok, Err, ◌≡◌, refl, Bool, true, false, ◌&&◌, not, [], ◌∷◌, ℕ, ◌+◌, ◌≤◌, ◌<◌, eqb, ltb, length, drop}
use Rattle.std.proofs.Common.{sym, ap, ◌∙◌, arith, length-drop, drop-cons, ne_eqb, ltb-true, ltb-false}
use Rattle.characters.specs.declared.place.Place.{Place}
use Rattle.characters.specs.declared.refusal.Refusal.TheVariants.{EndOfInput}
use Rattle.characters.specs.Answers.{Must, Looked, taken, found, missing}
use Rattle.characters.specs.Text.{Text, byte_at, on_by, Stands}
use Rattle.characters.specs.PlaceLaws.{Reached, at_end, from_end, on_by_stands}
use Rattle.characters.specs.Blanks.{blanks}
use Rattle.characters.specs.BlankLaws.{PassedOn, blanks_on}
use Rattle.characters.specs.Names.{is_name_byte}
use Rattle.characters.specs.Tokens.{spells, found_by, is_token, is_keyword, token_past, token, keyword_past, keyword}

pub spells_fits : (w t : Text) → spells w t ≡ true → length w ≤ length t
unfolding spells
spells_fits [] t e = omega arith
spells_fits (x ∷ w) [] e = let z : ◌≡◌ {A = ℕ} 0 1 = cc in absurd (omega arith)
spells_fits (x ∷ w) (b ∷ t) e = let h = spells_fits w t (right (eqb x b) (spells w t) e) in omega arith
  where
    right : (u v : Bool) → (u && v) ≡ true → v ≡ true
    right true v e = e
    right false v e = let z : ◌≡◌ {A = ℕ} 0 1 = cc in absurd (omega arith)

-- where a token leads: to the place past the blanks, and over the token
abbrev pub TokenOn : Text → Place → Text → Looked → Type 0
TokenOn s p w (found h n) = Reached s p h × Reached s h n × (n ≡ on_by (length w) h)
TokenOn s p w (missing h) = Reached s p h
TokenOn s p w (Err e) = e.refusal ≡ EndOfInput

found_on : (s : Text) (p q : Place) (w : Text) (t : Bool) → Reached s p q → (t ≡ true → is_token s q w ≡ true) → TokenOn s p w (found_by t (length w) q)
found_on s p q w true h f =
    let l = spells_fits w (drop q.offset s) (f refl) in
    let d = length-drop q.offset s in
    let i : q.offset ≤ length s = h.stands.inside in
    (h, on_by_stands s (length w) q h.stands (omega arith), refl)
found_on s p q w false h f = h

pub token_on : (s : Text) (p : Place) (w : Text) → Stands s p → TokenOn s p w (token s p w)
unfolding token
token_on s p w h = go (blanks s p) (blanks_on s p h)
  where
    go : (r : Must) → PassedOn s p p r → TokenOn s p w (token_past s w r)
    go (Ok t) g = found_on s p t.next w (is_token s t.next w) g.1 (λ e. e)
    go (Err e) g = g.0

pub keyword_on : (s : Text) (p : Place) (w : Text) → Stands s p → TokenOn s p w (keyword s p w)
unfolding keyword
keyword_on s p w h = go (blanks s p) (blanks_on s p h)
  where
    left : (u v : Bool) → (u && v) ≡ true → u ≡ true
    left true v e = refl
    left false v e = e

    go : (r : Must) → PassedOn s p p r → TokenOn s p w (keyword_past s w r)
    go (Ok t) g = found_on s p t.next w (is_keyword s t.next w) g.1 (left (is_token s t.next w) (not (is_name_byte (byte_at s (t.next.offset + length w)))))
    go (Err e) g = g.0

-- ---- tokens of one byte

-- a token of one byte is that byte at the front
pub spells_one : (s : Text) (o b : ℕ) → b < 256 → spells (b ∷ []) (drop o s) ≡ eqb b (byte_at s o)
unfolding spells
spells_one s o b h = go (ltb o (length s)) refl
  where
    and_true : (t : Bool) → (t && true) ≡ t
    and_true true = refl
    and_true false = refl

    go : (t : Bool) → ltb o (length s) ≡ t → spells (b ∷ []) (drop o s) ≡ eqb b (byte_at s o)
    go true e = ap (spells (b ∷ [])) (drop-cons s o 256 (ltb-true o (length s) e)) ∙ and_true (eqb b (byte_at s o))
    go false e =
        let z : length s ≤ o = ltb-false o (length s) e in
        let n : byte_at s o ≡ 256 = at_end s o z in
        ap (spells (b ∷ [])) (from_end s o z) ∙ sym (ne_eqb b (byte_at s o) (λ k. omega arith))

pub sign_token : (s : Text) (at : Place) {h q : Place} {b : ℕ} → b < 256 → taken h q ≡ blanks s at → token s at (b ∷ []) ≡ found_by (eqb b (byte_at s q.offset)) 1 q
unfolding token
sign_token s at {h} {q} {b} l e = ap (token_past s (b ∷ [])) (sym e) ∙ ap (λ (u : Bool). found_by u 1 q) (spells_one s q.offset b l)
