-- What the readers of names show on the way. Assumes nothing.
use mathlib.Core.Path.{◌≡◌, refl, sym, ap, subst, ◌∙◌}
use mathlib.Core.Bool.{Bool, true, false, not}
use mathlib.Core.List.{[], ◌∷◌, ◌++◌}
use Prim.Native.Nat.{ℕ, suc, ◌+◌, ◌-◌, ◌*◌, ◌^◌, min, ◌≤◌, ◌<◌}
use native.Mathlib.Omega.{arith}
use lib.Dec.{ltb}
use native.Mathlib.Nat.{pow-zero, pow-succ', pow-le-pow_right, mul-one, one-mul, mul_assoc}
use lib.ListN.{length, take, drop, get_or, length-take, length-drop, get_or-eq_default}
use lib.Seq.{take-suc, get_or-drop, get_or-take}
use borrow.Author.Tests.{ltb-true, ltb-false, not-true, not-false}
use Rattle.std.specs.Prelude.{Ok, None, Option, Some}
use Rattle.characters.specs.declared.place.Place.{Place}
use Rattle.characters.specs.declared.refusal.Refusal.TheVariants.{ExpectedIdentifier, ReservedWord}
use Rattle.characters.specs.declared.place.Token.{Token}
use Rattle.characters.specs.Answers.{taken, failed}
use Rattle.characters.specs.Text.{Text, byte_at, ByteOf, on_by, Stands}
use Rattle.characters.specs.PlaceLaws.{in_text}
use Rattle.characters.specs.Counts.{end_of}
use Rattle.characters.specs.CountLaws.{end_inside}
use Rattle.characters.specs.Names.{is_letter, is_name_byte, name_by, name, part, word_of, free_by, free_name, fold_of}
use Rattle.characters.specs.declared.reserved.Word.{Word}
use Rattle.characters.specs.WordNumbers.{number_of, number_of_word, some_word}
use Rattle.characters.specs.NameLaws.{letter_is_name, name_byte_low, name_by_end, end_past_letter, NamedOn, name_on}

-- ---- a name

-- the first letter, by what a test of it answered
letter_here : {s : Text} {o b : ℕ} {r : Bool} → ByteOf s o b → r ≡ is_letter b → not r ≡ false → is_letter (byte_at s o) ≡ true
letter_here e l n = ap is_letter (sym e.is) ∙ sym l ∙ not-false _ n

pub letter_inside : {s : Text} {o b : ℕ} {r : Bool} → ByteOf s o b → r ≡ is_letter b → not r ≡ false → o < length s
letter_inside {s} {o} e l n = let i = name_byte_low (byte_at s o) (letter_is_name (byte_at s o) (letter_here e l n)) in in_text s o (omega arith)

-- so many bytes on is where a name's bytes end
pub name_room : {s : Text} {at : Place} {b e : ℕ} {r : Bool} → Stands s at → ByteOf s at.offset b → r ≡ is_letter b → not r ≡ false → e ≡ end_of is_name_byte s (at.offset + 1)
    → (at.offset + (e - at.offset) < 2 ^ 32) × (at.column + (e - at.offset) < 2 ^ 32)
name_room {s} {at} {b} {e} h f l n z =
    let a = letter_inside f l n in
    let i = end_inside is_name_byte s (at.offset + 1) (omega arith) in
    let j : length s < 2 ^ 31 = h.short in
    let k : at.column ≤ at.offset + 1 = h.columns in
    (omega arith, omega arith)

pub name_ends : {s : Text} {at q : Place} {b e : ℕ} {r : Bool} → ByteOf s at.offset b → r ≡ is_letter b → not r ≡ false → e ≡ end_of is_name_byte s (at.offset + 1) → q ≡ on_by (e - at.offset) at → taken at q ≡ name s at
name_ends {s} {at} f l n z g =
    let h = letter_here f l n in
    ap (taken at) (g ∙ ap (λ (o : ℕ). on_by (o - at.offset) at) (z ∙ sym (end_past_letter s at.offset h))) ∙ sym (name_by_end s at h)

pub name_none : {s : Text} {at : Place} {b : ℕ} {r : Bool} → ByteOf s at.offset b → r ≡ is_letter b → not r ≡ true → failed ExpectedIdentifier at ≡ name s at
unfolding name
name_none {s} {at} e l n = ap (λ (t : Bool). name_by t (drop at.offset s) at) (sym (sym l ∙ not-true _ n) ∙ ap is_letter e.is)

-- ---- bytes as one number

fold_less : (l : Text) (v m : ℕ) → ((i : ℕ) → get_or l i 0 < 256) → v < m → fold_of v l < m * 256 ^ length l
unfolding fold_of
fold_less [] v m f h = rw (pow-zero 256, mul-one m) h
fold_less (b ∷ l) v m f h =
    let z = f 0 in
    let g : fold_of (v * 256 + b) l < m * 256 * 256 ^ length l = fold_less l (v * 256 + b) (m * 256) (λ i. f (suc i)) (omega arith) in
    subst (λ (k : ℕ). fold_of (v * 256 + b) l < k) (mul_assoc m 256 (256 ^ length l) ∙ ap (λ (k : ℕ). m * k) (sym (pow-succ' 256 (length l)))) g

-- seven bytes leave room for an eighth
pub fold_fits : (l : Text) → ((i : ℕ) → get_or l i 0 < 256) → length l ≤ 7 → fold_of 0 l < 72057594037927936
fold_fits l f h =
    let a : fold_of 0 l < 1 * 256 ^ length l = fold_less l 0 1 f (omega arith) in
    let b : 256 ^ length l ≤ 256 ^ 7 = pow-le-pow_right (omega arith) h in
    let e : 1 * 256 ^ length l ≡ 256 ^ length l = one-mul (256 ^ length l) in
    let d : 256 ^ 7 ≡ 72057594037927936 = refl in
    omega arith

fold_more : (l : Text) (v b : ℕ) → fold_of v (l ++ (b ∷ [])) ≡ fold_of v l * 256 + b
unfolding fold_of
fold_more [] v b = refl
fold_more (x ∷ l) v b = fold_more l (v * 256 + x) b

pub part_length : (s : Text) (from to : ℕ) → from ≤ to → to ≤ length s → length (part s from to) ≡ to - from
part_length s from to h k = length-take (to - from) (drop from s) ∙ ap (min (to - from)) (length-drop from s) ∙ (let z : min (to - from) (length s - from) ≡ to - from = omega arith in z)

pub part_more : (s : Text) (from i b : ℕ) → from ≤ i → i < length s → b ≡ byte_at s i → part s from (i + 1) ≡ part s from i ++ (b ∷ [])
part_more s from i b h k e =
    let d : length (drop from s) ≡ length s - from = length-drop from s in
    ap (λ (n : ℕ). take n (drop from s)) (let z : i + 1 - from ≡ suc (i - from) = omega arith in z)
    ∙ take-suc (drop from s) (i - from) 256 (omega arith)
    ∙ ap (λ (x : ℕ). part s from i ++ (x ∷ [])) (get_or-drop from s (i - from) 256 ∙ ap (byte_at s) (let z : from + (i - from) ≡ i = omega arith in z) ∙ sym e)

pub part_bytes : (s : Text) (from to : ℕ) → ((i : ℕ) → get_or s i 0 < 256) → (i : ℕ) → get_or (part s from to) i 0 < 256
part_bytes s from to f i = go (ltb i (to - from)) refl
  where
    go : (t : Bool) → ltb i (to - from) ≡ t → get_or (part s from to) i 0 < 256
    go true z = rw (get_or-take (to - from) (drop from s) i 0 (ltb-true i (to - from) z), get_or-drop from s i 0) (f (from + i))
    go false z =
        let l : to - from ≤ i = ltb-false i (to - from) z in
        let m = length-take (to - from) (drop from s) in
        let n : length (part s from to) ≤ i = omega arith in
        rw (get_or-eq_default (part s from to) 0 n) (omega arith)

-- what the loop of `fold` keeps
pub record Folding (s : Text) (from to v i : ℕ) : Type 0 where
  pub is : v ≡ fold_of 0 (part s from i)
  pub begun : from ≤ i
  pub inside : i ≤ to

pub folding_starts : (s : Text) (from to : ℕ) → from ≤ to → Folding s from to 0 from
unfolding fold_of
folding_starts s from to h = record { is = ap (λ (n : ℕ). fold_of 0 (take n (drop from s))) (let z : 0 ≡ from - from = omega arith in z); begun = omega arith; inside = h }

pub folding_room : {s : Text} {from to v i : ℕ} → Folding s from to v i → ((i : ℕ) → get_or s i 0 < 256) → to ≤ length s → to ≤ from + 8 → i < to → v < 72057594037927936
folding_room {s} {from} {to} {v} {i} w f h k l =
    let a : from ≤ i = w.begun in
    let e : v ≡ fold_of 0 (part s from i) = w.is in
    let g = fold_fits (part s from i) (part_bytes s from i f) (let z = part_length s from i a (omega arith) in omega arith) in
    omega arith

pub folding_on : {s : Text} {from to v i b : ℕ} → Folding s from to v i → to ≤ length s → i < to → ByteOf s i b → Folding s from to (v * 256 + b) (i + 1)
folding_on {s} {from} {to} {v} {i} {b} w h l e =
    let a : from ≤ i = w.begun in
    record {
      is = ap (λ (x : ℕ). x * 256 + b) w.is ∙ sym (fold_more (part s from i) 0 b) ∙ ap (fold_of 0) (sym (part_more s from i b a (omega arith) e.is));
      begun = omega arith;
      inside = omega arith;
    }

pub folded : {s : Text} {from to v i : ℕ} → Folding s from to v i → to ≤ i → v ≡ fold_of 0 (part s from to)
folded {s} {from} {to} {v} {i} w h = w.is ∙ ap (λ (n : ℕ). fold_of 0 (part s from n)) (let a = w.inside in let z : i ≡ to = omega arith in z)

-- ---- a name that is no reserved word

named : {s : Text} {at : Place} {t : Token} → Stands s at → Ok t ≡ name s at → NamedOn s at (Ok t)
named {s} {at} v e = subst (NamedOn s at) (sym e) (name_on s at v)

pub name_spans : {s : Text} {at : Place} {t : Token} → Stands s at → Ok t ≡ name s at → (t.here.offset ≤ t.next.offset) × (t.next.offset ≤ length s)
name_spans {s} {at} {t} v e =
    let n = named v e in
    let a : at.offset < t.next.offset = n.1.further in
    let i : t.next.offset ≤ length s = n.1.stands.inside in
    let z : t.here.offset ≡ at.offset = ap (λ (x : Place). x.offset) n.0 in
    (omega arith, i)

-- what stands there is a reserved word, or none
module _ (s : Text) (at : Place) {t : Token} {r : Option Word} (e : Ok t ≡ name s at) (f : number_of_word r ≡ word_of (part s t.here.offset t.next.offset)) where
  pub free_barred : {w : Word} → r ≡ Some w → failed ReservedWord t.here ≡ free_name s at
  unfolding free_name
  free_barred {w} z =
      let k : word_of (part s t.here.offset t.next.offset) ≡ number_of w = sym f ∙ ap number_of_word z in
      let y : failed ReservedWord t.here ≡ free_by s (Ok t) = rw (k, some_word w, free_by) refl in
      y ∙ ap (free_by s) e

  pub free_taken : r ≡ None → Ok t ≡ free_name s at
  unfolding free_name
  free_taken z =
      let k : word_of (part s t.here.offset t.next.offset) ≡ 0 = sym f ∙ ap number_of_word z in
      let y : Ok t ≡ free_by s (Ok t) = rw (k, free_by) refl in
      y ∙ ap (free_by s) e
