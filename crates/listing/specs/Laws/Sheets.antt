-- The laws of sheets: what is written one part after the other, in a loop too, is written as a whole; and what the whole leaves where it
-- fits, and where it does not. Assumes nothing.
use Rattle.std.specs.Prelude.{◌≡◌, refl, Bool, true, false, List, [], ◌∷◌, ◌++◌, ℕ, suc, ◌+◌, ◌-◌, ◌≤◌, ◌<◌, ltb, length, get_or, take, drop, set}
use Rattle.std.proofs.Common.{sym, ap, ◌∙◌, append-nil, add-one, arith, length-set, drop_of_length-le, drop-cons, length-take-le, lt-ltb, le-ltb, ltb-true, ltb-false}
use Rattle.std.proofs.lemmas.List.Edits.{sets, sets-eq}
use Rattle.characters.specs.Text.{Text}
use Rattle.listing.specs.Sheets.{Sheet, Writes, sheet, put_by, put, wrote}

-- ---- a byte

-- A byte that has room, and one that has none.
put_in : (out : List ℕ) (at b : ℕ) → at < length out → put b (sheet out at) ≡ sheet (set out at b) (at + 1)
unfolding put
put_in out at b h = ap (λ (t : Bool). put_by t b (sheet out at)) (lt-ltb at (length out) h)

put_out : (out : List ℕ) (at b : ℕ) → length out ≤ at → put b (sheet out at) ≡ sheet out (length out + 1)
unfolding put
put_out out at b h = ap (λ (t : Bool). put_by t b (sheet out at)) (le-ltb at (length out) h)

pub put_room : (out : List ℕ) (at b : ℕ) → at < length out → Writes (b ∷ []) (sheet out at) (sheet (set out at b) (at + 1))
unfolding wrote
put_room out at b h = record { is = sym (put_in out at b h) }

pub put_full : (out : List ℕ) (at b : ℕ) → length out ≤ at → Writes (b ∷ []) (sheet out at) (sheet out (length out + 1))
unfolding wrote
put_full out at b h = record { is = sym (put_out out at b h) }

-- ---- one part after the other

wrote_append : (x y : Text) (w : Sheet) → wrote (x ++ y) w ≡ wrote y (wrote x w)
unfolding wrote
wrote_append [] y w = refl
wrote_append (b ∷ x) y w = wrote_append x y (put b w)

-- Nothing.
pub none : {w : Sheet} → Writes [] w w
unfolding wrote
none = record { is = refl }

-- Two parts.
pub then : {x y : Text} {w m l : Sheet} → Writes x w m → Writes y m l → Writes (x ++ y) w l
then {x} {y} {w} p q = record { is = q.is ∙ ap (wrote y) p.is ∙ sym (wrote_append x y w) }

-- The same bytes, said otherwise.
pub said : {x y : Text} {w l : Sheet} → x ≡ y → Writes x w l → Writes y w l
said {x} {y} {w} e p = record { is = p.is ∙ ap (λ (t : Text). wrote t w) e }

-- ---- in a loop

-- Some is written, and what is left of it leads to what the whole leaves.
pub record Going (rest whole : Text) (w now : Sheet) : Type 0 where
  pub same : wrote rest now ≡ wrote whole w
  pub size : length now.out ≡ length w.out

pub going_start : {whole : Text} {w : Sheet} → Going whole whole w w
going_start = record { same = refl; size = refl }

-- A part of what is left is written.
pub going_on : {rest whole x y : Text} {w now m : Sheet} → Going rest whole w now → Writes x now m → rest ≡ x ++ y → length m.out ≡ length now.out
    → Going y whole w m
going_on {rest} {whole} {x} {y} {w} {now} {m} g p e l =
    record {
      same = ap (wrote y) p.is ∙ sym (wrote_append x y now) ∙ ap (λ (t : Text). wrote t now) (sym e) ∙ g.same;
      size = l ∙ g.size;
    }

-- Nothing is left.
pub going_end : {rest whole : Text} {w now : Sheet} → Going rest whole w now → rest ≡ [] → Writes whole w now
unfolding wrote
going_end {now = now} g e = record { is = sym (ap (λ (t : Text). wrote t now) e) ∙ g.same }

-- ---- what is left of a text

pub from_byte : (t : Text) (i : ℕ) → i < length t → drop i t ≡ (get_or t i 0 ∷ []) ++ drop (i + 1) t
from_byte t i h = rw (add-one, drop-cons t i 0)

pub from_none : (t : Text) (i : ℕ) → length t ≤ i → drop i t ≡ []
from_none t i h = drop_of_length-le t h

-- ---- the whole

pub writes_one : {t : Text} {w l m : Sheet} → Writes t w l → Writes t w m → l ≡ m
writes_one p q = p.is ∙ sym q.is

wrote_fitting : (t : Text) (out : List ℕ) (at : ℕ) → at + length t ≤ length out → wrote t (sheet out at) ≡ sheet (sets out at t) (at + length t)
unfolding wrote
wrote_fitting [] out at h = ap (sheet out) (let z : at ≡ at + 0 = omega arith in z)
wrote_fitting (b ∷ t) out at h =
    ap (wrote t) (put_in out at b (omega arith) ∙ ap (sheet (set out at b)) (add-one at))
    ∙ wrote_fitting t (set out at b) (suc at) (let z = length-set out at b in omega arith)
    ∙ ap (sheet (sets (set out at b) (suc at) t)) (let z : suc at + length t ≡ at + suc (length t) = omega arith in z)

pub writes_fitting : {t : Text} {out later : List ℕ} {at r : ℕ} → at + length t ≤ length out → Writes t (sheet out at) (sheet later r)
    → (r ≡ at + length t) × (later ≡ take at out ++ t ++ drop (at + length t) out)
writes_fitting {t} {out} {later} {at} {r} h p =
    let e : sheet later r ≡ sheet (sets out at t) (at + length t) = p.is ∙ wrote_fitting t out at h in
    (ap (λ (w : Sheet). w.at) e, ap (λ (w : Sheet). w.out) e ∙ sets-eq t out at h)

-- Past the length nothing more is written.
wrote_past : (t : Text) (out : List ℕ) → wrote t (sheet out (length out + 1)) ≡ sheet out (length out + 1)
unfolding wrote
wrote_past [] out = refl
wrote_past (b ∷ t) out = ap (wrote t) (put_out out (length out + 1) b (omega arith)) ∙ wrote_past t out

wrote_cut : (t : Text) (out : List ℕ) (at : ℕ) → at ≤ length out → length out < at + length t
    → wrote t (sheet out at) ≡ sheet (sets out at (take (length out - at) t)) (length out + 1)
unfolding wrote
wrote_cut [] out at l h = absurd (omega arith)
wrote_cut (b ∷ t) out at l h = go (ltb at (length out)) refl
    (λ k. wrote_cut t (set out at b) (suc at) (let z = length-set out at b in omega arith) (let z = length-set out at b in omega arith))
  where
    go : (u : Bool) → ltb at (length out) ≡ u
        → (at < length out
        → wrote t (sheet (set out at b) (suc at)) ≡ sheet (sets (set out at b) (suc at) (take (length (set out at b) - suc at) t)) (length (set out at b) + 1))
        → wrote t (put b (sheet out at)) ≡ sheet (sets out at (take (length out - at) (b ∷ t))) (length out + 1)
    go true e ih =
        let k : at < length out = ltb-true at (length out) e in
        let n : length out - at ≡ suc (length out - suc at) = omega arith in
        ap (wrote t) (put_in out at b k ∙ ap (sheet (set out at b)) (add-one at))
        ∙ ih k
        ∙ ap (λ (m : ℕ). sheet (sets (set out at b) (suc at) (take (m - suc at) t)) (m + 1)) (length-set out at b)
        ∙ ap (λ (m : ℕ). sheet (sets out at (take m (b ∷ t))) (length out + 1)) (sym n)
    go false e ih =
        let k : length out ≤ at = ltb-false at (length out) e in
        let n : 0 ≡ length out - at = omega arith in
        ap (wrote t) (put_out out at b k)
        ∙ wrote_past t out
        ∙ ap (λ (m : ℕ). sheet (sets out at (take m (b ∷ t))) (length out + 1)) n

pub writes_cut : {t : Text} {out later : List ℕ} {at r : ℕ} → at ≤ length out → length out < at + length t → Writes t (sheet out at) (sheet later r)
    → (r ≡ length out + 1) × (later ≡ take at out ++ take (length out - at) t)
writes_cut {t} {out} {later} {at} {r} l h p =
    let k = length out - at in
    let n : length (take k t) ≡ k = length-take-le k t (omega arith) in
    let f : at + length (take k t) ≤ length out = omega arith in
    let e : sheet later r ≡ sheet (sets out at (take k t)) (length out + 1) = p.is ∙ wrote_cut t out at l h in
    let g : length out ≤ at + length (take k t) = omega arith in
    let d : drop (at + length (take k t)) out ≡ [] = drop_of_length-le out g in (
      ap (λ (w : Sheet). w.at) e,
      ap (λ (w : Sheet). w.out) e ∙ sets-eq (take k t) out at f ∙ ap (λ (x : List ℕ). take at out ++ take k t ++ x) d ∙ append-nil (take at out ++ take k t),
    )
