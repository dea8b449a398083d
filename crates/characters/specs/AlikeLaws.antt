-- Texts that are alike: they have the same bytes at their fronts, or in a part. Assumes nothing.
use Rattle.std.specs.Prelude.{◌≡◌, [], ◌∷◌, ◌++◌, ℕ, zero, suc, ◌+◌, ◌-◌, ◌≤◌, ◌<◌, length, take, drop}
use Rattle.std.proofs.Common.{sym, ap, ◌∙◌, arith, length-append, length-drop, take-take, drop-drop, get_or-take, get_or-drop, length-take-le, ext_get_or}
use Rattle.std.proofs.Math.ListN.{get_or-append}
use Rattle.std.proofs.Math.Seq.{take-nil}
use Rattle.characters.specs.Text.{Text, byte_at}
use Rattle.characters.specs.Names.{part}

-- two texts begin with the same bytes, so many; a text that is shorter is the whole of the other
pub record Alike (n : ℕ) (s t : Text) : Type 0 where
  pub same : take n s ≡ take n t

-- two texts have the same bytes from one offset to another
pub record AlikeIn (from to : ℕ) (s t : Text) : Type 0 where
  pub same : part s from to ≡ part t from to

-- ---- fronts

-- a shorter front
pub alike_less : {m n : ℕ} {s t : Text} → m ≤ n → Alike n s t → Alike m s t
alike_less {m} {n} {s} {t} h e = record { same = sym (take-take m n s h) ∙ ap (take m) e.same ∙ take-take m n t h }

-- the other way round
pub alike_sym : {n : ℕ} {s t : Text} → Alike n s t → Alike n t s
alike_sym e = record { same = sym e.same }

-- one byte of a front
pub alike_byte : {n : ℕ} {s t : Text} (i : ℕ) → i < n → Alike n s t → byte_at s i ≡ byte_at t i
alike_byte {n} {s} {t} i h e = sym (get_or-take n s i 256 h) ∙ ap (λ (l : Text). byte_at l i) e.same ∙ get_or-take n t i 256 h

-- a front is alike to its text
pub alike_front : {n m : ℕ} (s : Text) → n ≤ m → Alike n s (take m s)
alike_front {n} {m} s h = record { same = sym (take-take n m s h) }

-- what follows some bytes of a front is a front of what follows them
pub drop_take : (k n : ℕ) (s : Text) → drop k (take (k + n) s) ≡ take n (drop k s)
drop_take zero n s = ap (λ (m : ℕ). take m s) (let z : 0 + n ≡ n = omega arith in z)
drop_take (suc k) n [] = ap (drop (suc k)) (take-nil (suc k + n)) ∙ sym (take-nil n)
drop_take (suc k) n (b ∷ s) = ap (λ (m : ℕ). drop (suc k) (take m (b ∷ s))) (let z : suc k + n ≡ suc (k + n) = omega arith in z) ∙ drop_take k n s

-- what follows some bytes
pub alike_drop : (k : ℕ) {n m : ℕ} {s t : Text} → k + n ≤ m → Alike m s t → Alike n (drop k s) (drop k t)
alike_drop k {n} {m} {s} {t} h e = record { same = sym (drop_take k n s) ∙ ap (drop k) (alike_less h e).same ∙ drop_take k n t }

-- what follows the first byte
pub alike_rest : {n b c : ℕ} {s t : Text} → Alike (suc n) (b ∷ s) (c ∷ t) → Alike n s t
alike_rest {n} {b} {c} {s} {t} e =
    let f : b ∷ take n s ≡ c ∷ take n t = e.same in
    let z : take n s ≡ take n t = cc in
    record { same = z }

-- a byte is not like the end of a text
pub alike_none : {A : Type 0} {n b : ℕ} {s : Text} → Alike (suc n) (b ∷ s) [] → A
alike_none {n = n} {b = b} {s = s} e =
    let f : b ∷ take n s ≡ [] = e.same in
    let z : ◌≡◌ {A = ℕ} 0 1 = cc in
    absurd (omega arith)

-- ---- parts

-- the bytes of a part
pub part_byte : (s : Text) (from to i : ℕ) → i < to - from → byte_at (part s from to) i ≡ byte_at s (from + i)
part_byte s from to i h = get_or-take (to - from) (drop from s) i 256 h ∙ get_or-drop from s i 256

-- a part is a front of what follows
pub alike_from : {from to : ℕ} {s t : Text} → AlikeIn from to s t → Alike (to - from) (drop from s) (drop from t)
alike_from e = record { same = e.same }

-- a part of a part
pub alike_in : {from to a b : ℕ} {s t : Text} → from ≤ a → a ≤ b → b ≤ to → AlikeIn from to s t → AlikeIn a b s t
alike_in {from} {to} {a} {b} {s} {t} h k l e =
    record { same = ap (take (b - a)) (sym (onward s)) ∙ (alike_drop (a - from) {n = b - a} (omega arith) (alike_from e)).same ∙ ap (take (b - a)) (onward t) }
  where
    onward : (x : Text) → drop (a - from) (drop from x) ≡ drop a x
    onward x = drop-drop (a - from) from x ∙ ap (λ (o : ℕ). drop o x) (let z : from + (a - from) ≡ a = omega arith in z)

-- one byte of a part
pub alike_at : {from to : ℕ} {s t : Text} (o : ℕ) → from ≤ o → o < to → AlikeIn from to s t → byte_at s o ≡ byte_at t o
alike_at {from} {to} {s} {t} o h k e = sym (here s) ∙ ap (λ (x : Text). byte_at x (o - from)) e.same ∙ here t
  where
    here : (x : Text) → byte_at (part x from to) (o - from) ≡ byte_at x o
    here x = part_byte x from to (o - from) (omega arith) ∙ ap (byte_at x) (let z : from + (o - from) ≡ o = omega arith in z)

-- where both texts go so far, the same bytes make the same part
pub alike_bytes : (from to : ℕ) (s t : Text) → to ≤ length s → to ≤ length t → ((o : ℕ) → from ≤ o → o < to → byte_at s o ≡ byte_at t o) → AlikeIn from to s t
alike_bytes from to s t h k e = record { same = ext_get_or 256 (part s from to) (part t from to) (size s h ∙ sym (size t k)) each }
  where
    size : (x : Text) → to ≤ length x → length (part x from to) ≡ to - from
    size x l = length-take-le (to - from) (drop from x) (omega (arith, length-drop from x))

    each : (i : ℕ) → i < length (part s from to) → byte_at (part s from to) i ≡ byte_at (part t from to) i
    each i l =
        let m : i < to - from = omega (arith, size s h) in
        part_byte s from to i m ∙ e (from + i) (omega arith) (omega arith) ∙ sym (part_byte t from to i m)

-- a text is alike in its front, whatever follows it
pub alike_before : (from to : ℕ) (a s t : Text) → to ≤ length a → AlikeIn from to (a ++ s) (a ++ t)
alike_before from to a s t h =
    alike_bytes from to (a ++ s) (a ++ t) (omega (arith, length-append a s)) (omega (arith, length-append a t))
    (λ o l k. get_or-append a s 256 o (omega arith) ∙ sym (get_or-append a t 256 o (omega arith)))
