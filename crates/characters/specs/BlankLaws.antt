-- Laws of blanks: how one byte of them leads to the next, and that they end further on in the text. Assumes nothing.
use Rattle.std.specs.Prelude.{Ok, Err, ◌≡◌, Bool, ◌&&◌, ◌||◌, not, eqb, length}
use Rattle.std.proofs.Math.Path.{refl, ap, subst⁻¹}
use Rattle.std.proofs.Common.{sym, ◌∙◌, arith, add-one, sub-one, length-drop, drop-cons, drop-drop, eq-eqb, ne_eqb, eqb-true, ltb-true, ltb-false}
use Rattle.std.proofs.Math.Bool.{true, false}
use mathlib.Core.List.{[], ◌∷◌}
use Prim.Native.Nat.{ℕ, zero, suc, ◌+◌, ◌-◌, ◌≤◌, ◌<◌}
use Rattle.std.proofs.Math.Dec.{ltb}
use Rattle.std.proofs.Math.ListN.{drop}
use Rattle.std.proofs.lemmas.Bool.{eqb-false}
use Rattle.characters.specs.declared.place.Place.{Place}
use Rattle.characters.specs.declared.refusal.Refusal.TheVariants.{EndOfInput}
use Rattle.characters.specs.Answers.{Must, taken, failed}
use Rattle.characters.specs.Text.{Text, byte_at, ByteOf, on_by, past, Stands}
use Rattle.characters.specs.PlaceLaws.{Reached, Advanced, reached_here, reached_on, advanced_reached, from_byte, from_end, front, past_line, past_low, past_offset, past_line_same, past_stands, on_by_stands, on_by_none, on_by_on_by}
use Rattle.characters.specs.Counts.{count_of, end_of}
use Rattle.characters.specs.CountLaws.{count_yes, count_no, count_none}
use Rattle.characters.specs.Blanks.{is_blank, begins, Mode, between, line, block, passing, out, pass, blanks, spaces_in, spaces, opens_blank, is_in_line, line_end}

-- the blanks that began at `at`, from the place p on
abbrev pub pass_from : Text → Place → Mode → Place → Must
pass_from s at m p = pass at m (drop p.offset s) p

-- ---- the clauses of `pass`, one byte at a time

module _ (at : Place) (b : ℕ) (l : Text) (p : Place) where
  pass_blank : is_blank b ≡ true → pass at between (b ∷ l) p ≡ pass at between l (past b p)
  unfolding pass
  pass_blank e = rw (e, pass) refl

  pass_line : is_blank b ≡ false → begins 47 47 b l ≡ true → pass at between (b ∷ l) p ≡ pass at line l (past b p)
  unfolding pass
  pass_line e f = rw (e, f, pass) refl

  pass_open : is_blank b ≡ false → begins 47 47 b l ≡ false → begins 47 42 b l ≡ true → pass at between (b ∷ l) p ≡ pass at (passing (block zero)) l (past b p)
  unfolding pass
  pass_open e f g = rw (e, f, g, pass) refl

  pass_token : is_blank b ≡ false → begins 47 47 b l ≡ false → begins 47 42 b l ≡ false → pass at between (b ∷ l) p ≡ taken at p
  unfolding pass
  pass_token e f g = rw (e, f, g, pass) refl

  pass_in_line : eqb b 10 ≡ false → pass at line (b ∷ l) p ≡ pass at line l (past b p)
  unfolding pass
  pass_in_line e = rw (e, pass) refl

  pass_line_end : eqb b 10 ≡ true → pass at line (b ∷ l) p ≡ pass at between l (past b p)
  unfolding pass
  pass_line_end e = rw (e, pass) refl

  pass_deeper : (d : ℕ) → begins 47 42 b l ≡ true → pass at (block d) (b ∷ l) p ≡ pass at (passing (block (suc d))) l (past b p)
  unfolding pass
  pass_deeper d e = rw (e, pass) refl

  pass_close : (d : ℕ) → begins 47 42 b l ≡ false → begins 42 47 b l ≡ true → pass at (block d) (b ∷ l) p ≡ pass at (passing (out d)) l (past b p)
  unfolding pass
  pass_close d e f = rw (e, f, pass) refl

  pass_in_block : (d : ℕ) → begins 47 42 b l ≡ false → begins 42 47 b l ≡ false → pass at (block d) (b ∷ l) p ≡ pass at (block d) l (past b p)
  unfolding pass
  pass_in_block d e f = rw (e, f, pass) refl

-- ---- the same in a text

module _ (s : Text) (at p : Place) where
  -- the text from p on, its first byte named and passed
  over : (m n : Mode) (b : ℕ) → b ≡ byte_at s p.offset → b < 256 → ((l : Text) → l ≡ drop (p.offset + 1) s → pass at m (b ∷ l) p ≡ pass at n l (past b p)) → pass_from s at m p ≡ pass_from s at n (past b p)
  over m n b e h f =
      ap (λ (x : Text). pass at m x p) (from_byte s p.offset b e h)
      ∙ f (drop (p.offset + 1) s) refl
      ∙ ap (λ (o : ℕ). pass at n (drop o s) (past b p)) (sym (past_offset b p))

  -- the two bytes of a sign at p
  sign : (x y : ℕ) (l : Text) → l ≡ drop (p.offset + 1) s → byte_at s (p.offset + 1) ≡ y → begins x y x l ≡ true
  sign x y l e h = rw (eq-eqb x x refl, eq-eqb (byte_at l 0) y (ap (λ (z : Text). byte_at z 0) e ∙ front s (p.offset + 1) ∙ h))

  no_first : (x y b : ℕ) (l : Text) → (b ≡ x → ⊥) → begins x y b l ≡ false
  no_first x y b l n = rw (ne_eqb b x n)

  no_second : (x y b : ℕ) (l : Text) → l ≡ drop (p.offset + 1) s → (byte_at s (p.offset + 1) ≡ y → ⊥) → begins x y b l ≡ false
  no_second x y b l e n = go (eqb b x) (eqb (byte_at l 0) y) refl
    where
      go : (t u : Bool) → eqb (byte_at l 0) y ≡ u → (t && u) ≡ false
      go true true z = absurd (n (sym (front s (p.offset + 1)) ∙ ap (λ (x : Text). byte_at x 0) (sym e) ∙ eqb-true _ _ z))
      go true false z = refl
      go false u z = refl

  -- over the second byte of a sign
  second : (m : Mode) (x y : ℕ) → x < 128 → (x ≡ 10 → ⊥) → byte_at s (p.offset + 1) ≡ y → y < 128 → (y ≡ 10 → ⊥) → pass_from s at (passing m) (past x p) ≡ pass_from s at m (on_by 2 p)
  unfolding pass
  second m x y hx nx e hy ny =
      ap (pass_from s at (passing m)) (past_low x p nx hx)
      ∙ ap (λ (z : Text). pass at (passing m) z (on_by 1 p)) (from_byte s (p.offset + 1) y (sym e) (omega arith))
      ∙ ap (λ (q : Place). pass at m (drop (p.offset + 1 + 1) s) q) (past_low y (on_by 1 p) ny hy)
      ∙ ap (pass_from s at m) (on_by_on_by 1 1 p)

  pub over_blank : (b : ℕ) → b ≡ byte_at s p.offset → b < 256 → is_blank b ≡ true → pass_from s at between p ≡ pass_from s at between (past b p)
  over_blank b e h z = over between between b e h (λ l q. pass_blank at b l p z)

  -- "`//` to line end"
  pub opens_line : byte_at s p.offset ≡ 47 → byte_at s (p.offset + 1) ≡ 47 → pass_from s at between p ≡ pass_from s at line p
  opens_line e f =
      over between line 47 (sym e) (omega arith) (λ l q. pass_line at 47 l p refl (sign 47 47 l q f))
      ∙ sym (over line line 47 (sym e) (omega arith) (λ l q. pass_in_line at 47 l p refl))

  pub opens_block : byte_at s p.offset ≡ 47 → byte_at s (p.offset + 1) ≡ 42 → pass_from s at between p ≡ pass_from s at (block zero) (on_by 2 p)
  opens_block e f =
      over between (passing (block zero)) 47 (sym e) (omega arith) (λ l q. pass_open at 47 l p refl (no_second 47 47 47 l q (λ z. omega arith)) (sign 47 42 l q f))
      ∙ second (block zero) 47 42 (omega arith) (λ z. omega arith) f (omega arith) (λ z. omega arith)

  pub deeper : (d : ℕ) → byte_at s p.offset ≡ 47 → byte_at s (p.offset + 1) ≡ 42 → pass_from s at (block d) p ≡ pass_from s at (block (suc d)) (on_by 2 p)
  deeper d e f =
      over (block d) (passing (block (suc d))) 47 (sym e) (omega arith) (λ l q. pass_deeper at 47 l p d (sign 47 42 l q f))
      ∙ second (block (suc d)) 47 42 (omega arith) (λ z. omega arith) f (omega arith) (λ z. omega arith)

  pub closes : (d : ℕ) → byte_at s p.offset ≡ 42 → byte_at s (p.offset + 1) ≡ 47 → pass_from s at (block d) p ≡ pass_from s at (out d) (on_by 2 p)
  closes d e f =
      over (block d) (passing (out d)) 42 (sym e) (omega arith) (λ l q. pass_close at 42 l p d (no_first 47 42 42 l (λ z. omega arith)) (sign 42 47 l q f))
      ∙ second (out d) 42 47 (omega arith) (λ z. omega arith) f (omega arith) (λ z. omega arith)

  -- a byte of a comment that is no part of a sign
  pub in_block : (d b : ℕ) → b ≡ byte_at s p.offset → b < 256 → (b ≡ 47 → byte_at s (p.offset + 1) ≡ 42 → ⊥) → (b ≡ 42 → byte_at s (p.offset + 1) ≡ 47 → ⊥) → pass_from s at (block d) p ≡ pass_from s at (block d) (past b p)
  in_block d b e h f g = over (block d) (block d) b e h (λ l q. pass_in_block at b l p d (neither 47 42 l q f) (neither 42 47 l q g))
    where
      neither : (x y : ℕ) (l : Text) → l ≡ drop (p.offset + 1) s → (b ≡ x → byte_at s (p.offset + 1) ≡ y → ⊥) → begins x y b l ≡ false
      neither x y l q n = go (eqb b x) refl
        where
          go : (t : Bool) → eqb b x ≡ t → begins x y b l ≡ false
          go true z = no_second x y b l q (n (eqb-true b x z))
          go false z = rw z

  -- no blank stands here
  pub at_token : (b : ℕ) → b ≡ byte_at s p.offset → is_blank b ≡ false → (b ≡ 47 → ⊥) → pass_from s at between p ≡ taken at p
  unfolding pass
  at_token b e z n = go (ltb p.offset (length s)) refl
    where
      go : (t : Bool) → ltb p.offset (length s) ≡ t → pass_from s at between p ≡ taken at p
      go true t =
          ap (λ (x : Text). pass at between x p) (drop-cons s p.offset 256 (ltb-true p.offset (length s) t))
          ∙ ap (λ (x : ℕ). pass at between (x ∷ drop (suc p.offset) s) p) (sym e)
          ∙ pass_token at b (drop (suc p.offset) s) p z (no_first 47 47 b (drop (suc p.offset) s) n) (no_first 47 42 b (drop (suc p.offset) s) n)
      go false t = ap (λ (x : Text). pass at between x p) (from_end s p.offset (ltb-false p.offset (length s) t))

  -- a `/` that opens no comment
  pub at_slash : byte_at s p.offset ≡ 47 → (byte_at s (p.offset + 1) ≡ 47 → ⊥) → (byte_at s (p.offset + 1) ≡ 42 → ⊥) → pass_from s at between p ≡ taken at p
  at_slash e n m =
      ap (λ (x : Text). pass at between x p) (from_byte s p.offset 47 (sym e) (omega arith))
      ∙ pass_token at 47 (drop (p.offset + 1) s) p refl (no_second 47 47 47 (drop (p.offset + 1) s) refl n) (no_second 47 42 47 (drop (p.offset + 1) s) refl m)

  pub unclosed : (d : ℕ) → length s ≤ p.offset → pass_from s at (block d) p ≡ failed EndOfInput p
  unfolding pass
  unclosed d h = ap (λ (x : Text). pass at (block d) x p) (from_end s p.offset h)

pub out_in : (d : ℕ) → (d ≡ 0 → ⊥) → out d ≡ block (d - 1)
out_in zero h = absurd (h refl)
out_in (suc d) h = ap block (sym (sub-one (suc d)))

pub not_blank : (b : ℕ) → (b ≡ 32 → ⊥) → (b ≡ 9 → ⊥) → (b ≡ 10 → ⊥) → (b ≡ 12 → ⊥) → (b ≡ 13 → ⊥) → is_blank b ≡ false
not_blank b m n o p q = rw (ne_eqb b 32 m, ne_eqb b 9 n, ne_eqb b 10 o, ne_eqb b 12 p, ne_eqb b 13 q)

-- a byte that opens no blank
opens_none : (b : ℕ) → opens_blank b ≡ false → (33 ≤ b) × (b ≡ 47 → ⊥)
opens_none b e = go (ltb b 33) refl e
  where
    go : (t : Bool) → ltb b 33 ≡ t → (t || eqb b 47) ≡ false → (33 ≤ b) × (b ≡ 47 → ⊥)
    go true z f = let w : ◌≡◌ {A = ℕ} 0 1 = cc in absurd (omega arith)
    go false z f = (ltb-false b 33 z, eqb-false b 47 f)

-- ---- plain spaces

spaces_yes : (b : ℕ) (l : Text) → b ≡ 32 → spaces_in (b ∷ l) ≡ suc (spaces_in l)
unfolding spaces_in
spaces_yes b l e = rw (eq-eqb b 32 e, spaces_in) refl

spaces_no : (b : ℕ) (l : Text) → (b ≡ 32 → ⊥) → spaces_in (b ∷ l) ≡ zero
unfolding spaces_in
spaces_no b l n = rw (ne_eqb b 32 n, spaces_in) refl

spaces_fit : (l : Text) → spaces_in l ≤ length l
unfolding spaces_in
spaces_fit [] = omega arith
spaces_fit (b ∷ l) = go (eqb b 32) (spaces_fit l)
  where
    go : (t : Bool) → spaces_in l ≤ length l → elim t as (λ u. ℕ) [ true ↦ suc (spaces_in l) | false ↦ zero ] ≤ suc (length l)
    go true h = omega arith
    go false h = omega arith

-- the spaces that a text begins with are passed
pass_spaces : (at : Place) (l : Text) (p : Place) → pass at between l p ≡ pass at between (drop (spaces_in l) l) (on_by (spaces_in l) p)
unfolding spaces_in
pass_spaces at [] p = ap (pass at between []) (sym (on_by_none p))
pass_spaces at (b ∷ l) p = go (eqb b 32) refl (pass_spaces at l (on_by 1 p))
  where
    go : (t : Bool) → eqb b 32 ≡ t → pass at between l (on_by 1 p) ≡ pass at between (drop (spaces_in l) l) (on_by (spaces_in l) (on_by 1 p))
        → pass at between (b ∷ l) p ≡ (let n : ℕ = elim t as (λ u. ℕ) [ true ↦ suc (spaces_in l) | false ↦ zero ] in pass at between (drop n (b ∷ l)) (on_by n p))
    go true e ih =
        let z : b ≡ 32 = eqb-true b 32 e in
        pass_blank at b l p (ap is_blank z)
        ∙ ap (pass at between l) (past_low b p (λ h. omega arith) (omega arith))
        ∙ ih
        ∙ ap (pass at between (drop (spaces_in l) l)) (on_by_on_by 1 (spaces_in l) p ∙ ap (λ (n : ℕ). on_by n p) (let z : 1 + spaces_in l ≡ suc (spaces_in l) = omega arith in z))
    go false e ih = ap (pass at between (b ∷ l)) (sym (on_by_none p))

module _ (s : Text) where
  -- one space of several, and their end
  pub spaces_on : (o : ℕ) → byte_at s o ≡ 32 → spaces s o ≡ suc (spaces s (o + 1))
  spaces_on o e = ap spaces_in (from_byte s o 32 (sym e) (omega arith)) ∙ spaces_yes 32 (drop (o + 1) s) refl

  pub spaces_end : (o : ℕ) → (byte_at s o ≡ 32 → ⊥) → spaces s o ≡ zero
  unfolding spaces_in
  spaces_end o n = go (ltb o (length s)) refl
    where
      go : (t : Bool) → ltb o (length s) ≡ t → spaces s o ≡ zero
      go true t = ap spaces_in (drop-cons s o 256 (ltb-true o (length s) t)) ∙ spaces_no (byte_at s o) (drop (suc o) s) n
      go false t = ap spaces_in (from_end s o (ltb-false o (length s) t))

  pub over_spaces : (at p : Place) → pass_from s at between p ≡ pass_from s at between (on_by (spaces s p.offset) p)
  over_spaces at p =
      pass_spaces at (drop p.offset s) p
      ∙ ap (λ (l : Text). pass at between l (on_by (spaces s p.offset) p)) (drop-drop (spaces s p.offset) p.offset s)

-- the place past the spaces
pub spaces_stands : {s : Text} {p : Place} → Stands s p → Stands s (on_by (spaces s p.offset) p)
spaces_stands {s} {p} h =
    let f = spaces_fit (drop p.offset s) in
    let d = length-drop p.offset s in
    let i : p.offset ≤ length s = h.inside in
    (on_by_stands s (spaces s p.offset) p h (omega arith)).stands

-- where no blank begins past the spaces, they are all the blanks
pub spaces_blanks : (s : Text) (p : Place) → opens_blank (byte_at s (p.offset + spaces s p.offset)) ≡ false → blanks s p ≡ taken p (on_by (spaces s p.offset) p)
unfolding blanks
spaces_blanks s p e =
    let b : ℕ = byte_at s (p.offset + spaces s p.offset) in
    let n = opens_none b e in
    let h : 33 ≤ b = n.0 in
    over_spaces s p p
    ∙ at_token s p (on_by (spaces s p.offset) p) b refl (not_blank b (λ z. omega arith) (λ z. omega arith) (λ z. omega arith) (λ z. omega arith) (λ z. omega arith)) n.1

-- the same of what code holds: a count of spaces, the place past them and the byte there
pub spaced : (s : Text) (p : Place) {q : Place} {n : ℕ} → n ≡ spaces s p.offset → q ≡ on_by n p → q ≡ on_by (spaces s p.offset) p
spaced s p e z = z ∙ ap (λ (k : ℕ). on_by k p) e

pub spaced_stands : {s : Text} {p q : Place} {n : ℕ} → Stands s p → n ≡ spaces s p.offset → q ≡ on_by n p → Stands s q
spaced_stands {s} {p} h e z = subst⁻¹ (Stands s) (spaced s p e z) (spaces_stands h)

pub only_spaces : {s : Text} {at q : Place} {n c : ℕ} {t : Bool} → n ≡ spaces s at.offset → q ≡ on_by n at → ByteOf s q.offset c → t ≡ opens_blank c → t ≡ false → taken at q ≡ blanks s at
only_spaces {s} {at} e z g f h = ap (taken at) (spaced s at e z) ∙ sym (spaces_blanks s at (ap (λ (x : Place). opens_blank (byte_at s x.offset)) (sym (spaced s at e z)) ∙ ap opens_blank (sym g.is) ∙ sym f ∙ h))

-- where no blank begins, there are none
pub bare : {s : Text} {q : Place} {c : ℕ} {t : Bool} → ByteOf s q.offset c → t ≡ opens_blank c → t ≡ false → taken q q ≡ blanks s q
bare {s} {q} {c} g f h =
    let n : opens_blank (byte_at s q.offset) ≡ false = ap opens_blank (sym g.is) ∙ sym f ∙ h in
    let m = opens_none (byte_at s q.offset) n in
    let l : 33 ≤ byte_at s q.offset = m.0 in
    only_spaces (sym (spaces_end s q.offset (λ z. omega arith))) (sym (on_by_none q)) g f h

-- ---- where blanks end

-- the place that blanks lead to, from p on, having begun at `at`
abbrev pub PassedOn : Text → Place → Place → Must → Type 0
PassedOn s at p (Ok t) = (t.here ≡ at) × Reached s p t.next
PassedOn s at p (Err e) = (e.refusal ≡ EndOfInput) × Reached s p e.at

passed_later : (s : Text) (at p p' : Place) → Reached s p p' → (r : Must) → PassedOn s at p' r → PassedOn s at p r
passed_later s at p p' h (Ok t) (e, g) = (e, reached_on h g)
passed_later s at p p' h (Err d) (e, g) = (e, reached_on h g)

either : (P : Must → Type 0) (t : Bool) {x y : Must} → P x → P y → P (elim t as (λ b. Must) [ true ↦ x | false ↦ y ])
either P true a b = a
either P false a b = b

-- what is left of the text after its first byte
pub rest : (s : Text) (o b : ℕ) (l : Text) → b ∷ l ≡ drop o s → (o < length s) × (l ≡ drop (o + 1) s)
rest s o b l e = go (ltb o (length s)) refl
  where
    go : (t : Bool) → ltb o (length s) ≡ t → (o < length s) × (l ≡ drop (o + 1) s)
    go true t =
        let h : o < length s = ltb-true o (length s) t in
        let f : b ∷ l ≡ byte_at s o ∷ drop (suc o) s = e ∙ drop-cons s o 256 h in
        (h, (let g : l ≡ drop (suc o) s = cc in g) ∙ ap (λ (k : ℕ). drop k s) (sym (add-one o)))
    go false t = let z : b ∷ l ≡ [] = e ∙ from_end s o (ltb-false o (length s) t) in let w : ◌≡◌ {A = ℕ} 0 1 = cc in absurd (omega arith)

module _ (s : Text) (at : Place) where
  pass_on : (l : Text) (m : Mode) (p : Place) → Stands s p → l ≡ drop p.offset s → PassedOn s at p (pass at m l p)
  unfolding pass
  pass_on [] between p h e = (refl, reached_here h)
  pass_on [] line p h e = (refl, reached_here h)
  pass_on [] (block d) p h e = (refl, reached_here h)
  pass_on [] (passing m) p h e = (refl, reached_here h)
  pass_on (b ∷ l) m p h e = go (λ n. passed_later s at p (past b p) (advanced_reached a) (pass at n l (past b p)) (pass_on l n (past b p) a.stands ((rest s p.offset b l e).1 ∙ ap (λ (o : ℕ). drop o s) (sym (past_offset b p))))) m
    where
      a : Advanced s p (past b p)
      a = past_stands s b p h (rest s p.offset b l e).0

      P : Must → Type 0
      P = PassedOn s at p

      go : ((n : Mode) → P (pass at n l (past b p))) → (m : Mode) → P (pass at m (b ∷ l) p)
      go ih between = either P (is_blank b) (ih between) (either P (begins 47 47 b l) (ih line) (either P (begins 47 42 b l) (ih (passing (block zero))) (refl, reached_here h)))
      go ih line = either P (eqb b 10) (ih between) (ih line)
      go ih (block d) = either P (begins 47 42 b l) (ih (passing (block (suc d)))) (either P (begins 42 47 b l) (ih (passing (out d))) (ih (block d)))
      go ih (passing m) = ih m

  -- blanks end further on in the text, or at its end
  pub pass_from_on : (m : Mode) (p : Place) → Stands s p → PassedOn s at p (pass_from s at m p)
  pass_from_on m p h = pass_on (drop p.offset s) m p h refl

pub blanks_on : (s : Text) (p : Place) → Stands s p → PassedOn s p p (blanks s p)
unfolding blanks
blanks_on s p h = pass_from_on s p between p h

-- ---- lines

module _ (s : Text) where
  line_on_lem : (l : Text) (p : Place) → Stands s p → l ≡ drop p.offset s → Reached s p (line_end l p)
  unfolding line_end
  line_on_lem [] p h e = reached_here h
  line_on_lem (b ∷ l) p h e = go (eqb b 10) (reached_on (advanced_reached a) (line_on_lem l (past b p) a.stands ((rest s p.offset b l e).1 ∙ ap (λ (o : ℕ). drop o s) (sym (past_offset b p)))))
    where
      a : Advanced s p (past b p)
      a = past_stands s b p h (rest s p.offset b l e).0

      go : (t : Bool) → Reached s p (line_end l (past b p)) → Reached s p (elim t as (λ u. Place) [ true ↦ past b p | false ↦ line_end l (past b p) ])
      go true ih = advanced_reached a
      go false ih = ih

  pub line_end_on : (p : Place) → Stands s p → Reached s p (line_end (drop p.offset s) p)
  line_end_on p h = line_on_lem (drop p.offset s) p h refl

  pass_by_line : (at : Place) (l : Text) (p : Place) → l ≡ drop p.offset s → pass at line l p ≡ pass_from s at between (line_end l p)
  unfolding pass line_end
  pass_by_line at [] p e = ap (λ (x : Text). pass at between x p) e
  pass_by_line at (b ∷ l) p e = go (eqb b 10) (pass_by_line at l (past b p) onward)
    where
      onward : l ≡ drop (past b p).offset s
      onward = (rest s p.offset b l e).1 ∙ ap (λ (o : ℕ). drop o s) (sym (past_offset b p))

      go : (t : Bool) → pass at line l (past b p) ≡ pass_from s at between (line_end l (past b p))
          → elim t as (λ u. Must) [ true ↦ pass at between l (past b p) | false ↦ pass at line l (past b p) ] ≡ pass_from s at between (elim t as (λ u. Place) [ true ↦ past b p | false ↦ line_end l (past b p) ])
      go true ih = ap (λ (x : Text). pass at between x (past b p)) onward
      go false ih = ih

  -- a `//` comment leads to the end of its line
  pub by_line : (at p : Place) → pass_from s at line p ≡ pass_from s at between (line_end (drop p.offset s) p)
  by_line at p = pass_by_line at (drop p.offset s) p refl

  -- one byte of a line, and the end of the text
  pub line_end_in : (p : Place) (b : ℕ) → b ≡ byte_at s p.offset → b < 256 → (b ≡ 10 → ⊥) → line_end (drop p.offset s) p ≡ line_end (drop (past b p).offset s) (past b p)
  line_end_in p b e h n =
      ap (λ (x : Text). line_end x p) (from_byte s p.offset b e h)
      ∙ go (drop (p.offset + 1) s) (ne_eqb b 10 n)
      ∙ ap (λ (o : ℕ). line_end (drop o s) (past b p)) (sym (past_offset b p))
    where
      go : (l : Text) → eqb b 10 ≡ false → line_end (b ∷ l) p ≡ line_end l (past b p)
      go l z = unfold line_end in rw (z, line_end) refl

  pub line_end_end : (p : Place) → length s ≤ p.offset → line_end (drop p.offset s) p ≡ p
  unfolding line_end
  line_end_end p h = ap (λ (x : Text). line_end x p) (from_end s p.offset h)

pub in_line : (b : ℕ) → (b ≡ 10 → ⊥) → is_in_line b ≡ true
in_line b n = ap not (ne_eqb b 10 n)

pub no_line : (b : ℕ) → b ≡ 10 → is_in_line b ≡ false
no_line b e = ap not (eq-eqb b 10 e)

-- a line that an LF ends: past it, whatever the columns before
line_counted : (l : Text) (p : Place) → count_of is_in_line l < length l → line_end l p ≡ record { offset = p.offset + count_of is_in_line l + 1; line = p.line + 1; column = 1 }
unfolding line_end
line_counted [] p h = absurd (let z = count_none is_in_line in omega arith)
line_counted (b ∷ l) p h = go (eqb b 10) refl (line_counted l (past b p))
  where
    go : (t : Bool) → eqb b 10 ≡ t → (count_of is_in_line l < length l → line_end l (past b p) ≡ record { offset = (past b p).offset + count_of is_in_line l + 1; line = (past b p).line + 1; column = 1 })
        → ◌≡◌ {A = Place} (elim t as (λ u. Place) [ true ↦ past b p | false ↦ line_end l (past b p) ]) (record { offset = p.offset + count_of is_in_line (b ∷ l) + 1; line = p.line + 1; column = 1 })
    go true e ih =
        let n : b ≡ 10 = eqb-true b 10 e in
        let c = count_no is_in_line b l (no_line b n) in
        let o : p.offset + 1 ≡ p.offset + count_of is_in_line (b ∷ l) + 1 = omega arith in
        past_line b p n ∙ ap (λ (x : ℕ). record { offset = x; line = p.line + 1; column = 1 }) o
    go false e ih =
        let n : b ≡ 10 → ⊥ = eqb-false b 10 e in
        let c = count_yes is_in_line b l (in_line b n) in
        let k = past_offset b p in
        let o : (past b p).offset + count_of is_in_line l + 1 ≡ p.offset + count_of is_in_line (b ∷ l) + 1 = omega arith in
        ih (omega arith) ∙ (λ i. record { offset = o i; line = past_line_same b p n i + 1; column = 1 })

pub line_by_stop : (s : Text) (p : Place) {e : ℕ} → e ≡ end_of is_in_line s p.offset → e < length s → record { offset = e + 1; line = p.line + 1; column = 1 } ≡ line_end (drop p.offset s) p
line_by_stop s p {e} z h =
    let d = length-drop p.offset s in
    ap (λ (x : ℕ). record { offset = x + 1; line = p.line + 1; column = 1 }) z ∙ sym (line_counted (drop p.offset s) p (omega arith))

-- what reading a comment that opens at p answers: where the blanks go on, or how they fail
abbrev pub ClosesBy : Text → Place → Must → Type 0
ClosesBy s p (Ok t) = ((at : Place) → pass_from s at between p ≡ pass_from s at between t.next) × Advanced s p t.next
ClosesBy s p (Err e) = (at : Place) → pass_from s at between p ≡ Err e

pub record Closes (s : Text) (p : Place) (r : Must) : Type 0 where
  pub goes : ClosesBy s p r
