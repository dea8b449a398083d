-- Blanks are decided by their bytes and the byte behind them, and by one more where that is a `/`: texts that agree there have the same blanks.
-- Assumes nothing.
use Rattle.std.specs.Prelude.{◌≡◌, refl, Bool, true, false, ◌&&◌, [], ◌∷◌, ℕ, zero, suc, ◌+◌, ◌-◌, ◌≤◌, ◌<◌, eqb, drop}
use Rattle.std.proofs.Common.{sym, ap, subst, ◌∙◌, arith, eqb-true}
use Rattle.std.proofs.Math.Path.{subst⁻¹}
use Rattle.characters.specs.declared.place.Place.{Place}
use Rattle.characters.specs.Answers.{Must, taken, taken_next}
use Rattle.characters.specs.Text.{Text, byte_at, past, Stands}
use Rattle.characters.specs.PlaceLaws.{front, past_offset, past_stands}
use Rattle.characters.specs.Blanks.{is_blank, begins, Mode, between, line, block, passing, out, pass, blanks}
use Rattle.characters.specs.BlankLaws.{PassedOn, pass_from_on, rest}
use Rattle.characters.specs.AlikeLaws.{Alike, AlikeIn, alike_sym, alike_byte, alike_rest, alike_none, alike_from}

-- ---- one byte of blanks

-- what a byte of blanks leads to: no further, or on
data Turn : Type 0 where
  stay : Turn
  on : Mode → Turn

-- by the byte and the one behind it
turn : Mode → ℕ → ℕ → Turn
turn between b x =
    elim (is_blank b) [
      | true ↦ on between
      | false ↦
          elim (eqb b 47 && eqb x 47) [
            | true ↦ on line
            | false ↦ elim (eqb b 47 && eqb x 42) [ true ↦ on (passing (block zero)) | false ↦ stay ]
          ]
    ]
turn line b x = elim (eqb b 10) [ true ↦ on between | false ↦ on line ]
turn (block d) b x =
    elim (eqb b 47 && eqb x 42) [
      | true ↦ on (passing (block (suc d)))
      | false ↦ elim (eqb b 42 && eqb x 47) [ true ↦ on (passing (out d)) | false ↦ on (block d) ]
    ]
turn (passing m) b x = on m

-- the blanks from that byte on
abbrev turned : Place → ℕ → Text → Place → Turn → Must
turned at b l p stay = taken at p
turned at b l p (on m) = pass at m l (past b p)

-- a choice of turns is a choice of what they lead to
by_turn : (f : Turn → Must) (t : Bool) {x y : Turn} {w z : Must} → w ≡ f x → z ≡ f y → elim t as (λ u. Must) [ true ↦ w | false ↦ z ] ≡ f (elim t as (λ u. Turn) [ true ↦ x | false ↦ y ])
by_turn f true e g = e
by_turn f false e g = g

-- so `pass` looks at two bytes
pass_turn : (at : Place) (m : Mode) (b : ℕ) (l : Text) (p : Place) → pass at m (b ∷ l) p ≡ turned at b l p (turn m b (byte_at l 0))
unfolding pass turn
pass_turn at between b l p = by_turn (turned at b l p) (is_blank b) refl (by_turn (turned at b l p) (begins 47 47 b l) refl (by_turn (turned at b l p) (begins 47 42 b l) refl refl))
pass_turn at line b l p = by_turn (turned at b l p) (eqb b 10) refl refl
pass_turn at (block d) b l p = by_turn (turned at b l p) (begins 47 42 b l) refl (by_turn (turned at b l p) (begins 42 47 b l) refl refl)
pass_turn at (passing m) b l p = refl

-- a comment goes on at each byte
abbrev Goes : Turn → Type 0
Goes stay = ⊥
Goes (on m) = Unit {0}

goes : (t : Bool) (x y : Turn) → Goes x → Goes y → Goes (elim t as (λ u. Turn) [ true ↦ x | false ↦ y ])
goes true x y a b = a
goes false x y a b = b

in_block : (d b x : ℕ) → Goes (turn (block d) b x)
unfolding turn
in_block d b x =
    goes (eqb b 47 && eqb x 42) (on (passing (block (suc d)))) (elim (eqb b 42 && eqb x 47) as (λ u. Turn) [ true ↦ on (passing (out d)) | false ↦ on (block d) ]) tt
    (goes (eqb b 42 && eqb x 47) (on (passing (out d))) (on (block d)) tt tt)

-- where blanks end, the byte behind counts only after a `/`
turn_stay : (m : Mode) (b x y : ℕ) → (b ≡ 47 → x ≡ y) → turn m b x ≡ stay → turn m b y ≡ stay
unfolding turn
turn_stay between b x y h e = go (eqb b 47) refl
  where
    none : (z : ℕ) → eqb b 47 ≡ false
        → elim (eqb b 47 && eqb z 47) as (λ u. Turn) [ true ↦ on line | false ↦ elim (eqb b 47 && eqb z 42) as (λ u. Turn) [ true ↦ on (passing (block zero)) | false ↦ stay ] ] ≡ stay
    none z k = rw (k, k)

    token : (z : ℕ) → eqb b 47 ≡ false → turn between b z ≡ elim (is_blank b) as (λ u. Turn) [ true ↦ on between | false ↦ stay ]
    token z k = ap (λ (v : Turn). elim (is_blank b) as (λ u. Turn) [ true ↦ on between | false ↦ v ]) (none z k)

    go : (t : Bool) → eqb b 47 ≡ t → turn between b y ≡ stay
    go true k = ap (turn between b) (sym (h (eqb-true b 47 k))) ∙ e
    go false k = token y k ∙ sym (token x k) ∙ e
turn_stay line b x y h e = e
turn_stay (block d) b x y h e = absurd (subst Goes e (in_block d b x))
turn_stay (passing m) b x y h e = e

-- ---- all of them

module _ (s t : Text) (at h q : Place) (slash : byte_at s q.offset ≡ 47 → byte_at s (q.offset + 1) ≡ byte_at t (q.offset + 1)) where
  -- no blanks end before a place in them
  onward : (l : Text) (m : Mode) (p : Place) → Stands s p → l ≡ drop p.offset s → pass at m l p ≡ taken h q → p.offset ≤ q.offset
  onward l m p st z e = (subst (PassedOn s at p) (ap (λ (x : Text). pass at m x p) (sym z) ∙ e) (pass_from_on s at m p st)).1.further

  -- where so many bytes are alike that the blanks end before the last of them
  pass_stable : (l r : Text) (n : ℕ) (m : Mode) (p : Place)
      → Stands s p
      → l ≡ drop p.offset s
      → r ≡ drop p.offset t
      → Alike n l r
      → q.offset < p.offset + n
      → pass at m l p ≡ taken h q
      → pass at m r p ≡ taken h q
  pass_stable l r zero m p st z w a k e = absurd (omega (arith, onward l m p st z e))
  pass_stable [] [] (suc n) m p st z w a k e = e
  pass_stable [] (c ∷ r) (suc n) m p st z w a k e = alike_none (alike_sym a)
  pass_stable (b ∷ l) [] (suc n) m p st z w a k e = alike_none a
  pass_stable (b ∷ l) (c ∷ r) (suc n) m p st z w a k e =
      go (turn m b (byte_at l 0)) refl
      (λ x. pass_stable l r n x (past b p) stands (after s b l z) (after t c r w) (alike_rest a) (omega (arith, past_offset b p)))
      (sym (pass_turn at m b l p) ∙ e)
    where
      stands : Stands s (past b p)
      stands = (past_stands s b p st (rest s p.offset b l z).0).stands

      after : (x : Text) (d : ℕ) (y : Text) → d ∷ y ≡ drop p.offset x → y ≡ drop (past b p).offset x
      after x d y f = (rest x p.offset d y f).1 ∙ ap (λ (o : ℕ). drop o x) (sym (past_offset b p))

      first : b ≡ c
      first = alike_byte 0 (omega arith) a

      next : (x : Text) (d : ℕ) (y : Text) → d ∷ y ≡ drop p.offset x → byte_at y 0 ≡ byte_at x (p.offset + 1)
      next x d y f = ap (λ (v : Text). byte_at v 0) (rest x p.offset d y f).1 ∙ front x (p.offset + 1)

      end : p ≡ q → b ≡ 47 → byte_at s (p.offset + 1) ≡ byte_at t (p.offset + 1)
      end y g =
          let here : byte_at s p.offset ≡ 47 = sym (front s p.offset) ∙ ap (λ (x : Text). byte_at x 0) (sym z) ∙ g in
          subst⁻¹ (λ (x : Place). byte_at s x.offset ≡ 47 → byte_at s (x.offset + 1) ≡ byte_at t (x.offset + 1)) y slash here

      leads : (x : Turn) → turn m b (byte_at r 0) ≡ x → pass at m (c ∷ r) p ≡ turned at b r p x
      leads x f = ap (λ (d : ℕ). pass at m (d ∷ r) p) (sym first) ∙ pass_turn at m b r p ∙ ap (turned at b r p) f

      go : (x : Turn) → turn m b (byte_at l 0) ≡ x
          → ((x : Mode) → pass at x l (past b p) ≡ taken h q → pass at x r (past b p) ≡ taken h q)
          → turned at b l p x ≡ taken h q
          → pass at m (c ∷ r) p ≡ taken h q
      go stay f ih e =
          let y : p ≡ q = taken_next e in
          leads stay (turn_stay m b (byte_at l 0) (byte_at r 0) (λ g. next s b l z ∙ end y g ∙ sym (next t c r w)) f) ∙ e
      go (on x) f ih e =
          let o : (past b p).offset ≤ q.offset = onward l x (past b p) stands (after s b l z) e in
          leads (on x) (ap (turn m b) (sym (alike_byte 0 (omega (arith, past_offset b p)) (alike_rest a))) ∙ f) ∙ ih x e

-- the blanks of one text are the blanks of the other
pub blanks_stable : (s t : Text) (p h q : Place)
    → Stands s p
    → AlikeIn p.offset (q.offset + 1) s t
    → (byte_at s q.offset ≡ 47 → byte_at s (q.offset + 1) ≡ byte_at t (q.offset + 1))
    → blanks s p ≡ taken h q
    → blanks t p ≡ taken h q
unfolding blanks
blanks_stable s t p h q st a slash e =
    pass_stable s t p h q slash (drop p.offset s) (drop p.offset t) (q.offset + 1 - p.offset) between p st refl refl (alike_from a) (omega arith) e
