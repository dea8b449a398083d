-- Laws of the links: three bytes tell them, and where they lead. Assumes nothing.
use Rattle.std.specs.Prelude.{◌≡◌, Bool, ◌&&◌, ◌||◌, ◌⊎◌, ℕ, zero, suc, ◌+◌, ◌-◌, ◌≤◌, ◌<◌, leb, eqb, length, get_or, drop}
use Rattle.std.proofs.Math.Path.{refl, subst⁻¹}
use Rattle.std.proofs.Common.{sym, ap, ◌∙◌, inl, inr, arith, length-drop, get_or-drop, leb-true, eqb-true, ne_eqb}
use Rattle.std.proofs.Math.Bool.{true, false, not}
use mathlib.Core.List.{List, [], ◌∷◌}
use Rattle.characters.specs.declared.place.Place.{Place}
use Rattle.characters.specs.Text.{Text, ascii, byte_at, on_by, Stands}
use Rattle.characters.specs.PlaceLaws.{Advanced, on_by_stands, in_text}
use Rattle.characters.specs.Tokens.{spells}
use Rattle.characters.specs.TokenLaws.{spells_fits}
use Rattle.grammar.specs.declared.leaves.Link.{Link}
use Rattle.grammar.specs.declared.leaves.Link.TheVariants as link
use Rattle.grammar.specs.Operators.{Operator, operators, operator_of, strength_of, first_of, assignments, any_of, is_assignment}
use Rattle.grammar.specs.Leaves.{link_by, link_of}

-- ---- a rule of a table, by a test of each row

abbrev pub every : {A : Type 0} → (A → Bool) → List A → Bool
every f [] = true
every f (x ∷ xs) = f x && every f xs

pub left : (u v : Bool) → (u && v) ≡ true → u ≡ true
left true v e = refl
left false v e = e

pub right : (u v : Bool) → (u && v) ≡ true → v ≡ true
right true v e = e
right false v e = let z : ◌≡◌ {A = Bool} false true = e in cc

every_at : {A : Type 0} (f : A → Bool) (xs : List A) (d : A) (i : ℕ) → every f xs ≡ true → i < length xs → f (get_or xs i d) ≡ true
every_at f [] d i e h = absurd (let z : i < 0 = h in omega arith)
every_at f (x ∷ xs) d zero e h = left (f x) (every f xs) e
every_at f (x ∷ xs) d (suc i) e h = every_at f xs d i (right (f x) (every f xs) e) (let z : suc i < suc (length xs) = h in omega arith)

-- ---- texts that the table does not tell apart: every sign that it tests for spells them alike

-- what a text begins: an operator's number, 0 for nothing, 20 for an assignment sign
abbrev pub sign_in : Text → ℕ
sign_in t = elim (is_assignment t) [ true ↦ 20 | false ↦ first_of 1 operators t ]

module _ (ok : Text → Bool) (t u : Text) (same : (w : Text) → ok w ≡ true → spells w t ≡ spells w u) where
  any_alike : (ws : List Text) → every ok ws ≡ true → any_of ws t ≡ any_of ws u
  unfolding any_of
  any_alike [] e = refl
  any_alike (w ∷ ws) e =
      let a = same w (left (ok w) (every ok ws) e) in
      let b = any_alike ws (right (ok w) (every ok ws) e) in
      λ i. a i || b i

  first_alike : (k : ℕ) (os : List Operator) → every (λ (o : Operator). ok o.sign) os ≡ true → first_of k os t ≡ first_of k os u
  unfolding first_of
  first_alike k [] e = refl
  first_alike k (o ∷ os) e =
      let a = same o.sign (left (ok o.sign) (every (λ (o : Operator). ok o.sign) os) e) in
      let b = first_alike (suc k) os (right (ok o.sign) (every (λ (o : Operator). ok o.sign) os) e) in
      λ i. elim (a i) [ true ↦ k | false ↦ b i ]

  pub sign_alike : ok (ascii "=") ≡ true → ok (ascii "==") ≡ true → every ok assignments ≡ true → every (λ (o : Operator). ok o.sign) operators ≡ true
      → (is_assignment t ≡ is_assignment u) × (first_of 1 operators t ≡ first_of 1 operators u)
  unfolding is_assignment
  sign_alike a b c d =
      let x = same (ascii "=") a in
      let y = same (ascii "==") b in
      let z = any_alike assignments c in
      ((λ i. z i || (x i && not (y i))), first_alike 1 operators d)

-- ---- three bytes tell

-- the first n bytes of a text, 256 for each that it lacks
unfoldable fore : ℕ → Text → Text
fore zero t = []
fore (suc n) [] = 256 ∷ fore n []
fore (suc n) (b ∷ t) = b ∷ fore n t

-- at most n bytes, and each a byte
abbrev short : ℕ → Text → Bool
short n [] = true
short zero (x ∷ w) = false
short (suc n) (x ∷ w) = not (eqb x 256) && short n w

spells_fore : (n : ℕ) (w t : Text) → short n w ≡ true → spells w t ≡ spells w (fore n t)
unfolding spells fore
spells_fore n [] t e = refl
spells_fore zero (x ∷ w) t e = let z : ◌≡◌ {A = Bool} false true = e in cc
spells_fore (suc n) (x ∷ w) [] e = go (eqb x 256) e
  where
    go : (v : Bool) → (not v && short n w) ≡ true → false ≡ (v && spells w (fore n []))
    go true e = let z : ◌≡◌ {A = Bool} false true = e in cc
    go false e = refl
spells_fore (suc n) (x ∷ w) (b ∷ t) e = ap (λ (v : Bool). eqb x b && v) (spells_fore n w t (right (not (eqb x 256)) (short n w) e))

fore_bytes : (t : Text) → fore 3 t ≡ byte_at t 0 ∷ byte_at t 1 ∷ byte_at t 2 ∷ []
unfolding fore
fore_bytes [] = refl
fore_bytes (a ∷ []) = refl
fore_bytes (a ∷ b ∷ []) = refl
fore_bytes (a ∷ b ∷ c ∷ t) = refl

-- what three bytes begin: an operator's number, 0 for nothing, 19 for `?`, 20 for an assignment sign
unfoldable pub sign_of : ℕ → ℕ → ℕ → ℕ
sign_of a b c = elim (eqb a 63) [ true ↦ 19 | false ↦ sign_in (a ∷ b ∷ c ∷ []) ]

abbrev pub link_pick : Bool → Bool → ℕ → Place → Link
link_pick true w k p = link.Choice (on_by 1 p)
link_pick false true k p = link.Assign
link_pick false false k p = link_by k p

-- the link of such a number
abbrev pub link_at : ℕ → Place → Link
link_at k p = link_pick (eqb k 19) (eqb k 20) k p

-- ---- the operator found

-- the operator numbered f, where the first is numbered k, stands in the table and begins the text
pub record Hit (k : ℕ) (os : List Operator) (t : Text) (f : ℕ) : Type 0 where
  pub low : k ≤ f
  pub high : f < k + length os
  pub spelled : spells (get_or os (f - k) (operator_of 0)).sign t ≡ true

first_hit : (k : ℕ) (os : List Operator) (t : Text) → (first_of k os t ≡ 0) ⊎ Hit k os t (first_of k os t)
unfolding first_of
first_hit k [] t = inl refl
first_hit k (o ∷ os) t = go (spells o.sign t) refl (first_hit (suc k) os t)
  where
    next : (f : ℕ) → Hit (suc k) os t f → Hit k (o ∷ os) t f
    next f h =
        let l : suc k ≤ f = h.low in
        let u : f < suc k + length os = h.high in
        let z : length (o ∷ os) ≡ suc (length os) = refl in
        let e : f - k ≡ suc (f - suc k) = omega arith in
        record {
          low = omega arith;
          high = omega arith;
          spelled = ap (λ (i : ℕ). spells (get_or (o ∷ os) i (operator_of 0)).sign t) e ∙ h.spelled;
        }

    go : (b : Bool) → spells o.sign t ≡ b → (first_of (suc k) os t ≡ 0) ⊎ Hit (suc k) os t (first_of (suc k) os t)
        → (◌≡◌ {A = ℕ} (elim b [ true ↦ k | false ↦ first_of (suc k) os t ]) 0) ⊎ Hit k (o ∷ os) t (elim b [ true ↦ k | false ↦ first_of (suc k) os t ])
    go true e h =
        let z : length (o ∷ os) ≡ suc (length os) = refl in
        let d : k - k ≡ 0 = omega arith in
        inr (record { low = omega arith; high = omega arith; spelled = ap (λ (i : ℕ). spells (get_or (o ∷ os) i (operator_of 0)).sign t) d ∙ e })
    go false e (inl z) = inl z
    go false e (inr h) = inr (next (first_of (suc k) os t) h)

-- ---- the rows of the table

good : Operator → Bool
good o = leb 1 (length o.sign) && (leb 3 o.strength && leb o.strength 12)

pub record Sound (op : ℕ) : Type 0 where
  pub signed : 1 ≤ length (operator_of op).sign
  pub least : 3 ≤ strength_of op
  pub most : strength_of op ≤ 12

pub operator_sound : (op : ℕ) → 1 ≤ op → op ≤ 18 → Sound op
unfolding good
operator_sound zero l h = absurd (omega arith)
operator_sound (suc i) l h =
    let o : Operator = operator_of (suc i) in
    let g : good o ≡ true = every_at good operators (operator_of 0) i refl (omega arith) in
    let r = right (leb 1 (length o.sign)) (leb 3 o.strength && leb o.strength 12) g in
    record {
      signed = leb-true 1 (length o.sign) (left (leb 1 (length o.sign)) (leb 3 o.strength && leb o.strength 12) g);
      least = leb-true 3 o.strength (left (leb 3 o.strength) (leb o.strength 12) r);
      most = leb-true o.strength 12 (right (leb 3 o.strength) (leb o.strength 12) r);
    }

-- ---- where a link leads

abbrev pub LinkOn : Text → Place → Link → Type 0
LinkOn s p (link.Choice n) = Advanced s p n
LinkOn s p (link.Operator op n) = Advanced s p n × (1 ≤ op) × (op ≤ 18)
LinkOn s p link.Assign = Unit
LinkOn s p link.End = Unit

stepped : {s : Text} {p : Place} → Stands s p → (n : ℕ) → 1 ≤ n → p.offset + n ≤ length s → Advanced s p (on_by n p)
stepped {s} {p} h n l f = let r = on_by_stands s n p h f in record { stands = r.stands; further = omega arith }

operator_on : (s : Text) (p : Place) → Stands s p → (k : ℕ) → Hit 1 operators (drop p.offset s) k → LinkOn s p (link_by k p)
operator_on s p h zero t = absurd (let l : 1 ≤ 0 = t.low in omega arith)
operator_on s p h (suc k) t =
    let u : suc k < 19 = t.high in
    let w : Text = (operator_of (suc k)).sign in
    let e : suc k - 1 ≡ k = omega arith in
    let d = length-drop p.offset s in
    let i : p.offset ≤ length s = h.inside in
    let b : spells w (drop p.offset s) ≡ true = ap (λ (j : ℕ). spells (get_or operators j (operator_of 0)).sign (drop p.offset s)) (sym e) ∙ t.spelled in
    let f = spells_fits w (drop p.offset s) b in
    let g = (operator_sound (suc k) (omega arith) (omega arith)).signed in
    rw (ne_eqb (suc k) 0 (λ e. omega arith), LinkOn) (stepped h (length w) g (omega arith), omega arith, omega arith)

pub link_on : (s : Text) (p : Place) → Stands s p → LinkOn s p (link_of s p)
unfolding link_of
link_on s p h = go (eqb (byte_at s p.offset) 63) refl (is_assignment t) (first_hit 1 operators t)
  where
    t : Text
    t = drop p.offset s

    go : (b : Bool) → eqb (byte_at s p.offset) 63 ≡ b → (a : Bool) → (first_of 1 operators t ≡ 0) ⊎ Hit 1 operators t (first_of 1 operators t)
        → LinkOn s p (elim b [ true ↦ link.Choice (on_by 1 p) | false ↦ elim a [ true ↦ link.Assign | false ↦ link_by (first_of 1 operators t) p ] ])
    go true e a f =
        let z = eqb-true (byte_at s p.offset) 63 e in
        let l = in_text s p.offset (omega arith) in
        stepped h 1 (omega arith) (omega arith)
    go false e true f = tt
    go false e false (inl z) = subst⁻¹ (λ (k : ℕ). LinkOn s p (link_by k p)) z tt
    go false e false (inr f) = operator_on s p h (first_of 1 operators t) f

pub strengths : (op : ℕ) → 1 ≤ op → op ≤ 18 → (3 ≤ strength_of op) × (strength_of op ≤ 12)
strengths op l h = let s = operator_sound op l h in (s.least, s.most)

-- ---- three bytes tell the link

pub link_sign : (s : Text) (p : Place) → link_of s p ≡ link_at (sign_of (byte_at s p.offset) (byte_at s (p.offset + 1)) (byte_at s (p.offset + 2))) p
unfolding link_of sign_of
link_sign s p = go (eqb (byte_at s p.offset) 63) (is_assignment t) (first_hit 1 operators t) ∙ tell (eqb (byte_at s p.offset) 63)
  where
    t : Text
    t = drop p.offset s

    three : Text
    three = byte_at s p.offset ∷ byte_at s (p.offset + 1) ∷ byte_at s (p.offset + 2) ∷ []

    bytes : byte_at t 0 ∷ byte_at t 1 ∷ byte_at t 2 ∷ [] ≡ three
    bytes =
        let z : p.offset + 0 ≡ p.offset = omega arith in
        let a : byte_at t 0 ≡ byte_at s p.offset = get_or-drop p.offset s 0 256 ∙ ap (byte_at s) z in
        let b : byte_at t 1 ≡ byte_at s (p.offset + 1) = get_or-drop p.offset s 1 256 in
        let c : byte_at t 2 ≡ byte_at s (p.offset + 2) = get_or-drop p.offset s 2 256 in
        λ i. a i ∷ b i ∷ c i ∷ []

    alike : (is_assignment t ≡ is_assignment three) × (first_of 1 operators t ≡ first_of 1 operators three)
    alike = sign_alike (short 3) t three (λ w e. spells_fore 3 w t e ∙ ap (spells w) (fore_bytes t ∙ bytes)) refl refl refl refl

    tell : (b : Bool) → link_at (elim b [ true ↦ 19 | false ↦ sign_in t ]) p ≡ link_at (elim b [ true ↦ 19 | false ↦ sign_in three ]) p
    tell true = refl
    tell false = λ i. link_at (elim (alike.0 i) [ true ↦ 20 | false ↦ alike.1 i ]) p

    go : (b a : Bool) → (first_of 1 operators t ≡ 0) ⊎ Hit 1 operators t (first_of 1 operators t)
        → ◌≡◌ {A = Link} (elim b [ true ↦ link.Choice (on_by 1 p) | false ↦ elim a [ true ↦ link.Assign | false ↦ link_by (first_of 1 operators t) p ] ])
        (link_at (elim b [ true ↦ 19 | false ↦ elim a [ true ↦ 20 | false ↦ first_of 1 operators t ] ]) p)
    go true a f = refl
    go false true f = refl
    go false false (inl z) = rw z refl
    go false false (inr h) = let u : first_of 1 operators t < 19 = h.high in rw (ne_eqb (first_of 1 operators t) 19 (λ e. omega arith), ne_eqb (first_of 1 operators t) 20 (λ e. omega arith)) refl
