-- What the reader of links shows on the way: a byte that no sign has at its place may be any other such byte. Assumes nothing.
use mathlib.Core.Path.{◌≡◌, refl, sym, ap, subst, ◌∙◌}
use mathlib.Core.Bool.{Bool, true, false, ◌&&◌, ◌||◌}
use mathlib.Core.List.{List, [], ◌∷◌}
use Prim.Native.Nat.{ℕ, ◌+◌, ◌≤◌, ◌<◌, ◌^◌}
use native.Mathlib.Omega.{arith}
use lib.Dec.{eqb}
use lib.ListN.{length}
use borrow.Author.Tests.{eqb-true, eqb-false, ne_eqb}
use Rattle.characters.specs.declared.place.Place.{Place}
use Rattle.characters.specs.Text.{Text, ByteOf, on_by, Stands}
use Rattle.characters.specs.Tokens.{spells}
use Rattle.grammar.specs.declared.leaves.Link.TheVariants.{Operator}
use Rattle.grammar.specs.Operators.{operator_of, first_of, any_of, is_assignment}
use Rattle.grammar.specs.Leaves.{link_by, link_of}
use Rattle.grammar.specs.LinkLaws.{left, right, sign_in, sign_alike, sign_of, link_pick, link_at, link_sign, LinkOn, link_on}

-- the bytes that a sign begins with, as the last arm of a match over them knows them, the last first
abbrev firsts : List ℕ
firsts = 124 ∷ 94 ∷ 63 ∷ 62 ∷ 61 ∷ 60 ∷ 47 ∷ 45 ∷ 43 ∷ 42 ∷ 38 ∷ 37 ∷ 33 ∷ []

abbrev pub NoneOf : List ℕ → ℕ → Type 0
NoneOf [] a = Unit
NoneOf (x ∷ xs) a = NoneOf xs a × (a ≡ x → ⊥)

one_of : List ℕ → ℕ → Bool
one_of [] a = false
one_of (x ∷ xs) a = eqb a x || one_of xs a

none_of : (xs : List ℕ) (a : ℕ) → NoneOf xs a → one_of xs a ≡ false
unfolding one_of
none_of [] a h = refl
none_of (x ∷ xs) a h = rw (ne_eqb a x h.1) (none_of xs a h.0)

-- the form of a sign: after its first byte that byte again or `=`, and then `=`
closes : Text → Bool
closes [] = true
closes (z ∷ w) = eqb z 61

goes_on : ℕ → Text → Bool
goes_on x [] = true
goes_on x (y ∷ w) = (eqb y 61 || eqb y x) && closes w

formed : Text → Bool
formed [] = true
formed (x ∷ w) = one_of firsts x && goes_on x w

never : false ≡ true → ⊥
never e = let z : ◌≡◌ {A = ℕ} 0 1 = cc in omega arith

-- a byte that is met and one that is not
miss : (x a b : ℕ) (v w : Bool) → (x ≡ a → ⊥) → (x ≡ b → ⊥) → (eqb x a && v) ≡ (eqb x b && w)
miss x a b v w h k = rw (ne_eqb x a h, ne_eqb x b k) refl

module _ (t u : Text) (same : (w : Text) → formed w ≡ true → spells w t ≡ spells w u) where
  alike : sign_in t ≡ sign_in u
  unfolding formed goes_on closes one_of
  alike = let x = sign_alike formed t u same refl refl refl refl in λ i. elim (x.0 i) [ true ↦ 20 | false ↦ x.1 i ]

-- the third byte is no `=`
third : (a b c : ℕ) → (c ≡ 61 → ⊥) → (w : Text) → formed w ≡ true → spells w (a ∷ b ∷ c ∷ []) ≡ spells w (a ∷ b ∷ 0 ∷ [])
unfolding spells formed goes_on closes
third a b c h [] e = refl
third a b c h (x ∷ []) e = refl
third a b c h (x ∷ y ∷ []) e = refl
third a b c h (x ∷ y ∷ z ∷ w) e =
    let f = eqb-true z 61 (right (eqb y 61 || eqb y x) (eqb z 61) (right (one_of firsts x) (goes_on x (y ∷ z ∷ w)) e)) in
    ap (λ (v : Bool). eqb x a && (eqb y b && v)) (miss z c 0 (spells w []) (spells w []) (λ g. h (sym g ∙ f)) (λ g. eqb-false 0 61 refl (sym g ∙ f)))

-- the second byte is no `=`, and not the first again
second : (a b : ℕ) (t : Text) → (b ≡ 61 → ⊥) → (b ≡ a → ⊥) → (w : Text) → formed w ≡ true → spells w (a ∷ b ∷ t) ≡ spells w (a ∷ 0 ∷ t)
unfolding spells formed goes_on one_of
second a b t h k [] e = refl
second a b t h k (x ∷ []) e = refl
second a b t h k (x ∷ y ∷ w) e =
    go (eqb x a) refl (eqb y 61) refl (left (one_of firsts x) (goes_on x (y ∷ w)) e) (right (one_of firsts x) (goes_on x (y ∷ w)) e)
  where
    go : (u : Bool) → eqb x a ≡ u → (v : Bool) → eqb y 61 ≡ v → one_of firsts x ≡ true → ((v || eqb y x) && closes w) ≡ true
        → (u && (eqb y b && spells w t)) ≡ (u && (eqb y 0 && spells w t))
    go false p v q f r = refl
    go true p true q f r =
        let y61 = eqb-true y 61 q in
        miss y b 0 (spells w t) (spells w t) (λ g. h (sym g ∙ y61)) (λ g. eqb-false 0 61 refl (sym g ∙ y61))
    go true p false q f r =
        let yx = eqb-true y x (left (eqb y x) (closes w) r) in
        let xa = eqb-true x a p in
        miss y b 0 (spells w t) (spells w t) (λ g. k (sym g ∙ yx ∙ xa)) (λ g. never (ap (one_of firsts) (sym g ∙ yx) ∙ f))

-- no sign begins with the first byte
first : (a : ℕ) (t : Text) → NoneOf firsts a → (w : Text) → formed w ≡ true → spells w (a ∷ t) ≡ spells w (0 ∷ t)
unfolding spells formed one_of
first a t h [] e = refl
first a t h (x ∷ w) e =
    let f = left (one_of firsts x) (goes_on x w) e in
    miss x a 0 (spells w t) (spells w t)
    (λ g. never (sym (none_of firsts a h) ∙ ap (one_of firsts) (sym g) ∙ f))
    (λ g. never (ap (one_of firsts) (sym g) ∙ f))

-- ---- the arms

signed : (a : ℕ) (t u : Text) → sign_in u ≡ sign_in t → ◌≡◌ {A = ℕ} (elim (eqb a 63) [ true ↦ 19 | false ↦ sign_in u ]) (elim (eqb a 63) [ true ↦ 19 | false ↦ sign_in t ])
signed a t u e = λ i. elim (eqb a 63) [ true ↦ 19 | false ↦ e i ]

module _ (a b c : ℕ) where
  pub none : NoneOf firsts a → 0 ≡ sign_of a b c
  unfolding sign_of spells first_of is_assignment any_of
  none h =
      let e = alike (a ∷ b ∷ c ∷ []) (0 ∷ b ∷ c ∷ []) (first a (b ∷ c ∷ []) h) in
      rw (ne_eqb a 63 h.0.0.1, sign_of) (sym e)

  module _ (x : ℕ) (p : a ≡ x) where
    pub two : (y : ℕ) → b ≡ y → sign_of x y c ≡ sign_of a b c
    two y q = λ i. sign_of (sym p i) (sym q i) c

    pub three : (y z : ℕ) → b ≡ y → c ≡ z → sign_of x y z ≡ sign_of a b c
    three y z q r = λ i. sign_of (sym p i) (sym q i) (sym r i)

    -- the third byte is no `=`
    pub pair : (y : ℕ) → b ≡ y → (c ≡ 61 → ⊥) → sign_of x y 0 ≡ sign_of a b c
    unfolding sign_of
    pair y q h = signed x (x ∷ y ∷ c ∷ []) (x ∷ y ∷ 0 ∷ []) (sym (alike (x ∷ y ∷ c ∷ []) (x ∷ y ∷ 0 ∷ []) (third x y c h))) ∙ two y q

    -- the second is neither `=` nor the first again
    pub one : (b ≡ 61 → ⊥) → (b ≡ x → ⊥) → sign_of x 0 c ≡ sign_of a b c
    unfolding sign_of
    one h k = signed x (x ∷ b ∷ c ∷ []) (x ∷ 0 ∷ c ∷ []) (sym (alike (x ∷ b ∷ c ∷ []) (x ∷ 0 ∷ c ∷ []) (second x b (c ∷ []) h k))) ∙ two b refl

    -- the second is no `=`, and the first again is no sign
    pub plain : (b ≡ 61 → ⊥) → sign_of x 0 c ≡ sign_of x x c → sign_of x 0 c ≡ sign_of a b c
    plain h e = go (eqb b x) refl
      where
        go : (t : Bool) → eqb b x ≡ t → sign_of x 0 c ≡ sign_of a b c
        go true q = e ∙ two x (eqb-true b x q)
        go false q = one h (eqb-false b x q)

-- ---- the link of a number

operator_link : (k : ℕ) (p : Place) → NoneOf (20 ∷ 19 ∷ 0 ∷ []) k → link_at k p ≡ Operator k (on_by (length (operator_of k).sign) p)
operator_link k p h = rw (ne_eqb k 19 h.0.1, ne_eqb k 20 h.1, ne_eqb k 0 h.0.0.1, link_by, link_pick) refl

module _ {s : Text} (p : Place) {a b c k : ℕ} (x : ByteOf s p.offset a) (y : ByteOf s (p.offset + 1) b) (z : ByteOf s (p.offset + 2) c) (e : k ≡ sign_of a b c) where
  by_bytes : link_at k p ≡ link_of s p
  by_bytes = ap (λ (j : ℕ). link_at j p) (e ∙ (λ i. sign_of (x.is i) (y.is i) (z.is i))) ∙ sym (link_sign s p)

  pub linked : (j : ℕ) → k ≡ j → link_at j p ≡ link_of s p
  linked j f = ap (λ (j : ℕ). link_at j p) (sym f) ∙ by_bytes

  module _ (h : NoneOf (20 ∷ 19 ∷ 0 ∷ []) k) {w : ℕ} (f : w ≡ length (operator_of k).sign) where
    by_width : Operator k (on_by w p) ≡ link_of s p
    by_width = ap (λ (n : ℕ). Operator k (on_by n p)) f ∙ sym (operator_link k p h) ∙ by_bytes

    pub operated : {n : Place} → n ≡ on_by w p → Operator k n ≡ link_of s p
    operated g = ap (Operator k) g ∙ by_width

    pub operator_fits : Stands s p → (p.offset + w < 2 ^ 32) × (p.column + w < 2 ^ 32)
    operator_fits v =
        let o = (subst (LinkOn s p) (sym by_width) (link_on s p v)).0.stands in
        let i : p.offset + w ≤ length s = o.inside in
        let l : length s < 2 ^ 31 = o.short in
        let m : p.column + w ≤ p.offset + w + 1 = o.columns in
        (omega arith, omega arith)
