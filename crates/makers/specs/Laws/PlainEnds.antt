-- Laws of what stands beside a plain operand: past one space all reads alike, and what its first byte or the byte behind it shuts out.
-- Assumes nothing.
use Rattle.std.specs.Prelude.{◌≡◌, Bool, true, false, ◌&&◌, ◌||◌, not, ◌⊎◌, ℕ, zero, suc, ◌+◌, ◌≤◌, ◌<◌, eqb, drop, Ok, Result}
use Rattle.std.proofs.Math.Path.{refl, ap, subst⁻¹}
use Rattle.std.proofs.Common.{sym, ◌∙◌, inl, inr, ⊎_elim, arith, ne_eqb, eqb-true, le-ltb}
use mathlib.Core.List.{[], ◌∷◌}
use Rattle.std.proofs.lemmas.Bool.{eqb-false, not-true}
use Rattle.characters.specs.declared.place.Place.{Place}
use Rattle.characters.specs.declared.refusal.Refusal.TheVariants.{PostfixIncrement, IncrementAsExpression}
use Rattle.characters.specs.Text.{Text, byte_at, ByteOf, ascii, on_by, past, Stands}
use Rattle.characters.specs.PlaceLaws.{Reached, reached_here, in_text, front, past_low, on_by_stands}
use Rattle.characters.specs.Blanks.{is_blank, begins, Mode, between, line, block, passing, out, pass, blanks, opens_blank}
use Rattle.characters.specs.BlankLaws.{pass_from, over_blank, at_token, not_blank, bare}
use Rattle.characters.specs.Names.{is_name_byte, name}
use Rattle.characters.specs.Tokens.{spells, is_keyword}
use Rattle.characters.specs.Answers.{Must, failed, taken}
use Rattle.characters.specs.declared.refusal.Refused.{Refused}
use Rattle.grammar.specs.declared.leaves.Prefix.TheVariants as prefix
use Rattle.grammar.specs.declared.leaves.Postfix.TheVariants as post
use Rattle.grammar.specs.declared.leaves.Suffix.TheVariants as suffix
use Rattle.grammar.specs.Operators.{operators, first_of, any_of, is_assignment}
use Rattle.grammar.specs.Leaves.{prefix_by, prefix_past, prefix_of, member_by, instance_past, postfix_by, postfix_past, postfix_of}
use Rattle.grammar.specs.LinkLaws.{sign_of, link_at, link_sign}
use Rattle.grammar.specs.declared.leaves.Postfix.{Postfix}
use Rattle.grammar.specs.declared.leaves.Prefix.{Prefix}
use Rattle.makers.specs.Plain.{near_of, Rests, EndsBy, Over}

-- ---- past one space

pub near_space : {s : Text} (p : Place) {q : Place} {b : ℕ} → ByteOf s p.offset b → b ≡ 32 → q ≡ on_by 1 p → q ≡ near_of s p
unfolding near_of
near_space {s} p g e f = f ∙ ap (λ (k : ℕ). elim (eqb k 32) as (λ t. Place) [ true ↦ on_by 1 p | false ↦ p ]) (sym e ∙ g.is)

pub near_here : {s : Text} (p : Place) {b : ℕ} → ByteOf s p.offset b → (b ≡ 32 → ⊥) → p ≡ near_of s p
unfolding near_of
near_here {s} p {b} g n =
    ap (λ (t : Bool). elim t as (λ u. Place) [ true ↦ on_by 1 p | false ↦ p ]) (sym (ne_eqb b 32 n))
    ∙ ap (λ (k : ℕ). elim (eqb k 32) as (λ t. Place) [ true ↦ on_by 1 p | false ↦ p ]) g.is

-- it is a place further on, or the same
pub reached : (s : Text) (p : Place) → Stands s p → Reached s p (near_of s p)
unfolding near_of
reached s p h = go (eqb (byte_at s p.offset) 32) refl
  where
    go : (t : Bool) → eqb (byte_at s p.offset) 32 ≡ t → Reached s p (elim t as (λ u. Place) [ true ↦ on_by 1 p | false ↦ p ])
    go true e =
        let z : byte_at s p.offset ≡ 32 = eqb-true (byte_at s p.offset) 32 e in
        let l = in_text s p.offset (omega arith) in
        on_by_stands s 1 p h (omega arith)
    go false e = reached_here h

pub stands_near : {s : Text} {p : Place} → Stands s p → Stands s (near_of s p)
stands_near {s} {p} h = (reached s p h).stands

-- the same of a place that code holds
pub near_stands : {s : Text} {p q : Place} → Stands s p → q ≡ near_of s p → Stands s q
near_stands {s} h e = subst⁻¹ (Stands s) e (stands_near h)

-- the blanks from there on are the same
near_pass : (s : Text) (at p : Place) → pass_from s at between p ≡ pass_from s at between (near_of s p)
unfolding near_of
near_pass s at p = go (eqb (byte_at s p.offset) 32) refl
  where
    go : (t : Bool) → eqb (byte_at s p.offset) 32 ≡ t
        → pass_from s at between p ≡ pass_from s at between (elim t as (λ u. Place) [ true ↦ on_by 1 p | false ↦ p ])
    go true e =
        over_blank s at p 32 (sym (eqb-true (byte_at s p.offset) 32 e)) (omega arith) refl
        ∙ ap (pass_from s at between) (past_low 32 p (λ z. omega arith) (omega arith))
    go false e = refl

-- what looks at where blanks end alone does not see where they began
module _ {X : Type 0} (f : Must → X) (a b : Place) (same : (q : Place) → f (taken a q) ≡ f (taken b q)) where
  either : (t : Bool) {x y x' y' : Must} → f x ≡ f x' → f y ≡ f y'
      → f (elim t as (λ u. Must) [ true ↦ x | false ↦ y ]) ≡ f (elim t as (λ u. Must) [ true ↦ x' | false ↦ y' ])
  either true e g = e
  either false e g = g

  begun_alike : (l : Text) (m : Mode) (p : Place) → f (pass a m l p) ≡ f (pass b m l p)
  unfolding pass
  begun_alike [] between p = same p
  begun_alike [] line p = same p
  begun_alike [] (block d) p = refl
  begun_alike [] (passing m) p = same p
  begun_alike (c ∷ l) m p = go m (λ n. begun_alike l n (past c p))
    where
      go : (m : Mode) → ((n : Mode) → f (pass a n l (past c p)) ≡ f (pass b n l (past c p))) → f (pass a m (c ∷ l) p) ≡ f (pass b m (c ∷ l) p)
      go between ih =
          either (is_blank c) (ih between) (either (begins 47 47 c l) (ih line) (either (begins 47 42 c l) (ih (passing (block zero))) (same p)))
      go line ih = either (eqb c 10) (ih between) (ih line)
      go (block d) ih = either (begins 47 42 c l) (ih (passing (block (suc d)))) (either (begins 42 47 c l) (ih (passing (out d))) (ih (block d)))
      go (passing m) ih = ih m

module _ (s : Text) (p : Place) where
  near_alike : {X : Type 0} (f : Must → X) → ((a b q : Place) → f (taken a q) ≡ f (taken b q)) → f (blanks s p) ≡ f (blanks s (near_of s p))
  unfolding blanks
  near_alike f same =
      ap f (near_pass s p p) ∙ begun_alike f p (near_of s p) (same p (near_of s p)) (drop (near_of s p).offset s) between (near_of s p)

  pub prefix_near : prefix_of s p ≡ prefix_of s (near_of s p)
  unfolding prefix_of
  prefix_near = near_alike (prefix_past s) (λ a b q. refl)

  pub postfix_near : postfix_of s p ≡ postfix_of s (near_of s p)
  unfolding postfix_of
  postfix_near = near_alike (postfix_past s) (λ a b q. refl)

-- ---- no sign before an operand

-- the two tests of `prefix_by`, apart from their bytes
abbrev prefix_tests : Bool → Bool → ℕ → Place → Result Prefix Refused
prefix_tests x y b h = elim x [ true ↦ failed IncrementAsExpression h | false ↦ elim y [ true ↦ Ok (prefix.Sign b h (on_by 1 h)) | false ↦ Ok (prefix.Other h) ] ]

prefix_other : (b c : ℕ) (h : Place) → (b ≡ 33 → ⊥) → (b ≡ 43 → ⊥) → (b ≡ 45 → ⊥) → prefix_by b c h ≡ Ok (prefix.Other h)
prefix_other b c h l m n =
    let x : ((eqb b 43 && eqb c 43) || (eqb b 45 && eqb c 45)) ≡ false = rw (ne_eqb b 43 m, ne_eqb b 45 n) refl in
    let y : (eqb b 33 || eqb b 45 || eqb b 43) ≡ false = rw (ne_eqb b 33 l, ne_eqb b 43 m, ne_eqb b 45 n) refl in
    ap (λ (t : Bool). prefix_tests t (eqb b 33 || eqb b 45 || eqb b 43) b h) x ∙ ap (λ (t : Bool). prefix_tests false t b h) y

-- a quote, a digit or a letter stands here: no blank, and no sign
pub no_sign : (s : Text) (p : Place) → 33 < byte_at s p.offset → (byte_at s p.offset < 40) ⊎ (47 < byte_at s p.offset) → prefix_of s p ≡ Ok (prefix.Other p)
unfolding prefix_of blanks
no_sign s p h side =
    let b : ℕ = byte_at s p.offset in
    let away : (k : ℕ) → 40 ≤ k → k ≤ 47 → b ≡ k → ⊥ = λ k l m e. ⊎_elim (λ x. omega arith) (λ x. omega arith) side in
    ap (prefix_past s)
    (at_token s p p b refl (not_blank b (λ z. omega arith) (λ z. omega arith) (λ z. omega arith) (λ z. omega arith) (λ z. omega arith)) (away 47 (omega arith) (omega arith)))
    ∙ prefix_other b (byte_at s (p.offset + 1)) p (λ z. omega arith) (away 43 (omega arith) (omega arith)) (away 45 (omega arith) (omega arith))

-- ---- no suffix behind it

neither : (u v : Bool) → not (u || v) ≡ true → (u ≡ false) × (v ≡ false)
neither true v e = absurd (let z : ◌≡◌ {A = ℕ} 0 1 = cc in omega arith)
neither false true e = absurd (let z : ◌≡◌ {A = ℕ} 0 1 = cc in omega arith)
neither false false e = (refl, refl)

-- a word does not stand where another byte does
spells_first : (s : Text) (o x : ℕ) (w : Text) → (byte_at s o ≡ x → ⊥) → spells (x ∷ w) (drop o s) ≡ false
unfolding spells
spells_first s o x w n = go (drop o s) (front s o)
  where
    go : (t : Text) → byte_at t 0 ≡ byte_at s o → spells (x ∷ w) t ≡ false
    go [] e = refl
    go (y ∷ t) e = rw (ne_eqb x y (λ z. n (sym e ∙ sym z))) refl

-- a suffix may begin with the byte b before c: `(`, `.`, `[`, the `i` of `instanceof`, or a sign that doubles
abbrev opens_suffix : ℕ → ℕ → Bool
opens_suffix b c = eqb b 40 || eqb b 46 || eqb b 91 || eqb b 105 || ((eqb b 43 || eqb b 45) && eqb c b)

-- neither a blank nor a suffix begins with it
abbrev rests_by : ℕ → ℕ → Bool
rests_by b c = not (opens_blank b || opens_suffix b c)

-- the tests of `postfix_by`, apart from their bytes
abbrev postfix_tests : Text → Place → Bool → Bool → Bool → Bool → Bool → Result Postfix Refused
postfix_tests s h call index dot class double =
    elim call [
      | true ↦ Ok (post.More (suffix.Call h (on_by 1 h)))
      | false ↦ elim index [
        | true ↦ Ok (post.More (suffix.Index h (on_by 1 h)))
        | false ↦ elim dot [
          | true ↦ member_by h (name s (on_by 1 h))
          | false ↦ elim class [
            | true ↦ instance_past s h (blanks s (on_by 10 h))
            | false ↦ elim double [ true ↦ failed PostfixIncrement (on_by 2 h) | false ↦ Ok (post.Rest h) ]
          ]
        ]
      ]
    ]

module _ (s : Text) (h : Place) (b c : ℕ) (e : b ≡ byte_at s h.offset) (n : opens_suffix b c ≡ false) where
  -- a byte that opens a suffix is none
  not_this : (k : ℕ) → opens_suffix k c ≡ true → b ≡ k → ⊥
  not_this k o w = let y : opens_suffix k c ≡ false = ap (λ (x : ℕ). opens_suffix x c) (sym w) ∙ n in let i : ◌≡◌ {A = ℕ} 0 1 = cc in omega arith

  no_double : (k : ℕ) → opens_suffix k k ≡ true → (eqb b k && eqb c k) ≡ false
  no_double k o = go (eqb b k) refl (eqb c k) refl
    where
      go : (x : Bool) → eqb b k ≡ x → (y : Bool) → eqb c k ≡ y → (x && y) ≡ false
      go true i true j =
          let z : opens_suffix k k ≡ false = ap (λ (x : ℕ). opens_suffix k x) (sym (eqb-true c k j)) ∙ ap (λ (x : ℕ). opens_suffix x c) (sym (eqb-true b k i)) ∙ n in
          let w : ◌≡◌ {A = ℕ} 0 1 = cc in
          absurd (omega arith)
      go true i false j = refl
      go false i y j = refl

  no_suffix : postfix_by s b c h ≡ Ok (post.Rest h)
  no_suffix =
      let class : Bool = is_keyword s h (ascii "instanceof") in
      let double : Bool = (eqb b 43 && eqb c 43) || (eqb b 45 && eqb c 45) in
      let x : class ≡ false =
      ap (λ (t : Bool). t && not (is_name_byte (byte_at s (h.offset + 10)))) (spells_first s h.offset 105 (ascii "nstanceof") (λ z. not_this 105 refl (e ∙ z)))
      in
      let y : double ≡ false = rw (no_double 43 refl, no_double 45 refl) refl in
      ap (λ (t : Bool). postfix_tests s h t (eqb b 91) (eqb b 46) class double) (ne_eqb b 40 (not_this 40 refl))
      ∙ ap (λ (t : Bool). postfix_tests s h false t (eqb b 46) class double) (ne_eqb b 91 (not_this 91 refl))
      ∙ ap (λ (t : Bool). postfix_tests s h false false t class double) (ne_eqb b 46 (not_this 46 refl))
      ∙ ap (λ (t : Bool). postfix_tests s h false false false t double) x
      ∙ ap (postfix_tests s h false false false false) y

-- two bytes tell
rest_at : {s : Text} {p : Place} {b c : ℕ} → ByteOf s p.offset b → c ≡ byte_at s (p.offset + 1) → rests_by b c ≡ true → postfix_of s p ≡ Ok (post.Rest p)
unfolding postfix_of
rest_at {s} {p} {b} {c} g f h =
    let z = neither (opens_blank b) (opens_suffix b c) h in
    ap (postfix_past s) (sym (bare g refl z.0))
    ∙ ap (λ (x : ℕ). postfix_by s x (byte_at s (p.offset + 1)) p) (sym g.is)
    ∙ ap (λ (x : ℕ). postfix_by s b x p) (sym f)
    ∙ no_suffix s p b c g.is z.1

pub rests_not : {s : Text} {p : Place} → Rests s p false
rests_not = record { rests = λ e. let z : ◌≡◌ {A = ℕ} 0 1 = cc in absurd (omega arith) }

-- a sign that could double
pub rests_sign : {s : Text} {p : Place} {b c : ℕ} → (b ≡ 43) ⊎ (b ≡ 45) → ByteOf s p.offset b → ByteOf s (p.offset + 1) c → Rests s p (not (eqb c b))
rests_sign {b = b} {c = c} k g f = record { rests = λ e. rest_at g f.is (⊎_elim (at 43 refl) (at 45 refl) k ∙ e) }
  where
    at : (k : ℕ) → not (eqb c k) ≡ rests_by k c → b ≡ k → rests_by b c ≡ not (eqb c b)
    at k e z = ap (λ (x : ℕ). rests_by x c) z ∙ sym e ∙ ap (λ (x : ℕ). not (eqb c x)) (sym z)

-- any other byte that opens neither
pub rests_other : {s : Text} {p : Place} {b : ℕ} → ByteOf s p.offset b → 33 ≤ b → (b < 46) ⊎ (47 < b) → ((b ≡ 40) ⊎ ((b ≡ 91) ⊎ (b ≡ 105)) → ⊥)
    → ((b ≡ 43) ⊎ (b ≡ 45) → ⊥) → Rests s p true
rests_other {s} {p} {b} g h side n₁ n₂ =
    let c : ℕ = byte_at s (p.offset + 1) in
    let dot : b ≡ 46 → ⊥ = λ e. ⊎_elim (λ l. omega arith) (λ l. omega arith) side in
    let slash : b ≡ 47 → ⊥ = λ e. ⊎_elim (λ l. omega arith) (λ l. omega arith) side in
    let x : opens_blank b ≡ false = rw (le-ltb b 33 h, ne_eqb b 47 slash) refl in
    let y : opens_suffix b c ≡ false =
    rw (ne_eqb b 40 (λ e. n₁ (inl e)), ne_eqb b 46 dot, ne_eqb b 91 (λ e. n₁ (inr (inl e))), ne_eqb b 105 (λ e. n₁ (inr (inr e))), ne_eqb b 43 (λ e. n₂ (inl e)), ne_eqb b 45 (λ e. n₂ (inr e))) refl
    in
    record { rests = λ e. rest_at g refl (ap (λ (t : Bool). not (t || opens_suffix b c)) x ∙ ap not y) }

-- ---- the end of an expression

pub over_not : {s : Text} {p : Place} {assigning : Bool} → Over s p assigning false
over_not = record { rests = λ e. let z : ◌≡◌ {A = ℕ} 0 1 = cc in absurd (omega arith); ends = λ e. let z : ◌≡◌ {A = ℕ} 0 1 = cc in absurd (omega arith) }

-- where nothing that belongs to a chain begins with the byte k, whatever follows it
over_by : {s : Text} {p : Place} {assigning : Bool} {b : ℕ} (k : ℕ) → ByteOf s p.offset b → ((c : ℕ) → rests_by k c ≡ true) → ((c d : ℕ) → sign_of k c d ≡ 0) → b ≡ k
    → Over s p assigning true
over_by {s} {p} {assigning} {b} k g f h e =
    record {
      rests = λ z. rest_at g refl (ap (λ (x : ℕ). rests_by x (byte_at s (p.offset + 1))) e ∙ f (byte_at s (p.offset + 1)));
      ends = λ z.
          subst⁻¹ (EndsBy assigning)
          (link_sign s p
          ∙ ap (λ (x : ℕ). link_at (sign_of x (byte_at s (p.offset + 1)) (byte_at s (p.offset + 2))) p) (sym g.is ∙ e)
          ∙ ap (λ (x : ℕ). link_at x p) (h (byte_at s (p.offset + 1)) (byte_at s (p.offset + 2))))
          tt;
    }

-- one of `) , ] }`
abbrev pub Shut : ℕ → Type 0
Shut b = (b ≡ 41) ⊎ ((b ≡ 44) ⊎ ((b ≡ 93) ⊎ (b ≡ 125)))

pub over_shut : {s : Text} {p : Place} {assigning : Bool} {b : ℕ} → ByteOf s p.offset b → Shut b → Over s p assigning true
unfolding sign_of is_assignment any_of first_of spells
over_shut g w =
    ⊎_elim (over_by 41 g (λ c. refl) (λ c d. refl))
    (λ w. ⊎_elim (over_by 44 g (λ c. refl) (λ c d. refl))
    (λ w. ⊎_elim (over_by 93 g (λ c. refl) (λ c d. refl)) (over_by 125 g (λ c. refl) (λ c d. refl)) w) w) w

-- a `:` or a `;`
pub over_colon : {s : Text} {p : Place} {assigning : Bool} {b : ℕ} → ByteOf s p.offset b → 58 ≤ b → b < 60 → Over s p assigning true
unfolding sign_of is_assignment any_of first_of spells
over_colon {s} {p} {assigning} {b} g l h = go (eqb b 58) refl
  where
    go : (t : Bool) → eqb b 58 ≡ t → Over s p assigning true
    go true e = over_by 58 g (λ c. refl) (λ c d. refl) (eqb-true b 58 e)
    go false e = over_by 59 g (λ c. refl) (λ c d. refl) (let n = eqb-false b 58 e in omega arith)

-- a `=` that opens no `==`, where one may follow
assign_sign : (c d : ℕ) → (c ≡ 61 → ⊥) → sign_of 61 c d ≡ 20
unfolding sign_of is_assignment any_of first_of spells
assign_sign c d n =
    ap (λ (t : Bool). elim (not (t && true)) as (λ u. ℕ) [ true ↦ 20 | false ↦ first_of 1 operators (61 ∷ c ∷ d ∷ []) ]) (ne_eqb 61 c (λ z. n (sym z)))

pub over_assign : {s : Text} {p : Place} {assigning : Bool} {b c : ℕ} → ByteOf s p.offset b → b ≡ 61 → assigning ≡ true → ByteOf s (p.offset + 1) c
    → Over s p assigning (not (eqb c 61))
over_assign {s} {p} {assigning} {b} {c} g e a f =
    record {
      rests = λ z. rest_at g refl (ap (λ (x : ℕ). rests_by x (byte_at s (p.offset + 1))) e);
      ends = λ z.
          subst⁻¹ (EndsBy assigning)
          (link_sign s p
          ∙ ap (λ (x : ℕ). link_at (sign_of x (byte_at s (p.offset + 1)) (byte_at s (p.offset + 2))) p) (sym g.is ∙ e)
          ∙ ap (λ (x : ℕ). link_at (sign_of 61 x (byte_at s (p.offset + 2))) p) (sym f.is)
          ∙ ap (λ (x : ℕ). link_at x p) (assign_sign c (byte_at s (p.offset + 2)) (eqb-false c 61 (not-true _ z))))
          a;
    }
