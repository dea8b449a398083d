-- Laws of names: what their bytes are, where they end, and that a keyword is a name. Assumes nothing.
use Rattle.std.specs.Prelude.{Ok, Err, ◌≡◌, refl, Bool, true, false, ◌&&◌, ◌||◌, not, ℕ, suc, ◌+◌, ◌-◌, ◌<◌, eqb, ltb, length, take}
use Rattle.std.proofs.Common.{sym, ◌∙◌, ne_eqb, eqb-true, ltb-true, ltb-false, le-leb}
use Rattle.std.proofs.Math.Path.{ap}
use mathlib.Core.List.{[], ◌∷◌}
use native.Mathlib.Omega.{arith}
use Rattle.std.proofs.Math.ListN.{drop}
use Rattle.std.proofs.lemmas.Bool.{lt-leb}
use Rattle.characters.specs.declared.place.Place.{Place}
use Rattle.characters.specs.declared.refusal.Refusal.TheVariants.{ExpectedIdentifier}
use Rattle.characters.specs.Answers.{Must, taken}
use Rattle.characters.specs.Text.{Text, byte_at, on_by, past, Stands}
use Rattle.characters.specs.PlaceLaws.{Reached, Advanced, reached_here, reached_on, advanced_reached, from_byte, past_low, past_offset, past_stands, on_by_none, on_by_on_by}
use Rattle.characters.specs.Counts.{count_of, end_of}
use Rattle.characters.specs.CountLaws.{count_yes, count_no, count_none}
use Rattle.characters.specs.BlankLaws.{rest}
use Rattle.characters.specs.Names.{is_small, is_letter, is_name_byte, along, run, name_by, name, part, same}
use Rattle.characters.specs.Tokens.{spells}

-- ---- the bytes of a name

pub or_false : (t : Bool) → (t || false) ≡ t
or_false true = refl
or_false false = refl

pub letter_is_name : (b : ℕ) → is_letter b ≡ true → is_name_byte b ≡ true
letter_is_name b e = rw e refl

pub small_is_name : (b : ℕ) → is_small b ≡ true → is_name_byte b ≡ true
small_is_name b e = rw e refl

-- what is too low or too high for a name
pub low_is_none : (b : ℕ) → b < 48 → is_name_byte b ≡ false
low_is_none b h = rw (lt-leb 97 b (omega arith), lt-leb 65 b (omega arith), ne_eqb b 95 (λ e. omega arith), lt-leb 48 b h) refl

pub high_is_none : (b : ℕ) → 122 < b → is_name_byte b ≡ false
high_is_none b h = rw (le-leb 97 b (omega arith), lt-leb b 122 h, le-leb 65 b (omega arith), lt-leb b 90 (omega arith), ne_eqb b 95 (λ e. omega arith), le-leb 48 b (omega arith), lt-leb b 57 (omega arith)) refl

pub name_byte_low : (b : ℕ) → is_name_byte b ≡ true → (47 < b) × (b < 123)
name_byte_low b e = (lower (ltb b 48) refl, upper (ltb 122 b) refl)
  where
    lower : (t : Bool) → ltb b 48 ≡ t → 47 < b
    lower true z = let w : ◌≡◌ {A = Bool} false true = sym (low_is_none b (ltb-true b 48 z)) ∙ e in let v : ◌≡◌ {A = ℕ} 0 1 = cc in absurd (omega arith)
    lower false z = let w = ltb-false b 48 z in omega arith

    upper : (t : Bool) → ltb 122 b ≡ t → b < 123
    upper true z = let w : ◌≡◌ {A = Bool} false true = sym (high_is_none b (ltb-true 122 b z)) ∙ e in let v : ◌≡◌ {A = ℕ} 0 1 = cc in absurd (omega arith)
    upper false z = let w = ltb-false 122 b z in omega arith

-- ---- where a name ends

along_yes : (b : ℕ) (l : Text) (p : Place) → is_name_byte b ≡ true → along (b ∷ l) p ≡ along l (past b p)
unfolding along
along_yes b l p e = rw (e, along) refl

along_no : (b : ℕ) (l : Text) (p : Place) → is_name_byte b ≡ false → along (b ∷ l) p ≡ p
unfolding along
along_no b l p e = rw (e, along) refl

-- a byte of a name is one character and no LF
pub past_name : (b : ℕ) (p : Place) → is_name_byte b ≡ true → past b p ≡ on_by 1 p
past_name b p e = let l = name_byte_low b e in past_low b p (λ z. omega arith) (omega arith)

-- each byte of a name is a character
along_count : (l : Text) (p : Place) → along l p ≡ on_by (count_of is_name_byte l) p
unfolding along
along_count [] p = sym (on_by_none p) ∙ ap (λ (n : ℕ). on_by n p) (sym (count_none is_name_byte))
along_count (b ∷ l) p = go (is_name_byte b) refl (along_count l (on_by 1 p))
  where
    go : (t : Bool) → is_name_byte b ≡ t → along l (on_by 1 p) ≡ on_by (count_of is_name_byte l) (on_by 1 p) → along (b ∷ l) p ≡ on_by (count_of is_name_byte (b ∷ l)) p
    go true e i =
        along_yes b l p e
        ∙ ap (along l) (past_name b p e)
        ∙ i
        ∙ on_by_on_by 1 (count_of is_name_byte l) p
        ∙ ap (λ (n : ℕ). on_by n p) (let z = count_yes is_name_byte b l e in let y : 1 + count_of is_name_byte l ≡ count_of is_name_byte (b ∷ l) = omega arith in y)
    go false e i = along_no b l p e ∙ sym (on_by_none p) ∙ ap (λ (n : ℕ). on_by n p) (sym (count_no is_name_byte b l e))

-- a name by the offset where its bytes end
pub name_by_end : (s : Text) (p : Place) → is_letter (byte_at s p.offset) ≡ true → name s p ≡ taken p (on_by (end_of is_name_byte s p.offset - p.offset) p)
unfolding name
name_by_end s p h =
    ap (λ (t : Bool). name_by t (drop p.offset s) p) h
    ∙ ap (taken p) (along_count (drop p.offset s) p ∙ ap (λ (n : ℕ). on_by n p) (let z : count_of is_name_byte (drop p.offset s) ≡ end_of is_name_byte s p.offset - p.offset = omega arith in z))

-- which end is looked for past its first letter
pub end_past_letter : (s : Text) (o : ℕ) → is_letter (byte_at s o) ≡ true → end_of is_name_byte s o ≡ end_of is_name_byte s (o + 1)
end_past_letter s o h =
    let n = letter_is_name (byte_at s o) h in
    let i = name_byte_low (byte_at s o) n in
    let z : count_of is_name_byte (drop o s) ≡ suc (count_of is_name_byte (drop (o + 1) s)) = ap (count_of is_name_byte) (from_byte s o (byte_at s o) refl (omega arith)) ∙ count_yes is_name_byte (byte_at s o) (drop (o + 1) s) n in
    omega arith

module _ (s : Text) where
  -- the name's end, and the bytes passed on the way
  along_run : (l : Text) (p : Place) → Stands s p → l ≡ drop p.offset s → (Reached s p (along l p)) × ((along l p).offset ≡ p.offset + length (run l)) × (take (length (run l)) l ≡ run l)
  unfolding along run
  along_run [] p h e = (reached_here h, omega arith, refl)
  along_run (b ∷ l) p h e = go (is_name_byte b) (along_run l (past b p) a.stands ((rest s p.offset b l e).1 ∙ ap (λ (o : ℕ). drop o s) (sym (past_offset b p))))
    where
      a : Advanced s p (past b p)
      a = past_stands s b p h (rest s p.offset b l e).0

      o : (past b p).offset ≡ p.offset + 1
      o = past_offset b p

      go : (t : Bool)
          → (Reached s (past b p) (along l (past b p))) × ((along l (past b p)).offset ≡ (past b p).offset + length (run l)) × (take (length (run l)) l ≡ run l)
          → (Reached s p (elim t as (λ u. Place) [ true ↦ along l (past b p) | false ↦ p ]))
          × ((elim t as (λ u. Place) [ true ↦ along l (past b p) | false ↦ p ]).offset ≡ p.offset + length {A = ℕ} (elim t as (λ u. Text) [ true ↦ b ∷ run l | false ↦ [] ]))
          × (take (length {A = ℕ} (elim t as (λ u. Text) [ true ↦ b ∷ run l | false ↦ [] ])) (b ∷ l) ≡ elim t as (λ u. Text) [ true ↦ b ∷ run l | false ↦ [] ])
      go true ih = (reached_on (advanced_reached a) ih.0, (let i = ih.1 in omega (arith, o)), ap (λ (x : Text). b ∷ x) ih.2)
      go false ih = (reached_here h, omega arith, refl)

-- where a name leads: past it, or nowhere
abbrev pub NamedOn : Text → Place → Must → Type 0
NamedOn s p (Ok t) = (t.here ≡ p) × Advanced s p t.next × (part s p.offset t.next.offset ≡ run (drop p.offset s))
NamedOn s p (Err e) = (e.refusal ≡ ExpectedIdentifier) × (e.at ≡ p)

run_yes : (b : ℕ) (l : Text) → is_name_byte b ≡ true → run (b ∷ l) ≡ b ∷ run l
unfolding run
run_yes b l e = rw (e, run) refl

pub run_on : (s : Text) (b o : ℕ) → b ≡ byte_at s o → is_name_byte b ≡ true → run (drop o s) ≡ b ∷ run (drop (o + 1) s)
run_on s b o e n = let i = name_byte_low b n in ap run (from_byte s o b e (omega arith)) ∙ run_yes b (drop (o + 1) s) n

pub name_on : (s : Text) (p : Place) → Stands s p → NamedOn s p (name s p)
unfolding name
name_on s p h = go (is_letter (byte_at s p.offset)) refl
  where
    r : (Reached s p (along (drop p.offset s) p)) × ((along (drop p.offset s) p).offset ≡ p.offset + length (run (drop p.offset s))) × (take (length (run (drop p.offset s))) (drop p.offset s) ≡ run (drop p.offset s))
    r = along_run s (drop p.offset s) p h refl

    go : (t : Bool) → is_letter (byte_at s p.offset) ≡ t → NamedOn s p (name_by t (drop p.offset s) p)
    go true e =
        let n : is_name_byte (byte_at s p.offset) ≡ true = letter_is_name (byte_at s p.offset) e in
        let i = name_byte_low (byte_at s p.offset) n in
        let z : length (run (drop p.offset s)) ≡ suc (length (run (drop (p.offset + 1) s))) = ap length (run_on s (byte_at s p.offset) p.offset refl n) in
        let o = r.1 in
        let m : (along (drop p.offset s) p).offset - p.offset ≡ length (run (drop p.offset s)) = omega arith in
        (refl, record { stands = r.0.stands; further = omega arith }, ap (λ (k : ℕ). take k (drop p.offset s)) m ∙ r.2)
    go false e = (refl, refl)

-- ---- keywords

-- a text of the bytes of names alone
unfoldable pub all_name : Text → Bool
all_name [] = true
all_name (b ∷ s) = is_name_byte b && all_name s

-- a keyword is the whole name that stands there: one look at the name decides it
pub keyword_is_name : (w t : Text) → all_name w ≡ true → (spells w t && not (is_name_byte (byte_at t (length w)))) ≡ same w (run t)
unfolding spells all_name run same
keyword_is_name [] [] e = refl
keyword_is_name [] (b ∷ t) e = go (is_name_byte b)
  where
    go : (u : Bool) → not u ≡ same [] (elim u as (λ x. Text) [ true ↦ b ∷ run t | false ↦ [] ])
    go true = refl
    go false = refl
keyword_is_name (x ∷ w) [] e = refl
keyword_is_name (x ∷ w) (b ∷ t) e = go (is_name_byte b) refl (eqb x b) refl (keyword_is_name w t (right (is_name_byte x) (all_name w) e))
  where
    left : (u v : Bool) → (u && v) ≡ true → u ≡ true
    left true v e = refl
    left false v e = e

    right : (u v : Bool) → (u && v) ≡ true → v ≡ true
    right true v e = e
    right false v e = let z : ◌≡◌ {A = ℕ} 0 1 = cc in absurd (omega arith)

    go : (u : Bool) → is_name_byte b ≡ u → (v : Bool) → eqb x b ≡ v
        → (spells w t && not (is_name_byte (byte_at t (length w)))) ≡ same w (run t)
        → ((v && spells w t) && not (is_name_byte (byte_at t (length w)))) ≡ same (x ∷ w) (elim u as (λ y. Text) [ true ↦ b ∷ run t | false ↦ [] ])
    go true f true g ih = ih ∙ rw g refl
    go true f false g ih = rw g refl
    go false f true g ih =
        let z : ◌≡◌ {A = Bool} false true = sym f ∙ ap is_name_byte (sym (eqb-true x b g)) ∙ left (is_name_byte x) (all_name w) e in
        let y : ◌≡◌ {A = ℕ} 0 1 = cc in
        absurd (omega arith)
    go false f false g ih = refl
