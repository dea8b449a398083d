-- The code's tables of kinds: their names as one text, and a row of letters for each, which say what has a position and how the fields
-- print. Both are the table of kinds written out, and antt computes that they are. Assumes nothing.
use Rattle.std.specs.Prelude.{◌≡◌, refl, Bool, true, false, List, [], ◌∷◌, ◌++◌, map, ℕ, zero, suc, ◌+◌, ◌*◌, ◌≤◌, ◌<◌, ltb, eqb, length, get_or, None, Option, Some}
use Rattle.std.proofs.Common.{sym, ap, ◌∙◌, arith, get_or-append-add, ltb-true, ltb-false, ne_eqb}
use Rattle.std.proofs.Math.ListN.{get_or-append, get_or-eq_default, get_or-map}
use Rattle.characters.specs.declared.place.Place.{Place}
use Rattle.characters.specs.Text.{Text}
use Rattle.records.specs.declared.kind.Kind.{Kind}
use Rattle.records.specs.Kinds.{number_of, kinds}
use Rattle.records.proofs.Laws.Kinds.{kind_number}
use Rattle.listing.specs.declared.fields.Form.{Form}
use Rattle.listing.specs.declared.fields.Form.TheVariants.{Hidden, Plain, Named, Quoted, Array, Float, Int, Prefix, Sign}
use Rattle.listing.specs.Listing.{form_at, is_item, name_of, place, positioned}

-- ---- a kind's number is a place in the list of kinds

pub number_small : (k : Kind) → number_of k < length kinds
number_small k = go (ltb (number_of k) (length kinds)) refl
  where
    go : (t : Bool) → ltb (number_of k) (length kinds) ≡ t → number_of k < length kinds
    go true e = ltb-true (number_of k) (length kinds) e
    go false e =
        let z : Some k ≡ None = sym (kind_number k) ∙ get_or-eq_default kinds None (ltb-false (number_of k) (length kinds) e) in
        let b : ◌≡◌ {A = ℕ} 0 1 = cc in
        absurd (omega arith)

pub number_bound : (k : Kind) → number_of k < 65536
number_bound k =
    let z : length kinds ≤ 65536 = omega arith in
    let y = number_small k in
    omega arith

-- ---- names

abbrev pub name_by : Option Kind → Text
name_by (Some k) = name_of k
name_by None = []

abbrev pub names : List Text
names = map name_by kinds

pub name_at : (k : Kind) → get_or names (number_of k) [] ≡ name_of k
name_at k = get_or-map name_by kinds (number_of k) None ∙ ap name_by (kind_number k)

-- ---- letters

abbrev pub letter : Form → ℕ
letter Hidden = 46
letter Plain = 110
letter Named = 109
letter Quoted = 115
letter Array = 120
letter Float = 102
letter Int = 105
letter Prefix = 117
letter Sign = 111

abbrev pub place_letter : Bool → ℕ
place_letter true = 46
place_letter false = 112

-- A kind's row.
abbrev pub letters : Kind → Text
letters k = place_letter (is_item k) ∷ letter (form_at k 0) ∷ letter (form_at k 1) ∷ letter (form_at k 2) ∷ letter (form_at k 3) ∷ 32 ∷ []

abbrev pub letters_by : Option Kind → Text
letters_by (Some k) = letters k
letters_by None = 46 ∷ 46 ∷ 46 ∷ 46 ∷ 46 ∷ 32 ∷ []

abbrev pub rows : List (Option Kind) → Text
rows [] = []
rows (k ∷ ks) = letters_by k ++ rows ks

six : (k : Option Kind) → length (letters_by k) ≡ 6
six (Some k) = refl
six None = refl

row_at : (ks : List (Option Kind)) (n i : ℕ) → n < length ks → i < 6 → get_or (rows ks) (n * 6 + i) 256 ≡ get_or (letters_by (get_or ks n None)) i 256
row_at [] n i h l = absurd (omega arith)
row_at (k ∷ ks) zero i h l =
    ap (λ (o : ℕ). get_or (letters_by k ++ rows ks) o 256) (let z : 0 * 6 + i ≡ i = omega arith in z)
    ∙ get_or-append (letters_by k) (rows ks) 256 i (let z = six k in omega arith)
row_at (k ∷ ks) (suc n) i h l =
    ap (λ (o : ℕ). get_or (letters_by k ++ rows ks) o 256) (let z = six k in let y : suc n * 6 + i ≡ length (letters_by k) + (n * 6 + i) = omega arith in y)
    ∙ get_or-append-add (letters_by k) (rows ks) (n * 6 + i) 256
    ∙ row_at ks n i (omega arith) l

pub letter_at : (k : Kind) (i : ℕ) → i < 6 → get_or (rows kinds) (number_of k * 6 + i) 256 ≡ get_or (letters k) i 256
letter_at k i h = row_at kinds (number_of k) i (number_small k) h ∙ ap (λ (x : Option Kind). get_or (letters_by x) i 256) (kind_number k)

-- ---- a letter's form

abbrev pub form_of : ℕ → Form
form_of b =
    elim (eqb b 110) [
      | true ↦ Plain
      | false ↦
          elim (eqb b 109) [
            | true ↦ Named
            | false ↦
                elim (eqb b 115) [
                  | true ↦ Quoted
                  | false ↦
                      elim (eqb b 120) [
                        | true ↦ Array
                        | false ↦
                            elim (eqb b 102) [
                              | true ↦ Float
                              | false ↦ elim (eqb b 105) [ true ↦ Int | false ↦ elim (eqb b 117) [ true ↦ Prefix | false ↦ elim (eqb b 111) [ true ↦ Sign | false ↦ Hidden ] ] ]
                            ]
                      ]
                ]
          ]
    ]

form_letter : (f : Form) → form_of (letter f) ≡ f
form_letter Hidden = refl
form_letter Plain = refl
form_letter Named = refl
form_letter Quoted = refl
form_letter Array = refl
form_letter Float = refl
form_letter Int = refl
form_letter Prefix = refl
form_letter Sign = refl

form_row : (k : Kind) (i : ℕ) → i < 4 → get_or (letters k) (i + 1) 256 ≡ letter (form_at k i)
form_row k zero h = refl
form_row k (suc zero) h = refl
form_row k (suc (suc zero)) h = refl
form_row k (suc (suc (suc zero))) h = refl
form_row k (suc (suc (suc (suc i)))) h = absurd (omega arith)

-- What the code reads is the letter of the form.
pub form_read : (k : Kind) (i : ℕ) {b : ℕ} → i < 4 → b ≡ get_or (letters k) (i + 1) 256 → form_of b ≡ form_at k i
form_read k i h e = ap form_of (e ∙ form_row k i h) ∙ form_letter (form_at k i)

pub form_none : (b : ℕ)
    → ((((((((Unit {0} × (b ≡ 110 → ⊥)) × (b ≡ 109 → ⊥)) × (b ≡ 115 → ⊥)) × (b ≡ 120 → ⊥)) × (b ≡ 102 → ⊥)) × (b ≡ 105 → ⊥)) × (b ≡ 117 → ⊥)) × (b ≡ 111 → ⊥))
    → Hidden ≡ form_of b
form_none b h =
    rw (
      ne_eqb b 110 h.0.0.0.0.0.0.0.1,
      ne_eqb b 109 h.0.0.0.0.0.0.1,
      ne_eqb b 115 h.0.0.0.0.0.1,
      ne_eqb b 120 h.0.0.0.0.1,
      ne_eqb b 102 h.0.0.0.1,
      ne_eqb b 105 h.0.0.1,
      ne_eqb b 117 h.0.1,
      ne_eqb b 111 h.1,
      form_of,
    )

-- ---- positions

module _ (k : Kind) (p : Place) {b : ℕ} (e : b ≡ get_or (letters k) 0 256) where
  abbrev by : Bool → Text
  by t = elim t as (λ u. Text) [ true ↦ [] | false ↦ 32 ∷ place p.line p.column ]

  pub position_some : b ≡ 112 → 32 ∷ place p.line p.column ≡ positioned k p
  position_some h = go (is_item k) (sym e ∙ h)
    where
      go : (t : Bool) → place_letter t ≡ 112 → 32 ∷ place p.line p.column ≡ by t
      go true z = absurd (omega arith)
      go false z = refl

  pub position_none : (b ≡ 112 → ⊥) → [] ≡ positioned k p
  position_none h = go (is_item k) (λ z. h (e ∙ z))
    where
      go : (t : Bool) → (place_letter t ≡ 112 → ⊥) → [] ≡ by t
      go true z = refl
      go false z = absurd (z refl)
