-- Words, each ended by a space: how the code finds one, and that it is the one that a list of them has there. Assumes nothing.
use Rattle.std.specs.Prelude.{◌≡◌, refl, Bool, ℕ, zero, suc, ◌+◌, ◌-◌, ◌≤◌, ◌<◌, eqb, length, take, drop}
use Rattle.std.proofs.Common.{sym, ◌∙◌, add-one, drop_of_length-le, length-drop, drop-cons, take_all, eq-eqb, ne_eqb}
use Rattle.std.proofs.Math.Path.{ap}
use Rattle.std.proofs.Math.Bool.{true, false}
use mathlib.Core.List.{List, [], ◌∷◌, ◌++◌}
use native.Mathlib.Omega.{arith}
use Rattle.std.proofs.Math.ListN.{get_or}
use Rattle.characters.specs.Text.{Text}

-- What stands past so many words.
unfoldable pub past_words : ℕ → Text → Text
past_words zero t = t
past_words (suc n) [] = []
past_words (suc n) (b ∷ t) = elim (eqb b 32) [ true ↦ past_words n t | false ↦ past_words (suc n) t ]

-- Up to a space.
unfoldable pub up_to_space : Text → Text
up_to_space [] = []
up_to_space (b ∷ t) = elim (eqb b 32) [ true ↦ [] | false ↦ b ∷ up_to_space t ]

abbrev on_first : ℕ → List Text → List Text
on_first b [] = (b ∷ []) ∷ []
on_first b (w ∷ ws) = (b ∷ w) ∷ ws

-- The words of a text.
unfoldable pub split : Text → List Text
split [] = []
split (b ∷ t) = elim (eqb b 32) [ true ↦ [] ∷ split t | false ↦ on_first b (split t) ]

first : (b : ℕ) (ws : List Text) → get_or (on_first b ws) 0 [] ≡ b ∷ get_or ws 0 []
first b [] = refl
first b (w ∷ ws) = refl

later : (b n : ℕ) (ws : List Text) → get_or (on_first b ws) (suc n) [] ≡ get_or ws (suc n) []
later b n [] = refl
later b n (w ∷ ws) = refl

-- The word with this number.
pub word_at : (n : ℕ) (t : Text) → up_to_space (past_words n t) ≡ get_or (split t) n []
unfolding past_words up_to_space split
word_at zero [] = refl
word_at (suc n) [] = refl
word_at zero (b ∷ t) = go (eqb b 32) (word_at zero t)
  where
    go : (u : Bool) → up_to_space t ≡ get_or (split t) 0 []
        → elim u as (λ x. Text) [ true ↦ [] | false ↦ b ∷ up_to_space t ] ≡ get_or {A = Text} (elim u as (λ x. List Text) [ true ↦ [] ∷ split t | false ↦ on_first b (split t) ]) 0 []
    go true e = refl
    go false e = ap (λ (w : Text). b ∷ w) e ∙ sym (first b (split t))
word_at (suc n) (b ∷ t) = go (eqb b 32) (word_at n t) (word_at (suc n) t)
  where
    go : (u : Bool) → up_to_space (past_words n t) ≡ get_or (split t) n [] → up_to_space (past_words (suc n) t) ≡ get_or (split t) (suc n) []
        → up_to_space (elim u as (λ x. Text) [ true ↦ past_words n t | false ↦ past_words (suc n) t ])
        ≡ get_or {A = Text} (elim u as (λ x. List Text) [ true ↦ [] ∷ split t | false ↦ on_first b (split t) ]) (suc n) []
    go true e f = e
    go false e f = f ∙ sym (later b n (split t))

-- ---- by bytes

-- A space ends a word.
space : (n b : ℕ) (t : Text) → b ≡ 32 → past_words (suc n) (b ∷ t) ≡ past_words n t
unfolding past_words
space n b t e = ap (λ (u : Bool). elim u as (λ x. Text) [ true ↦ past_words n t | false ↦ past_words (suc n) t ]) (eq-eqb b 32 e)

other : (n b : ℕ) (t : Text) → (b ≡ 32 → ⊥) → past_words (suc n) (b ∷ t) ≡ past_words (suc n) t
unfolding past_words
other n b t e = ap (λ (u : Bool). elim u as (λ x. Text) [ true ↦ past_words n t | false ↦ past_words (suc n) t ]) (ne_eqb b 32 e)

past_none : (n : ℕ) → past_words n [] ≡ []
unfolding past_words
past_none zero = refl
past_none (suc n) = refl

first_byte : (t : Text) (i : ℕ) → i < length t → drop i t ≡ get_or t i 0 ∷ drop (i + 1) t
first_byte t i h = rw (add-one, drop-cons t i 0)

-- So many words are still to pass from here on.
pub record Passing (t : Text) (n left i : ℕ) : Type 0 where
  pub same : past_words left (drop i t) ≡ past_words n t
  pub short : i ≤ length t

pub passing_start : (t : Text) (n : ℕ) → Passing t n n 0
passing_start t n = record { same = refl; short = omega arith }

module _ {t : Text} {n left i : ℕ} (p : Passing t n left i) where
  -- Past a space one word fewer is left; past another byte as many.
  pub passing_space : 0 < left → i < length t → get_or t i 0 ≡ 32 → Passing t n (left - 1) (i + 1)
  passing_space l h e = record { same = sym (go left l) ∙ p.same; short = omega arith }
    where
      go : (m : ℕ) → 0 < m → past_words m (drop i t) ≡ past_words (m - 1) (drop (i + 1) t)
      go zero l = absurd (omega arith)
      go (suc m) l = ap (past_words (suc m)) (first_byte t i h) ∙ space m (get_or t i 0) (drop (i + 1) t) e ∙ ap (λ (k : ℕ). past_words k (drop (i + 1) t)) (let z : m ≡ suc m - 1 = omega arith in z)

  pub passing_other : 0 < left → i < length t → (get_or t i 0 ≡ 32 → ⊥) → Passing t n left (i + 1)
  passing_other l h e = record { same = sym (go left l) ∙ p.same; short = omega arith }
    where
      go : (m : ℕ) → 0 < m → past_words m (drop i t) ≡ past_words m (drop (i + 1) t)
      go zero l = absurd (omega arith)
      go (suc m) l = ap (past_words (suc m)) (first_byte t i h) ∙ other m (get_or t i 0) (drop (i + 1) t) e

  pub passing_end : length t ≤ i → [] ≡ past_words n t
  passing_end h = sym (past_none left) ∙ ap (past_words left) (sym (drop_of_length-le t h)) ∙ p.same

  pub passing_none : left ≡ 0 → take (length t - i) (drop i t) ≡ past_words n t
  unfolding past_words
  passing_none h = let z = length-drop i t in take_all (length t - i) (drop i t) (omega arith) ∙ ap (λ (m : ℕ). past_words m (drop i t)) (sym h) ∙ p.same

module _ (t : Text) (i : ℕ) where
  pub upto_space : i < length t → get_or t i 0 ≡ 32 → up_to_space (drop i t) ≡ []
  unfolding up_to_space
  upto_space h e =
      ap up_to_space (first_byte t i h)
      ∙ ap (λ (u : Bool). elim u as (λ x. Text) [ true ↦ [] | false ↦ get_or t i 0 ∷ up_to_space (drop (i + 1) t) ]) (eq-eqb (get_or t i 0) 32 e)

  pub upto_other : i < length t → (get_or t i 0 ≡ 32 → ⊥) → up_to_space (drop i t) ≡ (get_or t i 0 ∷ []) ++ up_to_space (drop (i + 1) t)
  unfolding up_to_space
  upto_other h e =
      ap up_to_space (first_byte t i h)
      ∙ ap (λ (u : Bool). elim u as (λ x. Text) [ true ↦ [] | false ↦ get_or t i 0 ∷ up_to_space (drop (i + 1) t) ]) (ne_eqb (get_or t i 0) 32 e)

  pub upto_end : length t ≤ i → up_to_space (drop i t) ≡ []
  unfolding up_to_space
  upto_end h = ap up_to_space (drop_of_length-le t h)
