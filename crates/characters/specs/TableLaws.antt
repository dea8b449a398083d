-- A table that is read by a `match` with an arm for each entry that is not 0. Assumes nothing.
use Rattle.std.specs.Prelude.{◌≡◌, refl, List, [], ◌∷◌, ℕ, zero, suc, ◌+◌, get_or}
use Rattle.std.proofs.Common.{sym, ap, arith}

-- in the arm of a key: the entry at that key
pub at_key : (l : List ℕ) {i k : ℕ} → i ≡ k → get_or l k 0 ≡ get_or l i 0
at_key l e = ap (λ (x : ℕ). get_or l x 0) (sym e)

-- past the arms: i is no number, from k on, of an entry that is not 0. It is said as the arms say it, one after the other behind P
abbrev pub Others : Type 0 → ℕ → ℕ → List ℕ → Type 0
Others P i k [] = P
Others P i k (zero ∷ l) = Others P i (suc k) l
Others P i k (suc x ∷ l) = Others (P × (i ≡ k → ⊥)) i (suc k) l

others : (P : Type 0) (i k : ℕ) (l : List ℕ) → Others P i k l → P × ((j : ℕ) → i ≡ k + j → 0 ≡ get_or l j 0)
others P i k [] h = (h, λ j e. refl)
others P i k (zero ∷ l) h = let r = others P i (suc k) l h in (r.0, go r.1)
  where
    go : ((j : ℕ) → i ≡ suc k + j → 0 ≡ get_or l j 0) → (j : ℕ) → i ≡ k + j → 0 ≡ get_or (0 ∷ l) j 0
    go f zero e = refl
    go f (suc j) e = f j (omega arith)
others P i k (suc x ∷ l) h = let r = others (P × (i ≡ k → ⊥)) i (suc k) l h in (r.0.0, go r.0.1 r.1)
  where
    go : (i ≡ k → ⊥) → ((j : ℕ) → i ≡ suc k + j → 0 ≡ get_or l j 0) → (j : ℕ) → i ≡ k + j → 0 ≡ get_or (suc x ∷ l) j 0
    go n f zero e = absurd (n (omega arith))
    go n f (suc j) e = f j (omega arith)

pub no_key : (l : List ℕ) (i : ℕ) → Others (Unit {0}) i 0 l → 0 ≡ get_or l i 0
no_key l i h = (others (Unit {0}) i 0 l h).1 i (omega arith)
