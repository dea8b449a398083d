-- What holds of a case that was found: it lies in the list, and the next one begins further on. Assumes nothing.
use Rattle.std.specs.Prelude.{◌≡◌, refl, Bool, true, false, ◌&&◌, ℕ, ◌+◌, ◌≤◌, ◌<◌, eqb, ltb, length}
use Rattle.std.proofs.Common.{ap, arith, eqb-true, ltb-true}
use Rattle.characters.specs.Text.{Text, byte_at}
use Rattle.characters.specs.PlaceLaws.{in_text}
use Rattle.cases.specs.declared.Case.{Case}
use Rattle.cases.specs.declared.Size.{Size}
use Rattle.cases.specs.Cases.{case_of, ended, bad, pick_case, is_kind, size_at, text_at, sized_at, opened_at, case_at}

-- the text from f up to t lies in the list, and n, past it, is further on than o
pub record Lies (s : Text) (o f t n : ℕ) : Type 0 where
  pub whole : f ≤ t
  pub inside : t ≤ length s
  pub ends : n ≤ length s
  pub further : o < n

module _ (s : Text) (o : ℕ) {k f t n : ℕ} where
  text_lies : (k' f' t' : ℕ) (b : Bool) → o < f' → f' ≤ t' → eqb (byte_at s t') 10 ≡ b → pick_case b (case_of k' f' t' (t' + 1)) (bad o) ≡ case_of k f t n → Lies s o f t n
  text_lies k' f' t' true h g e z =
      let l : t' < length s = in_text s t' (let x : byte_at s t' ≡ 10 = eqb-true _ _ e in omega arith) in
      let c : ◌≡◌ {A = Case} (record { kind = k'; from = f'; to = t'; next = t' + 1 }) (record { kind = k; from = f; to = t; next = n }) = cc in
      let zf : f' ≡ f = ap (λ (x : Case). x.from) c in
      let zt : t' ≡ t = ap (λ (x : Case). x.to) c in
      let zn : t' + 1 ≡ n = ap (λ (x : Case). x.next) c in
      record { whole = omega arith; inside = omega arith; ends = omega arith; further = omega arith }
  text_lies k' f' t' false h g e z = let x : ◌≡◌ {A = ℕ} 0 1 = cc in omega arith

  sized_lies : (k' : ℕ) (w : Size) (a b : Bool) → ltb (o + 2) w.after ≡ a → pick_case (a && b) (text_at s o k' (w.after + 1) (w.after + 1 + w.value)) (bad o) ≡ case_of k f t n → Lies s o f t n
  sized_lies k' w true true e z =
      let l : o + 2 < w.after = ltb-true _ _ e in
      text_lies k' (w.after + 1) (w.after + 1 + w.value) (eqb (byte_at s (w.after + 1 + w.value)) 10) (omega arith) (omega arith) refl z
  sized_lies k' w true false e z = let x : ◌≡◌ {A = ℕ} 0 1 = cc in omega arith
  sized_lies k' w false b e z = let x : ◌≡◌ {A = ℕ} 0 1 = cc in omega arith

  opened_lies : (k' : ℕ) (b : Bool) → pick_case b (sized_at s o k' (size_at s (o + 2))) (bad o) ≡ case_of k f t n → Lies s o f t n
  opened_lies k' true z = sized_lies k' (size_at s (o + 2)) (ltb (o + 2) (size_at s (o + 2)).after) (eqb (byte_at s (size_at s (o + 2)).after) 10) refl z
  opened_lies k' false z = let x : ◌≡◌ {A = ℕ} 0 1 = cc in omega arith

  ended_lies : (b : Bool) → pick_case b ended (opened_at s o (byte_at s o)) ≡ case_of k f t n → Lies s o f t n
  ended_lies true z = let x : ◌≡◌ {A = ℕ} 0 1 = cc in omega arith
  ended_lies false z = opened_lies (byte_at s o) (is_kind (byte_at s o) && eqb (byte_at s (o + 1)) 32) z

  pub lies : case_at s o ≡ case_of k f t n → Lies s o f t n
  unfolding case_at
  lies z = ended_lies (eqb (byte_at s o) 256) z
