-- What the loop over a number's digits keeps, and how it ends. Assumes nothing.
use Rattle.std.proofs.Common.{◌≡◌, refl, sym, ap, ◌∙◌, Bool, true, false, ◌&&◌, ◌∷◌, ℕ, suc, ◌+◌, ◌-◌, ◌*◌, ◌≤◌, ◌<◌, arith, leb, ltb, length, drop, slice_index_or, lt-ltb, le-ltb, leb-true, ltb-true, ltb-false}
use Rattle.std.proofs.Math.Bool.{and-eq-true_iff}
use Rattle.characters.specs.Text.{Text, byte_at}
use Rattle.characters.specs.PlaceLaws.{from_byte, from_end, get_d_any, in_text}
use Rattle.cases.specs.Cases.{is_digit, sized, size_in, size_at, SizeOf}

-- what is left of the number leads to the same answer
pub record Sizing (s : Text) (at v o : ℕ) : Type 0 where
  pub same : size_in (drop o s) v o ≡ size_at s at
  pub small : v < 1000000000

pub sizing_starts : (s : Text) (at : ℕ) → Sizing s at 0 at
unfolding size_at
sizing_starts s at = record { same = refl; small = omega arith }

-- ---- the clauses of `size_in`

size_digit : (b : ℕ) (l : Text) (v o : ℕ) → (ltb v 100000000 && is_digit b) ≡ true → size_in (b ∷ l) v o ≡ size_in l (v * 10 + (b - 48)) (o + 1)
unfolding size_in
size_digit b l v o e = rw (e, size_in) refl

size_ends : (b : ℕ) (l : Text) (v o : ℕ) → (ltb v 100000000 && is_digit b) ≡ false → size_in (b ∷ l) v o ≡ sized v o
unfolding size_in
size_ends b l v o e = rw (e, size_in) refl

pub sizing_on : {s : Text} {at v o : ℕ} → Sizing s at v o → v < 100000000 → true ≡ is_digit (byte_at s o) → Sizing s at (v * 10 + (slice_index_or s o 0 - 48)) (o + 1)
sizing_on {s} {at} {v} {o} w h e =
    let b = byte_at s o in
    let d = slice_index_or s o 0 in
    let p = (and-eq-true_iff (leb 48 b) (leb b 57)).0 (sym e) in
    let u : b ≤ 57 = leb-true b 57 p.1 in
    let z : d ≡ b = get_d_any s o 0 256 (in_text s o (omega arith)) in
    record {
      same =
          ap (λ (x : ℕ). size_in (drop (o + 1) s) (v * 10 + (x - 48)) (o + 1)) z
          ∙ sym (size_digit b (drop (o + 1) s) v o (ap (λ (t : Bool). t && is_digit b) (lt-ltb v 100000000 h) ∙ sym e))
          ∙ sym (ap (λ (x : Text). size_in x v o) (from_byte s o b refl (omega arith)))
          ∙ w.same;
      small = omega arith;
    }

-- no further: the byte is no digit, or the value is as large as may be
size_stops : (s : Text) (v o : ℕ) → ((b : ℕ) → b ≡ byte_at s o → (ltb v 100000000 && is_digit b) ≡ false) → size_in (drop o s) v o ≡ sized v o
unfolding size_in
size_stops s v o f = go (ltb o (length s)) refl
  where
    go : (t : Bool) → ltb o (length s) ≡ t → size_in (drop o s) v o ≡ sized v o
    go true t =
        ap (λ (x : Text). size_in x v o) (lib.Seq.drop-cons s o 256 (ltb-true o (length s) t))
        ∙ size_ends (byte_at s o) (drop (suc o) s) v o (f (byte_at s o) refl)
    go false t = ap (λ (x : Text). size_in x v o) (from_end s o (ltb-false o (length s) t))

pub sized_by : {s : Text} {at v o : ℕ} → Sizing s at v o → size_in (drop o s) v o ≡ sized v o → SizeOf s at (sized v o)
sized_by w e = record { is = sym e ∙ w.same; small = w.small }

no_digit_here : (v b : ℕ) → is_digit b ≡ false → (ltb v 100000000 && is_digit b) ≡ false
no_digit_here v b e = go (ltb v 100000000) (is_digit b) e
  where
    go : (t u : Bool) → u ≡ false → (t && u) ≡ false
    go true u z = z
    go false u z = refl

pub sized_here : {s : Text} {at v o : ℕ} → Sizing s at v o → false ≡ is_digit (byte_at s o) → SizeOf s at (sized v o)
sized_here {s} {at} {v} {o} w e = sized_by w (size_stops s v o (λ x z. no_digit_here v x (ap is_digit z ∙ sym e)))

pub sized_full : {s : Text} {at v o : ℕ} → Sizing s at v o → 100000000 ≤ v → SizeOf s at (sized v o)
sized_full {s} {at} {v} {o} w h = sized_by w (size_stops s v o (λ x z. rw (le-ltb v 100000000 h)))
