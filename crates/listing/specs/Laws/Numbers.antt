-- The laws of decimals: a digit alone, and a number by its tenth and its last digit. Assumes nothing.
use Rattle.std.specs.Prelude.{◌≡◌, refl, Bool, true, false, [], ◌∷◌, ◌++◌, ℕ, zero, suc, ◌+◌, ◌-◌, ◌/◌, ◌%◌, ◌≤◌, ◌<◌, ltb}
use Rattle.std.proofs.Common.{sym, ap, ◌∙◌, arith, lt-ltb, le-ltb, ltb-false}
use Rattle.characters.specs.Text.{Text}
use Rattle.listing.specs.Listing.{digits, decimal, signed}

abbrev digits_by : Bool → ℕ → ℕ → Text
digits_by true more n = (48 + n) ∷ []
digits_by false more n = digits more (n / 10) ++ ((48 + n % 10) ∷ [])

digits_by_lem : (more n : ℕ) → digits (suc more) n ≡ digits_by (ltb n 10) more n
unfolding digits
digits_by_lem more n = go (ltb n 10)
  where
    go : (t : Bool) → elim t as (λ u. Text) [ true ↦ (48 + n) ∷ [] | false ↦ digits more (n / 10) ++ ((48 + n % 10) ∷ []) ] ≡ digits_by t more n
    go true = refl
    go false = refl

-- More digits than a number has are no more.
digits_same : (f g n : ℕ) → n < f → n < g → digits f n ≡ digits g n
digits_same zero g n h k = absurd (omega arith)
digits_same (suc f) zero n h k = absurd (omega arith)
digits_same (suc f) (suc g) n h k = digits_by_lem f n ∙ go (ltb n 10) refl (λ a b. digits_same f g (n / 10) a b) ∙ sym (digits_by_lem g n)
  where
    go : (t : Bool) → ltb n 10 ≡ t → (n / 10 < f → n / 10 < g → digits f (n / 10) ≡ digits g (n / 10)) → digits_by t f n ≡ digits_by t g n
    go true e s = refl
    go false e s =
        let l : 10 ≤ n = ltb-false n 10 e in
        ap (λ (x : Text). x ++ ((48 + n % 10) ∷ [])) (s (omega arith) (omega arith))

pub decimal_one : (n : ℕ) → n < 10 → (48 + n) ∷ [] ≡ decimal n
unfolding decimal
decimal_one n h = sym (digits_by_lem n n ∙ ap (λ (t : Bool). digits_by t n n) (lt-ltb n 10 h))

pub decimal_more : (n : ℕ) → 10 ≤ n → decimal (n / 10) ++ ((48 + n % 10) ∷ []) ≡ decimal n
unfolding decimal
decimal_more n h =
    ap (λ (x : Text). x ++ ((48 + n % 10) ∷ [])) (digits_same (suc (n / 10)) n (n / 10) (omega arith) (omega arith))
    ∙ sym (digits_by_lem n n ∙ ap (λ (t : Bool). digits_by t n n) (le-ltb n 10 h))

pub signed_up : (v : ℕ) → v < 9223372036854775808 → decimal v ≡ signed v
unfolding signed
signed_up v h = rw (lt-ltb v 9223372036854775808 h, signed)

pub signed_down : (v : ℕ) → 9223372036854775808 ≤ v → v < 18446744073709551616 → (45 ∷ []) ++ decimal (18446744073709551615 - v + 1) ≡ signed v
unfolding signed
signed_down v h l =
    let e : 18446744073709551615 - v + 1 ≡ 18446744073709551616 - v = omega arith in
    rw (le-ltb v 9223372036854775808 h, signed) (ap (λ (n : ℕ). 45 ∷ decimal n) e)
