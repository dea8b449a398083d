-- A held value tells what the value does; and the parts of a literal, test by test. Assumes nothing.
use mathlib.Core.Path.{◌≡◌, refl, sym, ap, subst, ◌∙◌}
use mathlib.Core.Bool.{Bool, true, false}
use Prim.Native.Nat.{ℕ, ◌+◌, ◌≤◌, ◌<◌}
use native.Mathlib.Omega.{arith}
use lib.Dec.{leb, eqb}
use borrow.Author.Tests.{leb-true, leb-false, lt-leb, eq-eqb, ne_eqb}
use Rattle.characters.specs.declared.place.Place.{Place}
use Rattle.characters.specs.declared.refusal.Refusal.{Refusal}
use Rattle.characters.specs.declared.refusal.Refusal.TheVariants.{ExpectedDigit, NoExponentDigits}
use Rattle.characters.specs.Text.{Text, byte_at, Stands}
use Rattle.characters.specs.PlaceLaws.{Advanced}
use Rattle.literals.specs.Numbers.{is_digit_in, digits, most, whole, whole_of, float_of, based, signed, exponent, exponent_or, past_fraction, fraction, dotted, past_digits, decimal_of, decimal}
use Rattle.literals.specs.NumberSums.{held, held_run}
use Rattle.literals.specs.NumberLaws.{RunOn, digits_on}
use Rattle.std.specs.Prelude.{Result, Ok, Err}
use Rattle.characters.specs.declared.refusal.Refused.{Refused}
use Rattle.literals.specs.declared.numbers.Digits.{Digits}

-- ---- held values

whole_held : (v : ℕ) (q : Place) → whole (held v) q ≡ whole v q
unfolding whole
whole_held v q = go (leb v most) refl
  where
    go : (t : Bool) → leb v most ≡ t → whole (held v) q ≡ whole v q
    go true e =
        let h : v ≤ 9223372036854775807 = leb-true v most e in
        let e : held v ≡ v = omega arith in
        ap (λ (x : ℕ). whole x q) e
    go false e =
        let h : 9223372036854775807 < v = leb-false v most e in
        let e : held v ≡ 9223372036854775808 = omega arith in
        ap (λ (x : ℕ). whole x q) e ∙ sym (rw (lt-leb v most h, whole) refl)

branches : {A : Type 0} (t : Bool) {w x y z : A} → w ≡ y → x ≡ z
    → ◌≡◌ {A = A} (elim t as (λ b. A) [ true ↦ w | false ↦ x ]) (elim t as (λ b. A) [ true ↦ y | false ↦ z ])
branches true a b = a
branches false a b = b

dotted_held : (s : Text) (v : ℕ) (q : Place) → dotted s (held v) q ≡ dotted s v q
unfolding dotted
dotted_held s v q = branches (eqb (byte_at s (q.offset + 1)) 95) refl (branches (is_digit_in 10 (byte_at s (q.offset + 1))) refl (whole_held v q))

past_digits_held : (s : Text) (v : ℕ) (q : Place) → past_digits s (held v) q ≡ past_digits s v q
unfolding past_digits
past_digits_held s v q = branches (eqb (byte_at s q.offset) 46) (dotted_held s v q) (ap (exponent_or s q) (whole_held v q))

decimal_held : (s : Text) (x : Result Digits Refused) → decimal_of s (held_run x) ≡ decimal_of s x
decimal_held s (Ok d) = past_digits_held s d.value d.next
decimal_held s (Err e) = refl

whole_held_run : (x : Result Digits Refused) → whole_of (held_run x) ≡ whole_of x
whole_held_run (Ok d) = whole_held d.value d.next
whole_held_run (Err e) = refl

float_held_run : (x : Result Digits Refused) → float_of (held_run x) ≡ float_of x
float_held_run (Ok d) = refl
float_held_run (Err e) = refl

fraction_held_run : (s : Text) (x : Result Digits Refused) → past_fraction s (held_run x) ≡ past_fraction s x
fraction_held_run s (Ok d) = refl
fraction_held_run s (Err e) = refl

run_on_held : (s : Text) (p : Place) (x : Result Digits Refused) → RunOn s p x → RunOn s p (held_run x)
run_on_held s p (Ok d) h = h
run_on_held s p (Err e) h = h

-- where digits that were read end
pub digits_stand : {s : Text} {p : Place} {d : Digits} (limited : Bool) (none : Refusal) (r : ℕ)
    → r ≤ 16
    → Stands s p
    → Ok d ≡ held_run (digits limited none r s p)
    → Stands s d.next
digits_stand {s} {p} {d} limited none r small h e =
    let a : Advanced s p d.next = subst (RunOn s p) (sym e) (run_on_held s p (digits limited none r s p) (digits_on s limited none r p small h)) in
    a.stands

-- ---- what a run is read as

module _ {x : Result Digits Refused} (s : Text) (p : Place) where
  pub exponent_is : {q : Place} → q ≡ signed s p → x ≡ held_run (digits false NoExponentDigits 10 s q) → float_of x ≡ exponent s p
  unfolding exponent
  exponent_is {q} f e = ap float_of e ∙ float_held_run (digits false NoExponentDigits 10 s q) ∙ ap (λ (y : Place). float_of (digits false NoExponentDigits 10 s y)) f

  pub fraction_is : x ≡ held_run (digits false ExpectedDigit 10 s p) → past_fraction s x ≡ fraction s p
  unfolding fraction
  fraction_is e = ap (past_fraction s) e ∙ fraction_held_run s (digits false ExpectedDigit 10 s p)

  pub decimal_is : x ≡ held_run (digits false ExpectedDigit 10 s p) → decimal_of s x ≡ decimal s p
  unfolding decimal
  decimal_is e = ap (decimal_of s) e ∙ decimal_held s (digits false ExpectedDigit 10 s p)

  pub based_is : (r : ℕ) → x ≡ held_run (digits true ExpectedDigit r s p) → whole_of x ≡ based r s p
  unfolding based
  based_is r e = ap whole_of e ∙ whole_held_run (digits true ExpectedDigit r s p)

-- ---- the tests, by the bytes that decide them

module _ (s : Text) (p : Place) {b : ℕ} (e : b ≡ byte_at s p.offset) where
  pub past_dot : (v : ℕ) → b ≡ 46 → dotted s v p ≡ past_digits s v p
  unfolding past_digits
  past_dot v f = rw (eq-eqb (byte_at s p.offset) 46 (sym e ∙ f), past_digits)

  pub past_plain : (v : ℕ) → (b ≡ 46 → ⊥) → exponent_or s p (whole v p) ≡ past_digits s v p
  unfolding past_digits
  past_plain v n = rw (ne_eqb (byte_at s p.offset) 46 (λ z. n (e ∙ z)), past_digits)
