-- A number literal is decided by its bytes and the two behind it: texts that agree there give the same answer, refusals too.
-- Two, since `1.` goes on before a digit, and `1_` before nothing else. Assumes nothing.
use Rattle.std.specs.Prelude.{◌≡◌, refl, Bool, ◌||◌, [], ◌∷◌, ℕ, suc, ◌+◌, ◌*◌, ◌≤◌, leb, drop, Ok, Result, Err}
use Rattle.std.proofs.Math.Path.{sym, ap}
use Rattle.std.proofs.Common.{subst, ◌∙◌, arith}
use Rattle.std.proofs.Math.Bool.{true, false}
use Rattle.std.proofs.Math.Dec.{eqb}
use Rattle.std.proofs.Math.Seq.{get_or-drop}
use Rattle.characters.specs.declared.place.Place.{Place}
use Rattle.characters.specs.declared.refusal.Refusal.{Refusal}
use Rattle.characters.specs.declared.refusal.Refusal.TheVariants.{ExpectedDigit, MisplacedSeparator, NoExponentDigits}
use Rattle.characters.specs.Text.{Text, byte_at, on_by}
use Rattle.literals.specs.declared.numbers.Numeral.TheVariants.{Int, Float}
use Rattle.literals.specs.Numbers.{
  digit_of,
  is_digit_in,
  reaches,
  run,
  digits,
  most,
  whole,
  whole_of,
  float_of,
  based,
  signed,
  exponent,
  exponent_or,
  past_fraction,
  fraction,
  dotted,
  past_digits,
  decimal_of,
  decimal,
  number,
}
use Rattle.literals.specs.NumberLaws.{digit_above, run_end, choice, same_branch, end_of}
use Rattle.characters.specs.Answers.{failed}
use Rattle.characters.specs.declared.refusal.Refused.{Refused}
use Rattle.literals.specs.Answers.{digits_to}
use Rattle.literals.specs.declared.numbers.Digits.{Digits}
use Rattle.literals.specs.declared.numbers.Numeral.{Numeral}

-- the same bytes, up to and with an offset
abbrev pub Agree : Text → Text → ℕ → Type 0
Agree s t n = (o : ℕ) → o ≤ n → byte_at s o ≡ byte_at t o

-- the place after a literal, or of its refusal
abbrev pub place_of : Result Numeral Refused → Place
place_of (Ok (Int z q)) = q
place_of (Ok (Float q)) = q
place_of (Err e) = e.at

-- a choice on one test goes the same way, where the branch taken does, whatever the test says
same_choice : {A : Type 0} (P : A → Type 0) (t : Bool) {w x y z : A}
    → (P w → w ≡ y)
    → (P x → x ≡ z)
    → P (elim t as (λ b. A) [ true ↦ w | false ↦ x ])
    → ◌≡◌ {A = A} (elim t as (λ b. A) [ true ↦ w | false ↦ x ]) (elim t as (λ b. A) [ true ↦ y | false ↦ z ])
same_choice P t f g = same_branch P t (λ e. f) (λ e. g)

-- ---- no part ends before it begins

run_onward : (limited : Bool) (r v : ℕ) (l : Text) (p : Place) → p.offset ≤ (end_of (run limited r v l p)).offset
unfolding run
run_onward limited r v [] p = omega arith
run_onward limited r v (b ∷ l) p =
    choice P (is_digit_in r b)
    (λ x. choice P (reaches limited (v * r + digit_of b)) (λ y. omega arith) (λ y. omega (arith, run_onward limited r (v * r + digit_of b) l (on_by 1 p))))
    (λ x. choice P (eqb b 95) (λ y. choice P (is_digit_in r (byte_at l 0)) (λ z. omega (arith, run_onward limited r v l (on_by 1 p))) (λ z. omega arith)) (λ y. omega arith))
  where
    P : Result Digits Refused → Type 0
    P x = p.offset ≤ (end_of x).offset

digits_onward : (s : Text) (limited : Bool) (none : Refusal) (r : ℕ) (p : Place) → p.offset ≤ (end_of (digits limited none r s p)).offset
unfolding digits
digits_onward s limited none r p =
    choice (λ (x : Result Digits Refused). p.offset ≤ (end_of x).offset) (is_digit_in r (byte_at s p.offset)) (λ x. run_onward limited r 0 (drop p.offset s) p) (λ x. omega arith)

whole_place : (v : ℕ) (q : Place) → place_of (whole v q) ≡ q
unfolding whole
whole_place v q = choice (λ (x : Result Numeral Refused). place_of x ≡ q) (leb v most) (λ x. refl) (λ x. refl)

whole_of_place : (x : Result Digits Refused) → place_of (whole_of x) ≡ end_of x
whole_of_place (Ok d) = whole_place d.value d.next
whole_of_place (Err e) = refl

float_of_place : (x : Result Digits Refused) → place_of (float_of x) ≡ end_of x
float_of_place (Ok d) = refl
float_of_place (Err e) = refl

signed_onward : (s : Text) (p : Place) → p.offset ≤ (signed s p).offset
signed_onward s p = choice (λ (x : Place). p.offset ≤ x.offset) (eqb (byte_at s p.offset) 43 || eqb (byte_at s p.offset) 45) (λ x. omega arith) (λ x. omega arith)

exponent_onward : (s : Text) (p : Place) → p.offset ≤ (place_of (exponent s p)).offset
unfolding exponent
exponent_onward s p =
    let x = digits false NoExponentDigits 10 s (signed s p) in
    let e : (place_of (float_of x)).offset ≡ (end_of x).offset = ap (λ (q : Place). q.offset) (float_of_place x) in
    omega (arith, signed_onward s p, digits_onward s false NoExponentDigits 10 (signed s p))

exponent_or_onward : (s : Text) (p : Place) (plain : Result Numeral Refused) → p.offset ≤ (place_of plain).offset → p.offset ≤ (place_of (exponent_or s p plain)).offset
unfolding exponent_or
exponent_or_onward s p plain h =
    choice (λ (x : Result Numeral Refused). p.offset ≤ (place_of x).offset) (eqb (byte_at s p.offset) 101 || eqb (byte_at s p.offset) 69) (λ x. omega (arith, exponent_onward s (on_by 1 p))) (λ x. h)

past_fraction_onward : (s : Text) (x : Result Digits Refused) → (end_of x).offset ≤ (place_of (past_fraction s x)).offset
past_fraction_onward s (Ok d) = exponent_or_onward s d.next (Ok (Float d.next)) (omega arith)
past_fraction_onward s (Err e) = omega arith

fraction_onward : (s : Text) (p : Place) → p.offset ≤ (place_of (fraction s p)).offset
unfolding fraction
fraction_onward s p = omega (arith, digits_onward s false ExpectedDigit 10 p, past_fraction_onward s (digits false ExpectedDigit 10 s p))

whole_onward : (v : ℕ) (q : Place) → q.offset ≤ (place_of (whole v q)).offset
whole_onward v q = let e : (place_of (whole v q)).offset ≡ q.offset = ap (λ (x : Place). x.offset) (whole_place v q) in omega arith

dotted_onward : (s : Text) (v : ℕ) (p : Place) → p.offset ≤ (place_of (dotted s v p)).offset
unfolding dotted
dotted_onward s v p =
    choice P (eqb (byte_at s (p.offset + 1)) 95) (λ x. omega arith)
    (λ x. choice P (is_digit_in 10 (byte_at s (p.offset + 1))) (λ y. omega (arith, fraction_onward s (on_by 1 p))) (λ y. whole_onward v p))
  where
    P : Result Numeral Refused → Type 0
    P x = p.offset ≤ (place_of x).offset

past_digits_onward : (s : Text) (v : ℕ) (p : Place) → p.offset ≤ (place_of (past_digits s v p)).offset
unfolding past_digits
past_digits_onward s v p =
    choice (λ (x : Result Numeral Refused). p.offset ≤ (place_of x).offset) (eqb (byte_at s p.offset) 46) (λ x. dotted_onward s v p) (λ x. exponent_or_onward s p (whole v p) (whole_onward v p))

decimal_of_onward : (s : Text) (x : Result Digits Refused) → (end_of x).offset ≤ (place_of (decimal_of s x)).offset
decimal_of_onward s (Ok d) = past_digits_onward s d.value d.next
decimal_of_onward s (Err e) = omega arith

decimal_onward : (s : Text) (p : Place) → p.offset ≤ (place_of (decimal s p)).offset
unfolding decimal
decimal_onward s p = omega (arith, digits_onward s false ExpectedDigit 10 p, decimal_of_onward s (digits false ExpectedDigit 10 s p))

based_onward : (s : Text) (r : ℕ) (p : Place) → p.offset ≤ (place_of (based r s p)).offset
unfolding based
based_onward s r p =
    let x = digits true ExpectedDigit r s p in
    let e : (place_of (whole_of x)).offset ≡ (end_of x).offset = ap (λ (q : Place). q.offset) (whole_of_place x) in
    omega (arith, digits_onward s true ExpectedDigit r p)

pub number_onward : (s : Text) (p : Place) → p.offset ≤ (place_of (number s p)).offset
unfolding number
number_onward s p =
    choice P (eqb (byte_at s p.offset) 48)
    (λ a.
    choice P (eqb (byte_at s (p.offset + 1)) 120) (λ b. omega (arith, based_onward s 16 (on_by 2 p)))
    (λ b. choice P (eqb (byte_at s (p.offset + 1)) 98) (λ c. omega (arith, based_onward s 2 (on_by 2 p))) (λ c. decimal_onward s p)))
    (λ a. decimal_onward s p)
  where
    P : Result Numeral Refused → Type 0
    P x = p.offset ≤ (place_of x).offset

-- ---- runs of digits

-- 256 stands where a text is at its end
run_none : (limited : Bool) (r v b : ℕ) (l : Text) (p : Place) → r ≤ 16 → b ≡ 256 → run limited r v (b ∷ l) p ≡ digits_to v p
run_none limited r v b l p small e = run_end limited r v b l p (omega (arith, digit_above b (omega arith))) (λ z. omega arith)

step_stable : (limited : Bool) (r v b : ℕ) (l m : Text) (p : Place)
    → byte_at l 0 ≡ byte_at m 0
    → (P : Result Digits Refused → Type 0)
    → ((w : ℕ) → P (run limited r w l (on_by 1 p)) → run limited r w l (on_by 1 p) ≡ run limited r w m (on_by 1 p))
    → P (run limited r v (b ∷ l) p)
    → run limited r v (b ∷ l) p ≡ run limited r v (b ∷ m) p
unfolding run
step_stable limited r v b l m p e P on =
    same_choice P (is_digit_in r b) (same_choice P (reaches limited (v * r + digit_of b)) (λ a. refl) (on (v * r + digit_of b)))
    (same_choice P (eqb b 95)
    (λ a.
    same_choice P (is_digit_in r (byte_at l 0)) {y = run limited r v m (on_by 1 p)} {z = failed MisplacedSeparator p} (on v) (λ c. refl) a
    ∙ ap (λ (x : ℕ). elim (is_digit_in r x) as (λ t. Result Digits Refused) [ true ↦ run limited r v m (on_by 1 p) | false ↦ failed MisplacedSeparator p ]) e)
    (λ a. refl))

run_stable : (limited : Bool) (r v : ℕ) (l m : Text) (p : Place)
    → r ≤ 16
    → ((i : ℕ) → p.offset + i ≤ (end_of (run limited r v l p)).offset + 1 → byte_at l i ≡ byte_at m i)
    → run limited r v l p ≡ run limited r v m p
unfolding run
run_stable limited r v [] [] p small a = refl
run_stable limited r v [] (c ∷ m) p small a = sym (run_none limited r v c m p small (sym (a 0 (omega arith))))
run_stable limited r v (b ∷ l) [] p small a = run_none limited r v b l p small (a 0 (omega (arith, run_onward limited r v (b ∷ l) p)))
run_stable limited r v (b ∷ l) (c ∷ m) p small a =
    let far : p.offset ≤ (end_of (run limited r v (b ∷ l) p)).offset = run_onward limited r v (b ∷ l) p in
    step_stable limited r v b l m p (a 1 (omega arith)) (λ (x : Result Digits Refused). (i : ℕ) → p.offset + 1 + i ≤ (end_of x).offset + 1 → byte_at l i ≡ byte_at m i)
    (λ w q. run_stable limited r w l m (on_by 1 p) small q)
    (λ i h. a (suc i) (omega arith))
    ∙ ap (λ (x : ℕ). run limited r v (x ∷ m) p) (a 0 (omega arith))

-- ---- the literal

module _ (s t : Text) where
  -- the answer, and the bytes that it was decided by
  Near : Result Numeral Refused → Type 0
  Near x = Agree s t ((place_of x).offset + 1)

  digits_stable : (limited : Bool) (none : Refusal) (r : ℕ) (p : Place) → r ≤ 16 → Agree s t ((end_of (digits limited none r s p)).offset + 1) → digits limited none r s p ≡ digits limited none r t p
  unfolding digits
  digits_stable limited none r p small a =
      same_choice (λ (x : Result Digits Refused). Agree s t ((end_of x).offset + 1)) (is_digit_in r (byte_at s p.offset)) {y = run limited r 0 (drop p.offset t) p} {z = failed none p}
      (λ b. run_stable limited r 0 (drop p.offset s) (drop p.offset t) p small (λ i h. get_or-drop p.offset s i 256 ∙ b (p.offset + i) h ∙ sym (get_or-drop p.offset t i 256)))
      (λ b. refl)
      a
      ∙ ap (λ (x : ℕ). elim (is_digit_in r x) as (λ t. Result Digits Refused) [ true ↦ run limited r 0 (drop p.offset t) p | false ↦ failed none p ]) (a p.offset (omega (arith, digits_onward s limited none r p)))

  signed_stable : (p : Place) → byte_at s p.offset ≡ byte_at t p.offset → signed s p ≡ signed t p
  signed_stable p e = ap (λ (x : ℕ). elim (eqb x 43 || eqb x 45) as (λ b. Place) [ true ↦ on_by 1 p | false ↦ p ]) e

  exponent_stable : (p : Place) → Near (exponent s p) → exponent s p ≡ exponent t p
  unfolding exponent Near
  exponent_stable p a =
      ap float_of (digits_stable false NoExponentDigits 10 (signed s p) (omega arith) (subst (λ (q : Place). Agree s t (q.offset + 1)) (float_of_place (digits false NoExponentDigits 10 s (signed s p))) a))
      ∙ ap (λ (q : Place). float_of (digits false NoExponentDigits 10 t q)) (signed_stable p (a p.offset (omega (arith, exponent_onward s p))))

  exponent_or_stable : (p : Place) (plain : Result Numeral Refused) → p.offset ≤ (place_of plain).offset → Near (exponent_or s p plain) → exponent_or s p plain ≡ exponent_or t p plain
  unfolding exponent_or Near
  exponent_or_stable p plain h a =
      same_choice Near (eqb (byte_at s p.offset) 101 || eqb (byte_at s p.offset) 69) {y = exponent t (on_by 1 p)} {z = plain} (exponent_stable (on_by 1 p)) (λ b. refl) a
      ∙ ap (λ (x : ℕ). elim (eqb x 101 || eqb x 69) as (λ b. Result Numeral Refused) [ true ↦ exponent t (on_by 1 p) | false ↦ plain ]) (a p.offset (omega (arith, exponent_or_onward s p plain h)))

  past_fraction_stable : (x : Result Digits Refused) → Near (past_fraction s x) → past_fraction s x ≡ past_fraction t x
  past_fraction_stable (Ok d) a = exponent_or_stable d.next (Ok (Float d.next)) (omega arith) a
  past_fraction_stable (Err e) a = refl

  fraction_stable : (p : Place) → Near (fraction s p) → fraction s p ≡ fraction t p
  unfolding fraction Near
  fraction_stable p a =
      let x = digits false ExpectedDigit 10 s p in
      past_fraction_stable x a
      ∙ ap (past_fraction t) (digits_stable false ExpectedDigit 10 p (omega arith) (λ o h. a o (omega (arith, past_fraction_onward s x))))

  dotted_stable : (v : ℕ) (p : Place) → Near (dotted s v p) → dotted s v p ≡ dotted t v p
  unfolding dotted Near
  dotted_stable v p a =
      same_choice Near (eqb (byte_at s (p.offset + 1)) 95) {y = failed MisplacedSeparator p}
      {z = elim (is_digit_in 10 (byte_at s (p.offset + 1))) as (λ b. Result Numeral Refused) [ true ↦ fraction t (on_by 1 p) | false ↦ whole v p ]}
      (λ b. refl)
      (same_choice Near (is_digit_in 10 (byte_at s (p.offset + 1))) (fraction_stable (on_by 1 p)) (λ b. refl))
      a
      ∙ ap (λ (x : ℕ). elim (eqb x 95) as (λ b. Result Numeral Refused) [ true ↦ failed MisplacedSeparator p | false ↦ elim (is_digit_in 10 x) as (λ b. Result Numeral Refused) [ true ↦ fraction t (on_by 1 p) | false ↦ whole v p ] ])
      (a (p.offset + 1) (omega (arith, dotted_onward s v p)))

  past_digits_stable : (v : ℕ) (p : Place) → Near (past_digits s v p) → past_digits s v p ≡ past_digits t v p
  unfolding past_digits Near
  past_digits_stable v p a =
      same_choice Near (eqb (byte_at s p.offset) 46) {y = dotted t v p} {z = exponent_or t p (whole v p)} (dotted_stable v p) (exponent_or_stable p (whole v p) (whole_onward v p)) a
      ∙ ap (λ (x : ℕ). elim (eqb x 46) as (λ b. Result Numeral Refused) [ true ↦ dotted t v p | false ↦ exponent_or t p (whole v p) ]) (a p.offset (omega (arith, past_digits_onward s v p)))

  decimal_of_stable : (x : Result Digits Refused) → Near (decimal_of s x) → decimal_of s x ≡ decimal_of t x
  decimal_of_stable (Ok d) a = past_digits_stable d.value d.next a
  decimal_of_stable (Err e) a = refl

  decimal_stable : (p : Place) → Near (decimal s p) → decimal s p ≡ decimal t p
  unfolding decimal Near
  decimal_stable p a =
      let x = digits false ExpectedDigit 10 s p in
      decimal_of_stable x a
      ∙ ap (decimal_of t) (digits_stable false ExpectedDigit 10 p (omega arith) (λ o h. a o (omega (arith, decimal_of_onward s x))))

  based_stable : (r : ℕ) (p : Place) → r ≤ 16 → Near (based r s p) → based r s p ≡ based r t p
  unfolding based Near
  based_stable r p small a = ap whole_of (digits_stable true ExpectedDigit r p small (subst (λ (q : Place). Agree s t (q.offset + 1)) (whole_of_place (digits true ExpectedDigit r s p)) a))

-- `0x`, `0b` or neither, by the two bytes
abbrev prefixed : Text → Place → ℕ → ℕ → Result Numeral Refused
prefixed t p b x =
    elim (eqb b 48) [
      | true ↦ elim (eqb x 120) [ true ↦ based 16 t (on_by 2 p) | false ↦ elim (eqb x 98) [ true ↦ based 2 t (on_by 2 p) | false ↦ decimal t p ] ]
      | false ↦ decimal t p
    ]

pub number_stable : (s t : Text) (p : Place) → Agree s t ((place_of (number s p)).offset + 1) → number s p ≡ number t p
unfolding number Near
number_stable s t p a =
    same_choice (Near s t) (eqb b 48) {y = elim (eqb x 120) as (λ c. Result Numeral Refused) [ true ↦ based 16 t (on_by 2 p) | false ↦ elim (eqb x 98) as (λ c. Result Numeral Refused) [ true ↦ based 2 t (on_by 2 p) | false ↦ decimal t p ] ]} {z = decimal t p}
    (same_choice (Near s t) (eqb x 120) {z = elim (eqb x 98) as (λ c. Result Numeral Refused) [ true ↦ based 2 t (on_by 2 p) | false ↦ decimal t p ]} (based_stable s t 16 (on_by 2 p) (omega arith))
    (same_choice (Near s t) (eqb x 98) (based_stable s t 2 (on_by 2 p) (omega arith)) (decimal_stable s t p)))
    (decimal_stable s t p)
    a
    ∙ ap (λ (c : ℕ). prefixed t p c x) (a p.offset (omega (arith, number_onward s p)))
    ∙ ap (λ (c : ℕ). prefixed t p (byte_at t p.offset) c) (a (p.offset + 1) (omega (arith, number_onward s p)))
  where
    b : ℕ
    b = byte_at s p.offset

    x : ℕ
    x = byte_at s (p.offset + 1)
