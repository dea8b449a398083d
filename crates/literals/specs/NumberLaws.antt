-- Laws of number literals. Assumes nothing.
use Rattle.std.specs.Prelude.{◌≡◌, refl, Bool, true, false, ◌||◌, [], ◌∷◌, ℕ, suc, ◌+◌, ◌-◌, ◌*◌, ◌≤◌, ◌<◌, ◌^◌, leb, ltb, eqb, ℤ, pos, negsuc, length, drop, Ok, Result, Err}
use Rattle.std.proofs.Common.{sym, subst, ◌∙◌, arith, length-drop, ltb-true, ltb-false, leb-true, lt-ltb, le-ltb, le-leb, ne_eqb, eq-eqb, eqb-true}
use Rattle.std.proofs.lemmas.Bool.{lt-leb}
use Rattle.characters.specs.declared.place.Place.{Place}
use Rattle.characters.specs.declared.refusal.Refusal.{Refusal}
use Rattle.characters.specs.declared.refusal.Refusal.TheVariants.{IntegerTooLarge, ExpectedDigit, MisplacedSeparator, NoExponentDigits}
use Rattle.characters.specs.Text.{Text, byte_at, on_by, Stands}
use Rattle.characters.specs.PlaceLaws.{Reached, Advanced, reached_here, reached_on, advanced_on, advanced_reached, in_text, from_byte, on_by_stands}
use Rattle.literals.specs.declared.numbers.Numeral.TheVariants.{Int, Float}
use Rattle.literals.specs.Numbers.{
  digit_of,
  is_digit_in,
  reaches,
  run,
  digits,
  most,
  whole,
  whole_of,
  float_of,
  based,
  signed,
  exponent,
  exponent_or,
  past_fraction,
  fraction,
  dotted,
  past_digits,
  decimal_of,
  decimal,
  number,
}
use Rattle.characters.specs.Answers.{failed}
use Rattle.characters.specs.declared.refusal.Refused.{Refused}
use Rattle.literals.specs.Answers.{digits_to}
use Rattle.literals.specs.declared.numbers.Digits.{Digits}
use Rattle.literals.specs.declared.numbers.Numeral.{Numeral}

-- ---- digits

pub digit_below : (b : ℕ) → b < 48 → 16 ≡ digit_of b
unfolding digit_of
digit_below b h = rw (lt-leb 48 b h, lt-leb 65 b (omega arith), lt-leb 97 b (omega arith), digit_of) refl

pub digit_decimal : (b : ℕ) → 48 ≤ b → b < 58 → b - 48 ≡ digit_of b
unfolding digit_of
digit_decimal b h l = rw (le-leb 48 b h, le-leb b 57 (omega arith), digit_of) refl

pub digit_between : (b : ℕ) → 58 ≤ b → b < 65 → 16 ≡ digit_of b
unfolding digit_of
digit_between b h l = rw (le-leb 48 b (omega arith), lt-leb b 57 (omega arith), lt-leb 65 b l, lt-leb 97 b (omega arith), digit_of) refl

pub digit_upper : (b : ℕ) → 65 ≤ b → b < 71 → b - 55 ≡ digit_of b
unfolding digit_of
digit_upper b h l = rw (le-leb 48 b (omega arith), lt-leb b 57 (omega arith), le-leb 65 b h, le-leb b 70 (omega arith), digit_of) refl

pub digit_amid : (b : ℕ) → 71 ≤ b → b < 97 → 16 ≡ digit_of b
unfolding digit_of
digit_amid b h l =
    rw (le-leb 48 b (omega arith), lt-leb b 57 (omega arith), le-leb 65 b (omega arith), lt-leb b 70 (omega arith), lt-leb 97 b l, digit_of) refl

pub digit_lower : (b : ℕ) → 97 ≤ b → b < 103 → b - 87 ≡ digit_of b
unfolding digit_of
digit_lower b h l =
    rw (
      le-leb 48 b (omega arith),
      lt-leb b 57 (omega arith),
      le-leb 65 b (omega arith),
      lt-leb b 70 (omega arith),
      le-leb 97 b h,
      le-leb b 102 (omega arith),
      digit_of,
    )
    refl

pub digit_above : (b : ℕ) → 103 ≤ b → 16 ≡ digit_of b
unfolding digit_of
digit_above b h =
    rw (
      le-leb 48 b (omega arith),
      lt-leb b 57 (omega arith),
      le-leb 65 b (omega arith),
      lt-leb b 70 (omega arith),
      le-leb 97 b (omega arith),
      lt-leb b 102 (omega arith),
      digit_of,
    )
    refl

-- a digit is an ASCII byte
pub digit_ascii : (b : ℕ) → digit_of b < 16 → b < 128
digit_ascii b h = go (ltb b 103) refl
  where
    go : (t : Bool) → ltb b 103 ≡ t → b < 128
    go true e = let z : b < 103 = ltb-true b 103 e in omega arith
    go false e = omega (arith, digit_above b (ltb-false b 103 e))

-- ---- one step of a run

pub run_digit : (limited : Bool) (r v b : ℕ) (l : Text) (p : Place) → digit_of b < r → reaches limited (v * r + digit_of b) ≡ false
    → run limited r v (b ∷ l) p ≡ run limited r (v * r + digit_of b) l (on_by 1 p)
unfolding run
run_digit limited r v b l p h e = rw (lt-ltb (digit_of b) r h, e, run) refl

pub run_full : (r v b : ℕ) (l : Text) (p : Place) → digit_of b < r → 2 ^ 127 ≤ v * r + digit_of b → run true r v (b ∷ l) p ≡ failed IntegerTooLarge p
unfolding run
run_full r v b l p h e = rw (lt-ltb (digit_of b) r h, le-leb (2 ^ 127) (v * r + digit_of b) e, run) refl

pub run_separator : (limited : Bool) (r v b : ℕ) (l : Text) (p : Place) → r ≤ digit_of b → b ≡ 95 → digit_of (byte_at l 0) < r
    → run limited r v (b ∷ l) p ≡ run limited r v l (on_by 1 p)
unfolding run
run_separator limited r v b l p h e f = rw (le-ltb (digit_of b) r h, eq-eqb b 95 e, lt-ltb (digit_of (byte_at l 0)) r f, run) refl

pub run_broken : (limited : Bool) (r v b : ℕ) (l : Text) (p : Place) → r ≤ digit_of b → b ≡ 95 → r ≤ digit_of (byte_at l 0)
    → run limited r v (b ∷ l) p ≡ failed MisplacedSeparator p
unfolding run
run_broken limited r v b l p h e f = rw (le-ltb (digit_of b) r h, eq-eqb b 95 e, le-ltb (digit_of (byte_at l 0)) r f, run) refl

pub run_end : (limited : Bool) (r v b : ℕ) (l : Text) (p : Place) → r ≤ digit_of b → (b ≡ 95 → ⊥) → run limited r v (b ∷ l) p ≡ digits_to v p
unfolding run
run_end limited r v b l p h e = rw (le-ltb (digit_of b) r h, ne_eqb b 95 e, run) refl

-- ---- where a literal ends

-- a choice has what both its branches have
pub choice : {A : Type 0} (P : A → Type 0) (t : Bool) {x y : A} → (t ≡ true → P x) → (t ≡ false → P y) → P (elim t as (λ b. A) [ true ↦ x | false ↦ y ])
choice P true a b = a refl
choice P false a b = b refl

-- a choice on one test goes the same way, where the branch taken does
pub same_branch : {A : Type 0} (P : A → Type 0) (t : Bool) {w x y z : A}
    → (t ≡ true → P w → w ≡ y)
    → (t ≡ false → P x → x ≡ z)
    → P (elim t as (λ b. A) [ true ↦ w | false ↦ x ])
    → ◌≡◌ {A = A} (elim t as (λ b. A) [ true ↦ w | false ↦ x ]) (elim t as (λ b. A) [ true ↦ y | false ↦ z ])
same_branch P true f g a = f refl a
same_branch P false f g a = g refl a

abbrev pub end_of : Result Digits Refused → Place
end_of (Ok d) = d.next
end_of (Err e) = e.at

run_reached : (s : Text) (limited : Bool) (r v : ℕ) (l : Text) (p : Place) → Stands s p → p.offset + length l ≡ length s → Reached s p (end_of (run limited r v l p))
unfolding run
run_reached s limited r v [] p h e = reached_here h
run_reached s limited r v (b ∷ l) p h e =
    choice P (is_digit_in r b)
    (λ x. choice P (reaches limited (v * r + digit_of b)) (λ y. reached_here h) (λ y. reached_on step (run_reached s limited r (v * r + digit_of b) l (on_by 1 p) step.stands left)))
    (λ x. choice P (eqb b 95) (λ y. choice P (is_digit_in r (byte_at l 0)) (λ z. reached_on step (run_reached s limited r v l (on_by 1 p) step.stands left)) (λ z. reached_here h)) (λ y. reached_here h))
  where
    P : Result Digits Refused → Type 0
    P x = Reached s p (end_of x)

    size : p.offset + suc (length l) ≡ length s
    size = e

    left : p.offset + 1 + length l ≡ length s
    left = omega (arith, size)

    step : Reached s p (on_by 1 p)
    step = on_by_stands s 1 p h (omega (arith, size))

-- a run of digits advances; a refusal's place is no earlier than where it began
abbrev pub RunOn : Text → Place → Result Digits Refused → Type 0
RunOn s p (Ok d) = Advanced s p d.next
RunOn s p (Err e) = Reached s p e.at

run_past : (s : Text) (p : Place) (x : Result Digits Refused) → Reached s (on_by 1 p) (end_of x) → RunOn s p x
run_past s p (Ok d) h = record { stands = h.stands; further = omega (arith, h.further) }
run_past s p (Err e) h = record { stands = h.stands; further = omega (arith, h.further) }

-- the first digit is passed
run_first : (s : Text) (limited : Bool) (r v b : ℕ) (l : Text) (p : Place) → digit_of b < r → Stands s p → p.offset + suc (length l) ≡ length s → RunOn s p (run limited r v (b ∷ l) p)
unfolding run
run_first s limited r v b l p d h e =
    rw (lt-ltb (digit_of b) r d, run)
    (choice (RunOn s p) (reaches limited (v * r + digit_of b)) (λ y. reached_here h)
    (λ y. run_past s p (run limited r (v * r + digit_of b) l (on_by 1 p)) (run_reached s limited r (v * r + digit_of b) l (on_by 1 p) (on_by_stands s 1 p h (omega arith)).stands (omega arith))))

pub digits_on : (s : Text) (limited : Bool) (none : Refusal) (r : ℕ) (p : Place) → r ≤ 16 → Stands s p → RunOn s p (digits limited none r s p)
unfolding digits
digits_on s limited none r p small h = choice (RunOn s p) (is_digit_in r (byte_at s p.offset)) (λ x. some (ltb-true (digit_of (byte_at s p.offset)) r x)) (λ x. reached_here h)
  where
    some : digit_of (byte_at s p.offset) < r → RunOn s p (run limited r 0 (drop p.offset s) p)
    some d =
        let low : byte_at s p.offset < 128 = digit_ascii (byte_at s p.offset) (omega (arith, d)) in
        let here : p.offset < length s = in_text s p.offset (omega arith) in
        rw (from_byte s p.offset (byte_at s p.offset) refl (omega arith))
        (run_first s limited r 0 (byte_at s p.offset) (drop (p.offset + 1) s) p d h (omega (arith, length-drop (p.offset + 1) s)))

-- An accepted literal advances in the text, and an integer is between 0 and 9223372036854775807.
-- A refusal's place is in the text, no earlier than where the literal began
abbrev pub Small : ℤ → Type 0
Small (pos v) = v ≤ most
Small (negsuc v) = ⊥

abbrev pub NumeralOn : Text → Place → Result Numeral Refused → Type 0
NumeralOn s p (Ok (Int z q)) = Advanced s p q × Small z
NumeralOn s p (Ok (Float q)) = Advanced s p q
NumeralOn s p (Err e) = Reached s p e.at

numeral_later : {s : Text} {p q : Place} → Reached s p q → (x : Result Numeral Refused) → NumeralOn s q x → NumeralOn s p x
numeral_later h (Ok (Int z q)) (a, b) = (advanced_on h a, b)
numeral_later h (Ok (Float q)) a = advanced_on h a
numeral_later h (Err e) a = reached_on h a

whole_on : (s : Text) (p : Place) (v : ℕ) (q : Place) → Advanced s p q → NumeralOn s p (whole v q)
unfolding whole
whole_on s p v q h = choice (NumeralOn s p) (leb v most) (λ x. (h, leb-true v most x)) (λ x. advanced_reached h)

whole_of_on : (s : Text) (p : Place) (x : Result Digits Refused) → RunOn s p x → NumeralOn s p (whole_of x)
whole_of_on s p (Ok d) h = whole_on s p d.value d.next h
whole_of_on s p (Err e) h = h

float_of_on : (s : Text) (p : Place) (x : Result Digits Refused) → RunOn s p x → NumeralOn s p (float_of x)
float_of_on s p (Ok d) h = h
float_of_on s p (Err e) h = h

based_on : (s : Text) (r : ℕ) (p : Place) → r ≤ 16 → Stands s p → NumeralOn s p (based r s p)
unfolding based
based_on s r p small h = whole_of_on s p (digits true ExpectedDigit r s p) (digits_on s true ExpectedDigit r p small h)

-- past a byte that is named
pub over_byte : (s : Text) (p : Place) (k : ℕ) → Stands s p → byte_at s p.offset ≡ k → k < 256 → Reached s p (on_by 1 p)
over_byte s p k h e l = let z : p.offset < length s = in_text s p.offset (omega arith) in on_by_stands s 1 p h (omega arith)

-- one of two bytes
over_either : (s : Text) (p : Place) (j k : ℕ) → Stands s p → (eqb (byte_at s p.offset) j || eqb (byte_at s p.offset) k) ≡ true → j < 256 → k < 256 → Reached s p (on_by 1 p)
over_either s p j k h e l m = go (eqb (byte_at s p.offset) j) refl
  where
    go : (t : Bool) → eqb (byte_at s p.offset) j ≡ t → Reached s p (on_by 1 p)
    go true f = over_byte s p j h (eqb-true (byte_at s p.offset) j f) l
    go false f = over_byte s p k h (eqb-true (byte_at s p.offset) k (rw f at e)) m

pub signed_on : (s : Text) (p : Place) → Stands s p → Reached s p (signed s p)
signed_on s p h = choice (Reached s p) (eqb (byte_at s p.offset) 43 || eqb (byte_at s p.offset) 45) (λ x. over_either s p 43 45 h x (omega arith) (omega arith)) (λ x. reached_here h)

exponent_on : (s : Text) (p : Place) → Stands s p → NumeralOn s p (exponent s p)
unfolding exponent
exponent_on s p h =
    let q = signed s p in
    let a = signed_on s p h in
    numeral_later a (float_of (digits false NoExponentDigits 10 s q)) (float_of_on s q (digits false NoExponentDigits 10 s q) (digits_on s false NoExponentDigits 10 q (omega arith) a.stands))

exponent_or_on : (s : Text) (p q : Place) (plain : Result Numeral Refused) → Reached s p q → NumeralOn s p plain → NumeralOn s p (exponent_or s q plain)
unfolding exponent_or
exponent_or_on s p q plain h a =
    choice (NumeralOn s p) (eqb (byte_at s q.offset) 101 || eqb (byte_at s q.offset) 69)
    (λ x.
    let z = over_either s q 101 69 h.stands x (omega arith) (omega arith) in
    numeral_later (reached_on h z) (exponent s (on_by 1 q)) (exponent_on s (on_by 1 q) z.stands))
    (λ x. a)

past_fraction_on : (s : Text) (p : Place) (x : Result Digits Refused) → RunOn s p x → NumeralOn s p (past_fraction s x)
past_fraction_on s p (Ok d) h = exponent_or_on s p d.next (Ok (Float d.next)) (advanced_reached h) h
past_fraction_on s p (Err e) h = h

fraction_on : (s : Text) (p : Place) → Stands s p → NumeralOn s p (fraction s p)
unfolding fraction
fraction_on s p h = past_fraction_on s p (digits false ExpectedDigit 10 s p) (digits_on s false ExpectedDigit 10 p (omega arith) h)

dotted_on : (s : Text) (p : Place) (v : ℕ) (q : Place) → Advanced s p q → byte_at s q.offset ≡ 46 → NumeralOn s p (dotted s v q)
unfolding dotted
dotted_on s p v q h e =
    choice (NumeralOn s p) (eqb (byte_at s (q.offset + 1)) 95) (λ x. advanced_reached h)
    (λ x.
    choice (NumeralOn s p) (is_digit_in 10 (byte_at s (q.offset + 1)))
    (λ y.
    let z = over_byte s q 46 h.stands e (omega arith) in
    numeral_later (reached_on (advanced_reached h) z) (fraction s (on_by 1 q)) (fraction_on s (on_by 1 q) z.stands))
    (λ y. whole_on s p v q h))

past_digits_on : (s : Text) (p : Place) (v : ℕ) (q : Place) → Advanced s p q → NumeralOn s p (past_digits s v q)
unfolding past_digits
past_digits_on s p v q h =
    choice (NumeralOn s p) (eqb (byte_at s q.offset) 46) (λ x. dotted_on s p v q h (eqb-true (byte_at s q.offset) 46 x))
    (λ x. exponent_or_on s p q (whole v q) (advanced_reached h) (whole_on s p v q h))

decimal_of_on : (s : Text) (p : Place) (x : Result Digits Refused) → RunOn s p x → NumeralOn s p (decimal_of s x)
decimal_of_on s p (Ok d) h = past_digits_on s p d.value d.next h
decimal_of_on s p (Err e) h = h

decimal_on : (s : Text) (p : Place) → Stands s p → NumeralOn s p (decimal s p)
unfolding decimal
decimal_on s p h = decimal_of_on s p (digits false ExpectedDigit 10 s p) (digits_on s false ExpectedDigit 10 p (omega arith) h)

-- past `0x` or `0b`
pub over_two : (s : Text) (p : Place) (k : ℕ) → Stands s p → byte_at s (p.offset + 1) ≡ k → k < 256 → Reached s p (on_by 2 p)
over_two s p k h e l = let z : p.offset + 1 < length s = in_text s (p.offset + 1) (omega arith) in on_by_stands s 2 p h (omega arith)

pub number_on : (s : Text) (p : Place) → Stands s p → NumeralOn s p (number s p)
unfolding number
number_on s p h =
    choice P (eqb (byte_at s p.offset) 48)
    (λ a.
    choice P (eqb (byte_at s (p.offset + 1)) 120) (λ b. prefixed 16 120 (omega arith) (omega arith) b)
    (λ b. choice P (eqb (byte_at s (p.offset + 1)) 98) (λ c. prefixed 2 98 (omega arith) (omega arith) c) (λ c. decimal_on s p h)))
    (λ a. decimal_on s p h)
  where
    P : Result Numeral Refused → Type 0
    P = NumeralOn s p

    prefixed : (r k : ℕ) → r ≤ 16 → k < 256 → eqb (byte_at s (p.offset + 1)) k ≡ true → NumeralOn s p (based r s (on_by 2 p))
    prefixed r k small l e =
        let z = over_two s p k h (eqb-true (byte_at s (p.offset + 1)) k e) l in
        numeral_later z (based r s (on_by 2 p)) (based_on s r (on_by 2 p) small z.stands)

-- the same of an answer at hand
pub int_advances : {s : Text} {p q : Place} {z : ℤ} {x : Result Numeral Refused} → Stands s p → x ≡ number s p → x ≡ Ok (Int z q) → Advanced s p q
int_advances {s} {p} {q} {z} {x} h e f = let a : NumeralOn s p (Ok (Int z q)) = subst (NumeralOn s p) (sym e ∙ f) (number_on s p h) in a.0

pub int_small : {s : Text} {p q : Place} {z : ℤ} {x : Result Numeral Refused} → Stands s p → x ≡ number s p → x ≡ Ok (Int z q) → Small z
int_small {s} {p} {q} {z} {x} h e f = let a : NumeralOn s p (Ok (Int z q)) = subst (NumeralOn s p) (sym e ∙ f) (number_on s p h) in a.1

pub float_advances : {s : Text} {p q : Place} {x : Result Numeral Refused} → Stands s p → x ≡ number s p → x ≡ Ok (Float q) → Advanced s p q
float_advances {s} {p} {q} {x} h e f = subst (NumeralOn s p) (sym e ∙ f) (number_on s p h)

pub bad_reaches : {s : Text} {p q : Place} {k : Refusal} {x : Result Numeral Refused} → Stands s p → x ≡ number s p → x ≡ failed k q → Reached s p q
bad_reaches {s} {p} {q} {k} {x} h e f = subst (NumeralOn s p) (sym e ∙ f) (number_on s p h)
