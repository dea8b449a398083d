-- Laws of plain literals: where one is found, the rules of all literals read it, to the same end and value. Assumes nothing.
use Rattle.std.specs.Prelude.{◌≡◌, Bool, ◌&&◌, ◌||◌, not, [], ◌∷◌, ℕ, zero, suc, ◌+◌, ◌-◌, ◌*◌, ◌^◌, ◌≤◌, ◌<◌, leb, ltb, pos, length, take, drop, Ok, Result, None, Option, Some}
use Rattle.std.proofs.Math.Path.{refl, ap}
use Rattle.std.proofs.Common.{sym, subst, ◌∙◌, mul-one, one-mul, mul_assoc, drop-drop, get_or-drop, leb-true, ltb-true, ltb-false, le-leb, lt-ltb, eq-eqb, ne_eqb, eqb-true}
use Rattle.std.proofs.Math.Bool.{true, false, and-eq-true_iff}
use native.Mathlib.Omega.{arith}
use Rattle.std.proofs.Math.Nat.{pow-zero, pow-succ', pow-le-pow_right}
use Rattle.std.proofs.Math.Dec.{eqb}
use Rattle.std.proofs.lemmas.Bool.{eqb-false, not-true}
use Rattle.characters.specs.declared.place.Place.{Place}
use Rattle.characters.specs.declared.refusal.Refusal.TheVariants.{ExpectedDigit}
use Rattle.characters.specs.Text.{Text, byte_at, on_by, past}
use Rattle.characters.specs.PlaceLaws.{in_text, from_byte, past_low, on_by_none, on_by_on_by}
use Rattle.characters.specs.Counts.{count_of, end_of}
use Rattle.characters.specs.CountLaws.{count_yes, count_no, count_none, end_inside, run_bytes}
use Rattle.characters.specs.Names.{is_digit, is_name_byte}
use Rattle.literals.specs.declared.numbers.Numeral.TheVariants.{Int, Float}
use Rattle.literals.specs.Numbers.{
  digit_of,
  is_digit_in,
  run,
  digits,
  most,
  whole,
  exponent_or,
  past_fraction,
  fraction,
  dotted,
  past_digits,
  decimal_of,
  decimal,
  based,
  number,
}
use Rattle.literals.specs.NumberLaws.{choice, run_digit, run_end}
use Rattle.literals.specs.Strings.{is_quote, scan, string_by, string}
use Rattle.literals.specs.Plain.{goes_on, is_int, int_end, is_float, fraction_end, float_end, Few, value_from, int_value, is_itself, is_plain, content_end, some_end, string_end}
use Rattle.characters.specs.Answers.{taken}
use Rattle.characters.specs.declared.refusal.Refused.{Refused}
use Rattle.literals.specs.Answers.{digits_to}
use Rattle.literals.specs.declared.numbers.Numeral.{Numeral}

-- ---- the end of a literal

pub end_none : {n : ℕ} → 0 ≡ n → None ≡ some_end n
end_none e = ap some_end e

pub end_some : (e n : ℕ) → 0 < e → e ≡ n → Some e ≡ some_end n
end_some zero n h e = let z : 0 < 0 = h in absurd (omega arith)
end_some (suc k) n h e = ap some_end e

-- where one was found, and where none was
abbrev end_in : Option ℕ → ℕ
end_in None = 0
end_in (Some e) = e

pub end_found : (e n : ℕ) → Some e ≡ some_end n → (e ≡ n) × (e ≡ 0 → ⊥)
end_found e zero h = let z : ◌≡◌ {A = ℕ} 0 1 = cc in absurd (omega arith)
end_found e (suc k) h = let z : e ≡ suc k = ap end_in h in (z, λ y. omega arith)

-- ---- digits

pub digit_bounds : (b : ℕ) → is_digit b ≡ true → (48 ≤ b) × (b ≤ 57)
digit_bounds b e = let x = (and-eq-true_iff (leb 48 b) (leb b 57)).0 e in (leb-true 48 b x.0, leb-true b 57 x.1)

digit_value : (b : ℕ) → is_digit b ≡ true → digit_of b ≡ b - 48
unfolding digit_of
digit_value b e = rw (e, digit_of) refl

no_digit : (b : ℕ) → is_digit b ≡ false → 10 ≤ digit_of b
unfolding digit_of
no_digit b e =
    rw (e, digit_of)
    (choice P (leb 65 b && leb b 70) (λ x. let l : 65 ≤ b = leb-true 65 b ((and-eq-true_iff (leb 65 b) (leb b 70)).0 x).0 in omega arith)
    (λ x. choice P (leb 97 b && leb b 102) (λ y. let l : 97 ≤ b = leb-true 97 b ((and-eq-true_iff (leb 97 b) (leb b 102)).0 y).0 in omega arith) (λ y. omega arith)))
  where
    P : ℕ → Type 0
    P x = 10 ≤ x

-- digits with no `_` behind them: their value, and past them
run_plain : (l : Text) (v : ℕ) (p : Place) → (byte_at l (count_of is_digit l) ≡ 95 → ⊥) → run false 10 v l p ≡ digits_to (value_from v (take (count_of is_digit l) l)) (on_by (count_of is_digit l) p)
unfolding run value_from
run_plain [] v p n = rw (count_none is_digit) (ap (digits_to v) (sym (on_by_none p)))
run_plain (b ∷ l) v p n = go (is_digit b) refl (run_plain l (v * 10 + (b - 48)) (on_by 1 p))
  where
    go : (t : Bool) → is_digit b ≡ t
        → ((byte_at l (count_of is_digit l) ≡ 95 → ⊥) → run false 10 (v * 10 + (b - 48)) l (on_by 1 p) ≡ digits_to (value_from (v * 10 + (b - 48)) (take (count_of is_digit l) l)) (on_by (count_of is_digit l) (on_by 1 p)))
        → run false 10 v (b ∷ l) p ≡ digits_to (value_from v (take (count_of is_digit (b ∷ l)) (b ∷ l))) (on_by (count_of is_digit (b ∷ l)) p)
    go true e ih =
        let c = count_yes is_digit b l e in
        let d = digit_value b e in
        let i : b ≤ 57 = (digit_bounds b e).1 in
        run_digit false 10 v b l p (omega arith) refl
        ∙ ap (λ (x : ℕ). run false 10 (v * 10 + x) l (on_by 1 p)) d
        ∙ ih (λ z. n (ap (byte_at (b ∷ l)) c ∙ z))
        ∙ ap (digits_to (value_from (v * 10 + (b - 48)) (take (count_of is_digit l) l))) (on_by_on_by 1 (count_of is_digit l) p ∙ ap (λ (k : ℕ). on_by k p) (let z : 1 + count_of is_digit l ≡ suc (count_of is_digit l) = omega arith in z))
        ∙ ap (λ (k : ℕ). digits_to (value_from v (take k (b ∷ l))) (on_by k p)) (sym c)
    go false e ih =
        let c = count_no is_digit b l e in
        run_end false 10 v b l p (no_digit b e) (λ z. n (ap (byte_at (b ∷ l)) c ∙ z))
        ∙ ap (digits_to v) (sym (on_by_none p))
        ∙ ap (λ (k : ℕ). digits_to (value_from v (take k (b ∷ l))) (on_by k p)) (sym c)

-- n digits are below the n-th power of ten
value_less : (n : ℕ) (l : Text) (v m : ℕ) → n ≤ count_of is_digit l → v < m → value_from v (take n l) < m * 10 ^ n
unfolding value_from
value_less zero l v m k h = rw (pow-zero 10, mul-one m) h
value_less (suc n) [] v m k h = absurd (let z = count_none is_digit in omega arith)
value_less (suc n) (b ∷ l) v m k h = go (is_digit b) refl (λ x y. value_less n l (v * 10 + (b - 48)) (m * 10) x y)
  where
    go : (t : Bool) → is_digit b ≡ t
        → (n ≤ count_of is_digit l → v * 10 + (b - 48) < m * 10 → value_from (v * 10 + (b - 48)) (take n l) < m * 10 * 10 ^ n)
        → value_from (v * 10 + (b - 48)) (take n l) < m * 10 ^ suc n
    go true e ih =
        let c = count_yes is_digit b l e in
        let i = (digit_bounds b e).1 in
        subst (λ (x : ℕ). value_from (v * 10 + (b - 48)) (take n l) < x) (mul_assoc m 10 (10 ^ n) ∙ ap (λ (x : ℕ). m * x) (sym (pow-succ' 10 n))) (ih (omega arith) (omega arith))
    go false e ih = absurd (let c = count_no is_digit b l e in omega arith)

pub int_small : {s : Text} {from to : ℕ} → Few s from to → int_value s from to < 10 ^ 18
int_small {s} {from} {to} w =
    let h : to ≤ from + 18 = w.few in
    let k : to ≤ end_of is_digit s from = w.digits in
    let a : value_from 0 (take (to - from) (drop from s)) < 1 * 10 ^ (to - from) = value_less (to - from) (drop from s) 0 1 (omega arith) (omega arith) in
    let d : to - from ≤ 18 = omega arith in
    let b : 10 ^ (to - from) ≤ 10 ^ 18 = pow-le-pow_right (omega arith) d in
    let c : 1 * 10 ^ (to - from) ≡ 10 ^ (to - from) = one-mul (10 ^ (to - from)) in
    omega arith

-- ---- digits at a place

-- one digit at least from a place to an offset, where they end
module _ (s : Text) (p : Place) (e : ℕ) (ends : e ≡ end_of is_digit s p.offset) (some : p.offset < e) where
  abbrev size : ℕ
  size = count_of is_digit (drop p.offset s)

  count : e - p.offset ≡ size
  count = omega arith

  follows : byte_at (drop p.offset s) size ≡ byte_at s e
  follows = get_or-drop p.offset s size 256 ∙ ap (byte_at s) (sym ends)

  first : is_digit (byte_at s p.offset) ≡ true
  first = (run_bytes is_digit s p.offset p.offset (omega arith) (omega arith)).1

  first_in : is_digit_in 10 (byte_at s p.offset) ≡ true
  first_in =
      let i = (digit_bounds (byte_at s p.offset) first).1 in
      let d = digit_value (byte_at s p.offset) first in
      lt-ltb (digit_of (byte_at s p.offset)) 10 (omega arith)

  -- with no `_` behind them: their value, and past them
  digits_plain : (byte_at s e ≡ 95 → ⊥) → digits false ExpectedDigit 10 s p ≡ digits_to (int_value s p.offset e) (on_by (e - p.offset) p)
  unfolding digits
  digits_plain n =
      rw (first_in, digits)
      (run_plain (drop p.offset s) 0 p (λ z. n (sym follows ∙ z))
      ∙ ap (λ (k : ℕ). digits_to (value_from 0 (take k (drop p.offset s))) (on_by k p)) (sym count))

  -- what is no digit and does not follow them does not stand behind the first
  no_base : (k : ℕ) → is_digit k ≡ false → (byte_at s e ≡ k → ⊥) → byte_at s (p.offset + 1) ≡ k → ⊥
  no_base k d n f = go (ltb (p.offset + 1) e) refl
    where
      go : (t : Bool) → ltb (p.offset + 1) e ≡ t → ⊥
      go true t =
          let l : p.offset + 1 < e = ltb-true (p.offset + 1) e t in
          let b : is_digit (byte_at s (p.offset + 1)) ≡ true = (run_bytes is_digit s p.offset (p.offset + 1) (omega arith) (omega arith)).1 in
          let y : ◌≡◌ {A = Bool} true false = sym b ∙ ap is_digit f ∙ d in
          let w : ◌≡◌ {A = ℕ} 0 1 = cc in
          omega arith
      go false t =
          let l = ltb-false (p.offset + 1) e t in
          let y : p.offset + 1 ≡ e = omega arith in
          n (ap (byte_at s) (sym y) ∙ f)

  -- with no `x` and no `b` behind them they begin a decimal number
  decimal_number : (byte_at s e ≡ 120 → ⊥) → (byte_at s e ≡ 98 → ⊥) → number s p ≡ decimal s p
  unfolding number
  decimal_number m n = go (eqb (byte_at s p.offset) 48) (ne_eqb (byte_at s (p.offset + 1)) 120 (no_base 120 refl m)) (ne_eqb (byte_at s (p.offset + 1)) 98 (no_base 98 refl n))
    where
      go : (t : Bool) → eqb (byte_at s (p.offset + 1)) 120 ≡ false → eqb (byte_at s (p.offset + 1)) 98 ≡ false
          → elim t as (λ u. Result Numeral Refused) [ true ↦ elim (eqb (byte_at s (p.offset + 1)) 120) as (λ u. Result Numeral Refused) [ true ↦ based 16 s (on_by 2 p) | false ↦ elim (eqb (byte_at s (p.offset + 1)) 98) as (λ u. Result Numeral Refused) [ true ↦ based 2 s (on_by 2 p) | false ↦ decimal s p ] ] | false ↦ decimal s p ]
          ≡ decimal s p
      go true x y = rw (x, y) refl
      go false x y = refl

-- behind what stands alone is no byte of names, and no dot
no_more : {b : ℕ} → goes_on b ≡ false → (k : ℕ) → is_name_byte k ≡ true → b ≡ k → ⊥
no_more {b} a k n f =
    let z : ◌≡◌ {A = Bool} true false = rw n at (ap goes_on (sym f) ∙ a) in
    let w : ◌≡◌ {A = ℕ} 0 1 = cc in
    omega arith

no_dot : {b : ℕ} → goes_on b ≡ false → b ≡ 46 → ⊥
no_dot {b} a f =
    let z : ◌≡◌ {A = Bool} true false = ap goes_on (sym f) ∙ a in
    let w : ◌≡◌ {A = ℕ} 0 1 = cc in
    omega arith

-- no exponent stands where neither `e` nor `E` does
no_exponent : (s : Text) (q : Place) (n : Result Numeral Refused) → goes_on (byte_at s q.offset) ≡ false → exponent_or s q n ≡ n
unfolding exponent_or
no_exponent s q n a = rw (ne_eqb (byte_at s q.offset) 101 (no_more a 101 refl), ne_eqb (byte_at s q.offset) 69 (no_more a 69 refl), exponent_or) refl

-- ---- plain integers

-- digits that no dot and no exponent follows are an integer
alone_whole : (s : Text) (w : ℕ) (q : Place) → goes_on (byte_at s q.offset) ≡ false → past_digits s w q ≡ whole w q
unfolding past_digits
alone_whole s w q a = rw (ne_eqb (byte_at s q.offset) 46 (no_dot a), past_digits) (no_exponent s q (whole w q) a)

-- what a plain integer is: its end, its digits, and what does not follow
pub record IsInt (s : Text) (o e : ℕ) : Type 0 where
  pub ends : e ≡ end_of is_digit s o
  pub some : o < e
  pub few : e ≤ o + 18
  pub inside : e ≤ length s
  pub alone : goes_on (byte_at s e) ≡ false

pub is_int_lem : (s : Text) (o : ℕ) {e : ℕ} → e ≡ int_end s o → (e ≡ 0 → ⊥) → IsInt s o e
unfolding int_end
is_int_lem s o {e} f n = go (is_int s o (end_of is_digit s o)) refl
  where
    x : ℕ
    x = end_of is_digit s o

    go : (t : Bool) → is_int s o x ≡ t → IsInt s o e
    go false z = absurd (n (f ∙ rw (z, int_end) refl))
    go true z =
        let w : e ≡ x = f ∙ rw (z, int_end) refl in
        let a = (and-eq-true_iff (ltb o x && leb x (o + 18)) (not (goes_on (byte_at s x)))).0 z in
        let b = (and-eq-true_iff (ltb o x) (leb x (o + 18))).0 a.0 in
        let l : o < x = ltb-true o x b.0 in
        let m : x ≤ o + 18 = leb-true x (o + 18) b.1 in
        let i = (run_bytes is_digit s o o (omega arith) l).0 in
        let j = end_inside is_digit s o (omega arith) in
        record { ends = w; some = omega arith; few = omega arith; inside = omega arith; alone = ap (λ (k : ℕ). goes_on (byte_at s k)) w ∙ not-true _ a.1 }

pub int_few : {s : Text} {o e : ℕ} → IsInt s o e → Few s o e
int_few v = let l = v.some in let z = v.ends in record { forward = omega arith; few = v.few; digits = omega arith }

module _ (s : Text) (p : Place) (e : ℕ) (v : IsInt s p.offset e) where
  abbrev value : ℕ
  value = int_value s p.offset e

  whole_plain : (q : Place) → whole value q ≡ Ok (Int (pos value) q)
  unfolding whole
  whole_plain q =
      let l = int_small (int_few v) in
      let d : 10 ^ 18 ≡ 1000000000000000000 = refl in
      rw (le-leb value most (omega arith), whole) refl

  decimal_plain : decimal s p ≡ Ok (Int (pos value) (on_by (e - p.offset) p))
  unfolding decimal
  decimal_plain =
      let l : p.offset < e = v.some in
      let z : p.offset + (e - p.offset) ≡ e = omega arith in
      ap (decimal_of s) (digits_plain s p e v.ends v.some (no_more v.alone 95 refl))
      ∙ alone_whole s value (on_by (e - p.offset) p) (ap (λ (k : ℕ). goes_on (byte_at s k)) z ∙ v.alone)
      ∙ whole_plain (on_by (e - p.offset) p)

  -- the rules read it: an integer of that value, to that end
  pub plain_number : number s p ≡ Ok (Int (pos value) (on_by (e - p.offset) p))
  plain_number = decimal_number s p e v.ends v.some (no_more v.alone 120 refl) (no_more v.alone 98 refl) ∙ decimal_plain

-- ---- plain fractions

-- what a plain fraction is: its dot behind digits, its end behind others, and what does not follow
pub record IsFloat (s : Text) (o d e : ℕ) : Type 0 where
  pub whole_ends : d ≡ end_of is_digit s o
  pub whole_some : o < d
  pub dot : byte_at s d ≡ 46
  pub ends : e ≡ end_of is_digit s (d + 1)
  pub some : d + 1 < e
  pub inside : e ≤ length s
  pub alone : goes_on (byte_at s e) ≡ false

pub is_float_lem : (s : Text) (o : ℕ) {e : ℕ} → e ≡ float_end s o → (e ≡ 0 → ⊥) → IsFloat s o (end_of is_digit s o) e
unfolding float_end
is_float_lem s o {e} f n = go (is_float s o d x) refl
  where
    d : ℕ
    d = end_of is_digit s o

    x : ℕ
    x = fraction_end s o

    go : (t : Bool) → is_float s o d x ≡ t → IsFloat s o d e
    go false z = absurd (n (f ∙ rw (z, float_end) refl))
    go true z =
        let w : e ≡ x = f ∙ rw (z, float_end) refl in
        let a = (and-eq-true_iff (ltb o d && eqb (byte_at s d) 46 && ltb (d + 1) x) (not (goes_on (byte_at s x)))).0 z in
        let b = (and-eq-true_iff (ltb o d && eqb (byte_at s d) 46) (ltb (d + 1) x)).0 a.0 in
        let c = (and-eq-true_iff (ltb o d) (eqb (byte_at s d) 46)).0 b.0 in
        let l : o < d = ltb-true o d c.0 in
        let m : d + 1 < x = ltb-true (d + 1) x b.1 in
        let i = (run_bytes is_digit s (d + 1) (d + 1) (omega arith) m).0 in
        let j = end_inside is_digit s (d + 1) (omega arith) in
        record {
          whole_ends = refl;
          whole_some = l;
          dot = eqb-true (byte_at s d) 46 c.1;
          ends = w;
          some = omega arith;
          inside = omega arith;
          alone = ap (λ (k : ℕ). goes_on (byte_at s k)) w ∙ not-true _ a.1;
        }

module _ (s : Text) (p : Place) (d e : ℕ) (v : IsFloat s p.offset d e) where
  -- the dot, and past it
  abbrev at_dot : Place
  at_dot = on_by (d - p.offset) p

  abbrev past_dot : Place
  past_dot = on_by 1 at_dot

  abbrev past_all : Place
  past_all = on_by (e - past_dot.offset) past_dot

  dot_at : at_dot.offset ≡ d
  dot_at = let l : p.offset < d = v.whole_some in let z : p.offset + (d - p.offset) ≡ d = omega arith in z

  fraction_ends : e ≡ end_of is_digit s past_dot.offset
  fraction_ends = v.ends ∙ ap (λ (k : ℕ). end_of is_digit s (k + 1)) (sym dot_at)

  fraction_some : past_dot.offset < e
  fraction_some = let l : d + 1 < e = v.some in let z = dot_at in omega arith

  end_at : past_all.offset ≡ e
  end_at = let l = fraction_some in omega arith

  fraction_plain : fraction s past_dot ≡ Ok (Float past_all)
  unfolding fraction
  fraction_plain =
      ap (past_fraction s) (digits_plain s past_dot e fraction_ends fraction_some (no_more v.alone 95 refl))
      ∙ no_exponent s past_all (Ok (Float past_all)) (ap (λ (k : ℕ). goes_on (byte_at s k)) end_at ∙ v.alone)

  dotted_plain : (w : ℕ) → dotted s w at_dot ≡ fraction s past_dot
  unfolding dotted
  dotted_plain w =
      let i = (digit_bounds (byte_at s past_dot.offset) (first s past_dot e fraction_ends fraction_some)).1 in
      rw (ne_eqb (byte_at s past_dot.offset) 95 (λ z. omega arith), first_in s past_dot e fraction_ends fraction_some, dotted) refl

  past_plain : (w : ℕ) → past_digits s w at_dot ≡ dotted s w at_dot
  unfolding past_digits
  past_plain w = rw (eq-eqb (byte_at s at_dot.offset) 46 (ap (byte_at s) dot_at ∙ v.dot), past_digits) refl

  -- the dot is no other byte
  not_dot : (k : ℕ) → eqb 46 k ≡ false → byte_at s d ≡ k → ⊥
  not_dot k n f = eqb-false 46 k n (sym v.dot ∙ f)

  decimal_float : decimal s p ≡ Ok (Float past_all)
  unfolding decimal
  decimal_float =
      ap (decimal_of s) (digits_plain s p d v.whole_ends v.whole_some (not_dot 95 refl))
      ∙ past_plain (int_value s p.offset d)
      ∙ dotted_plain (int_value s p.offset d)
      ∙ fraction_plain

  -- the rules read it: a float to that end
  pub plain_float : number s p ≡ Ok (Float (on_by (e - p.offset) p))
  plain_float =
      let l : p.offset < d = v.whole_some in
      let m : d + 1 < e = v.some in
      let y : d - p.offset + 1 + (e - past_dot.offset) ≡ e - p.offset = omega arith in
      decimal_number s p d v.whole_ends v.whole_some (not_dot 120 refl) (not_dot 98 refl)
      ∙ decimal_float
      ∙ ap (λ (q : Place). Ok (Float q)) (ap (on_by (e - past_dot.offset)) (on_by_on_by (d - p.offset) 1 p) ∙ on_by_on_by (d - p.offset + 1) (e - past_dot.offset) p ∙ ap (λ (k : ℕ). on_by k p) y)

-- ---- plain strings

plain_is : (q b : ℕ) → is_plain q b ≡ true → (32 ≤ b) × (b ≤ 126) × (eqb b 92 ≡ false) × (eqb b q ≡ false)
plain_is q b e =
    let x = (and-eq-true_iff (is_itself b) (not (eqb b q))).0 e in
    let y = (and-eq-true_iff (leb 32 b && leb b 126) (not (eqb b 92))).0 x.0 in
    let z = (and-eq-true_iff (leb 32 b) (leb b 126)).0 y.0 in
    (leb-true 32 b z.0, leb-true b 126 z.1, not-true _ y.1, not-true _ x.1)

-- each of them is a character
scan_plain : (s : Text) (at : Place) (q : ℕ) (l : Text) (p : Place) → scan s at q 0 l p ≡ scan s at q 0 (drop (count_of (is_plain q) l) l) (on_by (count_of (is_plain q) l) p)
scan_plain s at q [] p = rw (count_none (is_plain q)) (ap (scan s at q 0 []) (sym (on_by_none p)))
scan_plain s at q (b ∷ l) p = go (is_plain q b) refl (scan_plain s at q l (on_by 1 p))
  where
    step : eqb b q ≡ false → eqb b 92 ≡ false → scan s at q 0 (b ∷ l) p ≡ scan s at q 0 l (past b p)
    step x y = unfold scan in rw (x, y, scan) refl

    go : (t : Bool) → is_plain q b ≡ t → scan s at q 0 l (on_by 1 p) ≡ scan s at q 0 (drop (count_of (is_plain q) l) l) (on_by (count_of (is_plain q) l) (on_by 1 p))
        → scan s at q 0 (b ∷ l) p ≡ scan s at q 0 (drop (count_of (is_plain q) (b ∷ l)) (b ∷ l)) (on_by (count_of (is_plain q) (b ∷ l)) p)
    go true e ih =
        let c = count_yes (is_plain q) b l e in
        let z = plain_is q b e in
        let h : 32 ≤ b = z.0 in
        let i : b ≤ 126 = z.1 in
        step z.3 z.2
        ∙ ap (scan s at q 0 l) (past_low b p (λ w. omega arith) (omega arith))
        ∙ ih
        ∙ ap (scan s at q 0 (drop (count_of (is_plain q) l) l)) (on_by_on_by 1 (count_of (is_plain q) l) p ∙ ap (λ (k : ℕ). on_by k p) (let y : 1 + count_of (is_plain q) l ≡ suc (count_of (is_plain q) l) = omega arith in y))
        ∙ ap (λ (k : ℕ). scan s at q 0 (drop k (b ∷ l)) (on_by k p)) (sym c)
    go false e ih = ap (scan s at q 0 (b ∷ l)) (sym (on_by_none p)) ∙ ap (λ (k : ℕ). scan s at q 0 (drop k (b ∷ l)) (on_by k p)) (sym (count_no (is_plain q) b l e))

-- a quote is an ASCII byte, and none of the plain classes' letters
pub quote_is : (q : ℕ) → is_quote q ≡ true → (q < 40) × (33 < q)
quote_is q e = go (eqb q 34) refl e
  where
    go : (t : Bool) → eqb q 34 ≡ t → (t || eqb q 39) ≡ true → (q < 40) × (33 < q)
    go true z f = let w : q ≡ 34 = eqb-true q 34 z in (omega arith, omega arith)
    go false z f = let w : q ≡ 39 = eqb-true q 39 f in (omega arith, omega arith)

-- what a plain string is: its end behind a closing quote
pub record IsString (s : Text) (o e : ℕ) : Type 0 where
  pub ends : e ≡ content_end s o + 1
  pub closed : byte_at s (content_end s o) ≡ byte_at s o
  pub opened : is_quote (byte_at s o) ≡ true

pub is_string : (s : Text) (o : ℕ) {e : ℕ} → is_quote (byte_at s o) ≡ true → e ≡ string_end s o → (e ≡ 0 → ⊥) → IsString s o e
unfolding string_end
is_string s o {e} q f n = go (eqb (byte_at s (content_end s o)) (byte_at s o)) refl
  where
    go : (t : Bool) → eqb (byte_at s (content_end s o)) (byte_at s o) ≡ t → IsString s o e
    go true z = record { ends = f ∙ rw (z, string_end) refl; closed = eqb-true _ _ z; opened = q }
    go false z = absurd (n (f ∙ rw (z, string_end) refl))

module _ (s : Text) (p : Place) (e : ℕ) (v : IsString s p.offset e) where
  abbrev q : ℕ
  q = byte_at s p.offset

  abbrev within : ℕ
  within = count_of (is_plain q) (drop (p.offset + 1) s)

  small : (q < 40) × (33 < q)
  small = quote_is q v.opened

  -- it ends in the text
  pub string_inside : (p.offset < e) × (e ≤ length s)
  string_inside =
      let h : q < 40 = small.0 in
      let c = v.closed in
      let i = in_text s (content_end s p.offset) (omega arith) in
      let z = v.ends in
      (omega arith, omega arith)

  -- the rules read it: a string to that end
  pub plain_string : string s p ≡ taken p (on_by (e - p.offset) p)
  unfolding string
  plain_string =
      let h : q < 40 = small.0 in
      let l : 33 < q = small.1 in
      let z = v.ends in
      let o : p.offset + 1 + within ≡ content_end s p.offset = refl in
      ap (string_by s p) (from_byte s p.offset q refl (omega arith))
      ∙ ap (scan s p q 0 (drop (p.offset + 1) s)) (past_low q p (λ w. omega arith) (omega arith))
      ∙ scan_plain s p q (drop (p.offset + 1) s) (on_by 1 p)
      ∙ ap (λ (x : Text). scan s p q 0 x (on_by within (on_by 1 p))) (drop-drop within (p.offset + 1) s ∙ from_byte s (content_end s p.offset) q (sym v.closed) (omega arith))
      ∙ close (drop (content_end s p.offset + 1) s) (on_by within (on_by 1 p)) (eq-eqb q q refl)
      ∙ ap (taken p) (past_low q (on_by within (on_by 1 p)) (λ w. omega arith) (omega arith) ∙ on_by_on_by within 1 (on_by 1 p) ∙ on_by_on_by 1 (within + 1) p ∙ ap (λ (k : ℕ). on_by k p) (let y : 1 + (within + 1) ≡ e - p.offset = omega arith in y))
    where
      close : (t : Text) (r : Place) → eqb q q ≡ true → scan s p q 0 (q ∷ t) r ≡ taken p (past q r)
      close t r z = unfold scan in rw (z, scan) refl
