-- Runs of digits, step by step: what the 64-bit sum and the count of digits tell of the sum without bound. Assumes nothing.
use mathlib.Core.Path.{◌≡◌, refl, sym, ap, subst, ◌∙◌}
use mathlib.Core.Bool.{Bool, true, false}
use Prim.Native.Nat.{ℕ, zero, suc, ◌+◌, ◌-◌, ◌*◌, ◌≤◌, ◌<◌, ◌^◌}
use native.Mathlib.Omega.{arith}
use native.Mathlib.Nat.{mul-le-mul_right, le-mul_of_pos_right, le_trans, add-mul, min-eq_left, min-eq_right}
use lib.Dec.{T, leb, ltb, eqb, lit≤}
use lib.ListN.{length, drop}
use lib.Seq.{drop-cons}
use borrow.Author.Tests.{ltb-true, ltb-false, leb-true, leb-false, eqb-true, eqb-false, lt-ltb, le-ltb, lt-leb, ne_eqb, eq-eqb}
use Rattle.characters.specs.declared.place.Place.{Place}
use Rattle.characters.specs.declared.refusal.Refusal.{Refusal}
use Rattle.characters.specs.declared.refusal.Refusal.TheVariants.{IntegerTooLarge, MisplacedSeparator}
use Rattle.characters.specs.Text.{Text, byte_at, on_by, Stands}
use Rattle.characters.specs.PlaceLaws.{in_text, from_byte, from_end, front, on_by_stands}
use Rattle.literals.specs.Numbers.{digit_of, reaches, run, digits}
use Rattle.literals.specs.NumberSums.{Base, Power, two, sixteen, held, held_run, fewer_of}
use Rattle.literals.specs.NumberLaws.{digit_ascii, run_digit, run_full, run_separator, run_broken, run_end}
use Rattle.std.specs.Prelude.{Result}
use Rattle.characters.specs.Answers.{failed}
use Rattle.characters.specs.declared.refusal.Refused.{Refused}
use Rattle.literals.specs.Answers.{digits_to}
use Rattle.literals.specs.declared.numbers.Digits.{Digits}

-- ---- the sum

-- beyond the room every sum is held
pub sum_over : (v r m d : ℕ) → Base r m → m < v → 9223372036854775808 ≡ held (v * r + d)
sum_over v r m d b h =
    let z : (m + 1) * r ≤ v * r = mul-le-mul_right r (omega arith) in
    sym (min-eq_right (omega (arith, b.over)))

-- within it the product is small
pub product_small : (v r m : ℕ) → Base r m → v ≤ m → v * r < 9223372036854775808
product_small v r m b h = omega (arith, mul-le-mul_right r h, b.under)

-- a value that is held gives the same held sum
pub held_sum : (v r d : ℕ) → 0 < r → held (held v * r + d) ≡ held (v * r + d)
held_sum v r d h = go (leb v 9223372036854775808) refl
  where
    go : (t : Bool) → leb v 9223372036854775808 ≡ t → held (held v * r + d) ≡ held (v * r + d)
    go true e = ap (λ (x : ℕ). held (x * r + d)) (min-eq_left (leb-true v 9223372036854775808 e))
    go false e =
        let l : 9223372036854775808 ≤ v = omega (arith, leb-false v 9223372036854775808 e) in
        let x : 9223372036854775808 ≤ 9223372036854775808 * r = le-mul_of_pos_right 9223372036854775808 h in
        let y : v ≤ v * r = le-mul_of_pos_right v h in
        ap (λ (x : ℕ). held (x * r + d)) (min-eq_right l) ∙ min-eq_right (omega arith) ∙ sym (min-eq_right (omega arith))

-- ---- the count of digits

-- a value with n digits 0 behind it
unfoldable pub after : ℕ → ℕ → ℕ → ℕ
after r zero v = v
after r (suc n) v = after r n (v * r)

after_more : (r n v w : ℕ) → v ≤ w → after r n v ≤ after r n w
unfolding after
after_more r zero v w h = h
after_more r (suc n) v w h = after_more r n (v * r) (w * r) (mul-le-mul_right r h)

after_keeps : (r n v : ℕ) → 0 < r → v ≤ after r n v
unfolding after
after_keeps r zero v h = omega arith
after_keeps r (suc n) v h = le_trans (le-mul_of_pos_right v h) (after_keeps r n (v * r) h)

-- n more digits stay below the limit, whichever they are, and one more than that does not; behind 0 there is room for any digit
pub data Room (limit r : ℕ) : ℕ → ℕ → Type 0 where
  free : {n : ℕ} → 0 < n → Room limit r 0 n
  tight : {v n : ℕ} → 0 < v → after r n (v + 1) ≤ limit → limit ≤ after r (suc n) v → Room limit r v n

pub room_below : {m r v n : ℕ} → 0 < m → 0 < r → Room m r v n → v < m
room_below k z (free h) = k
room_below {m} {r} {v} {n} k z (tight p h l) = omega (arith, after_keeps r n (v + 1) z)

pub room_full : {m r v n : ℕ} (d : ℕ) → Room m r v n → n ≡ 0 → m ≤ v * r + d
unfolding after
room_full d (free h) e = omega arith
room_full {m} {r} {v} {n} d (tight p h l) e =
    let z : m ≤ v * r = subst (λ (k : ℕ). m ≤ after r (suc k) v) e l in
    omega arith

-- a later digit
room_next : {m r v k : ℕ} (d : ℕ) → 0 < v → d < r → after r (suc k) (v + 1) ≤ m → m ≤ after r (suc (suc k)) v → Room m r (v * r + d) k
unfolding after
room_next {m} {r} {v} {k} d p h a b =
    let x : v ≤ v * r = le-mul_of_pos_right v (omega arith) in
    let y : v * r + d + 1 ≤ (v + 1) * r = omega (arith, add-mul v 1 r) in
    let z : after r k (v * r + d + 1) ≤ m = le_trans (after_more r k (v * r + d + 1) ((v + 1) * r) y) a in
    let w : m ≤ after r (suc k) (v * r + d) = le_trans b (after_more r (suc k) (v * r) (v * r + d) (omega arith)) in
    let u : 0 < v * r + d = omega arith in
    tight u z w

-- the first significant digit
first_two : (d : ℕ) → 0 < d → d < 2 → Room (2 ^ 127) 2 d 126
unfolding after
first_two d p h = tight p (after_more 2 126 (d + 1) 2 (omega arith)) (after_more 2 127 1 d (omega arith))

first_low : (d : ℕ) → 0 < d → d < 8 → Room (2 ^ 127) 16 d 31
unfolding after
first_low d p h =
    let b : 2 ^ 128 ≤ after 16 32 d = after_more 16 32 1 d (omega arith) in
    tight p (after_more 16 31 (d + 1) 8 (omega arith)) (le_trans (lit≤ tt) b)

first_high : (d : ℕ) → 8 ≤ d → d < 16 → Room (2 ^ 127) 16 d 30
unfolding after
first_high d p h =
    let z : 0 < d = omega arith in
    let a : after 16 30 (d + 1) ≤ 2 ^ 124 = after_more 16 30 (d + 1) 16 (omega arith) in
    tight z (le_trans a (lit≤ tt)) (after_more 16 31 8 d p)

fewer_first : {r : ℕ} (n d : ℕ) → Power r → (d ≡ 0 → ⊥) → d < r → Room (2 ^ 127) r d (fewer_of 0 n r d)
unfolding fewer_of
fewer_first n d two z h = rw (ne_eqb d 0 z, fewer_of) (first_two d (omega arith) h)
fewer_first n d sixteen z h = go (ltb d 8) refl
  where
    go : (t : Bool) → ltb d 8 ≡ t → Room (2 ^ 127) 16 d (fewer_of 0 n 16 d)
    go true e = rw (ne_eqb d 0 z, e, fewer_of) (first_low d (omega arith) (ltb-true d 8 e))
    go false e = rw (ne_eqb d 0 z, e, fewer_of) (first_high d (ltb-false d 8 e) h)

fewer_zero : (n r d : ℕ) → d ≡ 0 → fewer_of 0 n r d ≡ n
unfolding fewer_of
fewer_zero n r d e = rw (eq-eqb d 0 e, fewer_of) refl

fewer_later : (v n r d : ℕ) → 0 < v → fewer_of v n r d ≡ n - 1
unfolding fewer_of
fewer_later v n r d h = rw (lt-ltb 0 v h, fewer_of) refl

held_more : (v : ℕ) → 0 < v → 0 < held v
held_more v h = omega arith

room_later : {m r v : ℕ} (n d : ℕ) → 0 < v → d < r → 0 < n → after r n (v + 1) ≤ m → m ≤ after r (suc n) v → Room m r (v * r + d) (n - 1)
room_later zero d p h k a b = absurd (omega arith)
room_later {m} {r} {v} (suc k) d p h z a b =
    let e : suc k - 1 ≡ k = omega arith in
    rw e (room_next d p h a b)

room_none : {r : ℕ} (n d : ℕ) → Power r → d < r → 0 < n → Room (2 ^ 127) r d (fewer_of 0 n r d)
room_none {r} n d w h k = go (eqb d 0) refl
  where
    go : (t : Bool) → eqb d 0 ≡ t → Room (2 ^ 127) r d (fewer_of 0 n r d)
    go true e = let z : d ≡ 0 = eqb-true d 0 e in rw (fewer_zero n r d z, z) (free k)
    go false e = fewer_first n d w (eqb-false d 0 e) h

-- any digit
pub room_digit : {r v n : ℕ} (d : ℕ) → Power r → d < r → 0 < n → Room (2 ^ 127) r v n → Room (2 ^ 127) r (v * r + d) (fewer_of (held v) n r d)
room_digit {r} {v} {n} d w h k (free x) = let e : 0 * r + d ≡ d = omega arith in rw e (room_none n d w h k)
room_digit {r} {v} {n} d w h k (tight p a b) = rw (fewer_later (held v) n r d (held_more v p)) (room_later n d p h k a b)

-- ---- the loops

-- what a loop over digits keeps: the answer is that of what is left, with the sum so far
pub record Going (limited : Bool) (r : ℕ) (s : Text) (answer : Result Digits Refused) (v n : ℕ) (p : Place) : Type 0 where
  pub total : ℕ
  pub holds : v ≡ held total
  pub room : T limited → Room (2 ^ 127) r total n
  pub same : held_run (run limited r total (drop p.offset s) p) ≡ answer
  pub stands : Stands s p

pub going_start : {limited : Bool} {r : ℕ} {s : Text} {a : Result Digits Refused} {p : Place} {n : ℕ}
    → held_run (run limited r 0 (drop p.offset s) p) ≡ a
    → Stands s p
    → 0 < n
    → Going limited r s a 0 n p
going_start e h z = record { total = 0; holds = refl; room = λ u. free z; same = e; stands = h }

-- with a digit at its place it is the run
pub digits_some : {r b f : ℕ} (limited : Bool) (none : Refusal) (s : Text) (p : Place)
    → b ≡ byte_at s p.offset
    → f ≡ digit_of b
    → f < r
    → held_run (run limited r 0 (drop p.offset s) p) ≡ held_run (digits limited none r s p)
unfolding digits
digits_some {r} {b} {f} limited none s p e d k =
    let t : digit_of (byte_at s p.offset) < r = subst (λ (x : ℕ). x < r) (d ∙ ap digit_of e) k in
    rw (lt-ltb (digit_of (byte_at s p.offset)) r t, digits) refl

-- with none it is the refusal
pub digits_none : {none : Refusal} {r : ℕ} {p : Place} {b f : ℕ} (limited : Bool) (s : Text)
    → b ≡ byte_at s p.offset
    → f ≡ digit_of b
    → r ≤ f
    → failed none p ≡ held_run (digits limited none r s p)
unfolding digits
digits_none {none} {r} {p} {b} {f} limited s e d k =
    let t : r ≤ digit_of (byte_at s p.offset) = subst (λ (x : ℕ). r ≤ x) (d ∙ ap digit_of e) k in
    rw (le-ltb (digit_of (byte_at s p.offset)) r t, digits) refl

going_on : {limited : Bool} {r : ℕ} {s : Text} {a : Result Digits Refused} {v n v' n' : ℕ} {p : Place} (g : Going limited r s a v n p) (b : ℕ)
    → b ≡ byte_at s p.offset
    → digit_of b < r
    → r ≤ 16
    → reaches limited (g.total * r + digit_of b) ≡ false
    → (T limited → Room (2 ^ 127) r (g.total * r + digit_of b) n')
    → v' ≡ held (v * r + digit_of b)
    → Going limited r s a v' n' (on_by 1 p)
going_on {limited} {r} {s} {a} {v} {n} {v'} {n'} {p} g b e h k f w q =
    let low : b < 128 = digit_ascii b (omega arith) in
    let here : p.offset < length s = in_text s p.offset (omega arith) in
    let cons = from_byte s p.offset b e (omega arith) in
    let go = ap (λ (l : Text). run limited r g.total l p) cons ∙ run_digit limited r g.total b (drop (p.offset + 1) s) p h f in
    record {
      total = g.total * r + digit_of b;
      holds = q ∙ ap (λ (x : ℕ). held (x * r + digit_of b)) g.holds ∙ held_sum g.total r (digit_of b) (omega arith);
      room = w;
      same = sym (ap held_run go) ∙ g.same;
      stands = (on_by_stands s 1 p g.stands (omega arith)).stands;
    }

pub going_decimal : {s : Text} {a : Result Digits Refused} {v n v' b d : ℕ} {p p' : Place}
    → Going false 10 s a v n p
    → b ≡ byte_at s p.offset
    → d ≡ digit_of b
    → d < 10
    → v' ≡ held (v * 10 + d)
    → p' ≡ on_by 1 p
    → Going false 10 s a v' n p'
going_decimal {s} {a} {v} {n} {v'} {b} {d} {p} g e f h q z =
    rw z (going_on g b e (subst (λ (x : ℕ). x < 10) f h) (omega arith) refl (λ u. absurd u) (q ∙ ap (λ (x : ℕ). held (v * 10 + x)) f))

pub going_limited : {r m : ℕ} {s : Text} {a : Result Digits Refused} {v n v' n' b d : ℕ} {p p' : Place}
    → Going true r s a v n p
    → Power r
    → Base r m
    → b ≡ byte_at s p.offset
    → d ≡ digit_of b
    → d < r
    → (n ≡ 0 → ⊥)
    → n' ≡ fewer_of v n r d
    → v' ≡ held (v * r + d)
    → p' ≡ on_by 1 p
    → Going true r s a v' n' p'
going_limited {r} {m} {s} {a} {v} {n} {v'} {n'} {b} {d} {p} g w base e f h k c q z =
    let x : digit_of b < r = subst (λ (x : ℕ). x < r) f h in
    let room : Room (2 ^ 127) r (g.total * r + digit_of b) (fewer_of (held g.total) n r (digit_of b)) = room_digit (digit_of b) w x (omega arith) (g.room tt) in
    let count : n' ≡ fewer_of (held g.total) n r (digit_of b) = c ∙ ap (λ (y : ℕ). fewer_of y n r d) g.holds ∙ ap (λ (y : ℕ). fewer_of (held g.total) n r y) f in
    let below : g.total * r + digit_of b < 2 ^ 127 = room_below (lit≤ tt) (omega arith) room in
    rw z
    (going_on g b e x base.small (lt-leb (2 ^ 127) (g.total * r + digit_of b) below)
    (λ u. rw count room)
    (q ∙ ap (λ (y : ℕ). held (v * r + y)) f))

pub going_full : {r : ℕ} {s : Text} {a : Result Digits Refused} {v n b d : ℕ} {p : Place}
    → Going true r s a v n p
    → Power r
    → b ≡ byte_at s p.offset
    → d ≡ digit_of b
    → d < r
    → n ≡ 0
    → failed IntegerTooLarge p ≡ a
going_full {r} {s} {a} {v} {n} {b} {d} {p} g w e f h k =
    let x : digit_of b < r = subst (λ (x : ℕ). x < r) f h in
    let low : b < 128 = digit_ascii b (small w x) in
    let cons = from_byte s p.offset b e (omega arith) in
    let go = ap (λ (l : Text). run true r g.total l p) cons ∙ run_full r g.total b (drop (p.offset + 1) s) p x (room_full (digit_of b) (g.room tt) k) in
    sym (ap held_run go) ∙ g.same
  where
    small : {x y : ℕ} → Power x → y < x → y < 16
    small two h = omega arith
    small sixteen h = h

follows : (s : Text) (p p' : Place) (c : ℕ) → p' ≡ on_by 1 p → c ≡ byte_at s p'.offset → c ≡ byte_at (drop (p.offset + 1) s) 0
follows s p p' c o i = i ∙ ap (λ (x : Place). byte_at s x.offset) o ∙ sym (front s (p.offset + 1))

-- past a `_` that a digit follows
pub going_past : {limited : Bool} {r : ℕ} {s : Text} {a : Result Digits Refused} {v n b d c f : ℕ} {p p' : Place}
    → Going limited r s a v n p
    → b ≡ byte_at s p.offset
    → d ≡ digit_of b
    → r ≤ d
    → b ≡ 95
    → p' ≡ on_by 1 p
    → c ≡ byte_at s p'.offset
    → f ≡ digit_of c
    → f < r
    → Going limited r s a v n p'
going_past {limited} {r} {s} {a} {v} {n} {b} {d} {c} {f} {p} {p'} g e q k z o i j l =
    let here : p.offset < length s = in_text s p.offset (omega arith) in
    let cons = from_byte s p.offset b e (omega arith) in
    let next : digit_of (byte_at (drop (p.offset + 1) s) 0) < r = subst (λ (x : ℕ). x < r) (j ∙ ap digit_of (follows s p p' c o i)) l in
    let go = ap (λ (l : Text). run limited r g.total l p) cons ∙ run_separator limited r g.total b (drop (p.offset + 1) s) p (subst (λ (x : ℕ). r ≤ x) q k) z next in
    rw o
    (record {
      total = g.total;
      holds = g.holds;
      room = g.room;
      same = sym (ap held_run go) ∙ g.same;
      stands = (on_by_stands s 1 p g.stands (omega arith)).stands;
    })

pub going_broken : {limited : Bool} {r : ℕ} {s : Text} {a : Result Digits Refused} {v n b d c f : ℕ} {p p' : Place}
    → Going limited r s a v n p
    → b ≡ byte_at s p.offset
    → d ≡ digit_of b
    → r ≤ d
    → b ≡ 95
    → p' ≡ on_by 1 p
    → c ≡ byte_at s p'.offset
    → f ≡ digit_of c
    → r ≤ f
    → failed MisplacedSeparator p ≡ a
going_broken {limited} {r} {s} {a} {v} {n} {b} {d} {c} {f} {p} {p'} g e q k z o i j l =
    let cons = from_byte s p.offset b e (omega arith) in
    let next : r ≤ digit_of (byte_at (drop (p.offset + 1) s) 0) = subst (λ (x : ℕ). r ≤ x) (j ∙ ap digit_of (follows s p p' c o i)) l in
    let go = ap (λ (l : Text). run limited r g.total l p) cons ∙ run_broken limited r g.total b (drop (p.offset + 1) s) p (subst (λ (x : ℕ). r ≤ x) q k) z next in
    sym (ap held_run go) ∙ g.same

pub going_end : {limited : Bool} {r : ℕ} {s : Text} {a : Result Digits Refused} {v n b d : ℕ} {p : Place}
    → Going limited r s a v n p
    → b ≡ byte_at s p.offset
    → d ≡ digit_of b
    → r ≤ d
    → (b ≡ 95 → ⊥)
    → digits_to v p ≡ a
unfolding run
going_end {limited} {r} {s} {a} {v} {n} {b} {d} {p} g e q k z = ap (λ (x : ℕ). digits_to x p) g.holds ∙ sym (ap held_run (go (ltb o (length s)) refl)) ∙ g.same
  where
    o : ℕ
    o = p.offset

    go : (t : Bool) → ltb o (length s) ≡ t → run limited r g.total (drop o s) p ≡ digits_to g.total p
    go true h =
        ap (λ (l : Text). run limited r g.total l p) (drop-cons s o 256 (ltb-true o (length s) h))
        ∙ run_end limited r g.total (byte_at s o) (drop (suc o) s) p (subst (λ (x : ℕ). r ≤ x) (q ∙ ap digit_of e) k) (λ w. z (e ∙ w))
    go false h = ap (λ (l : Text). run limited r g.total l p) (from_end s o (ltb-false o (length s) h))

pub digit_less : (s : Text) (p p' : Place) (b d : ℕ) → b ≡ byte_at s p.offset → d ≡ digit_of b → d < 16 → p' ≡ on_by 1 p → length s - p'.offset < length s - p.offset
digit_less s p p' b d e f h q =
    let low : b < 128 = digit_ascii b (subst (λ (x : ℕ). x < 16) f h) in
    let here : p.offset < length s = in_text s p.offset (omega arith) in
    let z : p'.offset ≡ p.offset + 1 = ap (λ (x : Place). x.offset) q in
    omega arith

pub byte_less : (s : Text) (p p' : Place) (b : ℕ) → b ≡ byte_at s p.offset → b ≡ 95 → p' ≡ on_by 1 p → length s - p'.offset < length s - p.offset
byte_less s p p' b e h q =
    let here : p.offset < length s = in_text s p.offset (omega arith) in
    let z : p'.offset ≡ p.offset + 1 = ap (λ (x : Place). x.offset) q in
    omega arith
