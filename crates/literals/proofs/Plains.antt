-- What the leaves of plain literals show on the way. Assumes nothing.
use mathlib.Core.Path.{◌≡◌, refl, sym, ap, ◌∙◌}
use mathlib.Core.Bool.{Bool, true, false, ◌&&◌, not, and-eq-true_iff}
use mathlib.Core.List.{[], ◌∷◌}
use Prim.Native.Nat.{ℕ, suc, ◌+◌, ◌-◌, ◌*◌, ◌^◌, ◌≤◌, ◌<◌}
use native.Mathlib.Omega.{arith}
use lib.Dec.{leb, ltb, eqb}
use lib.ListN.{length, take, drop, get_or}
use lib.Seq.{drop-cons}
use borrow.Author.Tests.{leb-true, le-leb, lt-leb, lt-ltb, le-ltb, eq-eqb, ne_eqb}
use Rattle.characters.specs.Text.{Text, byte_at, ByteOf}
use Rattle.characters.specs.PlaceLaws.{get_d_any, in_text, at_end}
use Rattle.characters.specs.Counts.{end_of}
use Rattle.characters.specs.CountLaws.{In, run_on, run_ends, run_out, run_over, run_bytes}
use Rattle.characters.specs.Names.{is_digit, is_small, part}
use Rattle.literals.specs.Strings.{is_quote}
use Rattle.literals.specs.Plain.{goes_on, int_end, fraction_end, float_end, Few, value_from, int_value, IntOf, is_itself, is_plain, content_end, string_end}
use Rattle.literals.specs.PlainLaws.{digit_bounds, int_small, quote_is}

-- ---- where an integer ends

-- the byte behind digits, by what a test of it answered
pub behind : {s : Text} {x b : ℕ} {r t : Bool} → ByteOf s x b → r ≡ goes_on b → r ≡ t → goes_on (byte_at s x) ≡ t
behind e f g = ap goes_on (sym e.is) ∙ sym f ∙ g

module _ (s : Text) (o : ℕ) {e : ℕ} (z : e ≡ end_of is_digit s o) where
  last : {t : Bool} → goes_on (byte_at s e) ≡ t → goes_on (byte_at s (end_of is_digit s o)) ≡ t
  last a = ap (λ (k : ℕ). goes_on (byte_at s k)) (sym z) ∙ a

  pub int_none : e ≤ o → 0 ≡ int_end s o
  unfolding int_end
  int_none h = rw (le-ltb o (end_of is_digit s o) (omega arith), int_end) refl

  pub int_long : o < e → o + 18 < e → 0 ≡ int_end s o
  unfolding int_end
  int_long h k = rw (lt-ltb o (end_of is_digit s o) (omega arith), lt-leb (end_of is_digit s o) (o + 18) (omega arith), int_end) refl

  pub int_more : o < e → e ≤ o + 18 → goes_on (byte_at s e) ≡ true → 0 ≡ int_end s o
  unfolding int_end
  int_more h k a = rw (lt-ltb o (end_of is_digit s o) (omega arith), le-leb (end_of is_digit s o) (o + 18) (omega arith), last a, int_end) refl

  pub int_ends : o < e → e ≤ o + 18 → goes_on (byte_at s e) ≡ false → e ≡ int_end s o
  unfolding int_end
  int_ends h k a = z ∙ rw (lt-ltb o (end_of is_digit s o) (omega arith), le-leb (end_of is_digit s o) (o + 18) (omega arith), last a, int_end) refl

-- ---- where a fraction ends

module _ (s : Text) (o : ℕ) {d : ℕ} (z : d ≡ end_of is_digit s o) where
  pub float_none : d ≤ o → 0 ≡ float_end s o
  unfolding float_end
  float_none h = rw (le-ltb o (end_of is_digit s o) (omega arith), float_end) refl

  module _ {b : ℕ} (h : o < d) (k : ByteOf s d b) where
    behind_digits : b ≡ byte_at s (end_of is_digit s o)
    behind_digits = k.is ∙ ap (byte_at s) z

    pub float_undotted : (b ≡ 46 → ⊥) → 0 ≡ float_end s o
    unfolding float_end
    float_undotted n =
        rw (lt-ltb o (end_of is_digit s o) (omega arith), ne_eqb (byte_at s (end_of is_digit s o)) 46 (λ y. n (behind_digits ∙ y)), float_end) refl

    module _ (f : b ≡ 46) where
      pub dot_inside : d < length s
      dot_inside = let y : byte_at s d ≡ 46 = sym k.is ∙ f in in_text s d (omega arith)

      dotted : eqb (byte_at s (end_of is_digit s o)) 46 ≡ true
      dotted = eq-eqb (byte_at s (end_of is_digit s o)) 46 (sym behind_digits ∙ f)

      module _ {e : ℕ} (w : e ≡ end_of is_digit s (d + 1)) where
        all : e ≡ fraction_end s o
        all = w ∙ ap (λ (x : ℕ). end_of is_digit s (x + 1)) z

        pub float_bare : e ≤ d + 1 → 0 ≡ float_end s o
        unfolding float_end
        float_bare m =
            let y = all in
            rw (lt-ltb o (end_of is_digit s o) (omega arith), dotted, le-ltb (end_of is_digit s o + 1) (fraction_end s o) (omega arith), float_end) refl

        module _ (m : d + 1 < e) where
          some : ltb (end_of is_digit s o + 1) (fraction_end s o) ≡ true
          some = let y = all in lt-ltb (end_of is_digit s o + 1) (fraction_end s o) (omega arith)

          final : {t : Bool} → goes_on (byte_at s e) ≡ t → goes_on (byte_at s (fraction_end s o)) ≡ t
          final a = ap (λ (x : ℕ). goes_on (byte_at s x)) (sym all) ∙ a

          pub float_more : goes_on (byte_at s e) ≡ true → 0 ≡ float_end s o
          unfolding float_end
          float_more a = rw (lt-ltb o (end_of is_digit s o) (omega arith), dotted, some, final a, float_end) refl

          pub float_ends : goes_on (byte_at s e) ≡ false → e ≡ float_end s o
          unfolding float_end
          float_ends a = all ∙ rw (lt-ltb o (end_of is_digit s o) (omega arith), dotted, some, final a, float_end) refl

-- ---- its value

value_grows : (l : Text) (v : ℕ) → v ≤ value_from v l
unfolding value_from
value_grows [] v = omega arith
value_grows (b ∷ l) v = let h = value_grows l (v * 10 + (b - 48)) in omega arith

-- what the loop of `plain_int` keeps: the value so far and the digits left make the whole
pub record Valued (s : Text) (from to v i : ℕ) : Type 0 where
  pub is : value_from v (part s i to) ≡ int_value s from to
  pub begun : from ≤ i
  pub inside : i ≤ to

pub valued_starts : {s : Text} {from to : ℕ} → Few s from to → Valued s from to 0 from
valued_starts d = record { is = refl; begun = omega arith; inside = d.forward }

module _ {s : Text} {from to v i : ℕ} (d : Few s from to) (w : Valued s from to v i) where
  pub valued_room : v < 10 ^ 18
  valued_room =
      let a = value_grows (part s i to) v in
      let b = w.is in
      let c = int_small d in
      omega arith

  pub valued_digit : i < to → (i < length s) × (48 ≤ get_or s i 0) × (get_or s i 0 ≤ 57)
  valued_digit h =
      let e : to ≤ end_of is_digit s from = d.digits in
      let x = run_bytes is_digit s from i w.begun (omega arith) in
      let y = digit_bounds (get_or s i 0) (ap is_digit (get_d_any s i 0 256 x.0) ∙ x.1) in
      (x.0, y.0, y.1)

  pub valued_on : i < to → Valued s from to (v * 10 + (get_or s i 0 - 48)) (i + 1)
  unfolding value_from
  valued_on h =
      let a : from ≤ i = w.begun in
      let f : part s i to ≡ get_or s i 0 ∷ part s (i + 1) to =
      ap (λ (n : ℕ). take n (drop i s)) (let z : to - i ≡ suc (to - (i + 1)) = omega arith in z)
      ∙ ap (take (suc (to - (i + 1)))) (drop-cons s i 0 (valued_digit h).0)
      ∙ ap (λ (k : ℕ). get_or s i 0 ∷ take (to - (i + 1)) (drop k s)) (let z : suc i ≡ i + 1 = omega arith in z)
      in
      record { is = ap (value_from v) (sym f) ∙ w.is; begun = omega arith; inside = omega arith }

  pub valued_done : to ≤ i → IntOf s from to v
  unfolding value_from
  valued_done h =
      let a : i ≤ to = w.inside in
      let f : part s i to ≡ [] = ap (λ (n : ℕ). take n (drop i s)) (let z : to - i ≡ 0 = omega arith in z) in
      record { is = ap (value_from v) (sym f) ∙ w.is; small = valued_room }

-- ---- strings

small_itself : (b : ℕ) → is_small b ≡ true → (is_itself b ≡ true) × (97 ≤ b)
small_itself b e =
    let x = (and-eq-true_iff (leb 97 b) (leb b 122)).0 e in
    let l : 97 ≤ b = leb-true 97 b x.0 in
    let h : b ≤ 122 = leb-true b 122 x.1 in
    (rw (le-leb 32 b (omega arith), le-leb b 126 (omega arith), ne_eqb b 92 (λ z. omega arith)) refl, l)

-- what the loop of `plain_string_end` keeps
abbrev pub InString : Text → ℕ → ℕ → Type 0
InString s o i = In (is_plain (byte_at s o)) s (o + 1) i

module _ (s : Text) (o : ℕ) (h : is_quote (byte_at s o) ≡ true) where
  low : (byte_at s o < 40) × (33 < byte_at s o)
  low = quote_is (byte_at s o) h

  pub quote_inside : o < length s
  quote_inside = let l : byte_at s o < 40 = low.0 in in_text s o (omega arith)

  small_plain : (b : ℕ) → is_small b ≡ true → is_plain (byte_at s o) b ≡ true
  small_plain b e =
      let x = small_itself b e in
      let g : 97 ≤ b = x.1 in
      let l : byte_at s o < 40 = low.0 in
      rw (x.0, ne_eqb b (byte_at s o) (λ z. omega arith)) refl

  pub string_over : {i e : ℕ} → InString s o i → e ≡ end_of is_small s i → InString s o e
  string_over v w = run_over (is_plain (byte_at s o)) is_small s small_plain v w

  -- no closing quote stands where the plain bytes end
  open_end : {i : ℕ} → i ≡ content_end s o → (byte_at s i ≡ byte_at s o → ⊥) → 0 ≡ string_end s o
  unfolding string_end
  open_end {i} e n = rw (ne_eqb (byte_at s (content_end s o)) (byte_at s o) (λ z. n (ap (byte_at s) e ∙ z)), string_end) refl

  pub string_out : {i : ℕ} → InString s o i → length s ≤ i → 0 ≡ string_end s o
  string_out {i} v g = open_end (run_out (is_plain (byte_at s o)) s i v refl g) (λ z. let l : byte_at s o < 40 = low.0 in let w = at_end s i g in omega arith)

  -- the quote, as a byte in the text
  quote_is_byte : {i : ℕ} → i < length s → (get_or s i 0 ≡ byte_at s i) × (get_or s o 0 ≡ byte_at s o)
  quote_is_byte {i} g = (get_d_any s i 0 256 g, get_d_any s o 0 256 quote_inside)

  pub string_shut : {i : ℕ} → InString s o i → i < length s → get_or s i 0 ≡ get_or s o 0 → i + 1 ≡ string_end s o
  unfolding string_end
  string_shut {i} v g e =
      let b = quote_is_byte g in
      let z : get_or s i 0 ≡ byte_at s o = e ∙ b.1 in
      let f : i ≡ content_end s o = run_ends (is_plain (byte_at s o)) s i v (sym (no_more (get_or s i 0) z)) refl refl g in
      let c : byte_at s (content_end s o) ≡ byte_at s o = ap (byte_at s) (sym f) ∙ sym b.0 ∙ z in
      ap (λ (k : ℕ). k + 1) f ∙ rw (eq-eqb (byte_at s (content_end s o)) (byte_at s o) c, string_end) refl
    where
      no_more : (b : ℕ) → b ≡ byte_at s o → is_plain (byte_at s o) b ≡ false
      no_more b z = go (is_itself b) (eq-eqb b (byte_at s o) z)
        where
          go : (t : Bool) → eqb b (byte_at s o) ≡ true → (t && not (eqb b (byte_at s o))) ≡ false
          go true y = rw y refl
          go false y = refl

  module _ {i : ℕ} {r : Bool} (v : InString s o i) (g : i < length s) (n : get_or s i 0 ≡ get_or s o 0 → ⊥) (e : r ≡ is_itself (get_or s i 0)) where
    plain_by : r ≡ is_plain (byte_at s o) (get_or s i 0)
    plain_by = go (ne_eqb (get_or s i 0) (byte_at s o) (λ z. n (z ∙ sym (quote_is_byte g).1))) r e
      where
        go : eqb (get_or s i 0) (byte_at s o) ≡ false → (t : Bool) → t ≡ is_itself (get_or s i 0) → t ≡ is_plain (byte_at s o) (get_or s i 0)
        go y true f = rw (sym f, y) refl
        go y false f = rw (sym f) refl

    pub string_on : not r ≡ false → InString s o (i + 1)
    string_on t = run_on (is_plain (byte_at s o)) s (i + 1) v plain_by t refl g

    pub string_not : not r ≡ true → 0 ≡ string_end s o
    string_not t = open_end (run_ends (is_plain (byte_at s o)) s i v plain_by t refl g) (λ z. let b = quote_is_byte g in n (b.0 ∙ z ∙ sym b.1))
