-- Laws of bytearrays: what each byte leads to, that each step goes on in the text, and that the steps make up the whole. Assumes nothing.
use Rattle.std.specs.Prelude.{◌≡◌, Bool, ◌&&◌, ◌||◌, length, Err, Ok, Result}
use Rattle.std.proofs.Math.Path.{refl, sym, ap, subst, subst⁻¹}
use Rattle.std.proofs.Common.{◌∙◌}
use Rattle.std.proofs.Math.Bool.{true, false, not, and-eq-true_iff}
use mathlib.Core.List.{List, [], ◌∷◌}
use Prim.Native.Nat.{ℕ, zero, suc, ◌+◌, ◌-◌, ◌*◌, ◌≤◌, ◌<◌, ◌^◌}
use native.Mathlib.Omega.{arith}
use Rattle.std.proofs.Math.Nat.{two-pow-succ, pow-le-pow_right}
use Rattle.std.proofs.Math.Dec.{leb, ltb, eqb}
use Rattle.std.proofs.Math.ListN.{drop}
use lib.Seq.{drop-drop}
use borrow.Author.Tests.{ltb-true, ltb-false, leb-true, eqb-true, lt-ltb, le-ltb, le-leb, lt-leb, ne_eqb, eq-eqb}
use Rattle.characters.specs.declared.place.Place.{Place}
use Rattle.characters.specs.declared.refusal.Refusal.{Refusal}
use Rattle.characters.specs.declared.refusal.Refusal.TheVariants.{EndOfInput, BadByteArray}
use Rattle.characters.specs.Text.{Text, byte_at, ByteOf, on_by, next, Stands}
use Rattle.characters.specs.PlaceLaws.{Reached, Advanced, reached_here, reached_on, advanced_on, advanced_reached, in_text, at_end, from_end, on_by_stands}
use Rattle.characters.specs.Blanks.{blanks, pass}
use Rattle.characters.specs.BlankLaws.{PassedOn, blanks_on, rest}
use Rattle.literals.specs.Numbers.{digit_of}
use Rattle.literals.specs.Strings.{letter_of}
use Rattle.literals.specs.StringLaws.{letter_byte}
use Rattle.literals.specs.NumberLaws.{digit_ascii, choice}
use Rattle.literals.specs.declared.bytearrays.Mode.{Mode}
use Rattle.literals.specs.declared.bytearrays.Mode.TheVariants.{Between, Ascii, Hex, Binary}
use Rattle.literals.specs.declared.bytearrays.Seen.TheVariants.{Byte, Opened, Shut}
use Rattle.literals.specs.ByteArrays.{unknown, opening_by, opening, outside_by, outside, past_blanks, between, plain, coded, mark_by, mark, slash_by, slash, line_end, printed, ascii_by, ascii, is_alphanumeric, pair_by, pair, hex, bit_of, bits, eight, binary, step, Contents, shut, halted, push, read, contents, span_by, bytearray}
use Rattle.literals.specs.Answers.{taken_here}
use Rattle.characters.specs.Answers.{Must, failed, taken, taken_next}
use Rattle.characters.specs.declared.refusal.Refused.{Refused}
use Rattle.characters.specs.declared.place.Token.{Token}
use Rattle.literals.specs.declared.bytearrays.Seen.{Seen}

-- ---- letters and digits

pub alnum_digit : (b : ℕ) → 48 ≤ b → b < 58 → true ≡ is_alphanumeric b
unfolding is_alphanumeric
alnum_digit b l h = rw (le-leb 48 b (omega arith), le-leb b 57 (omega arith), is_alphanumeric)

pub alnum_upper : (b : ℕ) → 65 ≤ b → b < 91 → true ≡ is_alphanumeric b
unfolding is_alphanumeric
alnum_upper b l h = rw (le-leb 48 b (omega arith), lt-leb b 57 (omega arith), le-leb 65 b (omega arith), le-leb b 90 (omega arith), is_alphanumeric)

pub alnum_lower : (b : ℕ) → 97 ≤ b → b < 123 → true ≡ is_alphanumeric b
unfolding is_alphanumeric
alnum_lower b l h = rw (le-leb 48 b (omega arith), lt-leb b 57 (omega arith), le-leb 65 b (omega arith), lt-leb b 90 (omega arith), le-leb 97 b (omega arith), le-leb b 122 (omega arith), is_alphanumeric)

pub alnum_under : (b : ℕ) → b < 48 → false ≡ is_alphanumeric b
unfolding is_alphanumeric
alnum_under b h = rw (lt-leb 48 b (omega arith), lt-leb 65 b (omega arith), lt-leb 97 b (omega arith), is_alphanumeric)

pub alnum_middle : (b : ℕ) → 58 ≤ b → b < 65 → false ≡ is_alphanumeric b
unfolding is_alphanumeric
alnum_middle b l h = rw (le-leb 48 b (omega arith), lt-leb b 57 (omega arith), lt-leb 65 b (omega arith), lt-leb 97 b (omega arith), is_alphanumeric)

pub alnum_after : (b : ℕ) → 91 ≤ b → b < 97 → false ≡ is_alphanumeric b
unfolding is_alphanumeric
alnum_after b l h = rw (le-leb 48 b (omega arith), lt-leb b 57 (omega arith), le-leb 65 b (omega arith), lt-leb b 90 (omega arith), lt-leb 97 b (omega arith), is_alphanumeric)

pub alnum_over : (b : ℕ) → 123 ≤ b → false ≡ is_alphanumeric b
unfolding is_alphanumeric
alnum_over b l = rw (le-leb 48 b (omega arith), lt-leb b 57 (omega arith), le-leb 65 b (omega arith), lt-leb b 90 (omega arith), le-leb 97 b (omega arith), lt-leb b 122 (omega arith), is_alphanumeric)

-- ---- what a byte leads to

module _ (s : Text) (p : Place) where
  pub opening_at : (k : ℕ) {b : ℕ} → ByteOf s (p.offset + 1) b → b ≡ k → opening_by s p k ≡ opening s p
  unfolding opening
  opening_at k e h = ap (opening_by s p) (sym h ∙ e.is)

  pub opening_not : {b : ℕ} → ByteOf s (p.offset + 1) b → (b ≡ 97 → ⊥) → (b ≡ 120 → ⊥) → (b ≡ 98 → ⊥) → unknown s p ≡ opening s p
  opening_not {b} e x y z = go (ne_eqb b 97 x) (ne_eqb b 120 y) (ne_eqb b 98 z) ∙ opening_at b e refl
    where
      go : eqb b 97 ≡ false → eqb b 120 ≡ false → eqb b 98 ≡ false → unknown s p ≡ opening_by s p b
      go x y z = rw (x, y, z, opening_by)

  pub outside_at : (k : ℕ) {b : ℕ} → ByteOf s p.offset b → b ≡ k → outside_by s p k ≡ outside s p
  unfolding outside
  outside_at k e h = ap (outside_by s p) (sym h ∙ e.is)

  pub outside_not : {b : ℕ} → ByteOf s p.offset b → (b ≡ 256 → ⊥) → (b ≡ 93 → ⊥) → (b ≡ 92 → ⊥) → failed BadByteArray (next s p) ≡ outside s p
  outside_not {b} e x y z = go (ne_eqb b 256 x) (ne_eqb b 93 y) (ne_eqb b 92 z) ∙ outside_at b e refl
    where
      go : eqb b 256 ≡ false → eqb b 93 ≡ false → eqb b 92 ≡ false → failed BadByteArray (next s p) ≡ outside_by s p b
      go x y z = rw (x, y, z, outside_by)

  marks : {b : ℕ} → ByteOf s (p.offset + 1) b → mark_by s p b ≡ mark s p
  unfolding mark
  marks e = ap (mark_by s p) e.is

  pub mark_letter : {b v : ℕ} {r : Seen} → ByteOf s (p.offset + 1) b → v ≡ letter_of b → v < 256 → r ≡ coded v p → Ok r ≡ mark s p
  mark_letter {b} {v} e f h z = ap Ok z ∙ ap (λ (k : ℕ). Ok (coded k p)) f ∙ go (lt-ltb (letter_of b) 256 (omega arith)) ∙ marks e
    where
      go : ltb (letter_of b) 256 ≡ true → Ok (coded (letter_of b) p) ≡ mark_by s p b
      go t = rw (t, mark_by)

  module _ {b v : ℕ} (e : ByteOf s (p.offset + 1) b) (f : v ≡ letter_of b) (h : 256 ≤ v) where
    no_letter : ltb (letter_of b) 256 ≡ false
    no_letter = le-ltb (letter_of b) 256 (omega arith)

    pub mark_hex : {r : Result Seen Refused} → b ≡ 120 → r ≡ between s p → r ≡ mark s p
    mark_hex k z = z ∙ go no_letter (eq-eqb b 120 k) ∙ marks e
      where
        go : ltb (letter_of b) 256 ≡ false → eqb b 120 ≡ true → between s p ≡ mark_by s p b
        go t u = rw (t, u, mark_by)

    pub mark_binary : {r : Result Seen Refused} → b ≡ 98 → r ≡ between s p → r ≡ mark s p
    mark_binary k z = z ∙ go no_letter (ne_eqb b 120 (λ w. omega arith)) (eq-eqb b 98 k) ∙ marks e
      where
        go : ltb (letter_of b) 256 ≡ false → eqb b 120 ≡ false → eqb b 98 ≡ true → between s p ≡ mark_by s p b
        go t u x = rw (t, u, x, mark_by)

    pub mark_not : {r : Result Seen Refused} → (b ≡ 120 → ⊥) → (b ≡ 98 → ⊥) → r ≡ unknown s p → r ≡ mark s p
    mark_not k l z = z ∙ go no_letter (ne_eqb b 120 k) (ne_eqb b 98 l) ∙ marks e
      where
        go : ltb (letter_of b) 256 ≡ false → eqb b 120 ≡ false → eqb b 98 ≡ false → unknown s p ≡ mark_by s p b
        go t u x = rw (t, u, x, mark_by)

  pub slash_at : (k : ℕ) {b : ℕ} → ByteOf s (p.offset + 1) b → b ≡ k → slash_by s p k ≡ slash s p
  unfolding slash
  slash_at k e h = ap (slash_by s p) (sym h ∙ e.is)

  pub slash_not : {b : ℕ} → ByteOf s (p.offset + 1) b → (b ≡ 47 → ⊥) → (b ≡ 42 → ⊥) → Ok (plain 47 p) ≡ slash s p
  slash_not {b} e x y = go (ne_eqb b 47 x) (ne_eqb b 42 y) ∙ slash_at b e refl
    where
      go : eqb b 47 ≡ false → eqb b 42 ≡ false → Ok (plain 47 p) ≡ slash_by s p b
      go x y = rw (x, y, slash_by)

  pub line_space : (last : ℕ) → last ≡ 32 → failed BadByteArray p ≡ line_end s last p
  unfolding line_end
  line_space last h = rw (eq-eqb last 32 h, line_end)

  pub line_ends : (last : ℕ) → (last ≡ 32 → ⊥) → between s p ≡ line_end s last p
  unfolding line_end
  line_ends last h = rw (ne_eqb last 32 h, line_end)

  pub print_low : (b : ℕ) → b < 32 → between s p ≡ printed s b p
  unfolding printed
  print_low b h = rw (lt-leb 32 b h, printed)

  pub print_plain : (b : ℕ) → 32 ≤ b → b < 127 → (b ≡ 93 → ⊥) → Ok (plain b p) ≡ printed s b p
  unfolding printed
  print_plain b l h n = rw (le-leb 32 b l, le-leb b 126 (omega arith), ne_eqb b 93 n, printed)

  pub print_bracket : (b : ℕ) → b ≡ 93 → between s p ≡ printed s b p
  unfolding printed
  print_bracket b h = rw (le-leb 32 b (omega arith), le-leb b 126 (omega arith), eq-eqb b 93 h, printed)

  pub print_high : (b : ℕ) → 127 ≤ b → between s p ≡ printed s b p
  unfolding printed
  print_high b l = rw (le-leb 32 b (omega arith), lt-leb b 126 l, printed)

  pub ascii_at : (last k : ℕ) {b : ℕ} → ByteOf s p.offset b → b ≡ k → ascii_by s last p k ≡ ascii s last p
  unfolding ascii
  ascii_at last k e h = ap (ascii_by s last p) (sym h ∙ e.is)

  pub ascii_not : (last : ℕ) {b : ℕ} → ByteOf s p.offset b → (b ≡ 92 → ⊥) → (b ≡ 47 → ⊥) → (b ≡ 13 → ⊥) → (b ≡ 10 → ⊥) → (b ≡ 9 → ⊥) → printed s b p ≡ ascii s last p
  ascii_not last {b} e a1 a2 a3 a4 a5 = go (ne_eqb b 92 a1) (ne_eqb b 47 a2) (ne_eqb b 13 a3) (ne_eqb b 10 a4) (ne_eqb b 9 a5) ∙ ascii_at last b e refl
    where
      go : eqb b 92 ≡ false → eqb b 47 ≡ false → eqb b 13 ≡ false → eqb b 10 ≡ false → eqb b 9 ≡ false → printed s b p ≡ ascii_by s last p b
      go t1 t2 t3 t4 t5 = rw (t1, t2, t3, t4, t5, ascii_by)

  -- past the blanks
  pub between_taken : {m : Must} {h q : Place} → m ≡ blanks s p → m ≡ taken h q → outside s q ≡ between s p
  unfolding between
  between_taken e k = sym (ap (past_blanks (outside s)) (sym e ∙ k))

  pub between_failed : {m : Must} {k : Refusal} {q : Place} → m ≡ blanks s p → m ≡ failed k q → failed k q ≡ between s p
  unfolding between
  between_failed e k = sym (ap (past_blanks (outside s)) (sym e ∙ k))

  pub hex_taken : {m : Must} {h q : Place} → m ≡ blanks s p → m ≡ taken h q → pair s q ≡ hex s p
  unfolding hex
  hex_taken e k = sym (ap (past_blanks (pair s)) (sym e ∙ k))

  pub hex_failed : {m : Must} {k : Refusal} {q : Place} → m ≡ blanks s p → m ≡ failed k q → failed k q ≡ hex s p
  unfolding hex
  hex_failed e k = sym (ap (past_blanks (pair s)) (sym e ∙ k))

  pub binary_taken : {m : Must} {h q : Place} → m ≡ blanks s p → m ≡ taken h q → eight s q ≡ binary s p
  unfolding binary
  binary_taken e k = sym (ap (past_blanks (eight s)) (sym e ∙ k))

  pub binary_failed : {m : Must} {k : Refusal} {q : Place} → m ≡ blanks s p → m ≡ failed k q → failed k q ≡ binary s p
  unfolding binary
  binary_failed e k = sym (ap (past_blanks (eight s)) (sym e ∙ k))

  pub blanks_stand : {t : Token} → Stands s p → Ok t ≡ blanks s p → Stands s t.next
  blanks_stand st e = (subst (PassedOn s p p) (sym e) (blanks_on s p st)).1.stands

  -- ---- `\x`

  pub pair_outside : {b : ℕ} → ByteOf s p.offset b → is_alphanumeric b ≡ false → outside s p ≡ pair s p
  unfolding pair
  pair_outside {b} e h = sym (ap (λ (t : Bool). elim t as (λ u. Result Seen Refused) [ true ↦ pair_by s p (digit_of (byte_at s p.offset)) (digit_of (byte_at s (p.offset + 1))) | false ↦ outside s p ]) (ap is_alphanumeric (sym e.is) ∙ h))

  pair_some : {b : ℕ} → ByteOf s p.offset b → is_alphanumeric b ≡ true → pair_by s p (digit_of b) (digit_of (byte_at s (p.offset + 1))) ≡ pair s p
  unfolding pair
  pair_some {b} e h =
      ap (λ (k : ℕ). pair_by s p (digit_of k) (digit_of (byte_at s (p.offset + 1)))) e.is
      ∙ sym (ap (λ (t : Bool). elim t as (λ u. Result Seen Refused) [ true ↦ pair_by s p (digit_of (byte_at s p.offset)) (digit_of (byte_at s (p.offset + 1))) | false ↦ outside s p ]) (ap is_alphanumeric (sym e.is) ∙ h))

  pub pair_first : {b h : ℕ} → ByteOf s p.offset b → is_alphanumeric b ≡ true → h ≡ digit_of b → 16 ≤ h → unknown s p ≡ pair s p
  pair_first {b} {h} e t f l = go ∙ pair_some e t
    where
      go : unknown s p ≡ pair_by s p (digit_of b) (digit_of (byte_at s (p.offset + 1)))
      go = rw (le-ltb (digit_of b) 16 (omega arith), pair_by)

  pub pair_second : {b c h l : ℕ} → ByteOf s p.offset b → is_alphanumeric b ≡ true → h ≡ digit_of b → h < 16 → ByteOf s (p.offset + 1) c → l ≡ digit_of c → 16 ≤ l → unknown s p ≡ pair s p
  pair_second {b} {c} {h} {l} e t f x g k y = go ∙ pair_some e t
    where
      z : 16 ≤ digit_of (byte_at s (p.offset + 1))
      z = omega (arith, k ∙ ap digit_of g.is)

      go : unknown s p ≡ pair_by s p (digit_of b) (digit_of (byte_at s (p.offset + 1)))
      go = rw (lt-ltb (digit_of b) 16 (omega arith), le-ltb (digit_of (byte_at s (p.offset + 1))) 16 z, pair_by)

  pub pair_both : {b c h l : ℕ} {q : Place} → ByteOf s p.offset b → is_alphanumeric b ≡ true → h ≡ digit_of b → h < 16 → ByteOf s (p.offset + 1) c → l ≡ digit_of c → l < 16 → q ≡ on_by 2 p → Ok (Byte (h * 16 + l) Hex q) ≡ pair s p
  pair_both {b} {c} {h} {l} {q} e t f x g k y z =
      ap (λ (x : Place). Ok (Byte (h * 16 + l) Hex x)) z
      ∙ ap (λ (n : ℕ). Ok (Byte (n * 16 + l) Hex (on_by 2 p))) f
      ∙ ap (λ (n : ℕ). Ok (Byte (digit_of b * 16 + n) Hex (on_by 2 p))) (k ∙ ap digit_of g.is)
      ∙ go
      ∙ pair_some e t
    where
      w : digit_of (byte_at s (p.offset + 1)) < 16
      w = omega (arith, k ∙ ap digit_of g.is)

      go : (Ok (Byte (digit_of b * 16 + digit_of (byte_at s (p.offset + 1))) Hex (on_by 2 p))) ≡ pair_by s p (digit_of b) (digit_of (byte_at s (p.offset + 1)))
      go = rw (lt-ltb (digit_of b) 16 (omega arith), lt-ltb (digit_of (byte_at s (p.offset + 1))) 16 w, pair_by)

  -- ---- `\b`

  pub eight_none : {b d : ℕ} → ByteOf s p.offset b → d ≡ bit_of b → 2 ≤ d → outside s p ≡ eight s p
  unfolding eight
  eight_none {b} {d} e f h = rw (le-ltb (bit_of (byte_at s p.offset)) 2 (omega (arith, f ∙ ap bit_of e.is)), eight)

  pub eight_some : {b d : ℕ} → ByteOf s p.offset b → d ≡ bit_of b → d < 2 → bits 8 0 s p ≡ eight s p
  unfolding eight
  eight_some {b} {d} e f h = rw (lt-ltb (bit_of (byte_at s p.offset)) 2 (omega (arith, f ∙ ap bit_of e.is)), eight)

  pub bits_on : (left v : ℕ) {b d : ℕ} → ByteOf s p.offset b → d ≡ bit_of b → d < 2 → bits (suc left) v s p ≡ bits left (v * 2 + d) s (on_by 1 p)
  unfolding bits
  bits_on left v {b} {d} e f h =
      let g : d ≡ bit_of (byte_at s p.offset) = f ∙ ap bit_of e.is in
      rw (lt-ltb (bit_of (byte_at s p.offset)) 2 (omega arith), bits) (ap (λ (k : ℕ). bits left (v * 2 + k) s (on_by 1 p)) (sym g))

  pub bits_off : (left v : ℕ) {b d : ℕ} → ByteOf s p.offset b → d ≡ bit_of b → 2 ≤ d → bits (suc left) v s p ≡ failed BadByteArray (next s p)
  unfolding bits
  bits_off left v {b} {d} e f h =
      let g : d ≡ bit_of (byte_at s p.offset) = f ∙ ap bit_of e.is in
      rw (le-ltb (bit_of (byte_at s p.offset)) 2 (omega arith), bits)

pub bit_zero : (b : ℕ) → b ≡ 48 → 0 ≡ bit_of b
unfolding bit_of
bit_zero b h = rw (eq-eqb b 48 h, bit_of)

pub bit_one : (b : ℕ) → b ≡ 49 → 1 ≡ bit_of b
unfolding bit_of
bit_one b h = rw (ne_eqb b 48 (λ z. omega arith), eq-eqb b 49 h, bit_of)

pub bit_none : (b : ℕ) → (b ≡ 48 → ⊥) → (b ≡ 49 → ⊥) → 2 ≡ bit_of b
unfolding bit_of
bit_none b h k = rw (ne_eqb b 48 h, ne_eqb b 49 k, bit_of)

-- a bit is a byte of the text
pub bit_byte : (b : ℕ) → bit_of b < 2 → b < 256
bit_byte b h = go (eqb b 48) (eqb b 49) refl refl
  where
    go : (t u : Bool) → eqb b 48 ≡ t → eqb b 49 ≡ u → b < 256
    go true u x y = omega (arith, eqb-true b 48 x)
    go false true x y = omega (arith, eqb-true b 49 y)
    go false false x y = let z = bit_none b (borrow.Author.Tests.eqb-false b 48 x) (borrow.Author.Tests.eqb-false b 49 y) in absurd (omega arith)

-- what the loop of `bits` keeps: the bits still to come answer for the whole
pub record Bits (s : Text) (at p : Place) (v left : ℕ) : Type 0 where
  pub same : bits left v s p ≡ bits 8 0 s at
  pub stands : Stands s p
  pub passed : ℕ
  pub all : passed + left ≡ 8
  pub small : v < 2 ^ passed

pub bits_start : {s : Text} {at : Place} → Stands s at → Bits s at at 0 8
bits_start h = record { same = refl; stands = h; passed = 0; all = refl; small = omega arith }

pub bits_room : {s : Text} {at p : Place} {v left : ℕ} → Bits s at p v left → v < 256
bits_room {v = v} {left = left} i =
    let a : i.passed + left ≡ 8 = i.all in
    let l : i.passed ≤ 8 = omega arith in
    let w : v < 2 ^ i.passed = i.small in
    let y : 2 ^ i.passed ≤ 2 ^ 8 = pow-le-pow_right {n = 2} (omega arith) l in
    omega arith

pub bits_end : {s : Text} {at p : Place} {v left : ℕ} → Bits s at p v left → left ≤ 0 → Ok (Byte v Binary p) ≡ bits 8 0 s at
unfolding bits
bits_end {s} {at} {p} {v} {left} i h = ap (λ (k : ℕ). bits k v s p) (let z : 0 ≡ left = omega arith in z) ∙ i.same

module _ {s : Text} {at p : Place} {v left b d : ℕ} (i : Bits s at p v left) (l : 0 < left) (e : ByteOf s p.offset b) (f : d ≡ bit_of b) where
  one_less : left ≡ suc (left - 1)
  one_less = omega arith

  pub bits_wrong : {q : Place} → 2 ≤ d → q ≡ next s p → failed BadByteArray q ≡ bits 8 0 s at
  bits_wrong h z = ap (failed BadByteArray) z ∙ sym (bits_off s p (left - 1) v e f h) ∙ ap (λ (k : ℕ). bits k v s p) (sym one_less) ∙ i.same

  pub bits_step : {q : Place} → d < 2 → q ≡ on_by 1 p → Bits s at q (v * 2 + d) (left - 1)
  bits_step {q} h z =
      let n = i.passed in
      let a : n + left ≡ 8 = i.all in
      let w : v < 2 ^ n = i.small in
      let k : b < 256 = bit_byte b (omega arith) in
      let c : p.offset < length s = in_text s p.offset (omega (arith, e.is)) in
      let y : 2 ^ suc n ≡ 2 ^ n + 2 ^ n = two-pow-succ n in
      record {
        same = ap (bits (left - 1) (v * 2 + d) s) z ∙ sym (bits_on s p (left - 1) v e f h) ∙ ap (λ (k : ℕ). bits k v s p) (sym one_less) ∙ i.same;
        stands = subst⁻¹ (λ (x : Place). Stands s x) z (on_by_stands s 1 p i.stands (omega arith)).stands;
        passed = suc n;
        all = omega arith;
        small = omega arith;
      }

pub alnum_byte : (b : ℕ) → is_alphanumeric b ≡ true → b < 256
alnum_byte b h = go (ltb b 256) refl
  where
    go : (t : Bool) → ltb b 256 ≡ t → b < 256
    go true e = ltb-true b 256 e
    go false e = let l = ltb-false b 256 e in let z : ◌≡◌ {A = Bool} false true = alnum_over b (omega arith) ∙ h in let w : ◌≡◌ {A = ℕ} 0 1 = cc in absurd (omega arith)

-- ---- each step goes on in the text

-- a byte of the array is one, and it or what opens or closes is passed
abbrev pub SeenOn : Text → Place → Result Seen Refused → Type 0
SeenOn s p (Ok (Byte v n q)) = (v < 256) × Advanced s p q
SeenOn s p (Ok (Opened n q)) = Advanced s p q
SeenOn s p (Ok (Shut q)) = Advanced s p q
SeenOn s p (Err e) = Unit {0}

seen_later : {s : Text} {p p' : Place} → Reached s p p' → (r : Result Seen Refused) → SeenOn s p' r → SeenOn s p r
seen_later h (Ok (Byte v n q)) (l, a) = (l, advanced_on h a)
seen_later h (Ok (Opened n q)) a = advanced_on h a
seen_later h (Ok (Shut q)) a = advanced_on h a
seen_later h (Err e) a = tt

abbrev BitsOn : Text → Place → Result Seen Refused → Type 0
BitsOn s p (Ok (Byte v n q)) = (v < 2 ^ 8) × Reached s p q
BitsOn s p (Ok (Opened n q)) = ⊥
BitsOn s p (Ok (Shut q)) = ⊥
BitsOn s p (Err e) = Unit {0}

bits_later : {s : Text} {p p' : Place} → Reached s p p' → (r : Result Seen Refused) → BitsOn s p' r → BitsOn s p r
bits_later h (Ok (Byte v n q)) (l, a) = (l, reached_on h a)
bits_later h (Ok (Opened n q)) a = a
bits_later h (Ok (Shut q)) a = a
bits_later h (Err e) a = tt

module _ (s : Text) where
  by : (n : ℕ) (p : Place) → Stands s p → 0 < n → p.offset + n ≤ length s → Advanced s p (on_by n p)
  by n p h l k = record { stands = (on_by_stands s n p h k).stands; further = omega arith }

  -- a byte stands behind the one at p
  behind : (p : Place) (k : ℕ) → byte_at s (p.offset + 1) ≡ k → k < 256 → p.offset + 2 ≤ length s
  behind p k e l = let z = in_text s (p.offset + 1) (omega arith) in omega arith

  opening_on : (p : Place) → Stands s p → SeenOn s p (opening s p)
  unfolding opening
  opening_on p h =
      choice (SeenOn s p) (eqb b 97) (λ t. run 97 (eqb-true b 97 t) (omega arith))
      (λ t. choice (SeenOn s p) (eqb b 120) (λ t. run 120 (eqb-true b 120 t) (omega arith))
      (λ t. choice (SeenOn s p) (eqb b 98) (λ t. run 98 (eqb-true b 98 t) (omega arith)) (λ t. tt)))
    where
      b : ℕ
      b = byte_at s (p.offset + 1)

      run : (k : ℕ) → b ≡ k → k < 256 → Advanced s p (on_by 2 p)
      run k e l = by 2 p h (omega arith) (behind p k e l)

  outside_on : (p : Place) → Stands s p → SeenOn s p (outside s p)
  unfolding outside
  outside_on p h =
      choice (SeenOn s p) (eqb b 256) (λ t. tt)
      (λ t. choice (SeenOn s p) (eqb b 93) (λ t. let z = in_text s p.offset (omega (arith, eqb-true b 93 t)) in by 1 p h (omega arith) (omega arith))
      (λ t. choice (SeenOn s p) (eqb b 92) (λ t. opening_on p h) (λ t. tt)))
    where
      b : ℕ
      b = byte_at s p.offset

  past_blanks_on : (f : Place → Result Seen Refused) → ((q : Place) → Stands s q → SeenOn s q (f q)) → (p : Place) → Stands s p → SeenOn s p (past_blanks f (blanks s p))
  past_blanks_on f g p h = go (blanks s p) (blanks_on s p h)
    where
      go : (m : Must) → PassedOn s p p m → SeenOn s p (past_blanks f m)
      go (Ok t) (e, r) = seen_later r (f t.next) (g t.next r.stands)
      go (Err e) r = tt

  between_on : (p : Place) → Stands s p → SeenOn s p (between s p)
  unfolding between
  between_on = past_blanks_on (outside s) outside_on

  mark_on : (p : Place) → Stands s p → SeenOn s p (mark s p)
  unfolding mark
  mark_on p h =
      choice P (ltb (letter_of b) 256) (λ t. let l = ltb-true (letter_of b) 256 t in (l, code b refl (letter_byte b l)))
      (λ t. choice P (eqb b 120) (λ t. between_on p h) (λ t. choice P (eqb b 98) (λ t. between_on p h) (λ t. tt)))
    where
      b : ℕ
      b = byte_at s (p.offset + 1)

      P : Result Seen Refused → Type 0
      P = SeenOn s p

      code : (k : ℕ) → b ≡ k → k < 256 → Advanced s p (on_by 2 p)
      code k e l = by 2 p h (omega arith) (behind p k e l)

  plain_on : (b : ℕ) (p : Place) → Stands s p → b ≡ byte_at s p.offset → b < 256 → SeenOn s p (Ok (plain b p))
  plain_on b p h e l = let z = in_text s p.offset (omega arith) in (l, by 1 p h (omega arith) (omega arith))

  slash_on : (p : Place) → Stands s p → byte_at s p.offset ≡ 47 → SeenOn s p (slash s p)
  unfolding slash
  slash_on p h e =
      choice (SeenOn s p) (eqb (byte_at s (p.offset + 1)) 47) (λ t. between_on p h)
      (λ t. choice (SeenOn s p) (eqb (byte_at s (p.offset + 1)) 42) (λ t. between_on p h) (λ t. plain_on 47 p h (sym e) (omega arith)))

  line_end_on : (last : ℕ) (p : Place) → Stands s p → SeenOn s p (line_end s last p)
  unfolding line_end
  line_end_on last p h = choice (SeenOn s p) (eqb last 32) (λ t. tt) (λ t. between_on p h)

  printed_on : (b : ℕ) (p : Place) → Stands s p → b ≡ byte_at s p.offset → SeenOn s p (printed s b p)
  unfolding printed
  printed_on b p h e =
      choice (SeenOn s p) (leb 32 b && leb b 126 && not (eqb b 93))
      (λ t. plain_on b p h e (let z = leb-true b 126 ((and-eq-true_iff (leb 32 b) (leb b 126)).0 ((and-eq-true_iff (leb 32 b && leb b 126) (not (eqb b 93))).0 t).0).1 in omega arith))
      (λ t. between_on p h)

  ascii_on : (last : ℕ) (p : Place) → Stands s p → SeenOn s p (ascii s last p)
  unfolding ascii
  ascii_on last p h =
      choice P (eqb b 92) (λ t. mark_on p h)
      (λ t. choice P (eqb b 47) (λ t. slash_on p h (eqb-true b 47 t))
      (λ t. choice P (eqb b 13 || eqb b 10) (λ t. line_end_on last p h)
      (λ t. choice P (eqb b 9) (λ t. tt) (λ t. printed_on b p h refl))))
    where
      b : ℕ
      b = byte_at s p.offset

      P : Result Seen Refused → Type 0
      P = SeenOn s p

  pair_on : (p : Place) → Stands s p → SeenOn s p (pair s p)
  unfolding pair
  pair_on p h =
      choice (SeenOn s p) (is_alphanumeric b)
      (λ t. choice (SeenOn s p) (ltb (digit_of b) 16 && ltb (digit_of c) 16) (λ u. both ((and-eq-true_iff (ltb (digit_of b) 16) (ltb (digit_of c) 16)).0 u)) (λ u. tt))
      (λ t. outside_on p h)
    where
      b : ℕ
      b = byte_at s p.offset

      c : ℕ
      c = byte_at s (p.offset + 1)

      both : (ltb (digit_of b) 16 ≡ true) × (ltb (digit_of c) 16 ≡ true) → (digit_of b * 16 + digit_of c < 256) × Advanced s p (on_by 2 p)
      both (x, y) =
          let i = ltb-true (digit_of b) 16 x in
          let j = ltb-true (digit_of c) 16 y in
          (omega arith, by 2 p h (omega arith) (behind p c refl (let z = digit_ascii c j in omega arith)))

  -- so many bits on, of a byte that they fill
  bits_reach : (left v n : ℕ) (p : Place) → Stands s p → n + left ≡ 8 → v < 2 ^ n → (r : Result Seen Refused) → r ≡ bits left v s p → BitsOn s p r
  unfolding bits
  bits_reach zero v n p h a w r e = subst⁻¹ (BitsOn s p) e (subst (λ (k : ℕ). v < 2 ^ k) (let z : n ≡ 8 = omega arith in z) w, reached_here h)
  bits_reach (suc left) v n p h a w r e = subst⁻¹ (BitsOn s p) e (go (ltb d 2) refl (λ st x. bits_reach left (v * 2 + d) (suc n) (on_by 1 p) st (omega arith) x (bits left (v * 2 + d) s (on_by 1 p)) refl))
    where
      d : ℕ
      d = bit_of (byte_at s p.offset)

      go : (t : Bool) → ltb d 2 ≡ t → (Stands s (on_by 1 p) → v * 2 + d < 2 ^ suc n → BitsOn s (on_by 1 p) (bits left (v * 2 + d) s (on_by 1 p)))
          → BitsOn s p (elim t as (λ u. Result Seen Refused) [ true ↦ bits left (v * 2 + d) s (on_by 1 p) | false ↦ failed BadByteArray (next s p) ])
      go true t ih =
          let l = ltb-true d 2 t in
          let c = in_text s p.offset (bit_byte (byte_at s p.offset) l) in
          let y : 2 ^ suc n ≡ 2 ^ n + 2 ^ n = two-pow-succ n in
          let a = on_by_stands s 1 p h (omega arith) in
          bits_later a (bits left (v * 2 + d) s (on_by 1 p)) (ih a.stands (omega arith))
      go false t ih = tt

  eight_on : (p : Place) → Stands s p → SeenOn s p (eight s p)
  unfolding eight
  eight_on p h = choice (SeenOn s p) (ltb d 2) (λ t. go (ltb-true d 2 t)) (λ t. outside_on p h)
    where
      d : ℕ
      d = bit_of (byte_at s p.offset)

      seen : Advanced s p (on_by 1 p) → (r : Result Seen Refused) → BitsOn s (on_by 1 p) r → SeenOn s p r
      seen a (Ok (Byte v n q)) (l, g) = (l, record { stands = g.stands; further = let x : p.offset < p.offset + 1 = a.further in let y : p.offset + 1 ≤ q.offset = g.further in omega arith })
      seen a (Ok (Opened n q)) g = absurd g
      seen a (Ok (Shut q)) g = absurd g
      seen a (Err e) g = tt

      go : d < 2 → SeenOn s p (bits 8 0 s p)
      go l =
          let b = byte_at s p.offset in
          let k = bit_byte b l in
          let c = in_text s p.offset k in
          let e : ByteOf s p.offset b = record { is = refl; inside = λ z. k } in
          let a = by 1 p h (omega arith) (omega arith) in
          subst⁻¹ (SeenOn s p) (bits_on s p 7 0 e refl l) (seen a (bits 7 (0 * 2 + d) s (on_by 1 p)) (bits_reach 7 (0 * 2 + d) 1 (on_by 1 p) a.stands refl (omega arith) (bits 7 (0 * 2 + d) s (on_by 1 p)) refl))

  pub step_on : (m : Mode) (last : ℕ) (p : Place) → Stands s p → SeenOn s p (step s m last p)
  unfolding step hex binary
  step_on Between last p h = between_on p h
  step_on Ascii last p h = ascii_on last p h
  step_on Hex last p h = past_blanks_on (pair s) pair_on p h
  step_on Binary last p h = past_blanks_on (eight s) eight_on p h

  -- ---- at the end of the text

  module _ (p : Place) (h : length s ≤ p.offset) where
    no_byte : byte_at s p.offset ≡ 256
    no_byte = at_end s p.offset h

    no_blanks : blanks s p ≡ taken p p
    unfolding blanks pass
    no_blanks = ap (λ (t : Text). pass p Rattle.characters.specs.Blanks.between t p) (from_end s p.offset h)

    outside_end : outside s p ≡ failed EndOfInput p
    unfolding outside
    outside_end = ap (outside_by s p) no_byte

    between_end : between s p ≡ failed EndOfInput p
    unfolding between
    between_end = ap (past_blanks (outside s)) no_blanks ∙ outside_end

    pair_end : pair s p ≡ failed EndOfInput p
    unfolding pair is_alphanumeric
    pair_end = ap (λ (b : ℕ). elim (is_alphanumeric b) as (λ u. Result Seen Refused) [ true ↦ pair_by s p (digit_of (byte_at s p.offset)) (digit_of (byte_at s (p.offset + 1))) | false ↦ outside s p ]) no_byte ∙ outside_end

    eight_end : eight s p ≡ failed EndOfInput p
    unfolding eight bit_of
    eight_end = ap (λ (b : ℕ). elim (ltb (bit_of b) 2) as (λ u. Result Seen Refused) [ true ↦ bits 8 0 s p | false ↦ outside s p ]) no_byte ∙ outside_end

    step_end : (m : Mode) (last : ℕ) → step s m last p ≡ failed EndOfInput p
    unfolding step ascii printed hex binary
    step_end Between last = between_end
    step_end Ascii last = ap (ascii_by s last p) no_byte ∙ between_end
    step_end Hex last = ap (past_blanks (pair s)) no_blanks ∙ pair_end
    step_end Binary last = ap (past_blanks (eight s)) no_blanks ∙ eight_end

  -- ---- the steps make up the whole

  -- what is left of a bytearray from a place on
  abbrev pub read_from : Mode → ℕ → Place → Contents
  read_from m last p = read s 0 (drop p.offset s) m last p

  -- after a step
  abbrev pub follow : ℕ → Result Seen Refused → Contents
  follow last (Ok (Byte v n q)) = push v (read_from n v q)
  follow last (Ok (Opened n q)) = read_from n last q
  follow last (Ok (Shut q)) = shut q []
  follow last (Err e) = halted e.refusal e.at

  read_over : (k : ℕ) (t : Text) (m : Mode) (last : ℕ) (p : Place) → read s k t m last p ≡ read s 0 (drop k t) m last p
  unfolding read
  read_over zero t m last p = refl
  read_over (suc k) [] m last p = refl
  read_over (suc k) (b ∷ t) m last p = read_over k t m last p

  -- The walk: the bytes from a place on are the byte of one step and those that follow it.
  pub read_step : (m : Mode) (last : ℕ) (p : Place) → Stands s p → read_from m last p ≡ follow last (step s m last p)
  unfolding read
  read_step m last p h = go (drop p.offset s) refl
    where
      onward : (t : Text) (q : Place) (n : Mode) (l : ℕ) → t ≡ drop (p.offset + 1) s → p.offset < q.offset → read s (q.offset - (p.offset + 1)) t n l q ≡ read_from n l q
      onward t q n l e k =
          read_over (q.offset - (p.offset + 1)) t n l q
          ∙ ap (λ (x : Text). read s 0 x n l q) (ap (drop (q.offset - (p.offset + 1))) e ∙ drop-drop (q.offset - (p.offset + 1)) (p.offset + 1) s ∙ ap (λ (o : ℕ). drop o s) (let z : p.offset + 1 + (q.offset - (p.offset + 1)) ≡ q.offset = omega arith in z))

      then : (t : Text) → t ≡ drop (p.offset + 1) s → (r : Result Seen Refused) → SeenOn s p r
          → elim r as (λ u. Contents) [ Ok (Byte v n q) ↦ push v (read s (q.offset - (p.offset + 1)) t n v q) | Ok (Opened n q) ↦ read s (q.offset - (p.offset + 1)) t n last q | Ok (Shut q) ↦ shut q [] | Err e ↦ halted e.refusal e.at ] ≡ follow last r
      then t e (Ok (Byte v n q)) g = ap (push v) (onward t q n v e g.1.further)
      then t e (Ok (Opened n q)) g = onward t q n last e g.further
      then t e (Ok (Shut q)) g = refl
      then t e (Err f) g = refl

      go : (t : Text) → t ≡ drop p.offset s → read s 0 t m last p ≡ follow last (step s m last p)
      go [] e = sym (ap (follow last) (step_end p (short (ltb p.offset (length s)) refl) m last))
        where
          short : (u : Bool) → ltb p.offset (length s) ≡ u → length s ≤ p.offset
          short true u =
              let z : byte_at s p.offset ∷ drop (suc p.offset) s ≡ [] = sym (lib.Seq.drop-cons s p.offset 256 (ltb-true p.offset (length s) u)) ∙ sym e in
              let w : ◌≡◌ {A = ℕ} 0 1 = cc in
              absurd (omega arith)
          short false u = ltb-false p.offset (length s) u
      go (b ∷ t) e = then t (rest s p.offset b t e).1 (step s m last p) (step_on m last p h)

span_push : (p : Place) (v : ℕ) (c : Contents) → span_by p (push v c) ≡ span_by p c
span_push p v (shut q l) = refl
span_push p v (halted k q) = refl

-- what the loop of `bytearray` keeps: what is left answers for the whole
pub record Reading (s : Text) (at p : Place) (m : Mode) (last : ℕ) : Type 0 where
  pub same : span_by at (read_from s m last p) ≡ bytearray s at
  pub stands : Stands s p

pub reading_start : {s : Text} {at : Place} → Stands s at → Reading s at at Between 256
unfolding bytearray contents
reading_start h = record { same = refl; stands = h }

module _ {s : Text} {at p : Place} {m : Mode} {last : ℕ} {r : Result Seen Refused} (i : Reading s at p m last) (e : r ≡ step s m last p) where
  ahead : {x : Result Seen Refused} → r ≡ x → (SeenOn s p x) × (span_by at (follow s last x) ≡ bytearray s at)
  ahead {x} k =
      let z : step s m last p ≡ x = sym e ∙ k in
      (subst (SeenOn s p) z (step_on s m last p i.stands), ap (λ (y : Result Seen Refused). span_by at (follow s last y)) (sym z) ∙ ap (span_by at) (sym (read_step s m last p i.stands)) ∙ i.same)

  pub reading_byte : {v : ℕ} {n : Mode} {q : Place} → r ≡ Ok (Byte v n q) → Reading s at q n v
  reading_byte {v} {n} {q} k = let z = ahead k in record { same = sym (span_push at v (read_from s n v q)) ∙ z.1; stands = z.0.1.stands }

  pub reading_opened : {n : Mode} {q : Place} → r ≡ Ok (Opened n q) → Reading s at q n last
  reading_opened k = let z = ahead k in record { same = z.1; stands = z.0.stands }

  pub reading_shut : {q : Place} → r ≡ Ok (Shut q) → taken at q ≡ bytearray s at
  reading_shut k = (ahead k).1

  pub reading_refused : {f : Refused} → r ≡ Err f → Err f ≡ bytearray s at
  reading_refused k = (ahead k).1

  pub byte_further : {v : ℕ} {n : Mode} {q : Place} → r ≡ Ok (Byte v n q) → Advanced s p q
  byte_further k = (ahead k).0.1

  pub opened_further : {n : Mode} {q : Place} → r ≡ Ok (Opened n q) → Advanced s p q
  opened_further k = (ahead k).0

-- ---- a step by its mode

module _ (s : Text) (last : ℕ) (p : Place) {m : Mode} {r : Result Seen Refused} where
  pub step_between : m ≡ Between → r ≡ between s p → r ≡ step s m last p
  unfolding step
  step_between k z = z ∙ ap (λ (n : Mode). step s n last p) (sym k)

  pub step_ascii : m ≡ Ascii → r ≡ ascii s last p → r ≡ step s m last p
  unfolding step
  step_ascii k z = z ∙ ap (λ (n : Mode). step s n last p) (sym k)

  pub step_hex : m ≡ Hex → r ≡ hex s p → r ≡ step s m last p
  unfolding step
  step_hex k z = z ∙ ap (λ (n : Mode). step s n last p) (sym k)

  pub step_binary : m ≡ Binary → r ≡ binary s p → r ≡ step s m last p
  unfolding step
  step_binary k z = z ∙ ap (λ (n : Mode). step s n last p) (sym k)

-- ---- an accepted bytearray ends further on in the text

Halted : Contents → Type 0
Halted (shut q l) = ⊥
Halted (halted k q) = Unit {0}

pub pushed : (v : ℕ) (c : Contents) (q : Place) (l : List ℕ) → push v c ≡ shut q l → (x : List ℕ) × (c ≡ shut q x)
unfolding Halted
pushed v (shut p x) q l e = (x, (let z : p ≡ q = cc in ap (λ (y : Place). shut y x) z))
pushed v (halted k p) q l e = absurd (subst Halted e tt)

module _ (s : Text) (q : Place) where
  pub read_on : (t : Text) (left o : ℕ) (m : Mode) (last : ℕ) (p : Place) (l : List ℕ) → t ≡ drop o s → o + left ≡ p.offset → Stands s p → read s left t m last p ≡ shut q l → Advanced s p q
  unfolding read Halted
  read_on [] left o m last p l z f h e = absurd (subst Halted e tt)
  read_on (b ∷ t) (suc left) o m last p l z f h e = read_on t left (o + 1) m last p l (rest s o b t z).1 (omega arith) h e
  read_on (b ∷ t) zero o m last p l z f h e =
      go (step s m last p) (step_on s m last p h) (λ left n v p' x g. read_on t left (o + 1) n v p' x (rest s o b t z).1 g) e
    where
      go : (r : Result Seen Refused) → SeenOn s p r
          → ((left : ℕ) (n : Mode) (v : ℕ) (p' : Place) (x : List ℕ) → o + 1 + left ≡ p'.offset → Stands s p' → read s left t n v p' ≡ shut q x → Advanced s p' q)
          → elim r as (λ u. Contents) [ Ok (Byte v n p') ↦ push v (read s (p'.offset - (p.offset + 1)) t n v p') | Ok (Opened n p') ↦ read s (p'.offset - (p.offset + 1)) t n last p' | Ok (Shut p') ↦ shut p' [] | Err e ↦ halted e.refusal e.at ] ≡ shut q l
          → Advanced s p q
      go (Ok (Byte v n p')) g ih e =
          let a : p.offset < p'.offset = g.1.further in
          let k = p'.offset - (p.offset + 1) in
          let y = pushed v (read s k t n v p') q l e in
          advanced_on (advanced_reached g.1) (ih k n v p' y.0 (omega arith) g.1.stands y.1)
      go (Ok (Opened n p')) g ih e =
          let a : p.offset < p'.offset = g.further in
          let k = p'.offset - (p.offset + 1) in
          advanced_on (advanced_reached g) (ih k n last p' l (omega arith) g.stands e)
      go (Ok (Shut p')) g ih e = let y : p' ≡ q = cc in subst (λ (x : Place). Advanced s p x) y g
      go (Err f) g ih e = absurd (subst Halted e tt)

pub bytearray_accepted : (s : Text) (p h q : Place) → Stands s p → bytearray s p ≡ taken h q → (h ≡ p) × Advanced s p q
unfolding bytearray contents
bytearray_accepted s p h q st e = go (read s 0 (drop p.offset s) Between 256 p) refl e
  where
    go : (c : Contents) → read s 0 (drop p.offset s) Between 256 p ≡ c → span_by p c ≡ taken h q → (h ≡ p) × Advanced s p q
    go (shut x l) z e =
        let w = sym (taken_here e) in
        let y = taken_next e in
        (w, read_on s q (drop p.offset s) 0 p.offset Between 256 p l refl (omega arith) st (z ∙ ap (λ (k : Place). shut k l) y))
    go (halted k x) z e = let w : ◌≡◌ {A = ℕ} 0 1 = cc in absurd (omega arith)
