-- Laws of several bytes as one number: no top bit, no byte above ASCII. Assumes nothing.
use Rattle.std.specs.Prelude.{◌≡◌, refl}
use Rattle.std.proofs.Math.Path.{sym}
use Rattle.std.proofs.Common.{ap, ◌∙◌}
use Prim.Native.Nat.{ℕ, zero, suc, ◌+◌, ◌*◌, ◌/◌, ◌%◌, ◌<◌}
use native.Mathlib.Omega.{arith}
use Rattle.std.specs.Int.Bits.{bit_and}
use Rattle.std.proofs.lemmas.Nat.{and_block}
use Rattle.std.proofs.lemmas.Nat.Bits.{and_high}
use Rattle.std.proofs.Math.ListN.{get_or}
use borrow.Author.Tests.{lt-ltb}
use Rattle.characters.specs.Text.{Text}
use Rattle.characters.specs.Eights.{digits_from, top_bits, Low}

-- a byte without its top bit
no_bit : (q : ℕ) → q < 2 → q % 2 * 128 ≡ 0 → q ≡ 0
no_bit zero h e = refl
no_bit (suc zero) h e = absurd (let z : ◌≡◌ {A = ℕ} 128 0 = e in omega arith)
no_bit (suc (suc q)) h e = absurd (omega arith)

byte_low : (a : ℕ) → a < 256 → bit_and a 128 ≡ 0 → a < 128
byte_low a h e =
    let q : a / 128 < 2 = omega arith in
    let z : a / 128 ≡ 0 = no_bit (a / 128) q (sym (and_high a 1 7) ∙ e) in
    omega arith

-- the lowest byte, and the others
lowest : (a r m : ℕ) → a < 256 → bit_and (a + 256 * r) (m * 256 + 128) ≡ 0 → (a < 128) × (bit_and r m ≡ 0)
lowest a r m h e =
    let c : a + 256 * r ≡ r * 256 + a = omega arith in
    let z : bit_and (r * 256 + a) (m * 256 + 128) ≡ bit_and r m * 256 + bit_and a 128 = and_block 8 r m a 128 h (omega arith) in
    let y : bit_and (r * 256 + a) (m * 256 + 128) ≡ 0 = ap (λ (x : ℕ). bit_and x (m * 256 + 128)) (sym c) ∙ e in
    (byte_low a h (omega arith), omega arith)

module _ (s : Text) (i : ℕ) (bytes : (j : ℕ) → get_or s j 0 < 256) where
  -- so of any number of bytes
  all_low : (n j : ℕ) → bit_and (digits_from s i j n) (top_bits n) ≡ 0 → (k : ℕ) → k < n → get_or s (i + (j + k)) 0 < 128
  unfolding digits_from top_bits
  all_low zero j e k h = absurd (omega arith)
  all_low (suc n) j e zero h = ap_less (let z : j + 0 ≡ j = omega arith in z) (lowest (get_or s (i + j) 0) (digits_from s i (suc j) n) (top_bits n) (bytes (i + j)) e).0
    where
      ap_less : j + 0 ≡ j → get_or s (i + j) 0 < 128 → get_or s (i + (j + 0)) 0 < 128
      ap_less z l = rw z l
  all_low (suc n) j e (suc k) h = ap_less (let z : j + suc k ≡ suc j + k = omega arith in z) (all_low n (suc j) (lowest (get_or s (i + j) 0) (digits_from s i (suc j) n) (top_bits n) (bytes (i + j)) e).1 k (omega arith))
    where
      ap_less : j + suc k ≡ suc j + k → get_or s (i + (suc j + k)) 0 < 128 → get_or s (i + (j + suc k)) 0 < 128
      ap_less z l = rw z l

  -- eight bytes by their top bits
  pub low_eight : {w m : ℕ} → w ≡ digits_from s i 0 8 → m ≡ bit_and w 9259542123273814144 → m ≡ 0 → Low 8 s i
  unfolding top_bits
  low_eight e f z = record { each = λ k h. lt-ltb (get_or s (i + k) 0) 128 (let l = all_low 8 0 (ap (λ (v : ℕ). bit_and v 9259542123273814144) (sym e) ∙ sym f ∙ z) k h in let o : 0 + k ≡ k = omega arith in rw o at l) }

pub eight_is : (s : Text) (i : ℕ) {a b c d e f g h : ℕ} → a ≡ get_or s i 0 → b ≡ get_or s (i + 1) 0 → c ≡ get_or s (i + 2) 0 → d ≡ get_or s (i + 3) 0 → e ≡ get_or s (i + 4) 0 → f ≡ get_or s (i + 5) 0 → g ≡ get_or s (i + 6) 0 → h ≡ get_or s (i + 7) 0
    → a + 256 * b + 65536 * c + 16777216 * d + 4294967296 * (e + 256 * f + 65536 * g + 16777216 * h) ≡ digits_from s i 0 8
unfolding digits_from
eight_is s i a b c d e f g h = let z : get_or s (i + 0) 0 ≡ get_or s i 0 = ap (λ (k : ℕ). get_or s k 0) (let o : i + 0 ≡ i = omega arith in o) in omega arith
