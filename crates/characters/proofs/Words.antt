-- The reserved words' tables: one computed test over the 28 words, and what it says of every name. Assumes nothing.
use mathlib.Core.Path.{◌≡◌, refl, sym, ap, subst, subst⁻¹, ◌∙◌}
use mathlib.Core.Bool.{Bool, true, false, ◌&&◌}
use mathlib.Core.List.{List, [], ◌∷◌}
use mathlib.Core.Logic.{◌⊎◌, inl, inr}
use Prim.Native.Nat.{ℕ, zero, suc, ◌+◌, ◌-◌, ◌*◌, ◌≤◌, ◌<◌}
use native.Mathlib.Omega.{arith}
use lib.Dec.{eqb, leb, ltb}
use lib.ListN.{length, take, drop, get_or, length-drop}
use lib.Seq.{get_or-drop, drop-drop}
use borrow.Author.Tests.{eqb-true, leb-true, ltb-true}
use Rattle.characters.specs.Text.{Text, byte_at, ByteOf}
use Rattle.characters.specs.PlaceLaws.{get_d_any}
use Rattle.characters.specs.Names.{part, same, reserved, numbered, word_of, fold_of}
use Rattle.characters.proofs.Naming.{part_length, part_bytes}
use Rattle.characters.specs.AlikeLaws.{drop_take, part_byte}
use Rattle.characters.specs.Words.{slot_of, head_of, slot, head, tail, slots, heads, rests}

-- ---- the computed test

-- every byte is one
bytes : Text → Bool
bytes [] = true
bytes (b ∷ s) = ltb b 256 && bytes s

-- the word is found in its slot, by its head and its tail, under its number
found : ℕ → Text → Bool
unfolding slots heads rests word_of numbered same fold_of bytes
found k w =
    eqb (get_or slots (slot w) 0) k
    && eqb (get_or heads k 0) (head w)
    && eqb (get_or rests k 0) (tail w)
    && eqb (word_of w) k
    && leb 2 (length w)
    && leb (length w) 10
    && bytes w

every : ℕ → List Text → Bool
unfolding found
every k [] = true
every k (w ∷ ws) = found k w && every (suc k) ws

all_found : every 1 reserved ≡ true
unfolding every
all_found = refl

-- no slot names more than the 28 words
below : ℕ → List ℕ → Bool
below n [] = true
below n (x ∷ xs) = ltb x n && below n xs

slots_below : below 29 slots ≡ true
unfolding below slots
slots_below = refl

left : (u v : Bool) → (u && v) ≡ true → u ≡ true
left true v e = refl
left false v e = e

right : (u v : Bool) → (u && v) ≡ true → v ≡ true
right true v e = e
right false v e = let z : ◌≡◌ {A = ℕ} 0 1 = cc in absurd (omega arith)

every_at : (k : ℕ) (ws : List Text) → every k ws ≡ true → (j : ℕ) → j < length ws → found (k + j) (get_or ws j []) ≡ true
unfolding every
every_at k [] e j h = let z : j < 0 = h in absurd (omega arith)
every_at k (w ∷ ws) e zero h = ap (λ (m : ℕ). found m w) (let z : k + 0 ≡ k = omega arith in z) ∙ left (found k w) (every (suc k) ws) e
every_at k (w ∷ ws) e (suc j) h =
    ap (λ (m : ℕ). found m (get_or ws j [])) (let z : k + suc j ≡ suc k + j = omega arith in z)
    ∙ every_at (suc k) ws (right (found k w) (every (suc k) ws) e) j (let z : suc j < suc (length ws) = h in omega arith)

below_at : (n : ℕ) (xs : List ℕ) → below n xs ≡ true → 0 < n → (i : ℕ) → get_or xs i 0 < n
unfolding below
below_at n [] e h i = h
below_at n (x ∷ xs) e h zero = ltb-true x n (left (ltb x n) (below n xs) e)
below_at n (x ∷ xs) e h (suc i) = below_at n xs (right (ltb x n) (below n xs) e) h i

bytes_at : (w : Text) → bytes w ≡ true → (i : ℕ) → get_or w i 0 < 256
unfolding bytes
bytes_at [] e i = omega arith
bytes_at (x ∷ w) e zero = ltb-true x 256 (left (ltb x 256) (bytes w) e)
bytes_at (x ∷ w) e (suc i) = bytes_at w (right (ltb x 256) (bytes w) e) i

-- what the test says of a word
record Found (k : ℕ) (w : Text) : Type 0 where
  at_slot : get_or slots (slot w) 0 ≡ k
  at_head : get_or heads k 0 ≡ head w
  at_tail : get_or rests k 0 ≡ tail w
  at_word : word_of w ≡ k
  two : 2 ≤ length w
  ten : length w ≤ 10
  small : (i : ℕ) → get_or w i 0 < 256

all_of : (a b c d e f g : Bool) → (a && b && c && d && e && f && g) ≡ true → (a ≡ true) × (b ≡ true) × (c ≡ true) × (d ≡ true) × (e ≡ true) × (f ≡ true) × (g ≡ true)
all_of a b c d e f g z =
    let z6 = left (a && b && c && d && e && f) g z in
    let z5 = left (a && b && c && d && e) f z6 in
    let z4 = left (a && b && c && d) e z5 in
    let z3 = left (a && b && c) d z4 in
    let z2 = left (a && b) c z3 in
    (left a b z2, right a b z2, right (a && b) c z3, right (a && b && c) d z4, right (a && b && c && d) e z5, right (a && b && c && d && e) f z6, right (a && b && c && d && e && f) g z)

found_is : (k : ℕ) (w : Text) → found k w ≡ true → Found k w
unfolding found
found_is k w e =
    let z = all_of (eqb (get_or slots (slot w) 0) k) (eqb (get_or heads k 0) (head w)) (eqb (get_or rests k 0) (tail w)) (eqb (word_of w) k) (leb 2 (length w)) (leb (length w) 10) (bytes w) e in
    record {
      at_slot = eqb-true (get_or slots (slot w) 0) k z.0;
      at_head = eqb-true (get_or heads k 0) (head w) z.1;
      at_tail = eqb-true (get_or rests k 0) (tail w) z.2;
      at_word = eqb-true (word_of w) k z.3;
      two = leb-true 2 (length w) z.4;
      ten = leb-true (length w) 10 z.5;
      small = bytes_at w z.6;
    }

-- the word of a number
word : ℕ → Text
word j = get_or reserved j []

word_found : (j : ℕ) → j < 28 → Found (1 + j) (word j)
unfolding word
word_found j h = found_is (1 + j) (get_or reserved j []) (every_at 1 reserved all_found j h)

-- ---- names

same_is : (s t : Text) → same s t ≡ true → s ≡ t
unfolding same
same_is [] [] e = refl
same_is [] (b ∷ t) e = let z : ◌≡◌ {A = ℕ} 0 1 = cc in absurd (omega arith)
same_is (a ∷ s) [] e = let z : ◌≡◌ {A = ℕ} 0 1 = cc in absurd (omega arith)
same_is (a ∷ s) (b ∷ t) e =
    let x : a ≡ b = eqb-true a b (left (eqb a b) (same s t) e) in
    let y : s ≡ t = same_is s t (right (eqb a b) (same s t) e) in
    cc

-- a number is given to the words of the list alone
hit : (k : ℕ) (ws : List Text) (n : Text) → (numbered k ws n ≡ 0) ⊎ ((j : ℕ) × (j < length ws) × (n ≡ get_or ws j []))
unfolding numbered
hit k [] n = inl refl
hit k (w ∷ ws) n = go (same w n) refl (hit (suc k) ws n)
  where
    go : (t : Bool) → same w n ≡ t → (numbered (suc k) ws n ≡ 0) ⊎ ((j : ℕ) × (j < length ws) × (n ≡ get_or ws j []))
        → (◌≡◌ {A = ℕ} (elim t as (λ u. ℕ) [ true ↦ k | false ↦ numbered (suc k) ws n ]) 0) ⊎ ((j : ℕ) × (j < suc (length ws)) × (n ≡ get_or (w ∷ ws) j []))
    go true e ih = inr (0, omega arith, sym (same_is w n e))
    go false e (inl z) = inl z
    go false e (inr z) = inr (suc z.0, (let h = z.1 in omega arith), z.2)

-- a name is no reserved word, or one that the test has found
which : (n : Text) → (0 ≡ word_of n) ⊎ ((k : ℕ) × Found k n)
unfolding word_of word
which n = go (hit 1 reserved n)
  where
    go : (numbered 1 reserved n ≡ 0) ⊎ ((j : ℕ) × (j < 28) × (n ≡ get_or reserved j [])) → (0 ≡ numbered 1 reserved n) ⊎ ((k : ℕ) × Found k n)
    go (inl e) = inl (sym e)
    go (inr z) = inr (1 + z.0, subst⁻¹ (Found (1 + z.0)) z.2 (word_found z.0 z.1))

fold_same : (l m : Text) (v w : ℕ) → length l ≡ length m → ((i : ℕ) → get_or l i 0 < 256) → ((i : ℕ) → get_or m i 0 < 256) → fold_of v l ≡ fold_of w m → (v ≡ w) × (l ≡ m)
unfolding fold_of
fold_same [] [] v w e f g h = (h, refl)
fold_same [] (b ∷ m) v w e f g h = let z : 0 ≡ suc (length m) = e in absurd (omega arith)
fold_same (a ∷ l) [] v w e f g h = let z : suc (length l) ≡ 0 = e in absurd (omega arith)
fold_same (a ∷ l) (b ∷ m) v w e f g h =
    let n : suc (length l) ≡ suc (length m) = e in
    let r = fold_same l m (v * 256 + a) (w * 256 + b) (omega arith) (λ i. f (suc i)) (λ i. g (suc i)) h in
    let x = r.0 in
    let y : l ≡ m = r.1 in
    let c = f 0 in
    let d = g 0 in
    let p : a ≡ b = omega arith in
    (omega arith, cc)

-- two bytes and the rest
whole : (n w : Text) → 2 ≤ length n → length n ≡ length w → byte_at n 0 ≡ byte_at w 0 → byte_at n 1 ≡ byte_at w 1 → drop 2 n ≡ drop 2 w → n ≡ w
whole [] w h e a b d = let z : 2 ≤ 0 = h in absurd (omega arith)
whole (x ∷ []) w h e a b d = let z : 2 ≤ 1 = h in absurd (omega arith)
whole (x ∷ y ∷ n) [] h e a b d = let z : suc (suc (length n)) ≡ 0 = e in absurd (omega arith)
whole (x ∷ y ∷ n) (u ∷ []) h e a b d = let z : suc (suc (length n)) ≡ 1 = e in absurd (omega arith)
whole (x ∷ y ∷ n) (u ∷ v ∷ w) h e a b d = let p : x ≡ u = a in let q : y ≡ v = b in let r : n ≡ w = d in cc

byte_small : (w : Text) (i : ℕ) → i < length w → ((i : ℕ) → get_or w i 0 < 256) → byte_at w i < 256
byte_small w i h f = rw (get_d_any w i 256 0 h) (f i)

drop_small : (w : Text) (k : ℕ) → ((i : ℕ) → get_or w i 0 < 256) → (i : ℕ) → get_or (drop k w) i 0 < 256
drop_small w k f i = rw (get_or-drop k w i 0) (f (k + i))

-- ---- what the tables say of a name, whichever it is

module _ (n : Text) where
  -- nothing in its slot
  pub not_in_slot : (k : ℕ) → k ≡ get_or slots (slot n) 0 → (get_or heads k 0 ≡ head n → get_or rests k 0 ≡ tail n → ⊥) → 0 ≡ word_of n
  not_in_slot k e h = go (which n)
    where
      go : (0 ≡ word_of n) ⊎ ((k : ℕ) × Found k n) → 0 ≡ word_of n
      go (inl z) = z
      go (inr z) =
          let f = z.1 in
          let p : z.0 ≡ k = sym f.at_slot ∙ sym e in
          absurd (h (subst (λ (x : ℕ). get_or heads x 0 ≡ head n) p f.at_head) (subst (λ (x : ℕ). get_or rests x 0 ≡ tail n) p f.at_tail))

  -- too short or too long
  pub not_so_long : (2 ≤ length n → length n ≤ 10 → ⊥) → 0 ≡ word_of n
  not_so_long h = go (which n)
    where
      go : (0 ≡ word_of n) ⊎ ((k : ℕ) × Found k n) → 0 ≡ word_of n
      go (inl z) = z
      go (inr z) = absurd (h z.1.two z.1.ten)

  -- the word in its slot
  pub in_slot : 2 ≤ length n → ((i : ℕ) → get_or n i 0 < 256) → (k : ℕ) → k ≡ get_or slots (slot n) 0 → get_or heads k 0 ≡ head n → get_or rests k 0 ≡ tail n → k ≡ word_of n
  unfolding heads
  in_slot two small k e h r = go k (subst⁻¹ (λ (x : ℕ). x < 29) e (below_at 29 slots slots_below (omega arith) (slot n))) h r
    where
      go : (k : ℕ) → k < 29 → get_or heads k 0 ≡ head n → get_or rests k 0 ≡ tail n → k ≡ word_of n
      go zero l h r = let z : 0 ≡ head n = h in absurd (omega arith)
      go (suc j) l h r =
          let f : Found (1 + j) (word j) = word_found j (omega arith) in
          let s : 1 + j ≡ suc j = omega arith in
          let g : head n ≡ head (word j) = sym h ∙ ap (λ (x : ℕ). get_or heads x 0) (sym s) ∙ f.at_head in
          let t : tail n ≡ tail (word j) = sym r ∙ ap (λ (x : ℕ). get_or rests x 0) (sym s) ∙ f.at_tail in
          let w2 : 2 ≤ length (word j) = f.two in
          let a0 = byte_small n 0 (omega arith) small in
          let a1 = byte_small n 1 (omega arith) small in
          let b0 = byte_small (word j) 0 (omega arith) f.small in
          let b1 = byte_small (word j) 1 (omega arith) f.small in
          let m : length n ≡ length (word j) = omega arith in
          let p : byte_at n 0 ≡ byte_at (word j) 0 = omega arith in
          let q : byte_at n 1 ≡ byte_at (word j) 1 = omega arith in
          let x = length-drop 2 n in
          let y = length-drop 2 (word j) in
          let d : length (drop 2 n) ≡ length (drop 2 (word j)) = omega arith in
          let u = (fold_same (drop 2 n) (drop 2 (word j)) 0 0 d (drop_small n 2 small) (drop_small (word j) 2 f.small) t).1 in
          sym s ∙ sym f.at_word ∙ ap word_of (sym (whole n (word j) two m p q u))

-- ---- the name that stands from one offset to another

module _ (s : Text) (from to : ℕ) (h : from ≤ to) (l : to ≤ length s) where
  part_drop : (k : ℕ) → from + k ≤ to → drop k (part s from to) ≡ part s (from + k) to
  part_drop k g =
      ap (λ (n : ℕ). drop k (take n (drop from s))) (let z : to - from ≡ k + (to - (from + k)) = omega arith in z)
      ∙ drop_take k (to - (from + k)) (drop from s)
      ∙ ap (take (to - (from + k))) (drop-drop k from s)

  module _ (a b : ℕ) (x : ByteOf s from a) (y : ByteOf s (from + 1) b) (two : 2 ≤ to - from) where
    first_two : (byte_at (part s from to) 0 ≡ a) × (byte_at (part s from to) 1 ≡ b) × (length (part s from to) ≡ to - from)
    first_two = (
      part_byte s from to 0 (omega arith) ∙ ap (byte_at s) (let z : from + 0 ≡ from = omega arith in z) ∙ sym x.is,
      part_byte s from to 1 (omega arith) ∙ sym y.is,
      part_length s from to h l,
    )

    slot_is : slot (part s from to) ≡ slot_of (to - from) a b
    slot_is = ap (λ (n : ℕ). slot_of n (byte_at (part s from to) 0) (byte_at (part s from to) 1)) first_two.2 ∙ ap (λ (n : ℕ). slot_of (to - from) n (byte_at (part s from to) 1)) first_two.0 ∙ ap (slot_of (to - from) a) first_two.1

    head_is : head (part s from to) ≡ head_of (to - from) a b
    head_is = ap (λ (n : ℕ). head_of n (byte_at (part s from to) 0) (byte_at (part s from to) 1)) first_two.2 ∙ ap (λ (n : ℕ). head_of (to - from) n (byte_at (part s from to) 1)) first_two.0 ∙ ap (head_of (to - from) a) first_two.1

    tail_is : tail (part s from to) ≡ fold_of 0 (part s (from + 2) to)
    tail_is = ap (fold_of 0) (part_drop 2 (omega arith))

    -- another word's head, no word at all, or another's rest
    pub other_head : (k g : ℕ) → k ≡ get_or slots (slot_of (to - from) a b) 0 → g ≡ get_or heads k 0 → (g ≡ head_of (to - from) a b → ⊥) → 0 ≡ word_of (part s from to)
    other_head k g e f n = not_in_slot (part s from to) k (e ∙ ap (λ (i : ℕ). get_or slots i 0) (sym slot_is)) (λ p q. n (f ∙ p ∙ head_is))

    pub empty_slot : (k : ℕ) → k ≡ get_or slots (slot_of (to - from) a b) 0 → k ≡ 0 → 0 ≡ word_of (part s from to)
    unfolding heads
    empty_slot k e z = other_head k 0 e (ap (λ (i : ℕ). get_or heads i 0) (sym z)) (λ h. omega arith)

    pub other_rest : (k g t : ℕ) → k ≡ get_or slots (slot_of (to - from) a b) 0 → g ≡ get_or rests k 0 → t ≡ fold_of 0 (part s (from + 2) to) → (g ≡ t → ⊥) → 0 ≡ word_of (part s from to)
    other_rest k g t e f d n = not_in_slot (part s from to) k (e ∙ ap (λ (i : ℕ). get_or slots i 0) (sym slot_is)) (λ p q. n (f ∙ q ∙ tail_is ∙ sym d))

    -- the word
    pub the_word : ((i : ℕ) → get_or s i 0 < 256) → (k g r t : ℕ) → k ≡ get_or slots (slot_of (to - from) a b) 0 → g ≡ get_or heads k 0 → g ≡ head_of (to - from) a b → r ≡ get_or rests k 0 → t ≡ fold_of 0 (part s (from + 2) to) → r ≡ t → k ≡ word_of (part s from to)
    the_word small k g r t e f m q d n =
        in_slot (part s from to) (let z = first_two.2 in omega arith) (part_bytes s from to small) k (e ∙ ap (λ (i : ℕ). get_or slots i 0) (sym slot_is)) (sym f ∙ m ∙ sym head_is) (sym q ∙ n ∙ d ∙ sym tail_is)

  pub too_short : to - from < 2 → 0 ≡ word_of (part s from to)
  too_short g = not_so_long (part s from to) (λ p q. let z = part_length s from to h l in omega arith)

  pub too_long : 10 < to - from → 0 ≡ word_of (part s from to)
  too_long g = not_so_long (part s from to) (λ p q. let z = part_length s from to h l in omega arith)
