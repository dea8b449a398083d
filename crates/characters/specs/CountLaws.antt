-- Laws of runs of bytes: one byte leads to the next, a narrow class lies in a wider one. They serve a loop over any class, however many bytes a
-- turn of it looks at. Assumes nothing.
use Rattle.std.specs.Prelude.{◌≡◌, refl, Bool, true, false, not, [], ◌∷◌, ℕ, zero, suc, ◌+◌, ◌≤◌, ◌<◌, ltb, length, get_or, drop}
use Rattle.std.proofs.Common.{sym, ap, subst, ◌∙◌, arith, drop_of_length-le, length-drop, drop-cons, drop-drop, ltb-true, ltb-false}
use Rattle.std.proofs.lemmas.Bool.{not-true, not-false}
use Rattle.characters.specs.Text.{Text, byte_at}
use Rattle.characters.specs.PlaceLaws.{get_d_any}
use Rattle.characters.specs.Counts.{count_of, end_of}

pub count_yes : (f : ℕ → Bool) (b : ℕ) (l : Text) → f b ≡ true → count_of f (b ∷ l) ≡ suc (count_of f l)
unfolding count_of
count_yes f b l e = rw (e, count_of) refl

pub count_no : (f : ℕ → Bool) (b : ℕ) (l : Text) → f b ≡ false → count_of f (b ∷ l) ≡ 0
unfolding count_of
count_no f b l e = rw (e, count_of) refl

pub count_none : (f : ℕ → Bool) → count_of f [] ≡ 0
unfolding count_of
count_none f = refl

pub count_fits : (f : ℕ → Bool) (l : Text) → count_of f l ≤ length l
count_fits f [] = let z = count_none f in omega arith
count_fits f (b ∷ l) = go (f b) refl (count_fits f l)
  where
    go : (t : Bool) → f b ≡ t → count_of f l ≤ length l → count_of f (b ∷ l) ≤ suc (length l)
    go true e h = let z = count_yes f b l e in omega arith
    go false e h = let z = count_no f b l e in omega arith

-- a run of a class goes on with the run of a wider one
count_wider : (f g : ℕ → Bool) → ((b : ℕ) → g b ≡ true → f b ≡ true) → (l : Text) → count_of f l ≡ count_of g l + count_of f (drop (count_of g l) l)
count_wider f g h [] = rw (count_none g, count_none f) refl
count_wider f g h (b ∷ l) = go (g b) refl (count_wider f g h l)
  where
    go : (t : Bool) → g b ≡ t → count_of f l ≡ count_of g l + count_of f (drop (count_of g l) l) → count_of f (b ∷ l) ≡ count_of g (b ∷ l) + count_of f (drop (count_of g (b ∷ l)) (b ∷ l))
    go true e i = rw (count_yes g b l e, count_yes f b l (h b e)) (omega arith)
    go false e i = rw (count_no g b l e) (omega arith)

module _ (f : ℕ → Bool) (s : Text) where
  -- a run ends in the text
  pub end_inside : (o : ℕ) → o ≤ length s → end_of f s o ≤ length s
  end_inside o h = let z = count_fits f (drop o s) in let l = length-drop o s in omega arith

  -- what a loop along the run from `from` keeps at i: the run has the same end from there
  pub record In (from i : ℕ) : Type 0 where
    pub same : end_of f s i ≡ end_of f s from
    pub begun : from ≤ i
    pub inside : i ≤ length s

  pub run_starts : {from : ℕ} → from ≤ length s → In from from
  run_starts h = record { same = refl; begun = omega arith; inside = h }

  -- by what a test of the byte answered
  pub run_on : {from i : ℕ} {r : Bool} (j : ℕ) → In from i → r ≡ f (get_or s i 0) → not r ≡ false → j ≡ i + 1 → i < length s → In from j
  run_on {from} {i} j v t n e h =
      let a : count_of f (drop i s) ≡ suc (count_of f (drop (suc i) s)) = ap (count_of f) (drop-cons s i 0 h) ∙ count_yes f (get_or s i 0) (drop (suc i) s) (sym t ∙ not-false _ n) in
      let b : j ≡ suc i = omega arith in
      let w = v.same in
      let g : from ≤ i = v.begun in
      record { same = rw b (omega arith); begun = omega arith; inside = omega arith }

  -- so many bytes at once
  pub run_many : {from i : ℕ} (n : ℕ) → In from i → i + n ≤ length s → ((k : ℕ) → k < n → f (get_or s (i + k) 0) ≡ true) → In from (i + n)
  run_many {from} {i} zero v h all = subst (In from) (let z : i ≡ i + 0 = omega arith in z) v
  run_many {from} {i} (suc n) v h all = run_on (i + suc n) (run_many n v (omega arith) (λ k l. all k (omega arith))) (sym (all n (omega arith))) refl (omega arith) (omega arith)

  -- a loop that goes four bytes a turn: past the first ones of them
  module _ {from i : ℕ} (v : In from i) (room : i + 4 ≤ length s) (one : f (get_or s i 0) ≡ true) where
    pub past_one : In from (i + 1)
    past_one = run_on (i + 1) v (sym one) refl refl (omega arith)

    module _ (two : f (get_or s (i + 1) 0) ≡ true) where
      pub past_two : In from (i + 2)
      past_two = run_on (i + 2) past_one (sym two) refl (omega arith) (omega arith)

      module _ (three : f (get_or s (i + 2) 0) ≡ true) where
        pub past_three : In from (i + 3)
        past_three = run_on (i + 3) past_two (sym three) refl (omega arith) (omega arith)

        pub past_four : f (get_or s (i + 3) 0) ≡ true → In from (i + 4)
        past_four four = run_on (i + 4) past_three (sym four) refl (omega arith) (omega arith)

  pub run_ends : {from i : ℕ} {r : Bool} (j : ℕ) → In from i → r ≡ f (get_or s i 0) → not r ≡ true → j ≡ i → i < length s → j ≡ end_of f s from
  run_ends {from} {i} j v t n e h =
      let a : count_of f (drop i s) ≡ 0 = ap (count_of f) (drop-cons s i 0 h) ∙ count_no f (get_or s i 0) (drop (suc i) s) (sym t ∙ not-true _ n) in
      let w = v.same in
      omega arith

  pub run_out : {from i : ℕ} (j : ℕ) → In from i → j ≡ i → length s ≤ i → j ≡ end_of f s from
  run_out {from} {i} j v e h =
      let a : count_of f (drop i s) ≡ 0 = ap (count_of f) (drop_of_length-le s h) ∙ count_none f in
      let w = v.same in
      omega arith

  -- what holds where a run begins, and past a byte of it if it holds before, holds where the run ends
  module _ (P : ℕ → Type 0) (step : (i : ℕ) → i < length s → f (get_or s i 0) ≡ true → P i → P (i + 1)) where
    stay : (o : ℕ) → count_of f (drop o s) ≡ 0 → P o → P (end_of f s o)
    stay o z p = subst P (let e : o ≡ end_of f s o = omega arith in e) p

    go_along : (k o : ℕ) → length s ≤ o + k → P o → P (end_of f s o)
    go_along zero o h p = let l : length s ≤ o = omega arith in stay o (ap (count_of f) (drop_of_length-le s l) ∙ count_none f) p
    go_along (suc k) o h p = by (ltb o (length s)) refl (f (get_or s o 0)) refl (go_along k (o + 1) (omega arith))
      where
        by : (t : Bool) → ltb o (length s) ≡ t → (u : Bool) → f (get_or s o 0) ≡ u → (P (o + 1) → P (end_of f s (o + 1))) → P (end_of f s o)
        by false t u e later = stay o (ap (count_of f) (drop_of_length-le s (ltb-false o (length s) t)) ∙ count_none f) p
        by true t false e later = stay o (ap (count_of f) (drop-cons s o 0 (ltb-true o (length s) t)) ∙ count_no f (get_or s o 0) (drop (suc o) s) e) p
        by true t true e later =
            let l : o < length s = ltb-true o (length s) t in
            let a : count_of f (drop o s) ≡ suc (count_of f (drop (suc o) s)) = ap (count_of f) (drop-cons s o 0 l) ∙ count_yes f (get_or s o 0) (drop (suc o) s) e in
            let b : count_of f (drop (suc o) s) ≡ count_of f (drop (o + 1) s) = ap (λ (i : ℕ). count_of f (drop i s)) (let z : suc o ≡ o + 1 = omega arith in z) in
            subst P (let z : end_of f s (o + 1) ≡ end_of f s o = omega arith in z) (later (step o l e p))

    pub by_run : (o : ℕ) → P o → P (end_of f s o)
    by_run o p = go_along (length s) o (omega arith) p

  -- the bytes of a run are of its class
  pub run_bytes : (o j : ℕ) → o ≤ j → j < end_of f s o → (j < length s) × (f (byte_at s j) ≡ true)
  run_bytes o = by_run P step o (λ j h l. absurd (omega arith))
    where
      P : ℕ → Type 0
      P i = (j : ℕ) → o ≤ j → j < i → (j < length s) × (f (byte_at s j) ≡ true)

      step : (i : ℕ) → i < length s → f (get_or s i 0) ≡ true → P i → P (i + 1)
      step i h e p j k l = go (ltb j i) refl
        where
          go : (t : Bool) → ltb j i ≡ t → (j < length s) × (f (byte_at s j) ≡ true)
          go true t = p j k (ltb-true j i t)
          go false t =
              let m = ltb-false j i t in
              let z : j ≡ i = omega arith in
              (omega arith, ap (λ (x : ℕ). f (byte_at s x)) z ∙ ap f (get_d_any s i 256 0 h) ∙ e)

-- to the end of a run of a narrower class
pub run_over : (f g : ℕ → Bool) (s : Text) → ((b : ℕ) → g b ≡ true → f b ≡ true) → {from i e : ℕ} → In f s from i → e ≡ end_of g s i → In f s from e
run_over f g s h {from} {i} {e} v w =
    let a : count_of f (drop i s) ≡ count_of g (drop i s) + count_of f (drop (count_of g (drop i s)) (drop i s)) = count_wider f g h (drop i s) in
    let b : drop (count_of g (drop i s)) (drop i s) ≡ drop e s = drop-drop (count_of g (drop i s)) i s ∙ ap (λ (k : ℕ). drop k s) (sym w) in
    let c : count_of f (drop (count_of g (drop i s)) (drop i s)) ≡ count_of f (drop e s) = ap (count_of f) b in
    let x = v.same in
    let y : from ≤ i = v.begun in
    let z = end_inside g s i v.inside in
    record { same = omega arith; begun = omega arith; inside = omega arith }
