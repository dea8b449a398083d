-- The unlimited reading of a grammar that suits, and where it stands to the readings with limits: each of them is its cut.
-- Assumes nothing.
use Rattle.std.specs.Prelude.{◌≡◌, ◌⊎◌, ◌↔◌, Bool, true, false, ◌||◌, T, leb, eqb, length}
use Rattle.std.proofs.Math.Path.{refl, ap}
use Rattle.std.proofs.Common.{sym, subst, ◌∙◌, inl, inr, arith, length-append, leb-true, eqb-true}
use mathlib.Core.List.{List, [], ◌∷◌, ◌++◌}
use Prim.Native.Nat.{ℕ, ◌+◌, ◌≤◌}
use Rattle.characters.specs.declared.place.Place.{Place}
use Rattle.characters.specs.declared.refusal.Refusal.{Refusal}
use Rattle.characters.specs.Refusals.{number_of}
use Rattle.reading.specs.Events.{Rec, Event, Which, levels, records, comparisons, End, Done, Stop, Crossed, Spent, Outcome, records_of, start}
use Rattle.reading.specs.Limits.{Limits, free, cut}
use Rattle.reading.specs.Process.{Process, Grammar, outside, reading, unlimited}
use Rattle.reading.specs.Answers.{refusal_of, end_number}
use Rattle.reading.specs.Demands.{by_limit, Inside, Crosses, AllEarlier}
use Rattle.reading.specs.Suits.{proper, Choice, AllFine, Suits, Proper}
use Rattle.reading.proofs.Laws.Exact.{below_free, exact}
use Rattle.reading.proofs.Laws.Grows.{Agree, cut_agrees, records_append, reading_grows}
use Rattle.reading.proofs.Laws.Crosses.{cut_inside, cut_exactly}
use Rattle.reading.proofs.Laws.Counts.{reading_inside}
use Rattle.reading.proofs.Laws.Suits.{Ends, Holds, fine_open, whole_meets}

-- A proper refusal has no limit's number.
proper_number : (k : Refusal) → T (proper k) → (number_of k ≡ 4) ⊎ (10 ≤ number_of k)
proper_number k = go (eqb (number_of k) 4) (leb 10 (number_of k)) (eqb-true (number_of k) 4) (leb-true 10 (number_of k))
  where
    go : (a b : Bool) → (a ≡ true → number_of k ≡ 4) → (b ≡ true → 10 ≤ number_of k) → T (a || b) → (number_of k ≡ 4) ⊎ (10 ≤ number_of k)
    go true b x y h = inl (x refl)
    go false true x y h = inr (y refl)
    go false false x y h = absurd h

limit_number : (w : Which) → (5 ≤ number_of (refusal_of w)) × (number_of (refusal_of w) ≤ 7)
limit_number levels = omega arith
limit_number records = omega arith
limit_number comparisons = omega arith

limit_same : (v w : Which) → number_of (refusal_of v) ≡ number_of (refusal_of w) → v ≡ w
limit_same levels levels h = refl
limit_same levels records h = absurd (omega arith)
limit_same levels comparisons h = absurd (omega arith)
limit_same records levels h = absurd (omega arith)
limit_same records records h = refl
limit_same records comparisons h = absurd (omega arith)
limit_same comparisons levels h = absurd (omega arith)
limit_same comparisons records h = absurd (omega arith)
limit_same comparisons comparisons h = refl

-- An ending that is proper or a limit's, with a limit's number, is that limit's.
number_crossed : (e : End) (w : Which) → Proper e ⊎ (by_limit e ≡ true) → end_number e ≡ number_of (refusal_of w)
    → (p : Place) × (e ≡ Crossed w p)
number_crossed (Done p n) w c h = let l = limit_number w in absurd (omega arith)
number_crossed (Stop k p) w (inl c) h = absurd (go (proper_number k c) (limit_number w))
  where
    go : (number_of k ≡ 4) ⊎ (10 ≤ number_of k) → (5 ≤ number_of (refusal_of w)) × (number_of (refusal_of w) ≤ 7) → ⊥
    go (inl a) l = omega arith
    go (inr a) l = omega arith
number_crossed (Stop k p) w (inr c) h = let z : ◌≡◌ {A = ℕ} 0 1 = cc in absurd (omega arith)
number_crossed (Crossed v p) w c h = (p, ap (λ (x : Which). Crossed x p) (limit_same v w h))
number_crossed (Spent p) w (inl c) h = absurd c
number_crossed (Spent p) w (inr c) h = let z : ◌≡◌ {A = ℕ} 0 1 = cc in absurd (omega arith)

ends_proper : (now : List Rec) (e : End) → Ends now (λ now p n. Unit) e → Proper e
ends_proper now (Done p n) h = tt
ends_proper now (Stop k p) h = h
ends_proper now (Crossed w p) h = h
ends_proper now (Spent p) h = h

-- A proper ending is no limit's.
proper_free : (e : End) → Proper e → by_limit e ≡ false
proper_free (Done p n) h = refl
proper_free (Stop k p) h = refl
proper_free (Crossed w p) h = absurd h
proper_free (Spent p) h = refl

module _ {N : Type 0} (G : Grammar N) (C : Choice N) (P : Process N) (bound : ℕ) (S : Suits G C P bound) where
  unlimited_holds : Holds C [] (λ now p n. Unit) (unlimited G P bound).end (unlimited G P bound).events
  unfolding unlimited reading
  unlimited_holds = whole_meets C G S.rules bound bound outside P [] start (λ now p n. Unit) (omega arith) refl S.whole

  pub unlimited_proper : Proper (unlimited G P bound).end
  unlimited_proper = ends_proper ([] ++ records_of (unlimited G P bound).events) (unlimited G P bound).end unlimited_holds.ends

  unlimited_free : by_limit (unlimited G P bound).end ≡ false
  unlimited_free = proper_free (unlimited G P bound).end unlimited_proper

  pub unlimited_stable : (more : ℕ) → bound ≤ more → unlimited G P bound ≡ unlimited G P more
  unfolding unlimited
  unlimited_stable more h = (reading_grows G P (free bound) (free more) (below_free (free bound) more h)).same unlimited_free

  pub unlimited_exact : (L : Limits) → reading G L P ≡ cut L start (unlimited G P bound)
  unfolding unlimited
  unlimited_exact L =
      let more : ℕ = bound + L.levels in
      exact L (free more) (below_free L more (omega arith)) G P ∙ ap (cut L start) (sym (unlimited_stable more (omega arith)))

  -- It is the unlimited one itself exactly where that stays within the limits.
  pub unlimited_whole : (L : Limits) → (reading G L P ≡ unlimited G P bound) ↔ Inside L start (unlimited G P bound).events
  unlimited_whole L = (
    λ e. subst (λ (o : Outcome). Inside L start o.events) e (reading_inside G L P),
    λ i. unlimited_exact L ∙ cut_inside L start (unlimited G P bound) i,
  )

  pub unlimited_crossed : (L : Limits) (w : Which) (p : Place)
      → ((reading G L P).end ≡ Crossed w p) ↔ Crosses L start (unlimited G P bound).events w p
  unlimited_crossed L w p = rw (unlimited_exact L) (cut_exactly L start (unlimited G P bound) w p unlimited_free)

  read_agrees : (L : Limits) → Agree (reading G L P) (unlimited G P bound)
  read_agrees L = rw (unlimited_exact L) (cut_agrees L start (unlimited G P bound))

  -- A reading with limits ends properly, or by a limit.
  pub reading_ends : (L : Limits) → Proper (reading G L P).end ⊎ (by_limit (reading G L P).end ≡ true)
  reading_ends L = go (read_agrees L)
    where
      go : Agree (reading G L P) (unlimited G P bound) → Proper (reading G L P).end ⊎ (by_limit (reading G L P).end ≡ true)
      go (inl e) = inl (rw e unlimited_proper)
      go (inr h) = inr h.0

  pub number_exactly : (L : Limits) (w : Which)
      → (end_number (reading G L P).end ≡ number_of (refusal_of w)) ↔ ((p : Place) × Crosses L start (unlimited G P bound).events w p)
  number_exactly L w = (
    λ h. let c = number_crossed (reading G L P).end w (reading_ends L) h in (c.0, (unlimited_crossed L w c.0).0 c.1),
    λ c. ap end_number ((unlimited_crossed L w c.0).1 c.1),
  )

  -- Each record of each reading is fine.
  pub reading_fine : (L : Limits) → AllFine C [] (records_of (reading G L P).events)
  reading_fine L = go (read_agrees L)
    where
      go : Agree (reading G L P) (unlimited G P bound) → AllFine C [] (records_of (reading G L P).events)
      go (inl e) = rw e unlimited_holds.fine
      go (inr h) =
          let more : List Event = h.1.0 in
          let e : records_of (unlimited G P bound).events ≡ records_of (reading G L P).events ++ records_of more =
          ap records_of h.1.1 ∙ records_append (reading G L P).events more
          in
          fine_open C [] (records_of (reading G L P).events) (records_of more) (rw e at unlimited_holds.fine)

  fine_earlier : (before rs : List Rec) → AllFine C before rs → AllEarlier (length before) rs
  fine_earlier before [] h = tt
  fine_earlier before (r ∷ rs) h =
      let e : length (before ++ (r ∷ [])) ≡ length before + 1 = let l = length-append before (r ∷ []) in omega arith in
      (S.earlier before r h.0, rw e at (fine_earlier (before ++ (r ∷ [])) rs h.1))

  pub reading_earlier : (L : Limits) → AllEarlier 0 (records_of (reading G L P).events)
  reading_earlier L = fine_earlier [] (records_of (reading G L P).events) (reading_fine L)
