-- The demands, of an entry: where 1, 2 or 3 is given nothing is read, and elsewhere the reading's laws hold. Assumes nothing.
use Rattle.std.specs.Prelude.{◌≡◌, refl, ◌↔◌, List, [], Bool, ◌&&◌, ℕ, ◌≤◌, ◌<◌, leb}
use Rattle.std.proofs.Math.Path.{ap}
use Rattle.std.proofs.Math.Bool.{true, false}
use Rattle.std.proofs.Common.{le-leb}
use Rattle.std.proofs.lemmas.Bool.{lt-leb}
use Rattle.characters.specs.declared.place.Place.{Place}
use Rattle.characters.specs.declared.refusal.Refusal.TheVariants.{TooLong, BadNesting, NotUtf8}
use Rattle.characters.specs.Refusals.{number_of}
use Rattle.reading.specs.Events.{Which, Rec, End, Done, Stop, Crossed, Spent, ended, records_of, start}
use Rattle.reading.specs.Limits.{Limits, cut}
use Rattle.reading.specs.Process.{Process, Grammar, reading, unlimited}
use Rattle.reading.specs.Answers.{refusal_of, end_number}
use Rattle.reading.specs.Demands.{Below, by_limit, Grows, Crosses, Counted, AllEarlier}
use Rattle.reading.specs.Suits.{Choice, AllFine, Suits}
use Rattle.reading.specs.Entry.{Opening, permitted, nowhere, gated, opened, entry}
use Rattle.reading.proofs.Laws.Grows.{grows_same, reading_grows}
use Rattle.reading.proofs.Laws.Counts.{reading_inside, inside_counted}
use Rattle.reading.proofs.Laws.Unlimited.{unlimited_exact, unlimited_crossed, number_exactly, reading_fine, reading_earlier}

pub permitted_by : (L : Limits) → 1 ≤ L.levels → L.levels ≤ 256 → permitted L ≡ true
permitted_by L a b = rw (le-leb 1 L.levels a, le-leb L.levels 256 b)

pub not_zero : (L : Limits) → L.levels < 1 → permitted L ≡ false
not_zero L h = rw (lt-leb 1 L.levels h)

pub not_over : (L : Limits) → 256 < L.levels → permitted L ≡ false
not_over L h = go (leb 1 L.levels) (lt-leb L.levels 256 h)
  where
    go : (b : Bool) → leb L.levels 256 ≡ false → (b && leb L.levels 256) ≡ false
    go true e = e
    go false e = refl

-- An answer that has no limit's number is no limit's.
not_limited : (e : End) → ((w : Which) → end_number e ≡ number_of (refusal_of w) → ⊥) → by_limit e ≡ false
not_limited (Done p n) h = refl
not_limited (Stop k p) h = refl
not_limited (Crossed w p) h = absurd (h w refl)
not_limited (Spent p) h = refl

module _ {N : Type 0} (G : Grammar N) (P : Process N) (o : Opening) where
  pub entry_long : (L : Limits) → o.short ≡ false → entry G P o L ≡ ended (Stop TooLong nowhere)
  unfolding entry
  entry_long L s = rw s

  pub entry_nesting : (L : Limits) → o.short ≡ true → permitted L ≡ false → entry G P o L ≡ ended (Stop BadNesting nowhere)
  unfolding entry
  entry_nesting L s n = rw (s, n)

  pub entry_unsound : (L : Limits) → o.short ≡ true → permitted L ≡ true → o.sound ≡ false
      → entry G P o L ≡ ended (Stop NotUtf8 o.prefix)
  unfolding entry
  entry_unsound L s n u = rw (s, n, u)

  pub entry_open : (L : Limits) → o.short ≡ true → permitted L ≡ true → o.sound ≡ true → entry G P o L ≡ reading G L P
  unfolding entry
  entry_open L s n u = rw (s, n, u)

  pub entry_grows : (L L' : Limits) → permitted L ≡ true → permitted L' ≡ true → Below L L' → Grows (entry G P o L) (entry G P o L')
  unfolding entry
  entry_grows L L' e e' b = go o.short o.sound (permitted L) (permitted L') e e'
    where
      go : (f u n n' : Bool) → n ≡ true → n' ≡ true
          → Grows (gated f n u o.prefix (reading G L P)) (gated f n' u o.prefix (reading G L' P))
      go false u n n' e e' = grows_same (ended (Stop TooLong nowhere))
      go true false n n' e e' = rw (e, e') (grows_same (ended (Stop NotUtf8 o.prefix)))
      go true true n n' e e' = rw (e, e') (reading_grows G P L L' b)

  pub entry_kept : (L L' : Limits) → permitted L ≡ true → permitted L' ≡ true → Below L L'
      → ((w : Which) → end_number (entry G P o L).end ≡ number_of (refusal_of w) → ⊥)
      → entry G P o L ≡ entry G P o L'
  entry_kept L L' n n' b h = (entry_grows L L' n n' b).same (not_limited (entry G P o L).end h)

  pub entry_counted : (L : Limits) → Counted L (entry G P o L)
  unfolding entry
  entry_counted L = go o.short (permitted L) o.sound
    where
      go : (f n u : Bool) → Counted L (gated f n u o.prefix (reading G L P))
      go false n u = inside_counted L (ended (Stop TooLong nowhere)) tt
      go true false u = inside_counted L (ended (Stop BadNesting nowhere)) tt
      go true true false = inside_counted L (ended (Stop NotUtf8 o.prefix)) tt
      go true true true = inside_counted L (reading G L P) (reading_inside G L P)

module _ {N : Type 0} (G : Grammar N) (C : Choice N) (P : Process N) (bound : ℕ) (S : Suits G C P bound) (o : Opening) where
  pub entry_exact : (L : Limits) → entry G P o L ≡ opened o L (cut L start (unlimited G P bound))
  unfolding entry
  entry_exact L = ap (opened o L) (unlimited_exact G C P bound S L)

  pub entry_crossed : (L : Limits) (w : Which) (p : Place) → o.short ≡ true → permitted L ≡ true → o.sound ≡ true
      → ((entry G P o L).end ≡ Crossed w p) ↔ Crosses L start (unlimited G P bound).events w p
  entry_crossed L w p s n u = rw (entry_open G P o L s n u) (unlimited_crossed G C P bound S L w p)

  pub entry_exactly : (L : Limits) (w : Which) → o.short ≡ true → permitted L ≡ true → o.sound ≡ true
      → (end_number (entry G P o L).end ≡ number_of (refusal_of w)) ↔ ((p : Place) × Crosses L start (unlimited G P bound).events w p)
  entry_exactly L w s n u = rw (entry_open G P o L s n u) (number_exactly G C P bound S L w)

  -- What holds of the records of a reading holds of a call's: before reading none is made.
  of_records : (F : List Rec → Type 0) → F [] → (L : Limits) → F (records_of (reading G L P).events) → F (records_of (entry G P o L).events)
  unfolding entry records_of
  of_records F none L all = go o.short (permitted L) o.sound
    where
      go : (f n u : Bool) → F (records_of (gated f n u o.prefix (reading G L P)).events)
      go false n u = none
      go true false u = none
      go true true false = none
      go true true true = all

  pub entry_earlier : (L : Limits) → AllEarlier 0 (records_of (entry G P o L).events)
  entry_earlier L = of_records (AllEarlier 0) tt L (reading_earlier G C P bound S L)

  pub entry_fine : (L : Limits) → AllFine C [] (records_of (entry G P o L).events)
  entry_fine L = of_records (AllFine C []) tt L (reading_fine G C P bound S L)
