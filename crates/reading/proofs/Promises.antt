-- THE PROMISES of a reading, for any grammar. Read this page first: each theorem is said in document 01's words, and its proof is one
-- citation. What the words mean stands in Events, Limits, Process, Answers, Demands, Suits, Entry and Says. Assumes nothing.
use Rattle.std.specs.Prelude.{◌≡◌, ◌↔◌, [], true, false, ℕ, ◌≤◌}
use Rattle.std.proofs.Math.Path.{ap}
use Rattle.characters.specs.declared.place.Place.{Place}
use Rattle.characters.specs.Refusals.{number_of}
use Rattle.reading.specs.declared.answer.Answer.{Answer}
use Rattle.reading.specs.Outs.{Out}
use Rattle.reading.specs.Events.{Which, Crossed, records_of, comparisons_of, start}
use Rattle.reading.specs.Limits.{Limits, limited, cut}
use Rattle.reading.specs.Process.{Process, Grammar, reading, unlimited}
use Rattle.reading.specs.Answers.{refusal_of, answer_of, answer_from}
use Rattle.reading.specs.Demands.{Below, Grows, Inside, Crosses, Counted, AllEarlier}
use Rattle.reading.specs.Suits.{Choice, AllFine, Suits, Proper}
use Rattle.reading.specs.Entry.{Opening, permitted, nowhere, opened, entry}
use Rattle.reading.specs.Says.{Layout, Calls}
use Rattle.reading.proofs.Laws.Exact as Exact
use Rattle.reading.proofs.Laws.Unlimited as Unlimited
use Rattle.reading.proofs.Laws.Entry as Entry
use Rattle.reading.proofs.Laws.Says as Says

-- An answer given before reading: "with both counts 0".
abbrev pub before_reading : ℕ → Place → Answer
before_reading number p = record { number = number; line = p.line; column = p.column; records = 0; comparisons = 0 }

-- OF ANY GRAMMAR

-- BETWEEN. Of two readings, the second's limits each at least the first's, the first is the second, stopped at the first event that
-- is over one of the first's limits.
pub between : {N : Type 0} (G : Grammar N) (P : Process N) (L L' : Limits) → Below L L' → reading G L P ≡ cut L start (reading G L' P)
between G P L L' b = Exact.exact L L' b G P

module _ {N : Type 0} (G : Grammar N) (P : Process N) (o : Opening) where
  -- "1, 2, 3 are checked in that order, before reading, with both counts 0." "Refusals 1 and 2 give 0:0; refusal 3 gives the place
  -- after the well-formed prefix."
  pub one : (L : Limits) → o.short ≡ false → answer_of (entry G P o L) ≡ before_reading 1 nowhere
  unfolding records_of comparisons_of
  one L s = ap answer_of (Entry.entry_long G P o L s)

  pub two : (L : Limits) → o.short ≡ true → permitted L ≡ false → answer_of (entry G P o L) ≡ before_reading 2 nowhere
  unfolding records_of comparisons_of
  two L s n = ap answer_of (Entry.entry_nesting G P o L s n)

  pub three : (L : Limits) → o.short ≡ true → permitted L ≡ true → o.sound ≡ false
      → answer_of (entry G P o L) ≡ before_reading 3 o.prefix
  unfolding records_of comparisons_of
  three L s n u = ap answer_of (Entry.entry_unsound G P o L s n u)

  -- Else the call is the reading.
  pub opens : (L : Limits) → o.short ≡ true → permitted L ≡ true → o.sound ≡ true → entry G P o L ≡ reading G L P
  opens L s n u = Entry.entry_open G P o L s n u

  -- COUNTS. The counts answered are the numbers of records and comparisons made, and none passes its limit; nor does the deepest
  -- level entered.
  pub counts : (L : Limits) → Counted L (entry G P o L)
  counts L = Entry.entry_counted G P o L

  -- LIMITS (demand 3). Of two calls with one text, the second's limits each at least the first's: the first's records open the
  -- second's, no count falls, and an answer that no limit gave is the second's too.
  pub limits : (L L' : Limits) → permitted L ≡ true → permitted L' ≡ true → Below L L' → Grows (entry G P o L) (entry G P o L')
  limits L L' n n' b = Entry.entry_grows G P o L L' n n' b

  -- The same by its number: an answer that is not 5, 6 or 7 never changes.
  pub kept : (L L' : Limits) → permitted L ≡ true → permitted L' ≡ true → Below L L'
      → ((w : Which) → (answer_of (entry G P o L)).number ≡ number_of (refusal_of w) → ⊥) → entry G P o L ≡ entry G P o L'
  kept L L' n n' b h = Entry.entry_kept G P o L L' n n' b h

  -- DETERMINED. What an entry owes determines its answer and every word of the pool, refused calls too.
  pub determined : {M : Type 0} (w : Layout M) (nest cap comps : ℕ) (r r' : Out) (A B B' : M) → Calls w G P o nest cap comps r A B
      → Calls w G P o nest cap comps r' A B'
      → (r ≡ r') × (B ≡ B')
  determined w nest cap comps r r' A B B' s s' = Says.says_unique w (entry G P o (limited nest cap comps)) start r r' A B B' s.says s'.says

  -- It is what the caller is told.
  pub told : {M : Type 0} (w : Layout M) (nest cap comps : ℕ) (r : Out) (A B : M) → Calls w G P o nest cap comps r A B
      → answer_from r ≡ answer_of (entry G P o (limited nest cap comps))
  told w nest cap comps r A B s = Says.says_answer w (entry G P o (limited nest cap comps)) r A B s.says

-- OF A GRAMMAR THAT SUITS
module _ {N : Type 0} (G : Grammar N) (C : Choice N) (P : Process N) (bound : ℕ) (S : Suits G C P bound) where
  -- ENDS. Its unlimited reading has read all, or a rule refused: no limit did, and no loop ran out.
  pub ends : Proper (unlimited G P bound).end
  ends = Unlimited.unlimited_proper G C P bound S

  -- STABLE. More levels change nothing: it is unlimited.
  pub stable : (more : ℕ) → bound ≤ more → unlimited G P bound ≡ unlimited G P more
  stable more h = Unlimited.unlimited_stable G C P bound S more h

  -- WHOLE. A reading is the unlimited one exactly where that stays within the limits.
  pub whole : (L : Limits) → (reading G L P ≡ unlimited G P bound) ↔ Inside L start (unlimited G P bound).events
  whole L = Unlimited.unlimited_whole G C P bound S L

  module _ (o : Opening) where
    -- EXACT (demand 2). A call is the unlimited reading, stopped at the first event that is over a limit.
    pub exact : (L : Limits) → entry G P o L ≡ opened o L (cut L start (unlimited G P bound))
    exact L = Entry.entry_exact G C P bound S o L

    -- EXACTLY (demand 3). 5, 6 and 7 are given exactly where the unlimited reading crosses that limit, before it crosses another
    -- and before it stops otherwise,
    pub exactly : (L : Limits) (w : Which) → o.short ≡ true → permitted L ≡ true → o.sound ≡ true
        → ((answer_of (entry G P o L)).number ≡ number_of (refusal_of w)) ↔ ((p : Place) × Crosses L start (unlimited G P bound).events w p)
    exactly L w s n u = Entry.entry_exactly G C P bound S o L w s n u

    -- and at that place.
    pub crossed : (L : Limits) (w : Which) (p : Place) → o.short ≡ true → permitted L ≡ true → o.sound ≡ true
        → ((entry G P o L).end ≡ Crossed w p) ↔ Crosses L start (unlimited G P bound).events w p
    crossed L w p s n u = Entry.entry_crossed G C P bound S o L w p s n u

    -- "A record refers only to earlier ones", in every call, refused ones too;
    pub earlier : (L : Limits) → AllEarlier 0 (records_of (entry G P o L).events)
    earlier L = Entry.entry_earlier G C P bound S o L

    -- and whatever the grammar shows of a record after those before it holds of each.
    pub fine : (L : Limits) → AllFine C [] (records_of (entry G P o L).events)
    fine L = Entry.entry_fine G C P bound S o L
