-- THE PROMISES of a unit's reading: the demands on it, said in document 01's words, for every text, pool and limits. Read this page first: each
-- proof is one citation. What the words mean stands in Entries (the contract), Units and Grammar (the rules), in reading's Demands and in
-- records' Kinds, Rows and Meanings. crates/reading/proofs/Promises.antt has the same for any grammar. Assumes nothing.
use Rattle.std.specs.Prelude.{◌≡◌, refl, ◌↔◌, Bool, true, false, List, [], ◌++◌, ℕ, ◌*◌, ◌≤◌, ◌<◌, length, get_or, drop}
use Rattle.std.proofs.Common.{sym, ◌∙◌}
use Rattle.characters.specs.declared.place.Place.{Place}
use Rattle.characters.specs.Text.{Text}
use Rattle.characters.specs.Refusals.{number_of}
use Rattle.characters.specs.Utf8.{well_formed, prefix_place}
use Rattle.reading.specs.declared.answer.Answer.{Answer}
use Rattle.reading.specs.Events.{Which, Crossed, records_of, start}
use Rattle.reading.specs.Limits.{limited, cut}
use Rattle.reading.specs.Process.{unlimited}
use Rattle.reading.specs.Answers.{refusal_of, answer_of}
use Rattle.reading.specs.Demands.{Grows, Crosses, AllEarlier}
use Rattle.reading.specs.Suits.{Proper}
use Rattle.reading.specs.Entry.{nowhere, opened}
use Rattle.reading.proofs.Promises.{before_reading}
use Rattle.reading.specs.Says.{laid}
use Rattle.records.specs.Rows.{width, layout, cap_of, rows_of}
use Rattle.records.specs.Meanings.{AllMeant}
use Rattle.grammar.specs.Grammar.{grammar}
use Rattle.grammar.specs.Units.{unit_p, start_of, opening, full}
use Rattle.unit.specs.Suits.Units.{enough_levels}
use Rattle.unit.specs.Entries.{call_of, records_by, Enters, unlimited_unit, Told, Raised}
use Rattle.unit.specs.EntryLaws as Entry

-- ---- DEMAND 1: what a call answers is determined

module _ (s : Text) (nest comps : ℕ) (file : Bool) where
  -- Every text, pool and set of limits has an answer;
  pub answered : (A : List ℕ) → Enters s nest comps file (answer_of (call_of s A nest comps file)) A (laid layout A 0 (records_by s A nest comps file))
  answered A = record { answer = refl; pool = refl }

  -- and no second: the number, the place, both counts and every word of the pool are determined, of refused calls too.
  pub determined : {r r' : Answer} {A B B' : List ℕ} → Enters s nest comps file r A B → Enters s nest comps file r' A B' → (r ≡ r') × (B ≡ B')
  determined h h' = (h.answer ∙ sym h'.answer, h.pool ∙ sym h'.pool)

  module _ {r : Answer} {A B : List ℕ} (h : Enters s nest comps file r A B) where
    -- The pool holds the records made, row after row, and every other word is as it was.
    pub pool : B ≡ rows_of (records_by s A nest comps file) ++ drop (r.records * width) A
    pool = Entry.enters_pool h

    -- "Pool words past the records made stay untouched in every answer."
    pub untouched : (i : ℕ) → r.records * width ≤ i → get_or B i 0 ≡ get_or A i 0
    untouched i l = Entry.enters_past h i l

    pub as_long : length B ≡ length A
    as_long = Entry.enters_length h

    -- "The record limit is the number of whole records in the pool, at most 65,535": neither count passes its limit.
    pub within : (r.records ≤ cap_of (length A)) × (r.comparisons ≤ comps)
    within = Entry.enters_within h

module _ (s : Text) (cap nest comps : ℕ) (file : Bool) where
  -- "1, 2, 3 are checked in that order, before reading, with both counts 0."
  pub too_long : 65535 < length s → answer_of (full s cap nest comps file) ≡ before_reading 1 nowhere
  too_long l = Entry.full_long s cap nest comps file l

  pub bad_nesting : length s ≤ 65535 → ((1 ≤ nest) × (nest ≤ 256) → ⊥) → answer_of (full s cap nest comps file) ≡ before_reading 2 nowhere
  bad_nesting l n = Entry.full_nesting s cap nest comps file l n

  pub not_utf8 : length s ≤ 65535 → 1 ≤ nest → nest ≤ 256 → well_formed s ≡ false
      → answer_of (full s cap nest comps file) ≡ before_reading 3 (prefix_place s)
  not_utf8 l a b u = Entry.full_unsound s cap nest comps file l a b u

  -- Every other ending is 01's too: no loop of a rule runs out of turns.
  pub told : Told (full s cap nest comps file).end
  told = Entry.full_told s cap nest comps file

  -- ---- DEMAND 2: it is the unlimited reading, stopped at the first event that is over a limit

  pub exact : full s cap nest comps file ≡ opened (opening s) (limited nest cap comps) (cut (limited nest cap comps) start (unlimited_unit s file))
  exact = Entry.full_exact s cap nest comps file

  -- ---- RECORDS

  -- "A record refers only to earlier ones",
  pub earlier : AllEarlier 0 (records_of (full s cap nest comps file).events)
  earlier = Entry.full_earlier s cap nest comps file

  -- and each of its fields is what the table of kinds says: an expression's record, a statement's, a function's, a class's, an item's.
  pub meant : AllMeant [] (records_of (full s cap nest comps file).events)
  meant = Entry.full_meant s cap nest comps file

-- The unlimited reading has read the unit, or a rule refused it; and more levels change nothing.
pub ends : (s : Text) (file : Bool) → length s ≤ 65535 → Proper (unlimited_unit s file).end
ends s file l = Entry.unlimited_ends s file l

pub stable : (s : Text) (file : Bool) → length s ≤ 65535 → (more : ℕ) → enough_levels s ≤ more
    → unlimited_unit s file ≡ unlimited (grammar s) (unit_p s (start_of file s)) more
stable s file l more m = Entry.unlimited_stable s file l more m

-- ---- DEMAND 3: raising limits

module _ (s : Text) (cap cap' nest nest' comps comps' : ℕ) (file : Bool) (a : 1 ≤ nest) (b : nest ≤ nest') (c : nest' ≤ 256) (d : cap ≤ cap')
    (e : comps ≤ comps') where
  -- Of two calls with one text, the second's limits each at least the first's: the first's records open the second's, no count falls,
  pub limits : Grows (full s cap nest comps file) (full s cap' nest' comps' file)
  limits = Entry.full_grows s cap cap' nest nest' comps comps' file a b c d e

  -- and an answer that is not 5, 6 or 7 never changes.
  pub kept : ((w : Which) → (answer_of (full s cap nest comps file)).number ≡ number_of (refusal_of w) → ⊥)
      → full s cap nest comps file ≡ full s cap' nest' comps' file
  kept h = Entry.full_kept s cap cap' nest nest' comps comps' file a b c d e h

-- The same of what two calls leave, the second lent a pool as long or longer: the words of the first's records are the second's.
pub raised : {s : Text} {nest nest' comps comps' : ℕ} {file : Bool} {r r' : Answer} {A A' B B' : List ℕ} → 1 ≤ nest → nest ≤ nest' → nest' ≤ 256
    → length A ≤ length A' → comps ≤ comps' → Enters s nest comps file r A B → Enters s nest' comps' file r' A' B' → Raised r r' B B'
raised a b c d e h h' = Entry.enters_raised h a b c d e h'

module _ (s : Text) (cap nest comps : ℕ) (file : Bool) (l : length s ≤ 65535) (u : well_formed s ≡ true) (a : 1 ≤ nest) (b : nest ≤ 256) where
  -- 5, 6 and 7 are given exactly where the unlimited reading crosses that limit, before it crosses another and before it stops otherwise,
  pub exactly : (w : Which)
      → ((answer_of (full s cap nest comps file)).number ≡ number_of (refusal_of w))
      ↔ ((p : Place) × Crosses (limited nest cap comps) start (unlimited_unit s file).events w p)
  exactly w = Entry.full_exactly s cap nest comps file l u a b w

  -- and at that place.
  pub crossed : (w : Which) (p : Place)
      → ((full s cap nest comps file).end ≡ Crossed w p) ↔ Crosses (limited nest cap comps) start (unlimited_unit s file).events w p
  crossed w p = Entry.full_crossed s cap nest comps file l u a b w p
