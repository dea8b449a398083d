-- THE CONTRACT of the public entries, and the unlimited reading that they are held to. Assumes nothing.
use Rattle.std.specs.Prelude.{◌≡◌, Bool, false, List, ℕ, ◌*◌, ◌≤◌, length, take}
use Rattle.characters.specs.Text.{Text}
use Rattle.characters.specs.Refusals.{number_of}
use Rattle.reading.specs.declared.answer.Answer.{Answer}
use Rattle.reading.specs.Events.{Rec, Which, End, Done, Stop, Crossed, Spent, Outcome, records_of}
use Rattle.reading.specs.Process.{unlimited}
use Rattle.reading.specs.Answers.{refusal_of, answer_of}
use Rattle.reading.specs.Says.{laid}
use Rattle.records.specs.Rows.{width, layout, cap_of}
use Rattle.grammar.specs.Grammar.{grammar}
use Rattle.grammar.specs.Units.{unit_p, start_of, full}
use Rattle.unit.specs.Suits.Units.{enough_levels}

-- What a call is, by the pool that it is lent. "The record limit is the number of whole records in the pool, at most 65,535."
abbrev pub call_of : Text → List ℕ → ℕ → ℕ → Bool → Outcome
call_of s pool nest comps file = full s (cap_of (length pool)) nest comps file

-- The records that it makes.
abbrev pub records_by : Text → List ℕ → ℕ → ℕ → Bool → List Rec
records_by s pool nest comps file = records_of (call_of s pool nest comps file).events

-- ENTERS: what an entry owes that was lent the pool `before`, answers r and leaves the pool `later`. "The full entry takes text, pool, nesting
-- limit (1 to 256), comparison limit (any u32) and a mark."
pub record Enters (s : Text) (nest comps : ℕ) (file : Bool) (r : Answer) (before later : List ℕ) : Type 0 where
  pub answer : r ≡ answer_of (call_of s before nest comps file)
  pub pool : later ≡ laid layout before 0 (records_by s before nest comps file)

-- What the short entry owes: "string form, nesting 64 and 100,000 comparisons".
abbrev pub EntersShort : Text → Answer → List ℕ → List ℕ → Type 0
EntersShort s r before later = Enters s 64 100000 false r before later

-- THE UNLIMITED READING of a unit: "the same one with no limit behind 5, 6 and 7".
abbrev pub unlimited_unit : Text → Bool → Outcome
unlimited_unit s file = unlimited (grammar s) (unit_p s (start_of file s)) (enough_levels s)

-- An ending that 01 has a number for: every one but that of a loop that ran out of turns.
abbrev pub Told : End → Type 0
Told (Done p n) = Unit
Told (Stop k p) = Unit
Told (Crossed w p) = Unit
Told (Spent p) = ⊥

-- What a call with higher limits, lent a longer pool, keeps of the answer and the pool of a first.
pub record Raised (r r' : Answer) (later later' : List ℕ) : Type 0 where
  pub same : ((w : Which) → r.number ≡ number_of (refusal_of w) → ⊥) → r ≡ r'  -- an answer that is not 5, 6 or 7 never changes
  pub no_fewer_records : r.records ≤ r'.records
  pub no_fewer_comparisons : r.comparisons ≤ r'.comparisons
  pub words : take (r.records * width) later ≡ take (r.records * width) later'  -- the words of the first's records are the second's
