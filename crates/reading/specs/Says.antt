-- What code owes that reads by a process: its answer, and the pool that it leaves. For any grammar, and any way in which a record is
-- laid into what holds the records. Laws/Says.antt and Laws/Does.antt have one law for each step of a process. Assumes nothing.
use Rattle.std.specs.Prelude.{◌≡◌, List, [], ◌∷◌, ℕ, ◌+◌, ◌-◌, ◌≤◌}
use Rattle.characters.specs.declared.place.Place.{Place}
use Rattle.reading.specs.declared.tally.Tally.{Tally}
use Rattle.reading.specs.Outs.{Out}
use Rattle.reading.specs.Events.{Rec, Outcome, records_of, start, steps}
use Rattle.reading.specs.Limits.{limited}
use Rattle.reading.specs.Process.{Process, Grammar, making, comparing, under, run}
use Rattle.reading.specs.Answers.{Tells}
use Rattle.reading.specs.Entry.{Opening, entry}

-- How a record is laid into the pool: the pool, the number of records before it, the record. M is what holds the records: the words of
-- one lent buffer, or of several.
abbrev pub Layout : Type 0 → Type 0
Layout M = M → ℕ → Rec → M

-- The pool after these records were laid over it, so many standing there before.
unfoldable pub laid : {M : Type 0} → Layout M → M → ℕ → List Rec → M
laid w pool made [] = pool
laid w pool made (r ∷ rs) = laid w (w pool made r) (made + 1) rs

-- SAYS: begun at tally t with the pool `before`, code whose reading is o answers r and leaves the pool `later`: the new records laid
-- over it, and nothing else changed.
pub record Says {M : Type 0} (w : Layout M) (o : Outcome) (t : Tally) (r : Out) (before later : M) : Type 0 where
  pub tells : Tells o.end (steps o.events t) r
  pub pool : later ≡ laid w before t.records (records_of o.events)

-- DOES: the contract of every routine of a reader, levelled or not: its process, said at whatever nesting limit it stands. Its level is
-- what the limit gives less what is left. So only the levels that are left decide, and an answer may also tell how few were left.
pub record Does {M N : Type 0} (w : Layout M) (G : Grammar N) (cap comps left : ℕ) (t : Tally) (P : Process N) (r : Out) (before later : M) : Type 0 where
  pub says : (nest : ℕ) → left ≤ nest
      → Says w (under (run G (limited nest cap comps) left (nest - left)) (limited nest cap comps) t P) t r before later

-- The contract of a leaf that makes one record; whatever the other limits, and for no grammar in particular.
pub record Makes {M : Type 0} (w : Layout M) (cap : ℕ) (t : Tally) (p : Place) (rec : Rec) (v : ℕ) (r : Out) (before later : M) : Type 0 where
  pub says : (nest comps : ℕ) → Says w (making (limited nest cap comps) t p rec v) t r before later

-- The contract of a leaf that counts one comparison. It touches no pool.
pub record Compares (comps : ℕ) (t : Tally) (p : Place) (r : Out) : Type 0 where
  pub tells : (nest cap : ℕ)
      → Tells (comparing (limited nest cap comps) t p).end (steps (comparing (limited nest cap comps) t p).events t) r

-- The contract of a public entry, refusals 1, 2 and 3 included.
pub record Calls {M N : Type 0} (w : Layout M) (G : Grammar N) (P : Process N) (o : Opening) (nest cap comps : ℕ) (r : Out) (before later : M) : Type 0 where
  pub says : Says w (entry G P o (limited nest cap comps)) start r before later
