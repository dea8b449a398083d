-- The readers' contracts, over what is read and the records being made. Assumes nothing.
use Rattle.std.specs.Prelude.{Result, ℕ}
use Rattle.characters.specs.declared.place.Place.{Place}
use Rattle.characters.specs.declared.refusal.Refused.{Refused}
use Rattle.reading.specs.Gots.{got_of}
use Rattle.records.specs.declared.book.Book.{Book}
use Rattle.grammar.specs.Expressions.{Rule}
use Rattle.grammar.specs.Reads.{Ready, Reads}
use Rattle.makers.specs.declared.answers.Items.{Items}
use Rattle.makers.specs.declared.answers.Part.{Part}
use Rattle.makers.specs.Answers.Items.{items_by}
use Rattle.makers.specs.Answers.Part.{part_by}
use Rattle.makers.specs.Duties.{Begun, Lists, Parts}
use Rattle.readers.specs.declared.cycle.Reader.{Reader}

-- what a reader is called with, and one that goes on from the last record made
abbrev pub MayRead : Reader → Book → Place → Type 0
MayRead r b at = Ready r.text.now b.pool.now r.cap at b.tally

abbrev pub MayGoOn : Reader → Book → Place → Type 0
MayGoOn r b at = Begun r.text.now b.pool.now r.cap at b.tally

-- THE CONTRACT of a reader: its rule determines the answer, the tally and every word of the pool. `from` is what the answer has reached
abbrev pub Reading : Reader → Book → ℕ → Place → Rule → Result Place Refused → Book → Type 0
Reading r old left from P res new = Reads r.text.now r.cap r.comps left from old.tally P (got_of res new.tally) old.pool.now new.pool.now

-- of a reader of lists
abbrev pub ReadingList : Reader → Book → ℕ → Place → Rule → Result Items Refused → Book → Type 0
ReadingList r old left from P res new = Lists r.text.now r.cap r.comps left from old.tally P (items_by res new.tally) old.pool.now new.pool.now

-- and of a reader of a part that may be left out
abbrev pub ReadingPart : Reader → Book → ℕ → Place → Rule → Result Part Refused → Book → Type 0
ReadingPart r old left from P res new = Parts r.text.now r.cap r.comps left from old.tally P (part_by res new.tally) old.pool.now new.pool.now
