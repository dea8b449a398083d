-- Readings of the small grammar, by computation: an accepted unit, refusals 5, 6 and 7, a rule's own refusals, ids, and the unlimited
-- reading. Assumes nothing.
use Rattle.std.specs.Prelude.{◌≡◌, refl, [], ◌∷◌, ℕ, ◌+◌}
use Rattle.characters.specs.declared.place.Place.{Place}
use Rattle.characters.specs.Text.{ascii}
use Rattle.reading.specs.declared.answer.Answer.{Answer}
use Rattle.reading.specs.Events.{word, ref, records_of, comparisons_of, deepest}
use Rattle.reading.specs.Process.{unlimited}
use Rattle.reading.specs.Answers.{answer_of}
use Rattle.reading.specs.Trial.{row, grammar, unit, read}

abbrev says : ℕ → ℕ → ℕ → ℕ → ℕ → Answer
says number line column records comparisons = record { number = number; line = line; column = column; records = records; comparisons = comparisons }

-- A place in the first line.
abbrev at : ℕ → Place
at k = record { offset = k; line = 1; column = k + 1 }

-- Accepted: the set, the digit, an item for each and the unit; one comparison.
accepted : answer_of (read (ascii "{ab}(1)") 4 10 10) ≡ says 0 1 8 5 1
unfolding read records_of comparisons_of
accepted = refl

-- The empty text is a unit: one record.
nothing : answer_of (read [] 1 10 10) ≡ says 0 1 1 1 0
unfolding read records_of comparisons_of
nothing = refl

-- With one level, 5 where the second would begin; nothing is made in the brackets.
five : answer_of (read (ascii "{ab}(1)") 1 10 10) ≡ says 5 1 6 2 1
unfolding read records_of comparisons_of
five = refl

-- The level that 5 refuses is not entered.
shallow : deepest (read (ascii "{ab}(1)") 1 10 10).events ≡ 1
unfolding read deepest
shallow = refl

-- With two levels the same is accepted, and the second is the deepest.
deep : deepest (read (ascii "{ab}(1)") 2 10 10).events ≡ 2
unfolding read deepest
deep = refl

-- With three records, 6 at the fourth, where it would be made.
six : answer_of (read (ascii "{ab}(1)") 4 3 10) ≡ says 6 1 8 3 1
unfolding read records_of comparisons_of
six = refl

-- With two comparisons, 7 at the third: `c` is compared with `b` and `a`.
seven : answer_of (read (ascii "{abc}") 4 10 2) ≡ says 7 1 5 0 2
unfolding read records_of comparisons_of
seven = refl

-- A letter twice: `b` is compared with `c` and then with `b`, and the first is not looked at.
thirty : answer_of (read (ascii "{abcb}") 4 10 10) ≡ says 30 1 6 0 5
unfolding read records_of comparisons_of
thirty = refl

-- What has to be there is not; the text ends where something is looked for.
ten : answer_of (read (ascii "(1") 4 10 10) ≡ says 10 1 3 1 0
unfolding read records_of comparisons_of
ten = refl

nineteen : answer_of (read (ascii "(") 4 10 10) ≡ says 19 1 2 0 0
unfolding read records_of comparisons_of
nineteen = refl

-- The outer function has id 1 and the inner id 2, though the inner's record comes first.
ids : records_of (read (ascii "\\\\1") 4 10 10).events
    ≡ row 1 (at 2) (word 1 ∷ [])
    ∷ row 2 (at 1) (word 2 ∷ ref 1 ∷ [])
    ∷ row 2 (at 0) (word 1 ∷ ref 2 ∷ [])
    ∷ row 4 (at 0) (ref 3 ∷ ref 0 ∷ [])
    ∷ row 5 (at 0) (ref 4 ∷ [])
    ∷ []
unfolding read records_of
ids = refl

-- The unlimited reading gives what large limits give.
free_of_limits : answer_of (unlimited (grammar (ascii "{ab}(1)")) (unit (ascii "{ab}(1)")) 8) ≡ says 0 1 8 5 1
unfolding unlimited grammar unit records_of comparisons_of
free_of_limits = refl
