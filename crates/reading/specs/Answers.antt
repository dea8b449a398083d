-- What the caller is told: the number, the place and the counts of each ending and of each answer of the code. Assumes nothing.
use Rattle.std.proofs.Common.{◌≡◌, ℕ, length}
use Rattle.characters.specs.declared.place.Place.{Place}
use Rattle.characters.specs.declared.refusal.Refusal.{Refusal}
use Rattle.characters.specs.declared.refusal.Refusal.TheVariants.{TooDeep, PoolFull, TooManyComparisons}
use Rattle.characters.specs.Refusals.{number_of}
use Rattle.reading.specs.declared.tally.Tally.{Tally}
use Rattle.reading.specs.Outs.{Out, Read, Refused}
use Rattle.reading.specs.declared.answer.Answer.{Answer}
use Rattle.reading.specs.Events.{Which, levels, records, comparisons, End, Done, Stop, Crossed, Spent, Outcome, records_of, comparisons_of}

-- 5, 6, 7: the refusal of each limit.
abbrev pub refusal_of : Which → Refusal
refusal_of levels = TooDeep
refusal_of records = PoolFull
refusal_of comparisons = TooManyComparisons

-- The number of an ending: 0 is accepted. 9 is no number of 01: no reading of a grammar that suits has it.
abbrev pub end_number : End → ℕ
end_number (Done p n) = 0
end_number (Stop k p) = number_of k
end_number (Crossed w p) = number_of (refusal_of w)
end_number (Spent p) = 9

-- The place of an ending. "Accepted gives the final place."
abbrev pub end_place : End → Place
end_place (Done p n) = p
end_place (Stop k p) = p
end_place (Crossed w p) = p
end_place (Spent p) = p

-- "An answer is accepted or a refusal number, with line, column, records made and comparisons made."
abbrev pub answer_of : Outcome → Answer
answer_of o =
    record {
      number = end_number o.end;
      line = (end_place o.end).line;
      column = (end_place o.end).column;
      records = length (records_of o.events);
      comparisons = comparisons_of o.events;
    }

-- The number and the values of each case of the code's answer.
abbrev pub answer_from : Out → Answer
answer_from (Read p n t) = record { number = 0; line = p.line; column = p.column; records = t.records; comparisons = t.comparisons }
answer_from (Refused k p t) = record { number = number_of k; line = p.line; column = p.column; records = t.records; comparisons = t.comparisons }

-- The tally that an answer hands on.
abbrev pub tally_of : Out → Tally
tally_of (Read p n t) = t
tally_of (Refused k p t) = t

-- What the code answers for an ending, at the tally reached. A loop that ran out has no answer: code that answers shows that none did.
abbrev pub Tells : End → Tally → Out → Type 0
Tells (Done p n) t r = r ≡ Read p n t
Tells (Stop k p) t r = r ≡ Refused k p t
Tells (Crossed w p) t r = r ≡ Refused (refusal_of w) p t
Tells (Spent p) t r = ⊥
