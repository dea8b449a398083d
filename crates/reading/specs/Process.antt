-- What a grammar's rule does, as data, and the one interpreter that reads by it, with limits or without. Assumes nothing.
-- N is the type of the routines that take a level (expression, statement, ..): any type, so nothing here knows a grammar.
use Rattle.std.specs.Prelude.{ℕ, zero, suc, ◌+◌, List, ◌++◌, Bool, true, false, Err, Ok}
use Rattle.characters.specs.declared.place.Place.{Place}
use Rattle.characters.specs.declared.refusal.Refusal.{Refusal}
use Rattle.characters.specs.Answers.{Looked, Must, found, missing}
use Rattle.reading.specs.declared.node.Node.{Node}
use Rattle.reading.specs.declared.tally.Tally.{Tally}
use Rattle.reading.specs.Events.{Rec, Event, entered, recorded, compared, numbered, levels, End, Done, Stop, Crossed, Spent, Outcome, ended, cons, start, steps}
use Rattle.reading.specs.Limits.{Limits, free, guarded}

-- What a rule does. A rule never recurs through the grammar: it says `call`.
pub data Process (N : Type 0) : Type 0 where
  done : Place → Node → Process N  -- it has read up to here
  stop : Refusal → Place → Process N  -- it refuses
  spent : Place → Process N  -- its loop is out of turns; not a refusal of 01, and a grammar that suits never comes to it
  make : Place → Rec → ℕ → Process N  -- one record, made when this place is reached; the value is its node's
  compare : Place → Process N  -- one comparison is counted; what is compared is the rule's affair
  fresh : Place → Process N  -- the next id, as the number of the node answered
  call : N → Place → Process N  -- a routine, one level deeper
  test : Bool → Process N → Process N → Process N  -- if true the first, else the second
  look : Looked → (Place → Place → Process N) → (Place → Process N) → Process N  -- found, or missing, or a refusal
  must : Must → (Place → Place → Process N) → Process N  -- taken, or a refusal
  bind : Process N → (Place → Node → Process N) → Process N  -- one after the other

-- The rule of each routine, at each place.
abbrev pub Grammar : Type 0 → Type 0
Grammar N = N → Place → Process N

-- The node of the record with this number.
abbrev pub node_as : ℕ → Rec → ℕ → Node
node_as k r v = record { number = k; kind = r.kind; position = r.position; value = v }

-- The node of a record just made: its number is one more than the records before it.
abbrev pub node_of : Tally → Rec → ℕ → Node
node_of t r v = node_as (t.records + 1) r v

-- A number alone, with no record behind it.
abbrev pub plain : ℕ → Place → Node
plain k p = record { number = k; kind = 0; position = p; value = 0 }

unfoldable pub joined : Tally → End → List Event → (Place → Node → Tally → Outcome) → Outcome
unfolding steps
joined t (Done p n) es f = record { end = (f p n (steps es t)).end; events = es ++ (f p n (steps es t)).events }
joined t (Stop k p) es f = record { end = Stop k p; events = es }
joined t (Crossed w p) es f = record { end = Crossed w p; events = es }
joined t (Spent p) es f = record { end = Spent p; events = es }

-- One after the other: the second starts at the tally that the first's events lead to. A refusal keeps the events before it.
unfoldable pub after : Tally → Outcome → (Place → Node → Tally → Outcome) → Outcome
unfolding joined
after t o f = joined t o.end o.events f

-- One record, one comparison, one id. These name no grammar, so the leaves that write and count are stated by them.
abbrev pub making : Limits → Tally → Place → Rec → ℕ → Outcome
making L t p r v = guarded L t (recorded r p) (ended (Done p (node_of t r v)))

abbrev pub comparing : Limits → Tally → Place → Outcome
comparing L t p = guarded L t (compared p) (ended (Done p (plain 0 p)))

abbrev pub numbering : Limits → Tally → Place → Outcome
numbering L t p = guarded L t (numbered p) (ended (Done p (plain (t.ids + 1) p)))

-- THE INTERPRETER: a process from a tally on, given what is done a level deeper.
unfoldable pub under : {N : Type 0} → (N → Place → Tally → Outcome) → Limits → Tally → Process N → Outcome
unfolding guarded after
under sub L t (done p n) = ended (Done p n)
under sub L t (stop k p) = ended (Stop k p)
under sub L t (spent p) = ended (Spent p)
under sub L t (make p r v) = making L t p r v
under sub L t (compare p) = comparing L t p
under sub L t (fresh p) = numbering L t p
under sub L t (call nt p) = sub nt p t
under sub L t (test b x y) = elim b [ true ↦ under sub L t x | false ↦ under sub L t y ]
under sub L t (look l f g) =
    elim l [ found h n ↦ under sub L t (f h n) | missing h ↦ under sub L t (g h) | Err e ↦ ended (Stop e.refusal e.at) ]
under sub L t (must l f) = elim l [ Ok x ↦ under sub L t (f x.here x.next) | Err e ↦ ended (Stop e.refusal e.at) ]
under sub L t (bind x k) = after t (under sub L t x) (λ p n u. under sub L u (k p n))

-- A routine called at level d, with so many levels left: one more is entered, or 5 is given. "It is tested on entry."
unfoldable pub run : {N : Type 0} → Grammar N → Limits → ℕ → ℕ → N → Place → Tally → Outcome
unfolding under
run G L zero d nt p t = ended (Crossed levels p)
run G L (suc left) d nt p t = cons (entered (suc d) p) (under (run G L left (suc d)) L t (G nt p))

-- "The level is 0 outside."
abbrev pub outside : ℕ
outside = 0

-- THE READING of a whole text's process, with limits.
unfoldable pub reading : {N : Type 0} → Grammar N → Limits → Process N → Outcome
unfolding run
reading G L P = under (run G L L.levels outside) L start P

-- THE UNLIMITED READING: "the same one with no limit behind 5, 6 and 7". Its levels are a number that the grammar shows to be
-- enough (Suits.antt); any more change nothing (Promises.antt, `stable`).
unfoldable pub unlimited : {N : Type 0} → Grammar N → Process N → ℕ → Outcome
unfolding reading
unlimited G P bound = reading G (free bound) P
