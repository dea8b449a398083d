-- A small grammar to try the calculus with. It has each step of a process. Assumes nothing.
--   unit   expr, again and again, each with an item (kind 4: it, and the item before it), to the end of the text (kind 5: the last item)
--   expr   digit (kind 1) | '(' expr ')' | '\' expr (kind 2, with an id) | '{' letters '}' (kind 3; a letter twice is 30) | else 13
-- One level for each expr. Nothing is blank. What looks for a sign at the end of the text answers 19.
use Rattle.std.specs.Prelude.{ℕ, zero, suc, ◌+◌, ◌-◌, List, [], ◌∷◌, Bool, true, false, ◌&&◌, ltb, leb, eqb, length}
use Rattle.characters.specs.declared.place.Place.{Place}
use Rattle.characters.specs.declared.refusal.Refusal.TheVariants.{ExpectedToken, UnknownAtom, EndOfInput, Duplicate}
use Rattle.characters.specs.Text.{Text, byte_at, start as first}
use Rattle.characters.specs.Answers.{Looked, Must, failed, found, missing, taken}
use Rattle.reading.specs.Events.{Field, word, ref, Rec, Outcome}
use Rattle.reading.specs.Limits.{limited}
use Rattle.reading.specs.Process.{Process, done, stop, spent, make, compare, fresh, call, test, look, must, bind, Grammar, reading}

-- The place after a byte.
abbrev pub on : Place → Place
on p = record { offset = p.offset + 1; line = p.line; column = p.column + 1 }

-- A byte from low to high may be there.
abbrev pub seen : Bool → Bool → Place → Looked
seen true hit p = failed EndOfInput p
seen false true p = found p (on p)
seen false false p = missing p

unfoldable pub sign : Text → Place → ℕ → ℕ → Looked
sign s p low high =
    seen (leb (length s) p.offset) (leb low (byte_at s p.offset) && leb (byte_at s p.offset) high) p

-- This byte has to be there.
abbrev pub held : Bool → Place → Must
held true p = taken p (on p)
held false p = failed ExpectedToken p

unfoldable pub shut : Text → Place → ℕ → Must
shut s p b = held (eqb (byte_at s p.offset) b) p

-- The one routine that takes a level.
pub data Routine : Type 0 where
  expr : Routine

abbrev pub row : ℕ → Place → List Field → Rec
row k p fs = record { kind = k; position = p; fields = fs }

-- The turns of a loop: one more than the text has bytes, for each turn reads one.
abbrev pub turns : Text → ℕ
turns s = suc (length s)

-- A name against the earlier ones, newest first, up to the first equal.
unfoldable pub new_name : Place → ℕ → List ℕ → Process Routine → Process Routine
new_name p x [] next = next
new_name p x (y ∷ ys) next = bind (compare p) (λ q n. test (eqb x y) (stop Duplicate p) (new_name p x ys next))

-- The letters of a set whose '{' is at `from`, with so many turns left.
unfoldable pub letters : ℕ → Text → Place → List ℕ → Place → Process Routine
unfolding sign shut new_name
letters zero s from names p = spent p
letters (suc f) s from names p =
    look (sign s p 97 122)
    (λ h n. new_name n (byte_at s h.offset) names (letters f s from (byte_at s h.offset ∷ names) n))
    (λ h. must (shut s h 125) (λ q n. make n (row 3 from (word (length names) ∷ [])) 0))

-- What stands after '('.
unfoldable pub group : Text → Place → Process Routine
unfolding shut
group s p = bind (call expr p) (λ q n. must (shut s q 41) (λ h r. done r n))

-- What stands after the '\' at `from`.
unfoldable pub lambda : Place → Place → Process Routine
lambda from p = bind (fresh p) (λ q i. bind (call expr q) (λ r n. make r (row 2 from (word i.number ∷ ref n.number ∷ [])) 0))

unfoldable pub digit : Text → Place → Process Routine
unfolding sign
digit s p =
    look (sign s p 48 57)
    (λ h n. make n (row 1 h (word (byte_at s h.offset - 48) ∷ [])) (byte_at s h.offset - 48))
    (λ h. stop UnknownAtom h)

unfoldable pub grammar : Text → Grammar Routine
unfolding sign group lambda letters digit
grammar s expr p =
    look (sign s p 40 40) (λ h n. group s n)
    (λ h. look (sign s h 92 92) (λ h n. lambda h n)
    (λ h. look (sign s h 123 123) (λ h n. letters (turns s) s h [] n)
    (λ h. digit s h)))

-- The rest of the unit, with so many turns left and this last item.
unfoldable pub items : ℕ → Text → ℕ → Place → Process Routine
items zero s last p = spent p
items (suc f) s last p =
    test (ltb p.offset (length s))
    (bind (call expr p) (λ q n. bind (make q (row 4 p (ref n.number ∷ ref last ∷ [])) 0) (λ r i. items f s i.number r)))
    (make p (row 5 first (ref last ∷ [])) 0)

unfoldable pub unit : Text → Process Routine
unfolding items
unit s = items (turns s) s 0 first

-- The reading of a text: nesting limit, record limit, comparison limit.
unfoldable pub read : Text → ℕ → ℕ → ℕ → Outcome
unfolding reading grammar unit
read s nest cap comps = reading (grammar s) (limited nest cap comps) (unit s)
