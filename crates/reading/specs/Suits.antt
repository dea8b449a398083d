-- What a grammar has to show of itself: that its recursion ends, that its loops never run out, that it gives only refusals that are
-- a rule's to give, and that its records refer to earlier ones only. It is stated as what must hold before each step, so a grammar's
-- proof goes along its rules (Laws/Rules.antt has one law for each step). Assumes nothing.
use Rattle.std.specs.Prelude.{◌≡◌, List, [], ◌∷◌, ◌++◌, Bool, true, false, ◌||◌, ℕ, ◌+◌, ◌≤◌, ◌<◌, T, leb, eqb, length, Err, Ok}
use Rattle.characters.specs.declared.place.Place.{Place}
use Rattle.characters.specs.declared.refusal.Refusal.{Refusal}
use Rattle.characters.specs.Refusals.{number_of}
use Rattle.characters.specs.Answers.{found, missing}
use Rattle.reading.specs.declared.node.Node.{Node}
use Rattle.reading.specs.Events.{Rec, Earlier, End, Done, Stop, Crossed, Spent}
use Rattle.reading.specs.Process.{Process, done, stop, spent, make, compare, fresh, call, test, look, must, bind, Grammar, node_as, plain}

-- The refusals that a rule may give: 4, and 10 on. 1, 2, 3 come before reading; 5, 6, 7 are the limits'.
abbrev pub proper : Refusal → Bool
proper k = eqb (number_of k) 4 || leb 10 (number_of k)

-- Some records later: the earlier records open the later ones.
pub record Since (before now : List Rec) : Type 0 where
  pub more : List Rec
  pub opens : now ≡ before ++ more
  pub longer : length before ≤ length now

-- One record later.
pub record With (before : List Rec) (r : Rec) (now : List Rec) : Type 0 where
  pub is : now ≡ before ++ (r ∷ [])
  pub longer : length now ≡ length before + 1

-- What may be said of an answer: the records made by then, the place reached and the node.
abbrev pub Claim : Type 1
Claim = List Rec → Place → Node → Type 0

-- What a grammar chooses: a measure that falls at each call; what each routine asks of its caller and what its answer claims, by the
-- records before it; and what holds of each record, by those before it.
pub record Choice (N : Type 0) : Type 1 where
  pub measure : N → Place → ℕ
  pub asks : N → Place → List Rec → Type 0
  pub claim : N → Place → List Rec → Claim
  pub fine : List Rec → Rec → Type 0

module _ {N : Type 0} (C : Choice N) where
  -- Begun after these records, a process calls only routines of a measure below m and gives them what they ask, makes only fine
  -- records, gives only proper refusals, never comes to the end of a loop's turns, and answers only what Q says.
  abbrev pub Meets : ℕ → List Rec → Claim → Process N → Type 0
  Meets m before Q (done p n) = Q before p n
  Meets m before Q (stop k p) = T (proper k)
  Meets m before Q (spent p) = ⊥
  Meets m before Q (make p r v) = C.fine before r × ((now : List Rec) → With before r now → Q now p (node_as (length before + 1) r v))
  Meets m before Q (compare p) = Q before p (plain 0 p)
  Meets m before Q (fresh p) = (k : ℕ) → Q before p (plain k p)
  Meets m before Q (call nt p) =
      C.asks nt p before
      × (C.measure nt p < m)
      × ((now : List Rec) (q : Place) (n : Node) → Since before now → C.claim nt p before now q n → Q now q n)
  Meets m before Q (test b x y) = elim b [ true ↦ Meets m before Q x | false ↦ Meets m before Q y ]
  Meets m before Q (look l f g) =
      elim l [ found h n ↦ Meets m before Q (f h n) | missing h ↦ Meets m before Q (g h) | Err e ↦ T (proper e.refusal) ]
  Meets m before Q (must l f) = elim l [ Ok t ↦ Meets m before Q (f t.here t.next) | Err e ↦ T (proper e.refusal) ]
  Meets m before Q (bind x k) = Meets m before (λ now q n. Meets m now Q (k q n)) x

  -- Every record of a list is fine after those before it.
  abbrev pub AllFine : List Rec → List Rec → Type 0
  AllFine before [] = Unit
  AllFine before (r ∷ rs) = C.fine before r × AllFine (before ++ (r ∷ [])) rs

-- A grammar suits: each routine's rule meets its claim below its own measure, and the process of a whole text calls only routines of
-- a measure below `bound`.
pub record Suits {N : Type 0} (G : Grammar N) (C : Choice N) (P : Process N) (bound : ℕ) : Type 0 where
  pub rules : (nt : N) (p : Place) (before : List Rec) → C.asks nt p before → Meets C (C.measure nt p) before (C.claim nt p before) (G nt p)
  pub whole : Meets C bound [] (λ now p n. Unit) P
  pub earlier : (before : List Rec) (r : Rec) → C.fine before r → Earlier (length before) r.fields

-- How the unlimited reading of a grammar that suits ends: it has read all, or a rule refused.
abbrev pub Proper : End → Type 0
Proper (Done p n) = Unit
Proper (Stop k p) = T (proper k)
Proper (Crossed w p) = ⊥
Proper (Spent p) = ⊥
