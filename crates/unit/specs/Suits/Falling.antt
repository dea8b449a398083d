-- What the grammar chooses to show that it suits: the measure of a routine, what its answer claims, and how the measure falls.
-- Assumes nothing.
use Rattle.std.specs.Prelude.{List, ℕ, suc, ◌+◌, ◌-◌, ◌≤◌, ◌<◌, ◌*◌, length}
use Rattle.std.proofs.Common.{subst, arith}
use Rattle.characters.specs.declared.place.Place.{Place}
use Rattle.characters.specs.Text.{Text, on_by, Stands}
use Rattle.characters.specs.PlaceLaws.{Reached, Advanced, reached_on}
use Rattle.characters.specs.Tokens.{token, expected}
use Rattle.characters.specs.TokenLaws.{TokenOn, token_on}
use Rattle.reading.specs.declared.node.Node.{Node}
use Rattle.reading.specs.Events.{Rec}
use Rattle.reading.specs.Process.{look, must}
use Rattle.reading.specs.Suits.{Since, Claim, Choice}
use Rattle.reading.proofs.Laws.Rules.{Fits, fits_look, fits_must}
use Rattle.records.specs.Kinds.{Meaning}
use Rattle.records.specs.Kinds as table
use Rattle.records.specs.Meanings.{Is, MayBe, Meant}
use Rattle.grammar.specs.Leaves.{close_of, follow_of}
use Rattle.grammar.specs.LeafLaws.{CloseOn, close_on}
use Rattle.grammar.specs.Leads.{ExpectedOn, expected_leads, FollowOn, follow_leads}
use Rattle.unit.specs.Refusing.{MustProper, LookProper, token_proper, expected_proper, close_proper, follow_proper}
use Rattle.grammar.specs.Expressions.{Routine, expression, before_assignment, operand, statement, function, lambda, class, Rule, turns}

-- ---- what is chosen

-- A statement calls the expression that it begins with, and an expression the lambda, where they stand: so each weighs less than its caller.
abbrev pub weight : Routine → ℕ
weight expression = 1
weight before_assignment = 1
weight operand = 1
weight statement = 2
weight (function from name) = 0
weight lambda = 0
weight (class from names) = 0

-- What a routine answers with.
abbrev pub gives : Routine → Meaning
gives expression = table.expression
gives before_assignment = table.expression
gives operand = table.expression
gives statement = table.statement
gives (function from name) = table.function
gives lambda = table.function
gives (class from names) = table.class

-- A routine begins in the text; a lambda at a byte, its `|`.
abbrev pub Begins : Text → Routine → Place → Type 0
Begins s expression p = Stands s p
Begins s before_assignment p = Stands s p
Begins s operand p = Stands s p
Begins s statement p = Stands s p
Begins s (function from name) p = Stands s p
Begins s lambda p = Advanced s p (on_by 1 p)
Begins s (class from names) p = Stands s p

-- The rest of the text falls, three for each byte, and then the weight; an answer stands further on, with a record of its own kind; each
-- record's fields are what the table says.
abbrev pub chosen : Text → Choice Routine
chosen s =
    record {
      measure = λ nt p. weight nt + 3 * (length s - p.offset);
      asks = λ nt p before. Begins s nt p;
      claim = λ nt p before now q n. Advanced s p q × Is now (gives nt) n.number;
      fine = Meant;
    }

-- Whoever takes a rule's answer may count on this: it stands where R says, with a record of this kind.
abbrev pub Works : Text → ℕ → List Rec → (Place → Type 0) → Meaning → Rule → Type 1
Works s M before R m P =
    (Q : Claim) → ((now : List Rec) (q : Place) (n : Node) → Since before now → R q → Is now m n.number → Q now q n)
    → Fits (chosen s) M before Q P

-- The same of a rule whose answer may be none.
abbrev pub MayWork : Text → ℕ → List Rec → (Place → Type 0) → Meaning → Rule → Type 1
MayWork s M before R m P =
    (Q : Claim) → ((now : List Rec) (q : Place) (n : Node) → Since before now → R q → MayBe now m n.number → Q now q n)
    → Fits (chosen s) M before Q P

-- ---- how the measure falls

-- A routine of weight k may be called here, below a measure. No routine weighs more than 2.
pub record Room (k : ℕ) (s : Text) (p : Place) (M : ℕ) : Type 0 where
  pub left : k + 3 * (length s - p.offset) < M

-- So any routine may be called where one of weight 2 may.
pub called : {s : Text} {p : Place} {M : ℕ} (nt : Routine) → Room 2 s p M → (chosen s).measure nt p < M
called {s} {p} {M} nt h = let l : 2 + 3 * (length s - p.offset) < M = h.left in let w = light nt in omega arith
  where
    light : (nt : Routine) → weight nt ≤ 2
    light expression = omega arith
    light before_assignment = omega arith
    light operand = omega arith
    light statement = omega arith
    light (function from name) = omega arith
    light lambda = omega arith
    light (class from names) = omega arith

-- A lighter routine may be called too.
pub lighter : {s : Text} {p : Place} {M j k : ℕ} → j ≤ k → Room k s p M → Room j s p M
lighter {s} {p} {M} {j} {k} l h = let n : k + 3 * (length s - p.offset) < M = h.left in record { left = omega arith }

-- Where a place is reached, what could be called can be;
pub still : {s : Text} {p q : Place} {M k : ℕ} → Reached s p q → Room k s p M → Room k s q M
still {s} {p} {q} {M} {k} a h =
    let l : p.offset ≤ q.offset = a.further in
    let n : k + 3 * (length s - p.offset) < M = h.left in
    record { left = omega arith }

-- and one byte further on, any routine, even below the measure of the lightest.
pub beyond : {s : Text} {p q : Place} {M : ℕ} → Advanced s p q → 3 * (length s - p.offset) ≤ M → Room 2 s q M
beyond {s} {p} {q} {M} a h =
    let i : q.offset ≤ length s = a.stands.inside in
    let l : p.offset < q.offset = a.further in
    record { left = omega arith }

pub below : {s : Text} {p q : Place} {M k : ℕ} → Advanced s p q → Room k s p M → Room 2 s q M
below {s} {p} {q} {M} {k} a h = beyond a (let n : k + 3 * (length s - p.offset) < M = h.left in omega arith)

-- Where the one moves on, both do.
pub advanced_then : {s : Text} {p q r : Place} → Advanced s p q → Reached s q r → Advanced s p r
advanced_then {s} {p} {q} {r} a b =
    let y : p.offset < q.offset = a.further in
    let z : q.offset ≤ r.offset = b.further in
    record { stands = b.stands; further = omega arith }

-- A turn of a loop that reads on leaves turns enough;
pub turned : {s : Text} {p q : Place} {f : ℕ} → Advanced s p q → length s - p.offset < suc f → length s - q.offset < f
turned {s} {p} {q} a h =
    let i : q.offset ≤ length s = a.stands.inside in
    let l : p.offset < q.offset = a.further in
    omega arith

-- and a loop begins with turns enough.
pub enough : (s : Text) (p : Place) → length s - p.offset < turns s
enough s p = omega arith

-- ---- by what the leaves find

module _ (s : Text) {M : ℕ} {before : List Rec} {Q : Claim} where
  -- The close of a list is gone over, or an element stands there.
  pub fits_close : (p : Place) (end : ℕ) → Stands s p → {f : Place → Place → Rule} {g : Place → Rule}
      → ((a n : Place) → Advanced s p n → Fits (chosen s) M before Q (f a n))
      → ((a : Place) → Reached s p a → Fits (chosen s) M before Q (g a)) → Fits (chosen s) M before Q (look (close_of s p end) f g)
  fits_close p end st x y =
      fits_look (λ a n e. x a n (subst (CloseOn s p) e (close_on s p end st))) (λ a e. y a (subst (CloseOn s p) e (close_on s p end st)).0)
      (λ k a e. subst LookProper e (close_proper s p end))

  -- What follows an element is gone over: the close, or a comma.
  pub fits_follow : (p : Place) (end : ℕ) → Stands s p → {f : Place → Place → Rule} {g : Place → Rule}
      → ((a n : Place) → Advanced s p n → Fits (chosen s) M before Q (f a n))
      → ((n : Place) → Advanced s p n → Fits (chosen s) M before Q (g n)) → Fits (chosen s) M before Q (look (follow_of s p end) f g)
  fits_follow p end st x y =
      fits_look (λ a n e. x a n (subst (FollowOn s p) e (follow_leads s p end st))) (λ a e. y a (subst (FollowOn s p) e (follow_leads s p end st)))
      (λ k a e. subst LookProper e (follow_proper s p end))

  -- A token is gone over, or the blanks before it.
  pub fits_token : (p : Place) (w : Text) → Stands s p → {f : Place → Place → Rule} {g : Place → Rule}
      → ((a n : Place) → Reached s p n → Fits (chosen s) M before Q (f a n))
      → ((a : Place) → Reached s p a → Fits (chosen s) M before Q (g a)) → Fits (chosen s) M before Q (look (token s p w) f g)
  fits_token p w st x y =
      fits_look (λ a n e. let g = subst (TokenOn s p w) e (token_on s p w st) in x a n (reached_on g.0 g.1))
      (λ a e. y a (subst (TokenOn s p w) e (token_on s p w st)))
      (λ k a e. subst LookProper e (token_proper s p w))

  -- An expected token is gone over.
  pub fits_expected : (p : Place) (w : Text) → Stands s p → {f : Place → Place → Rule}
      → ((a n : Place) → Reached s p n → Fits (chosen s) M before Q (f a n)) → Fits (chosen s) M before Q (must (expected s p w) f)
  fits_expected p w st x =
      fits_must (λ a n e. x a n (subst (ExpectedOn s p) e (expected_leads s p w st))) (λ k a e. subst MustProper e (expected_proper s p w))
