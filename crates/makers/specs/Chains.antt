-- The pending operators of a chain, as code holds them, and what reducing them owes. Assumes nothing.
use Rattle.std.specs.Prelude.{◌≡◌, List, [], ◌∷◌, ℕ, zero, suc, ◌+◌, ◌≤◌, ◌<◌, length, get_or, set}
use Rattle.characters.specs.declared.place.Place.{Place}
use Rattle.characters.specs.declared.refusal.Refusal.{Refusal}
use Rattle.reading.specs.declared.node.Node.{Node}
use Rattle.reading.specs.declared.tally.Tally.{Tally}
use Rattle.reading.specs.Gots.{Read, Refused}
use Rattle.reading.specs.Outs.{Out}
use Rattle.reading.specs.Outs as out
use Rattle.reading.specs.Process.{Grammar}
use Rattle.reading.specs.Says.{Does}
use Rattle.records.specs.Rows.{layout}
use Rattle.records.specs.Nodes.{place_at}
use Rattle.grammar.specs.Operators.{strength_of}
use Rattle.grammar.specs.Expressions.{Routine, Rule, Waiting, Pending, reduce_p}
use Rattle.makers.specs.declared.chains.Pends.{Pends}
use Rattle.makers.specs.declared.chains.Chain.{Chain}
use Rattle.makers.specs.Answers.Reduced.{Reduced}
use Rattle.makers.specs.Duties.{last_of}

-- the place in an array that holds no operator
abbrev pub nothing : Pends
nothing = record { op = 0; left = 0 }

-- one that waits: its position is its left side's
abbrev pub waits_at : List ℕ → Pends → Waiting
waits_at pool x = record { op = x.op; left = x.left; position = place_at pool x.left }

-- the first n places, newest first
unfoldable pub entries : List ℕ → List Pends → ℕ → Pending
entries pool ws zero = []
entries pool ws (suc n) = waits_at pool (get_or ws n nothing) ∷ entries pool ws n

-- the list that a chain stands for
abbrev pub pending_of : List ℕ → Chain → Pending
pending_of pool c = entries pool c.waiting c.len

-- From b on the strengths rise strictly towards the oldest: each newer operator binds tighter.
pub data Rising : ℕ → Pending → Type 0 where
  bottom : {b : ℕ} → Rising b []
  above : {b : ℕ} {x : Waiting} {xs : Pending} → b ≤ strength_of x.op → Rising (suc (strength_of x.op)) xs → Rising b (x ∷ xs)

-- the left sides of the first n are records made
pub record Sides (ws : List Pends) (n made : ℕ) : Type 0 where
  pub some : (i : ℕ) → i < n → 1 ≤ (get_or ws i nothing).left
  pub most : (i : ℕ) → i < n → (get_or ws i nothing).left ≤ made

-- what a chain may be: its operators rise, and their left sides are made
pub record Rises (pool : List ℕ) (t : Tally) (c : Chain) : Type 0 where
  pub rising : Rising 3 (pending_of pool c)
  pub sides : Sides c.waiting c.len t.records

-- an operator more, after the first n places, where the array has one for it
pub record Pushed (c : Chain) (n op left : ℕ) (r : Chain) : Type 0 where
  pub fits : n < length c.waiting
  pub exact : r ≡ record { waiting = set c.waiting n (record { op = op; left = left }); len = n + 1 }

-- REDUCES: what is left of the chain is what the rule goes on with, whatever it goes on to do; the last operand is the last record made.
pub record Reduces (cap : ℕ) (t : Tally) (at : Place) (new : ℕ) (c : Chain) (r : Reduced) (before later : List ℕ) : Type 0 where
  pub goes : (G : Grammar Routine) (comps left : ℕ) (next : Pending → Node → Rule) {p : Place} {u : Tally} → r.got ≡ Read p u
      → {a : Out} {last : List ℕ} → Does layout G cap comps left u (next (entries later c.waiting r.len) (last_of later u)) a later last
      → Does layout G cap comps left t (reduce_p new at (pending_of before c) (last_of before t) next) a before last
  pub stops : (G : Grammar Routine) (comps left : ℕ) (next : Pending → Node → Rule) {k : Refusal} {p : Place} {u : Tally} → r.got ≡ Refused k p u
      → Does layout G cap comps left t (reduce_p new at (pending_of before c) (last_of before t) next) (out.Refused k p u) before later
  -- what is left binds looser than `new`, and its left sides are made
  pub rising : {p : Place} {u : Tally} → r.got ≡ Read p u → Rising (suc new) (entries later c.waiting r.len)
  pub sides : {p : Place} {u : Tally} → r.got ≡ Read p u → Sides c.waiting r.len u.records
  pub stays : {p : Place} {u : Tally} → r.got ≡ Read p u → p ≡ at
  -- records are made, no id is given out, and the limit isn't passed
  pub made : {p : Place} {u : Tally} → r.got ≡ Read p u → (t.records ≤ u.records) × (u.records ≤ cap) × (u.ids ≡ t.ids)
  pub none : {k : Refusal} {p : Place} {u : Tally} → r.got ≡ Refused k p u → r.len ≡ 0
