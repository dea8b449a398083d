-- THE RECORD THAT A RULE MAKES LAST, where its name is to be found later: a function's row holds the name that the routine was given, a class's
-- row is a class's, and no statement is the declaration of a class. Assumes nothing.
use Rattle.std.specs.Prelude.{◌≡◌, refl, Err, None, Ok, Option, Result, Some}
use Rattle.std.proofs.Common.{sym, ◌∙◌}
use Rattle.std.proofs.Math.Path.{ap}
use Rattle.std.proofs.Math.Bool.{true, false}
use mathlib.Core.List.{List, [], ◌∷◌, ◌++◌, append_assoc}
use Prim.Native.Nat.{ℕ, zero, suc, ◌+◌, ◌-◌, ◌*◌, ◌≤◌, ◌<◌}
use native.Mathlib.Omega.{arith}
use Rattle.std.proofs.Math.ListN.{length}
use Rattle.characters.specs.declared.place.Place.{Place}
use Rattle.characters.specs.declared.place.Span.{Span}
use Rattle.characters.specs.Text.{Text}
use Rattle.characters.specs.Answers.{found, missing}
use Rattle.characters.specs.declared.refusal.Refused.{Refused}
use Rattle.reading.specs.declared.node.Node.{Node}
use Rattle.reading.specs.declared.tally.Tally.{Tally}
use Rattle.reading.specs.Outs.{Read}
use Rattle.reading.specs.Events.{Rec, Event, entered, recorded, End, Done, Stop, Crossed, Spent, Outcome, ended, records_of, steps}
use Rattle.reading.specs.Limits.{Limits, limited, Verdict, goes, over, judge, judged, guarded}
use Rattle.reading.specs.Process.{done, stop, spent, make, compare, fresh, call, test, look, must, bind, node_of, joined, after, under, run}
use Rattle.reading.specs.Answers.{Tells}
use Rattle.reading.specs.Says.{laid, Does}
use Rattle.reading.proofs.Laws.Counts.{steps_append, tally_records}
use Rattle.reading.proofs.Laws.Grows.{records_append}
use Rattle.reading.proofs.Laws.Says.{refused_read, laid_append}
use Rattle.reading.proofs.Laws.Does.{does_within}
use Rattle.records.specs.declared.kind.Kind.{Kind}
use Rattle.records.specs.declared.kind.Kind.TheVariants as kinds
use Rattle.records.specs.declared.row.Row.{Row}
use Rattle.records.specs.Kinds.{number_of}
use Rattle.records.specs.Rows.{Lent, layout, record_of}
use Rattle.records.specs.Nodes.{word_at, kind_at, held_at, held_in, value_by, closure_at, value_at}
use Rattle.records.proofs.Laws.Rows.{laid_length}
use Rattle.records.proofs.Laws.Nodes.{held_laid, node_laid}
use Rattle.grammar.specs.declared.heads.StatementHead.TheVariants as head
use Rattle.grammar.specs.declared.heads.StepHead.TheVariants as step
use Rattle.grammar.specs.Heads.{class_of, head_of, let_of, step_of, assign_of}
use Rattle.grammar.specs.Expressions.{Routine, Rule, statement, function, class, turns}
use Rattle.grammar.specs.Leaves.{row_of}
use Rattle.grammar.specs.Functions.{name_span, name_word, new_name, block_row, statements_p, block_p, fun_row, fun_p, function_p, return_row}
use Rattle.grammar.specs.Statements.{absent, if_row, for_row, assign_row, let_row, return_p, jump_p, else_p, if_p, for_end_p, loop_p, while_p, target_p, combine_p, store_p, increment_p, do_p, assign_as, expr_or_assign_as, expr_or_assign_p, for_rest_p, for_p, assert_p, declare_p, let_as, let_p, fun_statement_p, statement_as, statement_p}
use Rattle.grammar.specs.Classes.{class_row, class_end_p, class_as, class_p}
use Rattle.grammar.specs.Grammar.{grammar}
use Rattle.grammar.specs.declared.heads.Assignment.{Assignment}
use Rattle.grammar.specs.declared.heads.ClassHead.{ClassHead}
use Rattle.grammar.specs.declared.heads.LetHead.{LetHead}
use Rattle.grammar.specs.declared.heads.StatementHead.{StatementHead}
use Rattle.grammar.specs.declared.heads.StepHead.{StepHead}

-- ---- rules that end with a record

-- A record of such a row.
pub record Rowed (R : Row → Type 0) (r : Rec) : Type 0 where
  pub row : Row
  pub is : r ≡ record_of row
  pub holds : R row

rowed : {R : Row → Type 0} (w : Row) → R w → Rowed R (record_of w)
rowed w h = record { row = w; is = refl; holds = h }

-- Whatever a rule reads, a record of such a row is the last thing that it makes.
abbrev pub Lasts : (Row → Type 0) → Rule → Type 0
Lasts R (done p n) = ⊥
Lasts R (stop k p) = Unit
Lasts R (spent p) = Unit
Lasts R (make p r v) = Rowed R r
Lasts R (compare p) = ⊥
Lasts R (fresh p) = ⊥
Lasts R (call nt p) = ⊥
Lasts R (test b x y) = Lasts R x × Lasts R y
Lasts R (look l f g) = ((h n : Place) → Lasts R (f h n)) × ((h : Place) → Lasts R (g h))
Lasts R (must l f) = (h n : Place) → Lasts R (f h n)
Lasts R (bind x k) = (q : Place) (n : Node) → Lasts R (k q n)

-- The events of such a reading, where it came to its end.
pub record Closed (R : Row → Type 0) (es : List Event) : Type 0 where
  pub first : List Event
  pub last : Rec
  pub place : Place
  pub split : es ≡ first ++ (recorded last place ∷ [])
  pub rowed : Rowed R last

abbrev pub Closing : (Row → Type 0) → End → List Event → Type 0
Closing R (Done p n) es = Closed R es
Closing R (Stop k p) es = Unit
Closing R (Crossed w p) es = Unit
Closing R (Spent p) es = Unit

-- some events before it
closing_after : (R : Row → Type 0) (a : List Event) (end : End) (b : List Event) → Closing R end b → Closing R end (a ++ b)
closing_after R a (Done p n) b c =
    record {
      first = a ++ c.first;
      last = c.last;
      place = c.place;
      split = ap (λ (x : List Event). a ++ x) c.split ∙ sym (append_assoc a c.first (recorded c.last c.place ∷ []));
      rowed = c.rowed;
    }
closing_after R a (Stop k p) b c = tt
closing_after R a (Crossed w p) b c = tt
closing_after R a (Spent p) b c = tt

module _ (R : Row → Type 0) (sub : Routine → Place → Tally → Outcome) (L : Limits) where
  closes : (P : Rule) (t : Tally) → Lasts R P → Closing R (under sub L t P).end (under sub L t P).events
  unfolding under guarded after joined
  closes (done p n) t h = absurd h
  closes (stop k p) t h = tt
  closes (spent p) t h = tt
  closes (make p r v) t h = go (judge L t (recorded r p))
    where
      go : (x : Verdict) → Closing R (judged x (recorded r p) (ended (Done p (node_of t r v)))).end (judged x (recorded r p) (ended (Done p (node_of t r v)))).events
      go goes = record { first = []; last = r; place = p; split = refl; rowed = h }
      go (over w q) = tt
  closes (compare p) t h = absurd h
  closes (fresh p) t h = absurd h
  closes (call nt p) t h = absurd h
  closes (test true x y) t h = closes x t h.0
  closes (test false x y) t h = closes y t h.1
  closes (look (found a n) f g) t h = closes (f a n) t (h.0 a n)
  closes (look (missing a) f g) t h = closes (g a) t (h.1 a)
  closes (look (Err e) f g) t h = tt
  closes (must (Ok x) f) t h = closes (f x.here x.next) t (h x.here x.next)
  closes (must (Err e) f) t h = tt
  closes (bind x k) t h = go (under sub L t x).end (under sub L t x).events (λ p n u. closes (k p n) u (h p n))
    where
      go : (end : End) (es : List Event)
          → ((p : Place) (n : Node) (u : Tally) → Closing R (under sub L u (k p n)).end (under sub L u (k p n)).events)
          → Closing R (joined t end es (λ p n u. under sub L u (k p n))).end (joined t end es (λ p n u. under sub L u (k p n))).events
      go (Done p n) es c = closing_after R es (under sub L (steps es t) (k p n)).end (under sub L (steps es t) (k p n)).events (c p n (steps es t))
      go (Stop j p) es c = tt
      go (Crossed w p) es c = tt
      go (Spent p) es c = tt

-- ---- the row of the last record

pub record LastRow (R : Row → Type 0) (pool : List ℕ) (number : ℕ) : Type 0 where
  pub row : Row
  pub holds : R row
  pub kind : kind_at pool number ≡ number_of row.kind
  pub held : (i : ℕ) → i < 4 → held_at pool number i ≡ held_in row i

module _ (R : Row → Type 0) (A : List ℕ) {B : List ℕ} (t : Tally) {u : Tally} (es : List Event) where
  -- by the events of its reading
  closed_row : Closed R es → u ≡ steps es t → B ≡ laid layout A t.records (records_of es) → u.records * 8 ≤ length A → LastRow R B u.records
  unfolding steps records_of laid
  closed_row c e f room =
      let first : List Event = c.first in
      let w : Row = c.rowed.row in
      let m : ℕ = t.records + length (records_of first) in
      let rs : records_of es ≡ records_of first ++ (record_of w ∷ []) =
      ap records_of c.split ∙ records_append first (recorded c.last c.place ∷ []) ∙ ap (λ (r : Rec). records_of first ++ (r ∷ [])) c.rowed.is
      in
      let pool : List ℕ = laid layout A t.records (records_of first) in
      let g : B ≡ layout pool m (record_of w) = f ∙ ap (laid layout A t.records) rs ∙ laid_append layout A t.records (records_of first) (record_of w ∷ []) in
      let k : steps es t ≡ steps (recorded c.last c.place ∷ []) (steps first t) =
      ap (λ (x : List Event). steps x t) c.split ∙ steps_append first (recorded c.last c.place ∷ []) t
      in
      let i = tally_records first t in
      let j : u.records ≡ (steps first t).records + 1 = ap (λ (x : Tally). x.records) (e ∙ k) in
      let n : u.records ≡ m + 1 = omega arith in
      let l = laid_length (records_of first) A t.records in
      let z : m * 8 + 8 ≤ length pool = omega arith in
      record {
        row = w;
        holds = c.rowed.holds;
        kind = (λ i. kind_at (g i) (n i)) ∙ ap (λ (x : Node). x.kind) (node_laid pool m w z);
        held = λ i h. (λ j. held_at (g j) (n j) i) ∙ held_laid pool m w z i h;
      }

-- THE LAST ROW of what a routine read.
pub last_row : (R : Row → Type 0) (s : Text) {cap comps left : ℕ} {t u : Tally} (nt : Routine) (p : Place) {q : Place} {n : Node} {A B : List ℕ}
    → Lasts R (grammar s nt p) → Does layout (grammar s) cap comps left t (call nt p) (Read q n u) A B → t.records ≤ cap → Lent A cap
    → LastRow R B u.records
unfolding under run
last_row R s {cap} {comps} {left} {t} {u} nt p {q} {n} {A} {B} h d l lent =
    go left refl (d.says left (omega arith)).tells (d.says left (omega arith)).pool
  where
    L : Limits
    L = limited left cap comps

    room : u.records * 8 ≤ length A
    room = let x = does_within d l in let y = lent.room in omega arith

    inner : ℕ → Outcome
    inner k = under (run (grammar s) L k (suc (left - left))) L t (grammar s nt p)

    by : (end : End) (es : List Event) → Closing R end es → Tells end (steps es t) (Read q n u) → B ≡ laid layout A t.records (records_of es)
        → LastRow R B u.records
    by (Done p n) es c x f = let e : u ≡ steps es t = cc in closed_row R A t es c e f room
    by (Stop k p) es c x f = absurd (refused_read (sym x))
    by (Crossed w p) es c x f = absurd (refused_read (sym x))
    by (Spent p) es c x f = absurd x

    go : (k : ℕ) → left ≡ k → Tells (run (grammar s) L k (left - left) nt p t).end (steps (run (grammar s) L k (left - left) nt p t).events t) (Read q n u)
        → B ≡ laid layout A t.records (records_of (run (grammar s) L k (left - left) nt p t).events) → LastRow R B u.records
    go zero e x f = absurd (refused_read (sym x))
    go (suc k) e x f =
        by (inner k).end (entered (suc (left - left)) p ∷ (inner k).events)
        (closing_after R (entered (suc (left - left)) p ∷ []) (inner k).end (inner k).events (closes R (run (grammar s) L k (suc (left - left))) L (grammar s nt p) t h))
        x f

-- ---- a function's name

abbrev pub Kinded : Kind → Row → Type 0
Kinded k w = number_of w.kind ≡ number_of k

abbrev pub Named : ℕ → Row → Type 0
Named name w = Kinded kinds.Fun w × (w.b ≡ name)

function_lasts : (s : Text) (from : Place) (name : ℕ) (p : Place) → Lasts (Named name) (function_p s from name p)
unfolding function_p fun_p
function_lasts s from name p = λ h n q l r x k i. rowed (fun_row from i.number name l.number x.number) (refl, refl)

module _ (s : Text) {cap comps left : ℕ} {t u : Tally} {from p q : Place} {name : ℕ} {n : Node} {A B : List ℕ}
    (d : Does layout (grammar s) cap comps left t (call (function from name) p) (Read q n u) A B) (l : t.records ≤ cap) (lent : Lent A cap) where
  function_row : LastRow (Named name) B u.records
  unfolding grammar
  function_row = last_row (Named name) s (function from name) p (function_lasts s from name p) d l lent

  -- The name that a function was read with stands in its row,
  pub function_name : held_at B u.records 1 ≡ name
  function_name = function_row.held 1 (omega arith) ∙ function_row.holds.1

  -- and its value is its last parameter.
  pub function_value : value_at B u.records ≡ held_at B u.records 2
  unfolding value_at
  function_value =
      ap (λ (k : ℕ). value_by k (word_at B u.records 4) (word_at B u.records 5) (word_at B u.records 6) (closure_at B u.records (word_at B u.records 6)))
      (function_row.kind ∙ function_row.holds.0)

-- ---- a class

new_lasts : (R : Row → Type 0) (s : Text) (q at : Place) (new : Span) (ks : List Span) (next : Rule) → Lasts R next → Lasts R (new_name s q at new ks next)
unfolding new_name
new_lasts R s q at new [] next h = h
new_lasts R s q at new (k ∷ ks) next h = λ p n. (tt, new_lasts R s q at new ks next h)

class_lasts : (s : Text) (from : Place) (names : List Span) (p : Place) → Lasts (Kinded kinds.Class) (class_p s from names p)
unfolding class_p class_end_p
class_lasts s from names p =
    λ h q. new_lasts (Kinded kinds.Class) s q from (name_span h q) names (class_as s from (name_word h q) (class_of s q)) (go (name_word h q) (class_of s q))
  where
    go : (name : ℕ) (x : Result ClassHead Refused) → Lasts (Kinded kinds.Class) (class_as s from name x)
    go name (Ok t) = λ q l k i. rowed (class_row from i.number name t.parent l.number) refl
    go name (Err e) = tt

module _ (s : Text) {cap comps left : ℕ} {t u : Tally} {from p q : Place} {names : List Span} {n : Node} {A B : List ℕ}
    (d : Does layout (grammar s) cap comps left t (call (class from names) p) (Read q n u) A B) (l : t.records ≤ cap) (lent : Lent A cap) where
  class_last : LastRow (Kinded kinds.Class) B u.records
  unfolding grammar
  class_last = last_row (Kinded kinds.Class) s (class from names) p (class_lasts s from names p) d l lent

  -- Its value is its name.
  pub class_value : value_at B u.records ≡ held_at B u.records 1
  unfolding value_at
  class_value =
      ap (λ (k : ℕ). value_by k (word_at B u.records 4) (word_at B u.records 5) (word_at B u.records 6) (closure_at B u.records (word_at B u.records 6)))
      (class_last.kind ∙ class_last.holds)

-- ---- a statement

-- it declares no class
abbrev pub Other : Row → Type 0
Other w = number_of w.kind < number_of kinds.ClassDecl

module _ (s : Text) where
  increment_lasts : (end : ℕ) (from : Place) (op : ℕ) (e : Node) (p : Place) → Lasts Other (increment_p s end from op e p)
  unfolding increment_p target_p combine_p
  increment_lasts end from op e p = ((λ h n q i r b. rowed (assign_row from e b) (omega arith)), tt)

  assign_lasts : (end : ℕ) (from : Place) (e : Node) (q : Place) (x : Option Assignment) → Lasts Other (assign_as s end from e q x)
  unfolding target_p store_p combine_p do_p
  assign_lasts end from e q (Some x) =
      ((λ r v h m. (rowed (assign_row from e v) (omega arith), λ k b. rowed (assign_row from e b) (omega arith))), tt)
  assign_lasts end from e q None = λ h n. (rowed (row_of kinds.Do from e.number 0 0) (omega arith), tt)

  step_lasts : (end : ℕ) (from : Place) (x : Result StepHead Refused) → Lasts Other (expr_or_assign_as s end from x)
  unfolding expr_or_assign_p
  step_lasts end from (Ok (step.Step op n)) = λ q e. increment_lasts end from op e q
  step_lasts end from (Ok step.Other) = λ q e. assign_lasts end from e q (assign_of s q)
  step_lasts end from (Err e) = tt

  for_lasts : (from : Place) (first e third x : Node) (p : Place) → Lasts Other (for_end_p from first e third x p)
  unfolding for_end_p
  for_lasts from first e third x p = ((λ q t. rowed (for_row from first t third x) (omega arith)), rowed (for_row from first e third x) (omega arith))

  block_lasts : (f : ℕ) (from : Place) (last : ℕ) (p : Place) → Lasts Other (statements_p f s from last p)
  unfolding statements_p
  block_lasts zero from last p = tt
  block_lasts (suc f) from last p = ((λ h n. rowed (block_row from last) (omega arith)), λ h q i. block_lasts f from i.number q)

  let_lasts : (from : Place) (x : Result LetHead Refused) → Lasts Other (let_as s from x)
  unfolding declare_p
  let_lasts from (Ok t) = λ q e h m. rowed (let_row from t.mark t.span e) (omega arith)
  let_lasts from (Err e) = tt

  head_lasts : (x : Result StatementHead Refused) → Lasts Other (statement_as s x)
  unfolding return_p jump_p if_p else_p loop_p while_p for_p for_rest_p assert_p let_p fun_statement_p declare_p block_p expr_or_assign_p
  head_lasts (Ok (head.Return h n)) = ((λ a b q e. rowed (return_row h e) (omega arith)), λ a q e k m. rowed (return_row h e) (omega arith))
  head_lasts (Ok (head.Break h n)) = λ a m. rowed (row_of kinds.Break h 0 0 0) (omega arith)
  head_lasts (Ok (head.Continue h n)) = λ a m. rowed (row_of kinds.Continue h 0 0 0) (omega arith)
  head_lasts (Ok (head.If h n)) =
      λ q e r x. ((λ a m k y. rowed (if_row h e x y.number) (omega arith)), λ a. rowed (if_row h e x 0) (omega arith))
  head_lasts (Ok (head.Loop h n)) = λ q x. for_lasts h (absent q) (absent q) (absent q) x q
  head_lasts (Ok (head.While h n)) = λ q e r x. for_lasts h (absent r) e (absent r) x r
  head_lasts (Ok (head.For h n)) = λ a m q first r e k third j x. for_lasts h first e third x j
  head_lasts (Ok (head.Assert h n)) = λ q e a m. rowed (row_of kinds.Assert h e.number 0 0) (omega arith)
  head_lasts (Ok (head.Let h n)) = let_lasts h (let_of s n)
  head_lasts (Ok (head.Fun h n)) = λ a q r f k c. rowed (let_row h 0 (name_word a q) c) (omega arith)
  head_lasts (Ok (head.Block h n)) = block_lasts (turns s) h 0 n
  head_lasts (Ok (head.ExprOrAssign h)) = step_lasts 59 h (step_of s h)
  head_lasts (Err e) = tt

  pub statement_kind : {cap comps left : ℕ} {t u : Tally} {p q : Place} {n : Node} {A B : List ℕ}
      → Does layout (grammar s) cap comps left t (call statement p) (Read q n u) A B → t.records ≤ cap → Lent A cap
      → kind_at B u.records < number_of kinds.ClassDecl
  unfolding grammar statement_p
  statement_kind {p = p} d l lent =
      let z = last_row Other s statement p (head_lasts (head_of s p)) d l lent in let e = z.kind in let o = z.holds in omega arith
