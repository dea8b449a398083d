-- Laws of plain operands in a reading: what the rules of expressions come to where one was read, and where none was. Assumes nothing.
use Rattle.std.specs.Prelude.{◌≡◌, refl, Bool, true, false, List, [], ℕ, ◌+◌, ◌-◌, ◌≤◌, ◌<◌, ◌^◌, length, Ok, Result}
use Rattle.std.proofs.Common.{sym, ap, subst, ◌∙◌, arith}
use Rattle.std.proofs.Math.Path.{subst⁻¹}
use Rattle.characters.specs.declared.place.Place.{Place}
use Rattle.characters.specs.Text.{Text, Stands, on_by}
use Rattle.characters.specs.PlaceLaws.{Reached, reached_here}
use Rattle.characters.specs.declared.refusal.Refused.{Refused}
use Rattle.reading.specs.declared.tally.Tally.{Tally}
use Rattle.reading.specs.Outs.{Out}
use Rattle.reading.specs.Outs as out
use Rattle.reading.specs.Gots.{Got, Read}
use Rattle.reading.specs.Events.{with_record}
use Rattle.reading.specs.Process.{Process, call, bind}
use Rattle.reading.specs.Says.{Does}
use Rattle.reading.proofs.Laws.Does.{by_done, then, yes_way, along, enter}
use Rattle.records.specs.Kinds.{number_of}
use Rattle.records.specs.Rows.{Lent, Lays, layout}
use Rattle.records.proofs.Laws.Nodes.{row_made}
use Rattle.grammar.specs.declared.leaves.Prefix.TheVariants.{Other}
use Rattle.grammar.specs.declared.leaves.Postfix.TheVariants.{Rest}
use Rattle.grammar.specs.declared.leaves.Link.{Link}
use Rattle.grammar.specs.declared.leaves.Link.TheVariants.{Choice, Operator, Assign, End}
use Rattle.grammar.specs.Leaves.{leaf_row, prefix_of, postfix_of, link_of}
use Rattle.grammar.specs.Expressions.{Routine, turns, atom_p, postfix_as, postfixes_p, postfix_p, prefix_as, prefix_p, reduce_p, link_as, chain_p, expression_p}
use Rattle.grammar.specs.Grammar.{grammar}
use Rattle.grammar.specs.Reads.{Ready, Reads}
use Rattle.grammar.specs.ReadLaws.{reads_on, reads_then, reads_leaf, ready_at, ready_then}
use Rattle.grammar.specs.declared.leaves.Postfix.{Postfix}
use Rattle.grammar.specs.declared.leaves.Prefix.{Prefix}
use Rattle.makers.specs.Duties.{Begun, last_of}
use Rattle.makers.specs.Plain.{near_of, PlainMade, Plain, Rests, EndsBy, Over, routine_by, rest_p}
use Rattle.makers.specs.Laws.PlainEnds.{reached, near_stands, prefix_near, postfix_near}
use Rattle.makers.specs.Laws.PlainGrouped.{grouped}

-- ---- what `plain` is called with, and what it leads to

pub plain_called : {s pool : List ℕ} {cap : ℕ} {at from : Place} {t : Tally} → Ready s pool cap at t → from ≡ near_of s at
    → (length s ≤ 65535) × Stands s from × Lent pool cap × (cap ≤ 65535)
plain_called g e = (g.short, near_stands g.stands e, g.lent, g.small)

-- nothing was read: the pool is as it was
pub plain_not : {s : Text} {cap : ℕ} {from : Place} {made n : ℕ} {A B : List ℕ} → Plain s cap from made n A B → n ≡ 0 → A ≡ B
plain_not p e = sym (p.none e)

pub ready_not : {s : Text} {cap : ℕ} {from at : Place} {t : Tally} {made n : ℕ} {A B : List ℕ} → Plain s cap from made n A B → n ≡ 0
    → Ready s A cap at t → Ready s B cap at t
ready_not {s} {cap} {from} {at} {t} p e g = subst (λ (X : List ℕ). Ready s X cap at t) (plain_not p e) g

pub reads_not : {s : Text} {cap comps left : ℕ} {from at : Place} {t : Tally} {P : Process Routine} {made n : ℕ} {r : Got} {A B Z : List ℕ}
    → Plain s cap from made n A B → n ≡ 0 → Reads s cap comps left at t P r B Z → Reads s cap comps left at t P r A Z
reads_not {s} {cap} {comps} {left} {from} {at} {t} {P} {made} {n} {r} {A} {B} {Z} p e h =
    subst⁻¹ (λ (X : List ℕ). Reads s cap comps left at t P r X Z) (plain_not p e) h

-- some bytes were read: the place after them, and a record more
module _ {s : Text} {cap : ℕ} {from : Place} {made n : ℕ} {A B : List ℕ} (p : Plain s cap from made n A B) (some : n ≡ 0 → ⊥) where
  pub plain_on : (from.offset + n < 2 ^ 32) × (from.column + n < 2 ^ 32)
  plain_on =
      let h = (p.some some).stands in
      let a : length s < 2 ^ 31 = h.short in
      let b : from.offset + n ≤ length s = h.inside in
      let c : from.column + n ≤ from.offset + n + 1 = h.columns in
      (omega arith, omega arith)

  pub plain_counts : cap ≤ 65535 → made < 2 ^ 32 - 1
  plain_counts h = let l : made < cap = (p.some some).room in omega arith

-- ---- a plain operand that was read

-- from `at` and t on an operand was read to q and u, its one record laid; what follows it is to be read
pub record PlainRead (s : Text) (cap : ℕ) (at : Place) (t : Tally) (q : Place) (u : Tally) (A B : List ℕ) : Type 0 where
  pub from : Place
  pub sign : prefix_of s at ≡ Ok (Other from)
  pub atom : (comps left : ℕ) → Does layout (grammar s) cap comps left t (atom_p s from) (out.Read q (last_of B u) u) A B
  pub further : at.offset ≤ q.offset
  pub begun : Begun s B cap q u

-- as code holds it: past one space, some bytes
pub plain_read : {s : Text} {cap n : ℕ} {at from q : Place} {t u : Tally} {A B : List ℕ} → Ready s A cap at t → from ≡ near_of s at
    → Plain s cap from t.records n A B → (n ≡ 0 → ⊥) → q ≡ on_by n from → u ≡ with_record t → PlainRead s cap at t q u A B
plain_read {s} {cap} {n} {at} {from} {q} {t} {u} {A} {B} g e p some f i =
    subst⁻¹ (λ (x : Place). PlainRead s cap at t x u A B) f
    (subst⁻¹ (λ (x : Tally). PlainRead s cap at t (on_by n from) x A B) i
    (record {
      from = from;
      sign = prefix_near s at ∙ ap (prefix_of s) (sym e) ∙ m.sign;
      atom = λ comps left. (reads comps left).does;
      further = let z : at.offset ≤ (near_of s at).offset = (reached s at g.stands).further in let y : from.offset ≡ (near_of s at).offset = ap (λ (x : Place). x.offset) e in omega arith;
      begun = record { ready = ready_then g refl (reads 0 0); some = omega arith };
    }))
  where
    m : PlainMade s cap from t.records n A B
    m = p.some some

    reads : (comps left : ℕ) → Reads s cap comps left (on_by n from) t (atom_p s from) (Read (on_by n from) (with_record t)) A B
    reads comps left =
        let l : Lays t.records (leaf_row m.kind from m.value) (number_of m.kind) A B = record { number = refl; pool = m.pool } in
        reads_leaf from m.atom (ready_at g m.stands) (row_made g.lent m.room l)

-- ---- nothing more of the operand

-- an answer with the last record made
ended : {s : Text} {cap comps left : ℕ} {q p : Place} {u : Tally} {P : Process Routine} {B : List ℕ} → Begun s B cap q u → Reached s q p
    → Does layout (grammar s) cap comps left u P (out.Read p (last_of B u) u) B B → Reads s cap comps left q u P (Read p u) B B
ended g h d = record { does = d; ends = record { reached = h; made = g.some; ids = g.ready.ids } }

posts_end : {s : Text} {cap comps left : ℕ} {q p : Place} {u : Tally} {B : List ℕ} → Begun s B cap q u → Reached s q p → postfix_of s q ≡ Ok (Rest p)
    → Reads s cap comps left q u (postfixes_p (turns s) s (last_of B u) q) (Read p u) B B
unfolding postfixes_p
posts_end {s} {cap} {comps} {left} {q} {p} {u} {B} g h e =
    ended g h (along (λ (x : Result Postfix Refused). postfix_as s (last_of B u) x (postfixes_p (length s) s)) (sym e) by_done)

-- past one space stands no suffix
pub posts_rest : {s : Text} {cap comps left : ℕ} {q p : Place} {u : Tally} {b : Bool} {B : List ℕ} → Begun s B cap q u → p ≡ near_of s q → Rests s p b → b ≡ true
    → Reads s cap comps left q u (postfixes_p (turns s) s (last_of B u) q) (Read p u) B B
posts_rest {s} {q = q} g e h y =
    posts_end g (subst⁻¹ (Reached s q) e (reached s q g.ready.stands)) (postfix_near s q ∙ ap (postfix_of s) (sym e) ∙ h.rests y)

-- an expression surely ends here
pub posts_over : {s : Text} {cap comps left : ℕ} {q : Place} {u : Tally} {assigning b : Bool} {B : List ℕ} → Begun s B cap q u → Over s q assigning b → b ≡ true
    → Reads s cap comps left q u (postfixes_p (turns s) s (last_of B u) q) (Read q u) B B
posts_over g h y = posts_end g (reached_here g.ready.stands) (h.rests y)

pub chain_over : {s : Text} {cap comps left : ℕ} {q : Place} {u : Tally} {assigning b : Bool} {B : List ℕ} → Begun s B cap q u → Over s q assigning b → b ≡ true
    → Reads s cap comps left q u (chain_p (turns s) s assigning [] (last_of B u) q) (Read q u) B B
unfolding chain_p reduce_p
chain_over {s} {cap} {comps} {left} {q} {u} {assigning} {b} {B} g h y = ended g (reached_here g.ready.stands) (go (link_of s q) (h.ends y))
  where
    go : (l : Link) → EndsBy assigning l
        → Does layout (grammar s) cap comps left u (link_as s assigning [] (last_of B u) q l (λ ys r p. chain_p (length s) s assigning ys r p)) (out.Read q (last_of B u) u) B B
    go (Choice n) e = absurd e
    go (Operator op n) e = absurd e
    go Assign e = yes_way e by_done
    go End e = by_done

-- so what was read before it is the expression
pub reads_over : {s : Text} {cap comps left : ℕ} {from q : Place} {t u : Tally} {X : Process Routine} {r : Got} {assigning b : Bool} {A B : List ℕ}
    → r ≡ Read q u → Reads s cap comps left from t X r A B → Begun s B cap q u → Over s q assigning b → b ≡ true
    → Reads s cap comps left from t (bind X (λ p e. chain_p (turns s) s assigning [] e p)) (Read q u) A B
reads_over e h g o y = reads_then e h (chain_over g o y)

-- what follows the operand that an expression begins with: no suffix past one space, then the chain
pub rest_near : {s : Text} {cap comps left : ℕ} {q p : Place} {u : Tally} {b : Bool} {r : Got} {B Z : List ℕ} (assigning : Bool) → Begun s B cap q u → p ≡ near_of s q
    → Rests s p b → b ≡ true
    → Reads s cap comps left p u (chain_p (turns s) s assigning [] (last_of B u) p) r B Z → Reads s cap comps left q u (rest_p s assigning (last_of B u) q) r B Z
rest_near assigning g e h y d = reads_then refl (posts_rest g e h y) d

-- ---- an expression and its level

-- its first operand, then the chain
pub as_expression : {s : Text} {cap comps left : ℕ} {from : Place} {t : Tally} {r : Got} {A B : List ℕ} (at : Place) (assigning : Bool)
    → Reads s cap comps left from t (bind (prefix_p s at) (λ p e. chain_p (turns s) s assigning [] e p)) r A B
    → Reads s cap comps left from t (expression_p s assigning at) r A B
unfolding expression_p
as_expression at assigning h = h

pub enters : {s : Text} {cap comps left : ℕ} {from at : Place} {t : Tally} {r : Got} {A B : List ℕ} (assigning : Bool) → (left ≡ 0 → ⊥)
    → Reads s cap comps (left - 1) from t (expression_p s assigning at) r A B → Reads s cap comps left from t (call (routine_by assigning) at) r A B
unfolding grammar
enters {s} {cap} {comps} {left} {from} {at} {t} {r} {A} {B} assigning n h = go assigning h
  where
    go : (a : Bool) → Reads s cap comps (left - 1) from t (expression_p s a at) r A B → Reads s cap comps left from t (call (routine_by a) at) r A B
    go true h = reads_on {from = from} {low = from} (enter n) (omega arith) h
    go false h = reads_on {from = from} {low = from} (enter n) (omega arith) h

-- ---- the operand in its rule

module _ {s : Text} {cap : ℕ} {at : Place} {t : Tally} {q : Place} {u : Tally} {A B : List ℕ} (o : PlainRead s cap at t q u A B) where
  -- its rule, by what stands there
  as_postfix : {comps left : ℕ} {r : Out} {Z : List ℕ} (f : Process Routine → Process Routine)
      → Does layout (grammar s) cap comps left t (f (bind (atom_p s o.from) (λ p e. postfixes_p (turns s) s e p))) r A Z
      → Does layout (grammar s) cap comps left t (f (prefix_p s at)) r A Z
  unfolding prefix_p postfix_p
  as_postfix f d = along (λ (x : Result Prefix Refused). f (prefix_as s x)) (sym o.sign) d

  -- the operand with its suffixes
  pub plain_posts : {comps left : ℕ} {r : Got} {Z : List ℕ} → Reads s cap comps left q u (postfixes_p (turns s) s (last_of B u) q) r B Z
      → Reads s cap comps left at t (prefix_p s at) r A Z
  plain_posts {comps} {left} h = reads_on (λ d. as_postfix (λ P. P) (then (o.atom comps left) d)) o.further h

  -- and with none
  pub plain_term : {comps left : ℕ} {p : Place} {b : Bool} → p ≡ near_of s q → Rests s p b → b ≡ true → Reads s cap comps left at t (prefix_p s at) (Read p u) A B
  plain_term e h y = plain_posts (posts_rest o.begun e h y)

  as_first : {comps left : ℕ} {r : Got} {Z : List ℕ} (assigning : Bool) → Reads s cap comps left q u (rest_p s assigning (last_of B u) q) r B Z
      → Reads s cap comps left at t (expression_p s assigning at) r A Z
  as_first {comps} {left} assigning h =
      as_expression at assigning
      (reads_on (λ d. as_postfix (λ P. bind P (λ p e. chain_p (turns s) s assigning [] e p)) (grouped (then (o.atom comps left) d))) o.further h)

  -- the operand that an expression begins with
  pub plain_first : {comps left : ℕ} {r : Got} {Z : List ℕ} (assigning : Bool) → (left ≡ 0 → ⊥)
      → Reads s cap comps (left - 1) q u (rest_p s assigning (last_of B u) q) r B Z → Reads s cap comps left at t (call (routine_by assigning) at) r A Z
  plain_first assigning n h = enters assigning n (as_first assigning h)

  -- and that is the whole of it
  pub plain_whole : {comps left : ℕ} {assigning b : Bool} → (left ≡ 0 → ⊥) → Over s q assigning b → b ≡ true
      → Reads s cap comps left at t (call (routine_by assigning) at) (Read q u) A B
  plain_whole {assigning = assigning} n h y = plain_first assigning n (reads_then refl (posts_over o.begun h y) (chain_over o.begun h y))
