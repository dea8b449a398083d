-- Laws of the contract of readers that hand on no node: one for each way in which a return comes about, and what the next reader may be
-- called with. Assumes nothing.
use Rattle.std.specs.Prelude.{◌≡◌, refl, Bool, true, List, ℕ, ◌+◌, ◌≤◌, Ok, Result}
use Rattle.std.proofs.Common.{ap, subst, ◌∙◌, arith}
use Rattle.std.proofs.Math.Path.{subst⁻¹}
use Rattle.characters.specs.declared.place.Place.{Place}
use Rattle.characters.specs.declared.refusal.Refusal.{Refusal}
use Rattle.characters.specs.declared.refusal.Refused.{Refused as Refusing}
use Rattle.characters.specs.Text.{Text, Stands, on_by}
use Rattle.characters.specs.PlaceLaws.{Reached, Advanced, reached_here}
use Rattle.reading.specs.declared.node.Node.{Node}
use Rattle.reading.specs.declared.tally.Tally.{Tally}
use Rattle.reading.specs.Outs as out
use Rattle.reading.specs.Gots.{Got, Read, Refused}
use Rattle.reading.specs.Events.{with_id}
use Rattle.reading.specs.Process.{Process, make, fresh, bind, plain}
use Rattle.reading.specs.Says.{Makes, Does}
use Rattle.reading.proofs.Laws.Does.{by_make, then, stops, given, does_within}
use Rattle.records.specs.declared.kind.Kind.{Kind}
use Rattle.records.specs.declared.row.Row.{Row}
use Rattle.records.specs.Kinds.{number_of}
use Rattle.records.specs.Rows.{layout, record_of}
use Rattle.records.specs.Words.{whole_of, low_of, high_of}
use Rattle.records.specs.Nodes.{Stored, is_leaf, role_by, closure_at, value_of, node_at, out_of, MakesRow}
use Rattle.records.proofs.Laws.Words.{whole_back}
use Rattle.records.proofs.Laws.Rows.{lent_kept}
use Rattle.records.proofs.Laws.Nodes.{stored_made, row_read, leaf_value, closure_earlier, does_length, read_of, refused_of}
use Rattle.grammar.specs.declared.leaves.Atom.TheVariants.{Leaf}
use Rattle.grammar.specs.declared.leaves.Atom.{Atom}
use Rattle.grammar.specs.Leaves.{leaf_row, atom_of}
use Rattle.grammar.specs.AtomLaws.{leaf_kind}
use Rattle.grammar.specs.Expressions.{Routine, atom_as, atom_p}
use Rattle.grammar.specs.Statements.{let_row, role_of}
use Rattle.grammar.specs.Grammar.{grammar}
use Rattle.grammar.specs.Reads.{Ready, Ends, EndsBy, Reads}

-- ---- places past the one where a reader begins

pub ahead : {s : Text} {p q : Place} → Advanced s p q → Reached s (on_by 1 p) q
ahead a = record { stands = a.stands; further = omega arith }

pub moved_on : {s : Text} {p q : Place} → Reached s (on_by 1 p) q → Advanced s p q
moved_on a = record { stands = a.stands; further = omega arith }

-- ---- where an answer ends

ends_on : (s : Text) (from low : Place) (r : Got) → from.offset ≤ low.offset → EndsBy s low r → EndsBy s from r
ends_on s from low (Read p u) l e =
    record { reached = record { stands = e.reached.stands; further = let z = e.reached.further in omega arith }; made = e.made; ids = e.ids }
ends_on s from low (Refused k p u) l e = tt

ends_refused : (s : Text) (from : Place) {k : Refusal} {p : Place} {u : Tally} {r : Got} → r ≡ Refused k p u → EndsBy s from r
ends_refused s from e = subst⁻¹ (EndsBy s from) e tt

module _ {s : Text} {cap comps left : ℕ} where
  -- what was read
  pub read_ends : {from : Place} {t : Tally} {P : Process Routine} {r : Got} {A B : List ℕ} {p : Place} {u : Tally} → r ≡ Read p u
      → Reads s cap comps left from t P r A B → Ends s from p u
  read_ends {from} e h = subst (EndsBy s from) e h.ends

  -- ---- how a return comes about

  -- a step of the rule, by its law of `Does`; the answer ends no earlier than it does now
  pub reads_on : {rest : ℕ} {from low : Place} {t u : Tally} {P Q : Process Routine} {r : Got} {A B Z : List ℕ}
      → (Does layout (grammar s) cap comps rest u Q (out_of Z r) B Z → Does layout (grammar s) cap comps left t P (out_of Z r) A Z)
      → from.offset ≤ low.offset → Reads s cap comps rest low u Q r B Z → Reads s cap comps left from t P r A Z
  reads_on {from = from} {low = low} {r = r} f l h = record { does = f h.does; ends = ends_on s from low r l h.ends }

  -- one after the other: the first was read,
  pub reads_then : {from : Place} {t u : Tally} {X : Process Routine} {k : Place → Node → Process Routine} {r r' : Got} {p : Place} {A B Z : List ℕ}
      → r ≡ Read p u → Reads s cap comps left from t X r A B → Reads s cap comps left p u (k p (node_at B u.records)) r' B Z
      → Reads s cap comps left from t (bind X k) r' A Z
  reads_then e g h = reads_on (then (read_of e g.does)) (read_ends e g).reached.further h

  -- or it was refused, and its answer is handed on as it is, or told again
  pub reads_stop : {from low : Place} {t u : Tally} {X : Process Routine} {k : Place → Node → Process Routine} {r : Got} {j : Refusal} {p : Place} {A B : List ℕ}
      → r ≡ Refused j p u → Reads s cap comps left low t X r A B → Reads s cap comps left from t (bind X k) r A B
  reads_stop {from} {t = t} {X = X} {k = k} {A = A} {B = B} e g =
      record { does = subst⁻¹ (λ (x : Got). Does layout (grammar s) cap comps left t (bind X k) (out_of B x) A B) e (stops (refused_of e g.does)); ends = ends_refused s from e }

  pub reads_told : {from low : Place} {t u : Tally} {X : Process Routine} {k : Place → Node → Process Routine} {r : Got} {j : Refusal} {p : Place} {A B : List ℕ}
      → r ≡ Refused j p u → Reads s cap comps left low t X r A B → Reads s cap comps left from t (bind X k) (Refused j p u) A B
  reads_told e g = record { does = stops (refused_of e g.does); ends = tt }

  -- a refusal of this rule's own
  pub refuses : {from : Place} {t u : Tally} {P : Process Routine} {j : Refusal} {p : Place} {A B : List ℕ}
      → Does layout (grammar s) cap comps left t P (out.Refused j p u) A B → Reads s cap comps left from t P (Refused j p u) A B
  refuses d = record { does = d; ends = tt }

  -- a record, whose node has this value; an id may have been given out for it
  reads_row : {at : Place} {t : Tally} {w : Row} {v : ℕ} {r : Got} {A B : List ℕ} → Stands s at → t.ids ≤ t.records + 1
      → value_of A t.records w ≡ v → MakesRow cap t at w r A B → Reads s cap comps left at t (make at (record_of w) v) r A B
  reads_row {at} {t} {w} {v} {r} {A} {B} h i e m =
      record {
        does = by_make (subst (λ (x : ℕ). Makes layout cap t at (record_of w) x (out_of B r) A B) e m.makes);
        ends = go r refl;
      }
    where
      go : (x : Got) → r ≡ x → EndsBy s at x
      go (Read p u) f =
          let l = row_read m f in
          let a : u.records ≡ t.records + 1 = ap (λ (x : Tally). x.records) l.tally in
          let b : u.ids ≡ t.ids = ap (λ (x : Tally). x.ids) l.tally in
          record { reached = subst⁻¹ (Reached s at) l.place (reached_here h); made = omega arith; ids = omega arith }
      go (Refused k p u) f = tt

  -- a record of a kind whose value computes
  pub reads_make : {at : Place} {t : Tally} {w : Row} {r : Got} {A B : List ℕ} → Ready s A cap at t → MakesRow cap t at w r A B
      → Reads s cap comps left at t (make at (record_of w) (value_of A t.records w)) r A B
  reads_make g m = reads_row g.stands (let z = g.ids in omega arith) refl m

  -- and of any other: a leaf by `leaf_row_lem`, a `let` by `let_row_lem`
  pub reads_valued : {at : Place} {t : Tally} {w : Row} {v : ℕ} {r : Got} {A B : List ℕ} → Ready s A cap at t → value_of A t.records w ≡ v
      → MakesRow cap t at w r A B
      → Reads s cap comps left at t (make at (record_of w) v) r A B
  reads_valued g e m = reads_row g.stands (let z = g.ids in omega arith) e m

  -- a record that an id was given out for
  pub reads_numbered : {at : Place} {t u : Tally} {w : Row} {r : Got} {A B : List ℕ} → Ready s A cap at t → u ≡ with_id t
      → MakesRow cap u at w r A B
      → Reads s cap comps left at u (make at (record_of w) (value_of A u.records w)) r A B
  reads_numbered g f m =
      let z = g.ids in
      let a = ap (λ (x : Tally). x.ids) f in
      let b = ap (λ (x : Tally). x.records) f in
      reads_row g.stands (omega arith) refl m

  -- an id, as the code was given it
  pub reads_fresh : {at from : Place} {t u : Tally} {i : ℕ} {k : Place → Node → Process Routine} {r : Got} {A B : List ℕ} → i ≡ t.ids + 1
      → u ≡ with_id t
      → Reads s cap comps left from u (k at (plain i at)) r A B → Reads s cap comps left from t (bind (fresh at) k) r A B
  reads_fresh {from = from} e f h = reads_on {from = from} {low = from} (given e f) (omega arith) h

  -- ---- what the next reader may be called with

  -- after something was read
  pub ready_then : {at from : Place} {t u : Tally} {P : Process Routine} {r : Got} {p : Place} {A B : List ℕ} → Ready s A cap at t → r ≡ Read p u
      → Reads s cap comps left from t P r A B
      → Ready s B cap p u
  ready_then g e h =
      let x = read_ends e h in
      record {
        short = g.short;
        small = g.small;
        lent = lent_kept g.lent (does_length h.does);
        stands = x.reached.stands;
        room = does_within (read_of e h.does) g.room;
        ids = x.ids;
      }

  -- and it stands in the pool
  pub read_stored : {at from : Place} {t u : Tally} {P : Process Routine} {r : Got} {p : Place} {A B : List ℕ} → Ready s A cap at t → r ≡ Read p u
      → Reads s cap comps left from t P r A B
      → Stored B u.records
  read_stored g e h = let n = ready_then g e h in stored_made n.lent (read_ends e h).made n.room

-- at another place of the text
pub ready_at : {s pool : List ℕ} {cap : ℕ} {at p : Place} {t : Tally} → Ready s pool cap at t → Stands s p → Ready s pool cap p t
ready_at g h = record { short = g.short; small = g.small; lent = g.lent; stands = h; room = g.room; ids = g.ids }

-- after a record was made
pub ready_made : {s A B : List ℕ} {cap : ℕ} {at p : Place} {t u : Tally} {w : Row} {r : Got} → Ready s A cap at t → r ≡ Read p u
    → MakesRow cap t at w r A B
    → Ready s B cap p u
ready_made {s} {A} {B} {cap} {at} {p} {t} {u} {w} {r} g e m =
    let h : Reads s cap 0 0 at t (make at (record_of w) (value_of A t.records w)) r A B = reads_make g m in
    ready_then g e h

-- ---- values of rows

-- a leaf's value, in two words
pub leaf_row_lem : (k : Kind) (A : List ℕ) (made : ℕ) (p : Place) (v : ℕ) → is_leaf (number_of k) ≡ true → value_of A made (leaf_row k p v) ≡ v
leaf_row_lem k A made p v h = leaf_value (number_of k) (low_of v) (high_of v) 0 (closure_at A (made + 1) 0) h ∙ whole_back v

-- a `let`: its name, and what it declares
pub let_row_lem : (A : List ℕ) (made : ℕ) (from : Place) (mark name k : ℕ) → k ≤ made
    → value_of A made (let_row from mark name (node_at A k)) ≡ whole_of name (role_of mark (node_at A k))
let_row_lem A made from mark name k h = ap (λ (b : Bool). whole_of name (role_by b mark)) (closure_earlier A (made + 1) k (omega arith))

-- an atom that is one record
pub reads_leaf : {s : Text} {cap comps left : ℕ} (p : Place) {k : Kind} {v : ℕ} {n : Place} {t : Tally} {r : Got} {A B : List ℕ}
    → atom_of s p ≡ Ok (Leaf k v n)
    → Ready s A cap n t → MakesRow cap t n (leaf_row k p v) r A B → Reads s cap comps left n t (atom_p s p) r A B
unfolding atom_p
reads_leaf {s} {cap} {comps} {left} p {k} {v} {n} {t} {r} {A} {B} e g m =
    subst⁻¹ (λ (a : Result Atom Refusing). Reads s cap comps left n t (atom_as s p a) r A B) e
    (reads_valued g (leaf_row_lem k A t.records p v (leaf_kind s p e)) m)
