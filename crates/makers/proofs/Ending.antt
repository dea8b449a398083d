-- What the signs and the endings show on the way. Assumes nothing.
use mathlib.Core.Path.{◌≡◌, refl, sym, ap, subst, subst⁻¹, ◌∙◌}
use mathlib.Core.Bool.{Bool, true, false, not}
use mathlib.Core.List.{List, [], ◌∷◌}
use Prim.Native.Nat.{ℕ, ◌+◌, ◌≤◌}
use native.Mathlib.Omega.{arith}
use lib.Dec.{eqb}
use borrow.Author.Tests.{eq-eqb, ne_eqb}
use Rattle.characters.specs.declared.place.Place.{Place}
use Rattle.characters.specs.declared.refusal.Refusal.{Refusal}
use Rattle.characters.specs.declared.refusal.Refusal.TheVariants.{InvalidTarget}
use Rattle.characters.specs.Text.{on_by}
use Rattle.characters.specs.Tokens.{expected}
use Rattle.characters.specs.Answers.{Must, failed, taken}
use Rattle.reading.specs.declared.node.Node.{Node}
use Rattle.reading.specs.declared.tally.Tally.{Tally}
use Rattle.reading.specs.Gots.{Got, Read, Refused}
use Rattle.reading.specs.Events.{with_id}
use Rattle.reading.specs.Process.{make, plain}
use Rattle.reading.proofs.Laws.Does.{by_stop, yes_way, no_way, does_more}
use Rattle.records.specs.declared.kind.Kind.{Kind}
use Rattle.records.specs.declared.kind.Kind.TheVariants as kinds
use Rattle.records.specs.declared.row.Row.{Row}
use Rattle.records.specs.Kinds.{number_of}
use Rattle.records.specs.Rows.{record_of}
use Rattle.records.specs.Words.{whole_of}
use Rattle.records.specs.Nodes.{word_at, kind_at, place_at, is_leaf, role_by, closure_at, value_at, value_of, node_at, MakesRow, row_like}
use Rattle.records.proofs.Laws.Nodes.{row_as, value_leaf, closure_earlier, does_node, read_of}
use Rattle.grammar.specs.Leaves.{row_of, leaf_row}
use Rattle.grammar.specs.Functions.{fun_row, fun_p}
use Rattle.grammar.specs.Statements.{jump_p, target_p, is_target, combine_p, increment_p}
use Rattle.grammar.specs.Reads.{Ready, Reads}
use Rattle.grammar.specs.ReadLaws.{reads_on, reads_then, reads_stop, refuses, reads_valued, reads_numbered, reads_fresh, ready_then, leaf_row_lem}
use Rattle.makers.specs.Duties.{Begun, last_of, Room, Acts, Alone, target_kind}
use Rattle.makers.specs.Laws.Acts.{not_true, not_false, room_of, reads_from, ready_need, reads_taken, reads_failed, acts_valued}

-- ---- kinds

-- by what it was found to be
pub kind_is : {a b k : ℕ} → a ≡ b → a ≡ k → eqb b k ≡ true
kind_is {a} {b} {k} e f = eq-eqb b k (sym e ∙ f)

pub kind_not : {a b k : ℕ} → a ≡ b → (a ≡ k → ⊥) → eqb b k ≡ false
kind_not {a} {b} {k} e f = ne_eqb b k (λ x. f (e ∙ x))

pub other_kind : {a b j : ℕ} (k : ℕ) → a ≡ b → a ≡ j → eqb j k ≡ false → eqb b k ≡ false
other_kind k e f g = ap (λ (x : ℕ). eqb x k) (sym e ∙ f) ∙ g

-- ---- leaves

-- the value of a literal stands in its row
pub literal_value : (pool : List ℕ) (n : ℕ) {kind k v : ℕ} → kind ≡ kind_at pool n → kind ≡ k → is_leaf k ≡ true
    → v ≡ whole_of (word_at pool n 4) (word_at pool n 5)
    → v ≡ value_at pool n
literal_value pool n e f h g = g ∙ sym (value_leaf pool n (ap (λ (x : ℕ). is_leaf x) (sym e ∙ f) ∙ h))

pub leaf_made : {cap : ℕ} {at : Place} {t : Tally} {w : Row} {p q : Place} {x y : ℕ} {r : Got} {A B : List ℕ} (k : Kind) → is_leaf (number_of k) ≡ true
    → w ≡ leaf_row k p x → p ≡ q → x ≡ y
    → MakesRow cap t at w r A B
    → Acts cap at t (make at (record_of (leaf_row k q y)) y) r A B
leaf_made {t = t} {q = q} {y = y} {A = A} k h e f g m = acts_valued (e ∙ (λ i. leaf_row k (f i) (g i))) (leaf_row_lem k A t.records q y h) m

-- ---- a record that holds nothing has no value, whatever its kind

closure_none : (pool : List ℕ) (made : ℕ) → closure_at pool (made + 1) 0 ≡ false
unfolding kind_at word_at
closure_none pool made = closure_earlier pool (made + 1) 0 (omega arith)

value_none : (k : Kind) (pool : List ℕ) (made : ℕ) (p : Place) → value_of pool made (row_of k p 0 0 0) ≡ 0
value_none k pool made p =
    go (is_leaf (number_of k)) (eqb (number_of k) (number_of kinds.Let)) (eqb (number_of k) (number_of kinds.Fun)) (eqb (number_of k) (number_of kinds.Class))
    (closure_at pool (made + 1) 0)
    (closure_none pool made)
  where
    go : (a b c d closure : Bool) → closure ≡ false
        → ◌≡◌ {A = ℕ}
        (elim a [
          | true ↦ whole_of 0 0
          | false ↦ elim b [
            | true ↦ whole_of 0 (role_by closure 0)
            | false ↦ elim c [ true ↦ 0 | false ↦ elim d [ true ↦ 0 | false ↦ 0 ] ]
          ]
        ])
        0
    go true b c d closure e = refl
    go false true c d closure e = ap (λ (x : Bool). whole_of 0 (role_by x 0)) e
    go false false true d closure e = refl
    go false false false true closure e = refl
    go false false false false closure e = refl

-- ---- a function: its id, then its record

pub fun_made : {cap : ℕ} {from at : Place} {t u : Tally} {name params i : ℕ} {row : Row} {r : Got} {A B : List ℕ} → i ≡ t.ids + 1 → u ≡ with_id t
    → row ≡ fun_row from i name params t.records
    → MakesRow cap u at row r A B
    → Acts cap at t (fun_p from name (plain params at) (last_of A t) at) r A B
unfolding fun_p
fun_made e f g m = record { reads = λ s k comps left. reads_fresh e f (reads_numbered k f (row_as g m)) }

-- ---- break and continue

module _ {s A : List ℕ} {cap : ℕ} {at : Place} {t : Tally} (g : Ready s A cap at t) (kind : Kind) (from : Place) {l : Must} (e : l ≡ expected s at (59 ∷ [])) where
  pub jump_fails : {k : Refusal} {q : Place} → l ≡ failed k q → Alone s cap at t (jump_p s kind from at) (Refused k q t) A A
  unfolding jump_p
  jump_fails f = record { reads = λ comps left. reads_failed at 59 e f }

  pub jump_made : {h n : Place} {row : Row} {r : Got} {B : List ℕ} → l ≡ taken h n → row ≡ row_of kind from 0 0 0 → MakesRow cap t n row r A B
      → Alone s cap at t (jump_p s kind from at) r A B
  unfolding jump_p
  jump_made f i m =
      record {
        reads = λ comps left.
            reads_from (omega arith)
            (reads_taken at 59 e g.stands f (reads_valued (ready_need at 59 e g f) (value_none kind A t.records from) (row_as i m)));
      }

-- ---- the step of `++` or `--`

module _ {s A : List ℕ} {cap : ℕ} {at : Place} {t : Tally} (g : Begun s A cap at t) (end : ℕ) (from : Place) (op : ℕ) {kind : ℕ} {b : Bool}
    (e : kind ≡ kind_at A t.records) (f : b ≡ target_kind kind) where
  target_as : b ≡ is_target (last_of A t)
  target_as = f ∙ ap (λ (k : ℕ). target_kind k) e

  pub no_target : {p : Place} → not b ≡ true → p ≡ place_at A t.records
      → Alone s cap (on_by 1 at) t (increment_p s end from op (last_of A t) at) (Refused InvalidTarget p t) A A
  unfolding increment_p target_p
  no_target x i =
      subst⁻¹ (λ (p : Place). Alone s cap (on_by 1 at) t (increment_p s end from op (last_of A t) at) (Refused InvalidTarget p t) A A) i
      (record { reads = λ comps left. refuses (no_way (sym target_as ∙ not_true b x) by_stop) })

  module _ (y : not b ≡ false) {l : Must} (x : l ≡ expected s at (end ∷ [])) where
    is_one : is_target (last_of A t) ≡ true
    is_one = sym target_as ∙ not_false b y

    pub no_end : {k : Refusal} {q : Place} → l ≡ failed k q
        → Alone s cap (on_by 1 at) t (increment_p s end from op (last_of A t) at) (Refused k q t) A A
    unfolding increment_p target_p
    no_end i = record { reads = λ comps left. reads_on {low = on_by 1 at} (yes_way is_one) (omega arith) (reads_failed at end x i) }

    module _ {h n : Place} (z : l ≡ taken h n) {r : Got} {B : List ℕ} (m : MakesRow cap t n (row_like A kinds.Int t.records 1 0 0) r A B) where
      one_made : {comps left : ℕ} → Reads s cap comps left n t (make n (record_of (leaf_row kinds.Int (place_at A t.records) 1)) 1) r A B
      one_made = reads_valued (ready_need at end x g.ready z) refl m

      pub one_full : {j : Refusal} {p : Place} {u : Tally} → r ≡ Refused j p u
          → Alone s cap (on_by 1 at) t (increment_p s end from op (last_of A t) at) (Refused j p u) A B
      unfolding increment_p target_p
      one_full i =
          subst (λ (y : Got). Alone s cap (on_by 1 at) t (increment_p s end from op (last_of A t) at) y A B) i
          (record {
            reads = λ comps left.
                reads_on {low = on_by 1 at} (yes_way is_one) (omega arith) (reads_taken at end x g.ready.stands z (reads_stop i one_made));
          })

      module _ {p : Place} {u : Tally} (i : r ≡ Read p u) where
        one_ready : Ready s B cap p u
        one_ready = ready_then (ready_need at end x g.ready z) i (one_made {comps = 0} {left = 0})

        -- what `combine` is called with
        pub one_room : Room B cap u × (1 ≤ t.records) × (t.records ≤ u.records)
        one_room = (room_of one_ready, g.some, does_more (read_of i (one_made {comps = 0} {left = 0}).does))

        pub incremented : {q : Got} {Z : List ℕ} → Acts cap p u (combine_p from op (node_at B t.records) (last_of B u) p) q B Z
            → Alone s cap (on_by 1 at) t (increment_p s end from op (last_of A t) at) q A Z
        unfolding increment_p target_p
        incremented {q} {Z} d =
            let same : node_at B t.records ≡ node_at A t.records = does_node (one_made {comps = 0} {left = 0}).does t.records (omega arith) in
            let d' : Acts cap p u (combine_p from op (last_of A t) (last_of B u) p) q B Z =
            subst (λ (v : Node). Acts cap p u (combine_p from op v (last_of B u) p) q B Z) same d
            in
            record {
              reads = λ comps left.
                  reads_on {low = on_by 1 at} (yes_way is_one) (omega arith)
                  (reads_taken at end x g.ready.stands z (reads_then i one_made (d'.reads s one_ready comps left)));
            }
