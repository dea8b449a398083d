-- Laws of the readers of assignments, steps and calls as statements: each return. Assumes nothing.
use Rattle.std.specs.Prelude.{◌≡◌, Bool, true, false, List, [], ◌∷◌, ℕ, ◌≤◌, ◌<◌, None, Ok, Option, Result}
use Rattle.std.proofs.Math.Path.{sym, subst⁻¹}
use Rattle.std.proofs.Common.{ap, subst, ◌∙◌, arith}
use Rattle.std.proofs.Math.Dec.{eqb}
use borrow.Author.Tests.{eq-eqb, ne_eqb}
use Rattle.characters.specs.declared.place.Place.{Place}
use Rattle.characters.specs.declared.refusal.Refusal.{Refusal}
use Rattle.characters.specs.declared.refusal.Refusal.TheVariants.{InvalidTarget, NotACall}
use Rattle.characters.specs.Text.{on_by}
use Rattle.characters.specs.PlaceLaws.{Advanced}
use Rattle.characters.specs.Tokens.{expected}
use Rattle.reading.specs.declared.node.Node.{Node}
use Rattle.reading.specs.declared.tally.Tally.{Tally}
use Rattle.reading.specs.Gots.{Got}
use Rattle.reading.specs.Gots.{Read, Refused}
use Rattle.reading.specs.Process.{call, must, bind}
use Rattle.reading.proofs.Laws.Does.{by_stop, then, along, yes_way, no_way, by_taken, by_failed, does_more}
use Rattle.records.specs.declared.kind.Kind.TheVariants as kinds
use Rattle.records.specs.declared.row.Row.{Row}
use Rattle.records.specs.Nodes.{kind_at, place_at, node_at, MakesRow}
use Rattle.records.proofs.Laws.Nodes.{row_as, read_of, does_node}
use Rattle.grammar.specs.declared.heads.StepHead.TheVariants.{Step, Other}
use Rattle.grammar.specs.Leaves.{row_of}
use Rattle.grammar.specs.Heads.{step_of, assign_of}
use Rattle.grammar.specs.HeadLaws.{StepOn, step_on, AssignOn, assign_on}
use Rattle.grammar.specs.Expressions.{Rule, expression, before_assignment, postfix_p}
use Rattle.grammar.specs.Statements.{assign_as, expr_or_assign_as, expr_or_assign_p, increment_p, target_p, store_p, do_p, combine_p}
use Rattle.grammar.specs.Reads.{Ready, Reads}
use Rattle.grammar.specs.ReadLaws.{read_ends, reads_on, reads_then, reads_stop, refuses, reads_make, ready_then, ready_at}
use Rattle.makers.specs.Duties.{Begun, last_of, Acts, Alone, target_kind}
use Rattle.makers.specs.Laws.Acts.{need_on, ready_need, reads_taken, reads_from, acts_reads, alone_reads}
use Rattle.characters.specs.Answers.{Must, failed, taken}
use Rattle.characters.specs.declared.refusal.Refused as struct
use Rattle.grammar.specs.Answers.{assigns}
use Rattle.grammar.specs.declared.heads.Assignment.{Assignment}
use Rattle.grammar.specs.declared.heads.StepHead.{StepHead}

-- ---- expr-or-assign: ( '++' | '--' ) postfix end | expression [ assignment-sign expression ] end

-- a step's sign is gone over
module _ {s A : List ℕ} {cap op : ℕ} {at n : Place} {t : Tally} {l : Result StepHead struct.Refused} (g : Ready s A cap at t) (e : l ≡ step_of s at) (f : l ≡ Ok (Step op n)) where
  step_over : Advanced s at n
  step_over = (subst (StepOn s at) (sym e ∙ f) (step_on s at g.stands)).0

  pub step_ready : Ready s A cap n t
  step_ready = ready_at g step_over.stands

module _ (end : ℕ) {s A : List ℕ} {cap comps left : ℕ} {at : Place} {t : Tally} {l : Result StepHead struct.Refused} (g : Ready s A cap at t) (e : l ≡ step_of s at) where
  step_as : {low : Place} (x : Result StepHead struct.Refused) {r : Got} {Z : List ℕ} → l ≡ x → at.offset < low.offset
      → Reads s cap comps left low t (expr_or_assign_as s end at x) r A Z → Reads s cap comps left (on_by 1 at) t (expr_or_assign_p s end at) r A Z
  unfolding expr_or_assign_p
  step_as {low} x f i h = reads_on {low = low} (along (expr_or_assign_as s end at) (sym f ∙ e)) (omega arith) h

  pub assign_wrong : {k : Refusal} {q : Place} → l ≡ failed k q → Reads s cap comps left (on_by 1 at) t (expr_or_assign_p s end at) (Refused k q t) A A
  assign_wrong {k} {q} f = step_as {low = on_by 1 at} (failed k q) f (omega arith) (refuses by_stop)

  -- a step
  module _ {op : ℕ} {n : Place} (f : l ≡ Ok (Step op n)) {o : Got} {B : List ℕ} (d : Reads s cap comps left n t (postfix_p s n) o A B) where
    pub step_stops : {k : Refusal} {q : Place} {u : Tally} → o ≡ Refused k q u → Reads s cap comps left (on_by 1 at) t (expr_or_assign_p s end at) o A B
    step_stops x = step_as {low = n} (Ok (Step op n)) f (step_over g e f).further (reads_stop x d)

    pub step_made : {q : Place} {u : Tally} {r : Got} {Z : List ℕ} → o ≡ Read q u
        → Alone s cap (on_by 1 q) u (increment_p s end at op (last_of B u) q) r B Z → Reads s cap comps left (on_by 1 at) t (expr_or_assign_p s end at) r A Z
    step_made {q} x h =
        step_as {low = n} (Ok (Step op n)) f (step_over g e f).further (reads_then x d (reads_from {low = on_by 1 q} (omega arith) (alone_reads h)))

  -- an expression
  module _ (f : l ≡ Ok Other) {o : Got} {B : List ℕ} (d : Reads s cap comps left at t (call before_assignment at) o A B) where
    pub assign_stops : {k : Refusal} {q : Place} {u : Tally} → o ≡ Refused k q u → Reads s cap comps left (on_by 1 at) t (expr_or_assign_p s end at) o A B
    assign_stops x = step_as {low = on_by 1 at} (Ok Other) f (omega arith) (reads_stop x d)

    pub assign_read : {q : Place} {u : Tally} {r : Got} {Z : List ℕ} → o ≡ Read q u
        → Reads s cap comps left (on_by 1 q) u (assign_as s end at (last_of B u) q (assign_of s q)) r B Z
        → Reads s cap comps left (on_by 1 at) t (expr_or_assign_p s end at) r A Z
    assign_read {q} x h =
        let i = (read_ends x d).reached.further in
        step_as {low = on_by 1 q} (Ok Other) f (omega arith) (reads_on {low = on_by 1 q} (then (read_of x d.does)) (omega arith) h)

-- ---- [ assignment-sign expression ] end, the target or the call read

-- an assignment sign is gone over
module _ {s A : List ℕ} {cap op : ℕ} {at n : Place} {t : Tally} {l : Option Assignment} (g : Begun s A cap at t) (e : l ≡ assign_of s at) (f : l ≡ assigns op n) where
  sign_over : Advanced s at n
  sign_over = (subst (AssignOn s at) (sym e ∙ f) (assign_on s at g.ready.stands)).0

  pub store_ready : Ready s A cap n t
  store_ready = ready_at g.ready sign_over.stands

-- the target is made before its value
pub target_made : {s A B : List ℕ} {cap comps left : ℕ} {from p : Place} {t u : Tally} {P : Rule} {o : Got} → o ≡ Read p u
    → Reads s cap comps left from t P o A B
    → t.records ≤ u.records
target_made x d = does_more (read_of x d.does)

-- the kind of the last record, as the code was given it
module _ (end : ℕ) (from : Place) {s A : List ℕ} {cap comps left kind : ℕ} {at : Place} {t : Tally} {l : Option Assignment} (g : Begun s A cap at t) (m : kind ≡ kind_at A t.records) (e : l ≡ assign_of s at) where
  store_as : {low : Place} (x : Option Assignment) {r : Got} {Z : List ℕ} → l ≡ x → at.offset < low.offset
      → Reads s cap comps left low t (assign_as s end from (last_of A t) at x) r A Z
      → Reads s cap comps left (on_by 1 at) t (assign_as s end from (last_of A t) at (assign_of s at)) r A Z
  store_as {low} x f i h = reads_on {low = low} (along (assign_as s end from (last_of A t) at) (sym f ∙ e)) (omega arith) h

  -- no sign: a call
  module _ (f : l ≡ None) {c : Must} (i : c ≡ expected s at (end ∷ [])) where
    pub do_lacks : {k : Refusal} {q : Place} → c ≡ failed k q
        → Reads s cap comps left (on_by 1 at) t (assign_as s end from (last_of A t) at (assign_of s at)) (Refused k q t) A A
    do_lacks x = store_as {low = on_by 1 at} None f (omega arith) (refuses (by_failed i x))

    module _ {h n : Place} (x : c ≡ taken h n) where
      pub do_refused : {p : Place} → (kind ≡ 19 → ⊥) → p ≡ place_at A t.records
          → Reads s cap comps left (on_by 1 at) t (assign_as s end from (last_of A t) at (assign_of s at)) (Refused NotACall p t) A A
      unfolding do_p
      do_refused {p} j z =
          subst⁻¹ (λ (p : Place). Reads s cap comps left (on_by 1 at) t (assign_as s end from (last_of A t) at (assign_of s at)) (Refused NotACall p t) A A) z
          (store_as {low = on_by 1 at} None f (omega arith) (refuses (by_taken i x (no_way (sym (ap (λ (k : ℕ). eqb k 19) m) ∙ ne_eqb kind 19 j) by_stop))))

      pub do_made : {w : Row} {r : Got} {B : List ℕ} → kind ≡ 19 → w ≡ row_of kinds.Do from t.records 0 0 → MakesRow cap t n w r A B
          → Reads s cap comps left (on_by 1 at) t (assign_as s end from (last_of A t) at (assign_of s at)) r A B
      unfolding do_p
      do_made j z y =
          store_as {low = on_by 1 at} None f (omega arith)
          (reads_taken at end i g.ready.stands x
          (reads_on {low = n} (yes_way (sym (ap (λ (k : ℕ). eqb k 19) m) ∙ eq-eqb kind 19 j)) (omega arith)
          (reads_make (ready_need at end i g.ready x) (row_as z y))))

  -- a sign: the target gets a value
  module _ {op : ℕ} {n : Place} (f : l ≡ assigns op n) {b : Bool} (q : b ≡ target_kind kind) where
    pub store_refused : {p : Place} → b ≡ false → p ≡ place_at A t.records
        → Reads s cap comps left (on_by 1 at) t (assign_as s end from (last_of A t) at (assign_of s at)) (Refused InvalidTarget p t) A A
    unfolding target_p
    store_refused {p} j z =
        subst⁻¹ (λ (p : Place). Reads s cap comps left (on_by 1 at) t (assign_as s end from (last_of A t) at (assign_of s at)) (Refused InvalidTarget p t) A A) z
        (store_as {low = on_by 1 at} (assigns op n) f (omega arith) (refuses (no_way (sym (ap target_kind m) ∙ sym q ∙ j) by_stop)))

    module _ (j : b ≡ true) {o : Got} {B : List ℕ} (d : Reads s cap comps left n t (call expression n) o A B) where
      value_as : {r : Got} {Z : List ℕ}
          → Reads s cap comps left n t (bind (call expression n) (λ p v. must (expected s p (end ∷ [])) (λ h k. store_p from op (last_of A t) v k))) r A Z
          → Reads s cap comps left (on_by 1 at) t (assign_as s end from (last_of A t) at (assign_of s at)) r A Z
      unfolding target_p
      value_as h = store_as {low = n} (assigns op n) f (sign_over g e f).further (reads_on {low = n} (yes_way (sym (ap target_kind m) ∙ sym q ∙ j)) (omega arith) h)

      pub store_stops : {k : Refusal} {p : Place} {u : Tally} → o ≡ Refused k p u
          → Reads s cap comps left (on_by 1 at) t (assign_as s end from (last_of A t) at (assign_of s at)) o A B
      store_stops x = value_as (reads_stop x d)

      module _ {p : Place} {u : Tally} (x : o ≡ Read p u) {c : Must} (i : c ≡ expected s p (end ∷ [])) where
        pub store_lacks : {k : Refusal} {p' : Place} → c ≡ failed k p'
            → Reads s cap comps left (on_by 1 at) t (assign_as s end from (last_of A t) at (assign_of s at)) (Refused k p' u) A B
        store_lacks y = value_as (reads_then x d (refuses (by_failed i y)))

        module _ {h k : Place} (y : c ≡ taken h k) where
          after : Ready s B cap k u
          after = ready_need p end i (ready_then (store_ready g e f) x d) y

          ended_as : {r : Got} {Z : List ℕ} → Reads s cap comps left k u (store_p from op (last_of A t) (last_of B u) k) r B Z
              → Reads s cap comps left (on_by 1 at) t (assign_as s end from (last_of A t) at (assign_of s at)) r A Z
          ended_as v =
              value_as (reads_then x d (reads_on {low = k} (by_taken i y) (let z = (need_on p end i (read_ends x d).reached.stands y).further in omega arith) v))

          pub store_made : {w : Row} {r : Got} {Z : List ℕ} → op ≡ 0 → w ≡ row_of kinds.Assign from t.records u.records 0 → MakesRow cap u k w r B Z
              → Reads s cap comps left (on_by 1 at) t (assign_as s end from (last_of A t) at (assign_of s at)) r A Z
          unfolding store_p
          store_made z v w = ended_as (reads_on {low = k} (yes_way (eq-eqb op 0 z)) (omega arith) (reads_make after (row_as v w)))

          pub store_combined : {r : Got} {Z : List ℕ} → (op ≡ 0 → ⊥) → Acts cap k u (combine_p from op (node_at B t.records) (last_of B u) k) r B Z
              → Reads s cap comps left (on_by 1 at) t (assign_as s end from (last_of A t) at (assign_of s at)) r A Z
          unfolding store_p
          store_combined {r} {Z} z v =
              ended_as
              (reads_on {low = k} (no_way (ne_eqb op 0 z)) (omega arith)
              (subst (λ (x : Node). Reads s cap comps left k u (combine_p from op x (last_of B u) k) r B Z) (does_node d.does t.records (omega arith))
              (acts_reads v after)))
