-- METHODS, AND WHAT THE UNIT DECLARES: each return of the reader of a method, and the functions and classes after each item of the unit.
-- Assumes nothing.
use Rattle.std.specs.Prelude.{◌≡◌, Bool, true, false, ◌&&◌, ℕ, ◌+◌, ◌*◌, ◌≤◌, ◌<◌, ltb, eqb, length}
use Rattle.std.proofs.Math.Path.{refl, subst}
use Rattle.std.proofs.Common.{sym, ap, ◌∙◌, arith, ne_eqb, lt-ltb}
use mathlib.Core.List.{List, [], ◌∷◌, ◌++◌}
use Rattle.characters.specs.declared.place.Place.{Place}
use Rattle.characters.specs.declared.place.Span.{Span}
use Rattle.characters.specs.declared.refusal.Refusal.{Refusal}
use Rattle.characters.specs.declared.refusal.Refusal.TheVariants.{InitWithoutParameter}
use Rattle.characters.specs.Text.{Text, Stands}
use Rattle.characters.specs.Names.{name}
use Rattle.characters.specs.NameLaws.{NamedOn, name_on}
use Rattle.characters.specs.PlaceLaws.{Advanced}
use Rattle.characters.specs.Answers.{Must, failed, taken}
use Rattle.reading.specs.declared.node.Node.{Node}
use Rattle.reading.specs.declared.tally.Tally.{Tally}
use Rattle.reading.specs.Gots.{Got, Read, Refused}
use Rattle.reading.specs.Process.{Process, Grammar, make, call}
use Rattle.reading.specs.Says.{Does}
use Rattle.reading.proofs.Laws.Does.{by_stop, by_make, then, stops, told, yes_way, no_way, by_taken, by_failed}
use Rattle.records.specs.declared.kind.Kind.TheVariants as kinds
use Rattle.records.specs.declared.row.Row.{Row}
use Rattle.records.specs.Kinds.{number_of}
use Rattle.records.specs.Rows.{Lent, layout, record_of}
use Rattle.records.specs.Words.{span_of, high_of}
use Rattle.records.specs.Nodes.{kind_at, held_at, value_at, value_of, node_at, out_of, MakesRow}
use Rattle.records.proofs.Laws.Nodes.{keeps_layout, held_kept, held_laid, node_laid, row_as, row_read, read_of, refused_of}
use Rattle.grammar.specs.Leaves.{row_of}
use Rattle.grammar.specs.Expressions.{statement, function, class, method_row}
use Rattle.grammar.specs.Functions.{name_span, name_word, with_name}
use Rattle.grammar.specs.Classes.{is_init, method_end_p, method_p}
use Rattle.grammar.specs.Units.{Declared, nothing, is_function, is_constant, declared_name, with_class, declares}
use Rattle.grammar.specs.Grammar.{grammar}
use Rattle.grammar.specs.Reads.{Ready, Reads}
use Rattle.grammar.specs.ReadLaws.{reads_on, reads_make, ready_then, ready_made, read_ends}
use Rattle.makers.specs.declared.names.Naming.{Naming}
use Rattle.makers.specs.declared.names.Naming.TheVariants.{Methods, Functions, Classes}
use Rattle.makers.specs.Names.{held_if, function_of, class_of, names_of, Refers, Listed, Kept, Unique, Well, Method, Declares}
use Rattle.makers.specs.Laws.Names.{read_or_refused, Joins, name_then, name_stops, ready_kept, well_own, listed_none, listed_kept, listed_does, made_room, listed_made}
use Rattle.makers.specs.Laws.NamesRead.{taken_packs, span_as, ends_off}
use Rattle.makers.specs.Laws.NamesLast.{function_name, class_value, statement_kind}

-- ---- a method

pub name_taken : {s : Text} {p h q : Place} {l : Must} → Stands s p → l ≡ name s p → l ≡ taken h q → (h ≡ p) × Advanced s p q
name_taken {s} {p} v e f = let g = subst (NamedOn s p) (sym e ∙ f) (name_on s p v) in (g.0, g.1)

module _ {s : Text} {pool : List ℕ} {cap comps last : ℕ} {at : Place} {t : Tally} (g : Ready s pool cap at t) (w : Well Methods pool t last) {l : Must} (e : l ≡ name s at) where
  -- no name
  pub method_fails : {left : ℕ} {j : Refusal} {q : Place} → l ≡ failed j q → Method s cap comps left last at t (Refused j q t) pool pool
  unfolding method_p
  method_fails f = record { does = by_failed e f; ends = tt; listed = λ z. absurd (read_or_refused refl z) }

  module _ {h q : Place} (f : l ≡ taken h q) {o : Got} (c : Unique Methods s comps t q q (name_span h q) (names_of Methods pool last) o) where
    name_here : (h ≡ at) × Advanced s at q
    name_here = name_taken g.stands e f

    -- one that stands there already
    pub method_clashes : {left : ℕ} {j : Refusal} {p : Place} {u : Tally} → o ≡ Refused j p u → Method s cap comps left last at t o pool pool
    unfolding method_p
    method_clashes x =
        record {
          does = told (sym (ap (out_of pool) x)) (by_taken e f (name_stops Methods refl _ c x));
          ends = ends_off s at x;
          listed = λ z. absurd (read_or_refused x z);
        }

    module _ {p : Place} {u : Tally} (x : o ≡ Read p u) where
      -- what its function is read with
      pub method_ready : Ready s pool cap q u
      method_ready = ready_kept g (c.kept x) name_here.1.stands

      module _ {left : ℕ} {v : Got} {mid : List ℕ} (d : Reads s cap comps left q u (call (function h (name_word h q)) q) v pool mid) where
        -- a function that is refused
        pub method_stops : {j : Refusal} {p' : Place} {u' : Tally} → v ≡ Refused j p' u' → Method s cap comps left last at t v pool mid
        unfolding method_p
        method_stops y =
            record {
              does = told (sym (ap (out_of mid) y)) (by_taken e f (name_then Methods refl c x (stops (refused_of y d.does))));
              ends = ends_off s at y;
              listed = λ z. absurd (read_or_refused y z);
            }

        module _ {r : Place} {u' : Tally} (y : v ≡ Read r u') where
          -- `init` with no parameter
          pub method_bare : (is_init s h q && eqb (value_at mid u'.records) 0) ≡ true
              → Method s cap comps left last at t (Refused InitWithoutParameter r u') pool mid
          unfolding method_p method_end_p
          method_bare b =
              record {
                does = by_taken e f (name_then Methods refl c x (then (read_of y d.does) (yes_way b by_stop)));
                ends = tt;
                listed = λ z. absurd (read_or_refused refl z);
              }

          -- its item
          pub method_made : {row : Row} {a : Got} {after : List ℕ} → (is_init s h q && eqb (value_at mid u'.records) 0) ≡ false
              → row ≡ method_row (node_at mid u'.records) last → MakesRow cap u' r row a mid after → Method s cap comps left last at t a pool after
          unfolding method_p method_end_p
          method_made {row} {a} {after} b i m =
              let m' = row_as i m in
              let n = ready_then method_ready y d in
              let j = name_here.1.further in
              let k = (read_ends y d).reached.further in
              let z : Reads s cap comps left at t (method_p s (names_of Methods pool last) last at) a pool after =
              reads_on (λ o. by_taken e f (name_then Methods refl c x (then (read_of y d.does) (no_way b o)))) (omega arith) (reads_make n m')
              in
              let made = (read_ends y d).made in
              let was : held_at mid u'.records 1 ≡ name_word h q = function_name s (read_of y d.does) method_ready.room method_ready.lent in
              record {
                does = z.does;
                ends = z.ends;
                listed = λ o.
                    named
                    (span_as (taken_packs g name_here)
                    (word_as was
                    (listed_made (record { before = refl; refers = (made, omega arith) }) m' o n.lent
                    (listed_does d.does y (listed_kept (c.kept x) (well_own w))))));
              }
            where
              word_as : {u'' : Tally} {n w w' : ℕ} {ks : List Span} → w ≡ w' → Listed Methods after u'' n (span_of w ∷ ks) → Listed Methods after u'' n (span_of w' ∷ ks)
              word_as {u''} {n} {ks = ks} q b = subst (λ (w : ℕ). Listed Methods after u'' n (span_of w ∷ ks)) q b

              named : {u'' : Tally} {n : ℕ} → Listed Methods after u'' n (name_span h q ∷ names_of Methods pool last)
                  → Listed Methods after u'' n (with_name (name s at) (names_of Methods pool last))
              named {u''} {n} b = subst (λ (y : Must). Listed Methods after u'' n (with_name y (names_of Methods pool last))) (sym f ∙ e) b

-- ---- what the unit's items declare

-- at its start
pub declares_none : {pool : List ℕ} {t : Tally} → Declares pool t 0 nothing
declares_none = record { funs = listed_none; classes = listed_none }

-- what the names are compared with
pub declares_well : {pool : List ℕ} {t : Tally} {last : ℕ} {d : Declared} → Declares pool t last d → Well Functions pool t last × Well Classes pool t last
declares_well h =
    (record { chained = h.funs.chained; made = h.funs.made }, record { chained = h.classes.chained; made = h.classes.made })

-- after a new name
pub declares_kept : {pool : List ℕ} {q p : Place} {t u : Tally} {last : ℕ} {d : Declared} → Kept q t p u → Declares pool t last d → Declares pool u last d
declares_kept k h = record { funs = listed_kept k h.funs; classes = listed_kept k h.classes }

-- after whatever was read
pub declares_does : {N : Type 0} {G : Grammar N} {cap comps left : ℕ} {t u : Tally} {P : Process N} {r : Got} {p : Place} {A B : List ℕ} {last : ℕ} {d : Declared}
    → Does layout G cap comps left t P (out_of B r) A B → r ≡ Read p u → Declares A t last d → Declares B u last d
declares_does x e h = record { funs = listed_does x e h.funs; classes = listed_does x e h.classes }

-- after a record was made
pub declares_made : {cap : ℕ} {t u : Tally} {p q : Place} {w : Row} {r : Got} {A B : List ℕ} {last : ℕ} {d : Declared} → MakesRow cap t q w r A B → r ≡ Read p u
    → Declares A t last d → Declares B u last d
declares_made {cap} {t} {w = w} {r = r} {A = A} {B = B} m e h =
    let x : Does layout (grammar []) cap 0 0 t (make _ (record_of w) (value_of A t.records w)) (out_of B r) A B = by_make m.makes in
    declares_does x e h

-- what a statement declares: a function, or nothing that is compared
declares_funs : (x : Node) (d : Declared) → held_if (is_function x) (declared_name x) ++ d.funs ≡ (declares x d).funs
unfolding declares
declares_funs x d = go (is_function x) (is_constant x)
  where
    go : (b c : Bool) → held_if b (declared_name x) ++ d.funs
        ≡ (elim b as (λ z. Declared) [
          | true ↦ record { funs = declared_name x ∷ d.funs; classes = d.classes; globals = d.globals }
          | false ↦ elim c as (λ z. Declared) [ true ↦ record { funs = d.funs; classes = d.classes; globals = d.globals + 1 } | false ↦ d ]
        ]).funs
    go true c = refl
    go false true = refl
    go false false = refl

declares_classes : (x : Node) (d : Declared) → d.classes ≡ (declares x d).classes
unfolding declares
declares_classes x d = go (is_function x) (is_constant x)
  where
    go : (b c : Bool) → d.classes
        ≡ (elim b as (λ z. Declared) [
          | true ↦ record { funs = declared_name x ∷ d.funs; classes = d.classes; globals = d.globals }
          | false ↦ elim c as (λ z. Declared) [ true ↦ record { funs = d.funs; classes = d.classes; globals = d.globals + 1 } | false ↦ d ]
        ]).classes
    go true c = refl
    go false true = refl
    go false false = refl

-- a record that is no declaration of a class
no_class : (pool : List ℕ) (x : ℕ) → (kind_at pool x ≡ number_of kinds.ClassDecl → ⊥) → class_of pool x ≡ []
no_class pool x h =
    ap (λ (b : Bool). held_if (b && (ltb 0 (held_at pool x 0) && ltb (held_at pool x 0) x)) (span_of (held_at pool (held_at pool x 0) 1)))
    (ne_eqb (kind_at pool x) (number_of kinds.ClassDecl) h)

-- and one that is no `let`
no_function : (pool : List ℕ) (x : ℕ) → (kind_at pool x ≡ number_of kinds.Let → ⊥) → function_of pool x ≡ []
no_function pool x h =
    ap (λ (b : Bool). held_if (b && eqb (high_of (value_at pool x)) 2) (declared_name (node_at pool x))) (ne_eqb (kind_at pool x) (number_of kinds.Let) h)

-- an item that refers to the last record, after the item `last`
pub record Follows (w : Row) (x last : ℕ) : Type 0 where
  pub holds : w.a ≡ x
  pub before : w.b ≡ last

module _ {cap : ℕ} {t u : Tally} {q p : Place} {w : Row} {r : Got} {A B : List ℕ} {last : ℕ} {d : Declared}
    (k : Follows w t.records last) (some : 1 ≤ t.records) (m : MakesRow cap t q w r A B) (e : r ≡ Read p u) (lent : Lent A cap) (h : Declares A t last d) where
  joins : (nm : Naming) → ((a : ℕ) → (1 ≤ a) × (a < t.records + 1) → Refers nm a (t.records + 1)) → Joins nm w last t.records
  joins nm f = let z = k.holds in record { before = k.before; refers = f w.a (omega arith, omega arith) }

  fun_list : Listed Functions B u u.records (function_of A t.records ++ d.funs)
  fun_list =
      subst (λ (x : ℕ). Listed Functions B u u.records (function_of A x ++ d.funs)) k.holds
      (listed_made (joins Functions (λ a x. x)) m e lent h.funs)

  class_list : Listed Classes B u u.records (class_of A t.records ++ d.classes)
  class_list =
      subst (λ (x : ℕ). Listed Classes B u u.records (class_of A x ++ d.classes)) k.holds
      (listed_made (joins Classes (λ a x. x)) m e lent h.classes)

  -- A statement's item: the statement is the last record, and no class.
  pub declares_stated : kind_at A t.records < number_of kinds.ClassDecl → Declares B u u.records (declares (node_at A t.records) d)
  declares_stated l =
      let x : Node = node_at A t.records in
      record {
        funs = subst (Listed Functions B u u.records) (declares_funs x d) fun_list;
        classes =
            subst (Listed Classes B u u.records)
            (ap (λ (ks : List Span). ks ++ d.classes) (no_class A t.records (λ z. omega arith)) ∙ declares_classes x d) class_list;
      }

  -- A class's item: its declaration is the last record, and refers to the class with this name.
  pub declares_class : {c : ℕ} {name : Span} → kind_at A t.records ≡ number_of kinds.ClassDecl → held_at A t.records 0 ≡ c → 1 ≤ c → c < t.records
      → span_of (held_at A c 1) ≡ name → Declares B u u.records (with_class name d)
  declares_class {c} {name} l o i j n =
      let f : function_of A t.records ≡ [] = no_function A t.records (λ z. omega arith) in
      let a : (eqb (kind_at A t.records) (number_of kinds.ClassDecl) && (ltb 0 (held_at A t.records 0) && ltb (held_at A t.records 0) t.records)) ≡ true =
      (λ i. eqb (l i) (number_of kinds.ClassDecl) && (ltb 0 (o i) && ltb (o i) t.records))
      ∙ (λ k. lt-ltb 0 c i k && lt-ltb c t.records j k)
      in
      let g : class_of A t.records ≡ name ∷ [] = (λ i. held_if (a i) (span_of (held_at A (o i) 1))) ∙ ap (λ (s : Span). s ∷ []) n in
      record {
        funs = subst (λ (ks : List Span). Listed Functions B u u.records (ks ++ d.funs)) f fun_list;
        classes = subst (λ (ks : List Span). Listed Classes B u u.records (ks ++ d.classes)) g class_list;
      }

-- ---- the unit's items

module _ {s : Text} {cap comps left last : ℕ} {at p q : Place} {t u : Tally} {d : Declared} {o : Got} {A B : List ℕ} (g : Ready s A cap at t) (h : Declares A t last d)
    (e : o ≡ Read q u) where
  -- A statement and its item, with a global number or without one.
  pub stated_item : {w : Row} {r : Got} {p' : Place} {v : Tally} {C : List ℕ} → Reads s cap comps left at t (call statement p) o A B
      → Follows w u.records last → MakesRow cap u q w r B C → r ≡ Read p' v
      → Declares C v v.records (declares (node_at B u.records) d)
  stated_item x k m f =
      let n = ready_then g e x in
      declares_stated k (read_ends e x).made m f n.lent (declares_does x.does e h) (statement_kind s (read_of e x.does) g.room g.lent)

  -- A class, its declaration and its item.
  pub class_item_lem : {from from' : Place} {names : List Span} {w : Row} {r r' : Got} {p' q' : Place} {v v' : Tally} {C D : List ℕ}
      → Reads s cap comps left at t (call (class from names) p) o A B
      → MakesRow cap u q (row_of kinds.ClassDecl from' u.records 0 0) r B C → r ≡ Read q' v
      → Follows w v.records last → MakesRow cap v q' w r' C D → r' ≡ Read p' v'
      → Declares D v' v'.records (with_class (span_of (value_at B u.records)) d)
  class_item_lem {from' = from'} {v = v} {C = C} x m f k m' f' =
      let c : ℕ = u.records in
      let y : Row = row_of kinds.ClassDecl from' c 0 0 in
      let n = ready_then g e x in
      let i = (read_ends e x).made in
      let z = row_read m f in
      let l : v.records ≡ c + 1 = ap (λ (t : Tally). t.records) z.tally in
      let o = made_room m f in
      let room : cap * 8 ≤ length B = n.lent.room in
      let j : c * 8 + 8 ≤ length B = omega arith in
      let a : kind_at C v.records ≡ number_of kinds.ClassDecl = (λ i. kind_at (z.pool i) (l i)) ∙ ap (λ (x : Node). x.kind) (node_laid B c y j) in
      let b : held_at C v.records 0 ≡ c = (λ i. held_at (z.pool i) (l i) 0) ∙ held_laid B c y j 0 (omega arith) in
      let w : held_at C c 1 ≡ held_at B c 1 = (λ i. held_at (z.pool i) c 1) ∙ held_kept (keeps_layout B c (record_of y)) c 1 (omega arith) (omega arith) in
      let h' : Declares C v last d = declares_made m f (declares_does x.does e h) in
      declares_class k (omega arith) m' f' (ready_made n f m).lent h' a b i (omega arith)
      (ap span_of (w ∙ sym (class_value s (read_of e x.does) g.room g.lent)))
