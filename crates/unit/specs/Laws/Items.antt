-- THE UNIT: each return of the readers of its items, of the loop over them and of what ends it. Assumes nothing.
use Rattle.std.specs.Prelude.{◌≡◌, Bool, ◌&&◌, List, [], ◌∷◌, ℕ, suc, ◌+◌, ◌≤◌, ◌<◌, eqb, length, Ok, Result}
use Rattle.std.proofs.Math.Path.{refl, ap, subst, subst⁻¹}
use Rattle.std.proofs.Common.{sym, ◌∙◌, arith, eq-eqb, ne_eqb}
use Rattle.std.proofs.Math.Bool.{true, false}
use Rattle.characters.specs.declared.place.Place.{Place}
use Rattle.characters.specs.declared.place.Span.{Span}
use Rattle.characters.specs.declared.refusal.Refusal.{Refusal}
use Rattle.characters.specs.declared.refusal.Refusal.TheVariants.{LeadingFrom}
use Rattle.characters.specs.declared.refusal.Refused as struct
use Rattle.characters.specs.Answers.{Looked, failed, found, missing}
use Rattle.characters.specs.Text.{Text, ascii, on_by}
use Rattle.characters.specs.Tokens.{keyword}
use Rattle.characters.specs.TokenLaws.{TokenOn, keyword_on}
use Rattle.characters.specs.PlaceLaws.{Reached, Advanced}
use Rattle.reading.specs.declared.node.Node.{Node}
use Rattle.reading.specs.declared.tally.Tally.{Tally}
use Rattle.reading.specs.Gots.{Got, Read, Refused}
use Rattle.reading.specs.Outs.{Out}
use Rattle.reading.specs.Entry.{nowhere}
use Rattle.reading.specs.Process.{make, call, plain, under}
use Rattle.reading.specs.Says.{Does}
use Rattle.reading.proofs.Laws.Does.{by_make, by_stop, then, stops, along, yes_way, no_way, by_found, by_missing, by_halted, does_more}
use Rattle.records.specs.declared.kind.Kind.TheVariants as kinds
use Rattle.records.specs.declared.row.Row.{Row}
use Rattle.records.specs.Kinds.{number_of}
use Rattle.records.specs.Rows.{Lent, layout, record_of}
use Rattle.records.specs.Words.{span_of, low_of, high_of, whole_of}
use Rattle.records.specs.Nodes.{word_at, kind_at, place_at, held_at, value_by, role_by, closure_at, value_at, value_of, node_at, out_of, MakesRow}
use Rattle.records.proofs.Laws.Words.{low_back, high_back}
use Rattle.records.proofs.Laws.Rows.{lent_kept}
use Rattle.records.proofs.Laws.Nodes.{row_as, row_read, does_length, read_of, refused_of}
use Rattle.grammar.specs.declared.heads.ItemHead.{ItemHead}
use Rattle.grammar.specs.declared.heads.ItemHead.TheVariants.{End, Class, Statement}
use Rattle.grammar.specs.Leaves.{row_of}
use Rattle.grammar.specs.Heads.{item_of}
use Rattle.grammar.specs.HeadLaws.{ItemOn, item_on}
use Rattle.grammar.specs.Expressions.{Rule, statement, class, turns, stated_row}
use Rattle.grammar.specs.Functions.{block_row, fun_p}
use Rattle.grammar.specs.Units.{Declared, nothing, is_function, is_constant, declared_name, declares, unit_item_p, class_item_p, unit_end_p, item_as, items_p, unit_p}
use Rattle.grammar.specs.Grammar.{grammar}
use Rattle.grammar.specs.Reads.{Ready, EndsBy, Reads}
use Rattle.grammar.specs.ReadLaws.{read_ends, reads_on, reads_then, reads_make, refuses, ready_then, ready_at}
use Rattle.makers.specs.declared.names.Naming.TheVariants.{Functions, Classes}
use Rattle.makers.specs.Duties.{Begun, last_of, Room, Acts}
use Rattle.makers.specs.Names.{names_of, Kept, Unique, Declares}
use Rattle.makers.specs.Laws.Acts.{acts_reads, acts_make, acts_then, acts_stop, reads_from, reads_refused}
use Rattle.makers.specs.Laws.Turns.{Turning, turn_first, turn_on, turn_fuel, same_turns}
use Rattle.makers.specs.Laws.Names.{read_or_refused, name_then, name_stops, ready_kept, well_own, made_room}
use Rattle.makers.specs.Laws.NamesRead.{ends_off}
use Rattle.makers.specs.Laws.NamesLast.{statement_kind}
use Rattle.makers.specs.Laws.NamesUnit.{Follows, declares_none, declares_well, declares_kept, declares_does, declares_stated, class_item_lem}
use Rattle.unit.specs.declared.items.Role.{Role}
use Rattle.unit.specs.declared.items.Role.TheVariants.{Function, Constant, Other}
use Rattle.unit.specs.Items.{declared_at, WellDeclared, role_in, ItemMade, Itemed, ClassItemed}

-- ---- what a statement declares

role_by_lem : (x : Node) (a b : Bool) → is_function x ≡ a → is_constant x ≡ b → {k : Role}
    → k ≡ elim a as (λ z. Role) [ true ↦ Function (declared_name x) | false ↦ elim b as (λ z. Role) [ true ↦ Constant | false ↦ Other ] ]
    → k ≡ role_in x
role_by_lem x a b e f g =
    g
    ∙ sym
    (λ i. elim (e i) as (λ z. Role) [ true ↦ Function (declared_name x) | false ↦ elim (f i) as (λ z. Role) [ true ↦ Constant | false ↦ Other ] ])

module _ (pool : List ℕ) (n : ℕ) {kind : ℕ} (e : kind ≡ kind_at pool n) where
  pub role_none : (kind ≡ 29 → ⊥) → Other ≡ role_in (node_at pool n)
  role_none h =
      let z : eqb (kind_at pool n) 29 ≡ false = ne_eqb (kind_at pool n) 29 (λ z. h (e ∙ z)) in
      role_by_lem (node_at pool n) false false
      (ap (λ (b : Bool). b && eqb (high_of (value_at pool n)) 2) z)
      (ap (λ (b : Bool). b && eqb (high_of (value_at pool n)) 0) z)
      refl

  module _ (h : kind ≡ 29) {word role : ℕ} (f : word ≡ held_at pool n 1) (small : word < 4294967296)
      (g : role ≡ role_by (closure_at pool n (held_at pool n 2)) (held_at pool n 0)) where
    let_value : value_at pool n ≡ whole_of word role
    unfolding value_at
    let_value =
        ap (λ (k : ℕ). value_by k (word_at pool n 4) (word_at pool n 5) (word_at pool n 6) (closure_at pool n (word_at pool n 6))) (sym e ∙ h)
        ∙ (λ i. whole_of (sym f i) (sym g i))

    plays : (r : ℕ) → (eqb (kind_at pool n) 29 && eqb (high_of (value_at pool n)) r) ≡ eqb role r
    plays r =
        ap (λ (b : Bool). b && eqb (high_of (value_at pool n)) r) (eq-eqb (kind_at pool n) 29 (sym e ∙ h))
        ∙ ap (λ (v : ℕ). eqb v r) (ap high_of let_value ∙ high_back word role small)

    pub role_constant : role ≡ 0 → Constant ≡ role_in (node_at pool n)
    role_constant k =
        role_by_lem (node_at pool n) false true (plays 2 ∙ ap (λ (r : ℕ). eqb r 2) k) (plays 0 ∙ eq-eqb role 0 k) refl

    pub role_named : {name : Span} → role ≡ 2 → name ≡ span_of word → Function name ≡ role_in (node_at pool n)
    role_named k m =
        role_by_lem (node_at pool n) true false (plays 2 ∙ eq-eqb role 2 k) (plays 0 ∙ ap (λ (r : ℕ). eqb r 0) k)
        (ap (λ (x : Span). Function x) (m ∙ ap span_of (sym (ap low_of let_value ∙ low_back word role small))))

    pub role_other : (role ≡ 0 → ⊥) → (role ≡ 2 → ⊥) → Other ≡ role_in (node_at pool n)
    role_other j k =
        role_by_lem (node_at pool n) false false (plays 2 ∙ ne_eqb role 2 k) (plays 0 ∙ ne_eqb role 0 j) refl

-- as the rule tests it
module _ (x : Node) {k : Role} (e : k ≡ role_in x) where
  is_constant_lem : k ≡ Constant → (is_function x ≡ false) × (is_constant x ≡ true)
  is_constant_lem f = go (is_function x) (is_constant x) (sym e ∙ f)
    where
      go : (a b : Bool)
          → elim a as (λ z. Role) [ true ↦ Function (declared_name x) | false ↦ elim b as (λ z. Role) [ true ↦ Constant | false ↦ Other ] ] ≡ Constant
          → (a ≡ false) × (b ≡ true)
      go true b g = let z : ◌≡◌ {A = ℕ} 0 1 = cc in absurd (omega arith)
      go false true g = (refl, refl)
      go false false g = let z : ◌≡◌ {A = ℕ} 0 1 = cc in absurd (omega arith)

  is_function_lem : {n : Span} → k ≡ Function n → (is_function x ≡ true) × (n ≡ declared_name x)
  is_function_lem {n} f = go (is_function x) (is_constant x) (sym e ∙ f)
    where
      go : (a b : Bool)
          → elim a as (λ z. Role) [ true ↦ Function (declared_name x) | false ↦ elim b as (λ z. Role) [ true ↦ Constant | false ↦ Other ] ] ≡ Function n
          → (a ≡ true) × (n ≡ declared_name x)
      go true b g = (refl, cc)
      go false true g = let z : ◌≡◌ {A = ℕ} 0 1 = cc in absurd (omega arith)
      go false false g = let z : ◌≡◌ {A = ℕ} 0 1 = cc in absurd (omega arith)

  is_other : k ≡ Other → (is_function x ≡ false) × (is_constant x ≡ false)
  is_other f = go (is_function x) (is_constant x) (sym e ∙ f)
    where
      go : (a b : Bool)
          → elim a as (λ z. Role) [ true ↦ Function (declared_name x) | false ↦ elim b as (λ z. Role) [ true ↦ Constant | false ↦ Other ] ] ≡ Other
          → (a ≡ false) × (b ≡ false)
      go true b g = let z : ◌≡◌ {A = ℕ} 0 1 = cc in absurd (omega arith)
      go false true g = let z : ◌≡◌ {A = ℕ} 0 1 = cc in absurd (omega arith)
      go false false g = (refl, refl)

-- the next global number
globals_by : (x : Node) (d : Declared) (a b : Bool) → is_function x ≡ a → is_constant x ≡ b
    → elim a as (λ z. ℕ) [ true ↦ d.globals | false ↦ elim b as (λ z. ℕ) [ true ↦ d.globals + 1 | false ↦ d.globals ] ] ≡ (declares x d).globals
unfolding declares
globals_by x d a b e f = sym ((λ i. (by (e i) (f i)).globals) ∙ go a b)
  where
    by : Bool → Bool → Declared
    by a b =
        elim a as (λ z. Declared) [
          | true ↦ record { funs = declared_name x ∷ d.funs; classes = d.classes; globals = d.globals }
          | false ↦ elim b as (λ z. Declared) [ true ↦ record { funs = d.funs; classes = d.classes; globals = d.globals + 1 } | false ↦ d ]
        ]

    go : (a b : Bool)
        → (by a b).globals ≡ elim a as (λ z. ℕ) [ true ↦ d.globals | false ↦ elim b as (λ z. ℕ) [ true ↦ d.globals + 1 | false ↦ d.globals ] ]
    go true b = refl
    go false true = refl
    go false false = refl

-- ---- what the pool declares

declares_own : {pool : List ℕ} {t : Tally} {last : ℕ} (globals : ℕ) → WellDeclared pool t last → Declares pool t last (declared_at pool last globals)
declares_own globals w = record { funs = well_own w.funs; classes = well_own w.classes }

declared_as : {pool : List ℕ} {t : Tally} {last globals : ℕ} {d : Declared} → Declares pool t last d → globals ≡ d.globals → declared_at pool last globals ≡ d
declared_as h e = λ i. record { funs = h.funs.names i; classes = h.classes.names i; globals = e i }

well_declared : {pool : List ℕ} {t : Tally} {last : ℕ} {d : Declared} → Declares pool t last d → WellDeclared pool t last
well_declared h = let w = declares_well h in record { funs = w.0; classes = w.1 }

-- what was read declares nothing by itself
still_declared : {s : Text} {cap comps left : ℕ} {from : Place} {t u : Tally} {P : Rule} {r : Got} {p : Place} {A B : List ℕ} {last : ℕ} (globals : ℕ)
    → WellDeclared A t last → r ≡ Read p u → Reads s cap comps left from t P r A B
    → Declares B u last (declared_at A last globals)
still_declared globals w e d = declares_does d.does e (declares_own globals w)

-- ---- the row that `stated` makes

row_of_lem : {s : Text} {cap : ℕ} {at : Place} {t : Tally} (w : Row) {r : Got} {A B : List ℕ} → Ready s A cap at t
    → Acts cap at t (make at (record_of w) (value_of A t.records w)) r A B → MakesRow cap t at w r A B
unfolding under
row_of_lem {s} w g h = record { makes = record { says = λ nest comps. (h.reads s g comps 0).does.says nest (omega arith) } }

-- ---- the item of a statement

module _ {s A : List ℕ} {cap comps last : ℕ} {at : Place} {t : Tally} (globals : ℕ) (g : Begun s A cap at t) (w : WellDeclared A t last) (l : kind_at A t.records < number_of kinds.ClassDecl) where
  -- a record, after which its names are declared
  item_made : {p : Place} {u : Tally} {v : Row} {r : Got} {B : List ℕ} {next : ℕ} → Kept at t p u → Follows v u.records last → MakesRow cap u at v r A B
      → next ≡ (declares (last_of A t) (declared_at A last globals)).globals
      → next ≤ globals + 1
      → ((left : ℕ) → Reads s cap comps left at t (unit_item_p s (declared_at A last globals) (last_of A t) last at) r A B)
      → ItemMade s cap comps last globals at t r next A B
  item_made {p} {u} {v} {r} {B} {next} k f m e i h =
      record {
        reads = h;
        declared = λ y. declared_as (then_declared y) e;
        well = λ y. well_declared (then_declared y);
        few = λ y z.
            let a : _ ≡ u.records + 1 = ap (λ (x : Tally). x.records) (row_read m y).tally in
            let b = k.records in
            omega arith;
      }
    where
      then_declared : {p' : Place} {u' : Tally} → r ≡ Read p' u' → Declares B u' u'.records (declares (last_of A t) (declared_at A last globals))
      then_declared {p'} {u'} y =
          let b = k.records in
          let some = g.some in
          let l' : kind_at A u.records < number_of kinds.ClassDecl = subst⁻¹ (λ (n : ℕ). kind_at A n < number_of kinds.ClassDecl) b l in
          subst (λ (n : ℕ). Declares B u' u'.records (declares (node_at A n) (declared_at A last globals))) b
          (declares_stated f (omega arith) m y g.ready.lent (declares_kept k (declares_own globals w)) l')

  module _ {k : Role} (e : k ≡ role_in (last_of A t)) where
    -- a constant
    pub end_constant : {v : Row} {r : Got} {B : List ℕ} → k ≡ Constant → v ≡ row_of kinds.Global nowhere t.records last globals → MakesRow cap t at v r A B
        → ItemMade s cap comps last globals at t r (globals + 1) A B
    unfolding unit_item_p
    end_constant f i m =
        let m' = row_as i m in
        let x = is_constant_lem (last_of A t) e f in
        item_made (record { place = refl; records = refl; ids = refl }) (record { holds = refl; before = refl }) m'
        (globals_by (last_of A t) (declared_at A last globals) false true x.0 x.1)
        (omega arith)
        (λ left. reads_on {low = at} (λ o. no_way x.0 (yes_way x.1 o)) (omega arith) (reads_make g.ready m'))

    -- a statement that is no function and no constant
    pub end_other : {r : Got} {B : List ℕ} → k ≡ Other → Acts cap at t (make at (record_of (stated_row (last_of A t) last)) 0) r A B
        → ItemMade s cap comps last globals at t r globals A B
    unfolding unit_item_p
    end_other f d =
        let m = row_of_lem (stated_row (last_of A t) last) g.ready d in
        let x = is_other (last_of A t) e f in
        item_made (record { place = refl; records = refl; ids = refl }) (record { holds = refl; before = refl }) m
        (globals_by (last_of A t) (declared_at A last globals) false false x.0 x.1)
        (omega arith)
        (λ left. reads_on {low = at} (λ o. no_way x.0 (no_way x.1 o)) (omega arith) (reads_make g.ready m))

    -- a function
    module _ {n : Span} (f : k ≡ Function n) {from : Place} (i : from ≡ place_at A t.records) {o : Got} (c : Unique Functions s comps t at from n (names_of Functions A last) o) {kept : List ℕ} (a : kept ≡ A) where
      new_function : Unique Functions s comps t at (place_at A t.records) (declared_name (last_of A t)) (names_of Functions A last) o
      new_function =
          subst (λ (y : Span). Unique Functions s comps t at (place_at A t.records) y (names_of Functions A last) o) (is_function_lem (last_of A t) e f).1
          (subst (λ (p : Place). Unique Functions s comps t at p n (names_of Functions A last) o) i c)

      pub end_clashes : {j : Refusal} {p : Place} {u : Tally} → o ≡ Refused j p u → ItemMade s cap comps last globals at t o globals A kept
      unfolding unit_item_p
      end_clashes x =
          subst⁻¹ (λ (B : List ℕ). ItemMade s cap comps last globals at t o globals A B) a
          (record {
            reads = λ left. reads_refused x (yes_way (is_function_lem (last_of A t) e f).0 (name_stops Functions refl _ new_function x));
            declared = λ y. absurd (read_or_refused x y);
            well = λ y. absurd (read_or_refused x y);
            few = λ y. absurd (read_or_refused x y);
          })

      module _ {p : Place} {u : Tally} (x : o ≡ Read p u) where
        function_new : Ready s A cap at u
        function_new = ready_kept g.ready (c.kept x) g.ready.stands

        pub function_ready : Ready s kept cap at u
        function_ready = subst⁻¹ (λ (B : List ℕ). Ready s B cap at u) a function_new

        pub end_function : {r : Got} {B : List ℕ} → Acts cap at u (make at (record_of (stated_row (last_of kept u) last)) 0) r kept B
            → ItemMade s cap comps last globals at t r globals A B
        unfolding unit_item_p
        end_function {r} {B} d₀ =
            let d = subst (λ (C : List ℕ). Acts cap at u (make at (record_of (stated_row (last_of C u) last)) 0) r C B) a d₀ in
            let m = row_of_lem (stated_row (last_of A u) last) function_new d in
            let y = is_function_lem (last_of A t) e f in
            let b : u.records ≡ t.records = (c.kept x).records in
            let v : (left : ℕ) → Reads s cap comps left at u (make at (record_of (stated_row (last_of A t) last)) 0) r A B =
            λ left. subst (λ (n : ℕ). Reads s cap comps left at u (make at (record_of (stated_row (node_at A n) last)) 0) r A B) b (acts_reads d function_new)
            in
            item_made (c.kept x) (record { holds = refl; before = refl }) m
            (globals_by (last_of A t) (declared_at A last globals) true (is_constant (last_of A t)) y.0 refl)
            (omega arith)
            (λ left. reads_on {low = at} (λ z. yes_way y.0 (name_then Functions refl new_function x z)) (omega arith) (v left))

-- ---- a statement and its item

module _ {s A : List ℕ} {cap comps left last : ℕ} {at : Place} {t : Tally} (globals : ℕ) (g : Ready s A cap at t) (w : WellDeclared A t last) {o : Got} {B : List ℕ}
    (d : Reads s cap comps left (on_by 1 at) t (call statement at) o A B) where
  pub statement_refused : {j : Refusal} {p : Place} {u : Tally} → o ≡ Refused j p u
      → Itemed s cap comps left last globals (Statement at) (on_by 1 at) t o globals A B
  statement_refused x =
      record {
        stops = λ unit again e. stops (refused_of e d.does);
        goes = λ unit again e. absurd (read_or_refused x e);
        well = λ e. absurd (read_or_refused x e);
        few = λ e. absurd (read_or_refused x e);
        ready = λ e. absurd (read_or_refused x e);
        ends = ends_off s (on_by 1 at) x;
      }

  module _ {q : Place} {u : Tally} (e : o ≡ Read q u) where
    -- what its item is made with
    pub statement_begun : Begun s B cap q u × WellDeclared B u last × (kind_at B u.records < number_of kinds.ClassDecl)
    statement_begun =
        (record { ready = ready_then g e d; some = (read_ends e d).made }, well_declared (still_declared globals w e d), statement_kind s (read_of e d.does) g.room g.lent)

    pub statement_few : globals ≤ t.records → globals ≤ u.records
    statement_few l = let m = does_more (read_of e d.does) in omega arith

    pub statement_itemed : {r : Got} {next : ℕ} {C : List ℕ} → ItemMade s cap comps last globals q u r next B C
        → Itemed s cap comps left last globals (Statement at) (on_by 1 at) t r next A C
    statement_itemed {r} {next} {C} m =
        let same : declared_at B last globals ≡ declared_at A last globals = declared_as (still_declared globals w e d) refl in
        let h : Reads s cap comps left q u (unit_item_p s (declared_at A last globals) (last_of B u) last q) r B C =
        subst (λ (x : Declared). Reads s cap comps left q u (unit_item_p s x (last_of B u) last q) r B C) same (m.reads left)
        in
        let a = (read_ends e d).reached.further in
        let h' : Reads s cap comps left (on_by 1 at) u (unit_item_p s (declared_at A last globals) (last_of B u) last q) r B C = reads_from (omega arith) h in
        record {
          stops = λ unit again f. then (read_of e d.does) (stops (refused_of f h.does));
          goes = λ unit again {p} {u = v} f {a} {after} x.
              then (read_of e d.does)
              (then (read_of f h.does)
              (along (λ (y : Declared). again y v.records p) (m.declared f ∙ ap (declares (last_of B u)) same) x));
          well = m.well;
          few = λ f l. m.few f (statement_few l);
          ready = λ f. ready_then (ready_then g e d) f h;
          ends = h'.ends;
        }

-- ---- a class, its declaration and its item

module _ {s A : List ℕ} {cap comps left last : ℕ} {from at : Place} {t : Tally} (g : Ready s A cap at t) (w : WellDeclared A t last) {o : Got} {B : List ℕ}
    (d : Reads s cap comps left at t (call (class from (names_of Classes A last)) at) o A B) where
  pub class_item_refused : {j : Refusal} {p : Place} {u : Tally} → o ≡ Refused j p u → ClassItemed s cap comps left last from at t o A B
  class_item_refused x =
      record {
        itemed = λ globals.
            record {
              stops = λ unit again e. stops (refused_of e d.does);
              goes = λ unit again e. absurd (read_or_refused x e);
              well = λ e. absurd (read_or_refused x e);
              few = λ e. absurd (read_or_refused x e);
              ready = λ e. absurd (read_or_refused x e);
              ends = ends_off s at x;
            };
      }

  module _ {q : Place} {u : Tally} (e : o ≡ Read q u) where
    pub class_lent : Lent B cap
    class_lent = (ready_then g e d).lent

    module _ {v : Row} (i : v ≡ row_of kinds.ClassDecl from u.records 0 0) {r : Got} {C : List ℕ} (m : MakesRow cap u q v r B C) where
      class_row_lem : MakesRow cap u q (row_of kinds.ClassDecl from u.records 0 0) r B C
      class_row_lem = row_as i m

      class_declared : Reads s cap comps left q u (make q (record_of (row_of kinds.ClassDecl from u.records 0 0)) 0) r B C
      class_declared = reads_make (ready_then g e d) class_row_lem

      pub class_full : {j : Refusal} {p : Place} {u' : Tally} → r ≡ Refused j p u' → ClassItemed s cap comps left last from at t r A C
      unfolding class_item_p
      class_full x =
          record {
            itemed = λ globals.
                record {
                  stops = λ unit again f. then (read_of e d.does) (stops (stops (refused_of f class_declared.does)));
                  goes = λ unit again f. absurd (read_or_refused x f);
                  well = λ f. absurd (read_or_refused x f);
                  few = λ f. absurd (read_or_refused x f);
                  ready = λ f. absurd (read_or_refused x f);
                  ends = ends_off s at x;
                };
          }

      module _ {q' : Place} {u' : Tally} (f : r ≡ Read q' u') where
        pub class_next : Ready s C cap q' u'
        class_next = ready_then (ready_then g e d) f class_declared

        pub class_itemed : {r' : Got} {D : List ℕ} → Acts cap q' u' (make q' (record_of (stated_row (last_of C u') last)) 0) r' C D
            → ClassItemed s cap comps left last from at t r' A D
        unfolding class_item_p
        class_itemed {r'} {D} a =
            let m' = row_of_lem (stated_row (last_of C u') last) class_next a in
            let h : Reads s cap comps left q u (class_item_p from (last_of B u) last q) r' B D = reads_then f class_declared (acts_reads a class_next) in
            let b = (read_ends e d).reached.further in
            let h' : Reads s cap comps left at u (class_item_p from (last_of B u) last q) r' B D = reads_from (omega arith) h in
            record {
              itemed = λ globals.
                  record {
                    stops = λ unit again z. then (read_of e d.does) (stops (refused_of z h.does));
                    goes = λ unit again {p} {u = z} y {a} {after} x.
                        then (read_of e d.does)
                        (then (read_of y h.does)
                        (along (λ (n : Declared). again n z.records p)
                        (declared_as (class_item_lem g (declares_own globals w) e d class_row_lem f (record { holds = refl; before = refl }) m' y) refl) x));
                    well = λ y. well_declared (class_item_lem g (declares_own globals w) e d class_row_lem f (record { holds = refl; before = refl }) m' y);
                    few = λ y l.
                        let i = does_more (read_of e d.does) in
                        let j = does_more (read_of y h.does) in
                        omega arith;
                    ready = λ y. ready_then (ready_then g e d) y h;
                    ends = h'.ends;
                  };
            }

-- ---- "The unit ends with its block and its function."

module _ {cap : ℕ} {at : Place} {t : Tally} {A : List ℕ} {v : Row} (from : Place) (last : ℕ) (i : v ≡ block_row from last) {r : Got} {B : List ℕ} (m : MakesRow cap t at v r A B) where
  pub block_full : {j : Refusal} {p : Place} {u : Tally} → r ≡ Refused j p u → Acts cap at t (unit_end_p from last at) r A B
  unfolding unit_end_p
  block_full e = acts_stop e (acts_make i m)

  module _ {q : Place} {u : Tally} (e : r ≡ Read q u) where
    pub block_room : Room A cap t → Room B cap u
    block_room g =
        let a = ap (λ (x : Tally). x.records) (row_read m e).tally in
        let b = ap (λ (x : Tally). x.ids) (row_read m e).tally in
        let c = made_room m e in
        let k = g.ids in
        let d : Does layout (grammar []) cap 0 0 t (make _ (record_of v) (value_of A t.records v)) (out_of B r) A B = by_make m.makes in
        record { small = g.small; lent = lent_kept g.lent (does_length d); room = omega arith; ids = omega arith }

    pub unit_ended : {o : Got} {C : List ℕ} → Acts cap q u (fun_p from 0 (plain 0 q) (last_of B u) q) o B C → Acts cap at t (unit_end_p from last at) o A C
    unfolding unit_end_p fun_p
    unit_ended d = acts_then e (acts_make i m) d

-- ---- the loop over items: what is left of it answers for the whole

pub record ItemTurns (s pool₀ : List ℕ) (cap comps left : ℕ) (at : Place) (t : Tally) (pool : List ℕ) (here : Place) (tally : Tally) (last globals : ℕ) : Type 0 where
  pub same : length pool ≡ length pool₀
  pub ready : Ready s pool cap here tally
  pub turn : Turning s at here
  pub well : WellDeclared pool tally last
  pub few : globals ≤ tally.records
  pub rest : (r : Out) (B : List ℕ)
      → Does layout (grammar s) cap comps left tally (items_p (suc turn.fuel) s at (declared_at pool last globals) last here) r pool B
      → Does layout (grammar s) cap comps left t (items_p (turns s) s at nothing 0 at) r pool₀ B

pub items_first : {s pool : List ℕ} {cap comps left : ℕ} {at : Place} {t : Tally} → Ready s pool cap at t → ItemTurns s pool cap comps left at t pool at t 0 0
items_first {s} {pool} {at = at} {t = t} g =
    let h : Declares pool t 0 nothing = declares_none in
    record {
      same = refl;
      ready = g;
      turn = turn_first g.stands;
      well = well_declared h;
      few = omega arith;
      rest = λ r B d. along (λ (x : Declared). items_p (turns s) s at x 0 at) (declared_as h refl) d;
    }

module _ {s pool₀ : List ℕ} {cap comps left : ℕ} {at : Place} {t : Tally} {pool : List ℕ} {here : Place} {tally : Tally} {last globals : ℕ} (v : ItemTurns s pool₀ cap comps left at t pool here tally last globals)
    {k : Result ItemHead struct.Refused} (e : k ≡ item_of s here) where
  item_leads : ItemOn s here k
  item_leads = subst⁻¹ (ItemOn s here) e (item_on s here v.ready.stands)

  -- by what the item begins with
  by_head : {h : Result ItemHead struct.Refused} {r : Out} {B : List ℕ} → k ≡ h
      → Does layout (grammar s) cap comps left tally (item_as s at (declared_at pool last globals) last h (λ d i q. items_p v.turn.fuel s at d i q)) r pool B
      → Does layout (grammar s) cap comps left t (items_p (turns s) s at nothing 0 at) r pool₀ B
  unfolding items_p
  by_head f d =
      v.rest _ _
      (along (λ (h : Result ItemHead struct.Refused). item_as s at (declared_at pool last globals) last h (λ d i q. items_p v.turn.fuel s at d i q)) (sym f ∙ e) d)

  pub items_wrong : {j : Refusal} {q : Place} → k ≡ failed j q
      → Reads s cap comps left at t (items_p (turns s) s at nothing 0 at) (Refused j q tally) pool₀ pool
  items_wrong f = refuses (by_head f by_stop)

  pub items_end : {q : Place} {r : Got} {after : List ℕ} → k ≡ Ok (End q) → Acts cap q tally (unit_end_p at last q) r pool after
      → Reads s cap comps left at t (items_p (turns s) s at nothing 0 at) r pool₀ after
  items_end f d =
      let a = subst (ItemOn s here) f item_leads in
      let i = a.further in
      let j = v.turn.place.further in
      reads_on (by_head f) (omega arith) (acts_reads d (ready_at v.ready a.stands))

  pub items_class : {h n : Place} → k ≡ Ok (Class h n) → Ready s pool cap n tally × (here.offset < n.offset)
  items_class f =
      let a = subst (ItemOn s here) f item_leads in
      let i = a.0.further in
      let j = a.1.further in
      (ready_at v.ready a.1.stands, omega arith)

  pub items_statement : {h : Place} → k ≡ Ok (Statement h) → Ready s pool cap h tally × (here.offset < (on_by 1 h).offset)
  items_statement f =
      let a = subst (ItemOn s here) f item_leads in
      let i = a.further in
      (ready_at v.ready a.stands, omega arith)

  module _ {head : ItemHead} (f : k ≡ Ok head) {low : Place} (i : here.offset < low.offset) {o : Got} {next : ℕ} {mid : List ℕ}
      (d : Itemed s cap comps left last globals head low tally o next pool mid) where
    pub items_refused : {j : Refusal} {p : Place} {u : Tally} → o ≡ Refused j p u
        → Reads s cap comps left at t (items_p (turns s) s at nothing 0 at) o pool₀ mid
    items_refused x = reads_refused x (by_head f (d.stops at _ x))

    module _ {q : Place} {u : Tally} (x : o ≡ Read q u) where
      pub items_further : Advanced s here q
      items_further =
          let a = (subst (EndsBy s low) x d.ends).reached in
          let j = a.further in
          record { stands = a.stands; further = omega arith }

      pub items_on : length mid ≡ length pool → ItemTurns s pool₀ cap comps left at t mid q u u.records next
      items_on z =
          let w = items_further in
          record {
            same = z ∙ v.same;
            ready = d.ready x;
            turn = turn_on v.turn w;
            well = d.well x;
            few = d.few x v.few;
            rest = λ r B y.
                by_head f
                (d.goes at _ x (same_turns (λ n. items_p n s at (declared_at mid u.records next) u.records q) (turn_fuel v.turn w) y));
          }

-- ---- the unit

module _ {s A : List ℕ} {cap : ℕ} {at : Place} {t : Tally} (g : Ready s A cap at t) {l : Looked} (e : l ≡ keyword s at (ascii "from")) {h : Place} (f : l ≡ missing h) where
  unit_led : Reached s at h
  unit_led = subst (TokenOn s at (ascii "from")) (sym e ∙ f) (keyword_on s at (ascii "from") g.stands)

  pub unit_here : Ready s A cap h t
  unit_here = ready_at g unit_led.stands

module _ {s A : List ℕ} {cap comps left : ℕ} {at : Place} {t : Tally} {l : Looked} (e : l ≡ keyword s at (ascii "from")) where
  pub unit_halts : {j : Refusal} {q : Place} → l ≡ failed j q → Reads s cap comps left at t (unit_p s at) (Refused j q t) A A
  unfolding unit_p
  unit_halts f = refuses (by_halted e f)

  pub unit_from : {h n : Place} → l ≡ found h n → Reads s cap comps left at t (unit_p s at) (Refused LeadingFrom h t) A A
  unfolding unit_p
  unit_from f = refuses (by_found e f by_stop)

  pub unit_read : {h : Place} {r : Got} {B : List ℕ} → Ready s A cap at t → l ≡ missing h
      → Reads s cap comps left h t (items_p (turns s) s h nothing 0 h) r A B
      → Reads s cap comps left at t (unit_p s at) r A B
  unfolding unit_p
  unit_read g f d = let a = (unit_led g e f).further in reads_on (by_missing e f) (omega arith) d
