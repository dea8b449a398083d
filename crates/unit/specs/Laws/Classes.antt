-- CLASSES: each return of the readers of a method, of the loop over methods and of a class. Assumes nothing.
use Rattle.std.specs.Prelude.{◌≡◌, Bool, true, false, ◌&&◌, ℕ, suc, ◌+◌, ◌-◌, ◌≤◌, eqb, length, take, drop, Result}
use Rattle.std.proofs.Math.Path.{refl, sym, subst, subst⁻¹}
use Rattle.std.proofs.Common.{ap, ◌∙◌, arith, eqb-true, eq-eqb, ne_eqb}
use mathlib.Core.List.{List, [], ◌∷◌}
use Rattle.std.proofs.Math.ListN.{length-take, length-drop}
use Rattle.std.proofs.lemmas.Bool.{eqb-false}
use Rattle.characters.specs.declared.place.Place.{Place}
use Rattle.characters.specs.declared.place.Span.{Span}
use Rattle.characters.specs.declared.refusal.Refusal.{Refusal}
use Rattle.characters.specs.declared.refusal.Refusal.TheVariants.{TooDeep, InitWithoutParameter}
use Rattle.characters.specs.declared.refusal.Refused as struct
use Rattle.characters.specs.Answers.{Looked, Must, failed, found, missing, taken}
use Rattle.characters.specs.Text.{Text, ascii, on_by}
use Rattle.characters.specs.Names.{name, same}
use Rattle.characters.specs.Tokens.{spells}
use Rattle.characters.specs.PlaceLaws.{Reached, Advanced, advanced_on}
use Rattle.reading.specs.declared.tally.Tally.{Tally}
use Rattle.reading.specs.Gots.{Got, Read, Refused}
use Rattle.reading.specs.Outs.{Out}
use Rattle.reading.specs.Events.{with_id}
use Rattle.reading.specs.Process.{call, plain}
use Rattle.reading.specs.Says.{Does}
use Rattle.reading.proofs.Laws.Does.{by_done, by_stop, then, stops, along, by_found, by_missing, by_halted, by_taken, by_failed, too_deep, enter}
use Rattle.records.specs.declared.row.Row.{Row}
use Rattle.records.specs.Rows.{Lent, layout}
use Rattle.records.specs.Nodes.{Stored, held_at, value_at, node_at, MakesRow}
use Rattle.records.proofs.Laws.Nodes.{row_as, read_of, refused_of, does_length}
use Rattle.grammar.specs.declared.heads.ClassHead.{ClassHead}
use Rattle.grammar.specs.Answers.{opens_class}
use Rattle.grammar.specs.Leaves.{close_of}
use Rattle.grammar.specs.LeafLaws.{CloseOn, close_on}
use Rattle.grammar.specs.Heads.{name_of, class_of}
use Rattle.grammar.specs.HeadLaws.{NameOn, name_of_on, ClassOn, class_on}
use Rattle.grammar.specs.Expressions.{function, class, turns, method_row}
use Rattle.grammar.specs.Functions.{name_span, name_word, with_name}
use Rattle.grammar.specs.Classes.{is_init, method_p, methods_p, class_row, class_end_p, class_as, class_p}
use Rattle.grammar.specs.Grammar.{grammar}
use Rattle.grammar.specs.Reads.{Ready, Reads}
use Rattle.grammar.specs.ReadLaws.{reads_on, reads_make, reads_fresh, reads_numbered, refuses, ready_then, ready_at, read_ends, read_stored, moved_on}
use Rattle.makers.specs.declared.names.Naming.TheVariants.{Methods, Classes}
use Rattle.makers.specs.Duties.{Acts}
use Rattle.makers.specs.Names.{names_of, Listed, Unique, Well}
use Rattle.makers.specs.Laws.Acts.{reads_from, reads_refused}
use Rattle.makers.specs.Laws.Turns.{Turning, turn_first, turn_on, turn_fuel, same_turns}
use Rattle.makers.specs.Laws.Names.{name_then, name_stops, ready_kept, listed_none, listed_well}
use Rattle.makers.specs.Laws.NamesWalk.{match_none}
use Rattle.makers.specs.Laws.NamesRead.{taken_packs, ends_off}
use Rattle.makers.specs.Laws.NamesLast.{function_value}
use Rattle.makers.specs.Laws.NamesUnit.{name_taken, method_fails, method_clashes, method_ready, method_stops, method_bare, method_made}
use Rattle.unit.specs.Items.{MethodRead}

-- ---- `init`

eqb_turned : (a b : ℕ) → eqb a b ≡ eqb b a
eqb_turned a b = go (eqb a b) refl
  where
    go : (x : Bool) → eqb a b ≡ x → x ≡ eqb b a
    go true e = sym (eq-eqb b a (sym (eqb-true a b e)))
    go false e = sym (ne_eqb b a (λ z. eqb-false a b e (sym z)))

-- so many bytes at the front are a word where the text begins with it
front_spelled : (w t : Text) → same (take (length w) t) w ≡ spells w t
unfolding same spells
front_spelled [] t = refl
front_spelled (x ∷ w) [] = refl
front_spelled (x ∷ w) (b ∷ t) = λ i. eqb_turned b x i && front_spelled w t i

module _ (s : Text) (h q : Place) where
  pub init_sized : h.offset ≤ q.offset → q.offset ≤ length s → (q.offset - h.offset ≡ 4 → ⊥) → false ≡ is_init s h q
  unfolding is_init
  init_sized a b n =
      match_none _ (ascii "init")
      (λ z. let x = length-take (q.offset - h.offset) (drop h.offset s) in let y = length-drop h.offset s in n (omega arith))

  pub init_spelled : {b : Bool} → q.offset - h.offset ≡ 4 → b ≡ spells (ascii "init") (drop h.offset s) → b ≡ is_init s h q
  unfolding is_init
  init_spelled e f =
      f
      ∙ sym
      (ap (λ (n : ℕ). same (take n (drop h.offset s)) (ascii "init")) e ∙ front_spelled (ascii "init") (drop h.offset s))

-- and its function has no parameter
pub bare_other : {a b : Bool} → a ≡ b → a ≡ false → (k : Bool) → a ≡ (b && k)
bare_other e f k = f ∙ ap (λ (x : Bool). x && k) (sym f ∙ e)

pub bare_is : {a b : Bool} {n m : ℕ} → a ≡ b → a ≡ true → n ≡ m → eqb n 0 ≡ (b && eqb m 0)
bare_is {a} {b} {n} {m} e f g = ap (λ (x : ℕ). eqb x 0) g ∙ ap (λ (x : Bool). x && eqb m 0) (sym f ∙ e)

-- ---- a method

module _ {s : Text} {pool : List ℕ} {cap : ℕ} {at : Place} {t : Tally} (g : Ready s pool cap at t) {l : Must} (e : l ≡ name s at) {h q : Place} (f : l ≡ taken h q) where
  name_led : (h ≡ at) × Advanced s at q
  name_led = name_taken g.stands e f

  -- its bytes stand in the text
  pub name_spans : (h.offset ≤ q.offset) × (q.offset ≤ length s)
  name_spans =
      let o = ap (λ (x : Place). x.offset) name_led.0 in
      let m = name_led.1.further in
      (omega arith, name_led.1.stands.inside)

  -- a word has room for it
  pub name_packs : (h.offset ≤ 65535) × (q.offset ≤ 65535)
  name_packs = taken_packs g name_led

module _ {s : Text} {pool : List ℕ} {cap comps last : ℕ} {at : Place} {t : Tally} (g : Ready s pool cap at t) (w : Well Methods pool t last) {l : Must} (e : l ≡ name s at) where
  -- no name
  pub method_unnamed : {left : ℕ} {j : Refusal} {q : Place} → l ≡ failed j q → MethodRead s cap comps left last at t (Refused j q t) pool pool
  method_unnamed f = record { method = method_fails g w e f; moves = tt }

  module _ {h q : Place} (f : l ≡ taken h q) where
    -- the pool that is kept
    module _ {o : Got} (c : Unique Methods s comps t q q (name_span h q) (names_of Methods pool last) o) {kept : List ℕ} (z : kept ≡ pool) where
      -- one that stands there already
      pub method_again : {left : ℕ} {j : Refusal} {p : Place} {u : Tally} → o ≡ Refused j p u → MethodRead s cap comps left last at t o pool kept
      method_again {left} x =
          subst⁻¹ (λ (A : List ℕ). MethodRead s cap comps left last at t o pool A) z
          (record { method = method_clashes g w e f c x; moves = ends_off s (on_by 1 at) x })

      module _ {p : Place} {u : Tally} (x : o ≡ Read p u) where
        name_new : Ready s pool cap q u
        name_new = method_ready g w e f c x

        -- what its function is read with
        pub method_begun : Ready s kept cap q u
        method_begun = subst⁻¹ (λ (A : List ℕ). Ready s A cap q u) z name_new

        module _ {left word : ℕ} (i : word ≡ name_word h q) {v : Got} {mid : List ℕ} (d : Reads s cap comps left q u (call (function h word) q) v kept mid) where
          function_read : Reads s cap comps left q u (call (function h (name_word h q)) q) v pool mid
          function_read =
              subst (λ (n : ℕ). Reads s cap comps left q u (call (function h n) q) v pool mid) i
              (subst (λ (A : List ℕ). Reads s cap comps left q u (call (function h word) q) v A mid) z d)

          -- a function that is refused
          pub method_refused : {j : Refusal} {p' : Place} {u' : Tally} → v ≡ Refused j p' u' → MethodRead s cap comps left last at t v pool mid
          method_refused y = record { method = method_stops g w e f c x function_read y; moves = ends_off s (on_by 1 at) y }

          module _ {r : Place} {u' : Tally} (y : v ≡ Read r u') where
            pub method_stored : Stored mid u'.records
            method_stored = read_stored name_new y function_read

            pub method_lent : Lent mid cap
            method_lent = (ready_then name_new y function_read).lent

            module _ {b : Bool} (k : b ≡ (is_init s h q && eqb (held_at mid u'.records 2) 0)) where
              bare_by : (x : Bool) → b ≡ x → (is_init s h q && eqb (value_at mid u'.records) 0) ≡ x
              bare_by x m =
                  ap (λ (n : ℕ). is_init s h q && eqb n 0) (function_value s (read_of y function_read.does) name_new.room name_new.lent)
                  ∙ sym k
                  ∙ m

              -- `init` with no parameter
              pub method_init : b ≡ true → MethodRead s cap comps left last at t (Refused InitWithoutParameter r u') pool mid
              method_init m = record { method = method_bare g w e f c x function_read y (bare_by true m); moves = tt }

              -- its item
              pub method_item : {row : Row} {a : Got} {after : List ℕ} → b ≡ false → row ≡ method_row (node_at mid u'.records) last
                  → MakesRow cap u' r row a mid after → MethodRead s cap comps left last at t a pool after
              method_item {row} {a} {after} m z n =
                  let i = (name_led g e f).1.further in
                  let j = (read_ends y function_read).reached.further in
                  let o : Reads s cap comps left (on_by 1 at) u' _ a mid after =
                  reads_from (omega arith) (reads_make (ready_then name_new y function_read) (row_as z n))
                  in
                  record { method = method_made g w e f c x function_read y (bare_by false m) z n; moves = o.ends }

-- ---- a class: its id, then its record

pub class_made : {cap : ℕ} {from at : Place} {t u : Tally} {name parent methods i : ℕ} {row : Row} {r : Got} {A B : List ℕ} → i ≡ t.ids + 1 → u ≡ with_id t
    → row ≡ class_row from i name parent methods
    → MakesRow cap u at row r A B
    → Acts cap at t (class_end_p from name parent (plain methods at) at) r A B
unfolding class_end_p
class_made e f g m = record { reads = λ s k comps left. reads_fresh e f (reads_numbered k f (row_as g m)) }

-- ---- the loop over methods: what is left of it answers for the whole

pub record MethodTurns (s pool₀ : List ℕ) (cap comps left : ℕ) (at : Place) (t : Tally) (pool : List ℕ) (here : Place) (tally : Tally) (last : ℕ) : Type 0 where
  pub same : length pool ≡ length pool₀
  pub ready : Ready s pool cap here tally
  pub turn : Turning s at here
  pub names : List Span
  pub listed : Listed Methods pool tally last names
  pub rest : (r : Out) (B : List ℕ) → Does layout (grammar s) cap comps left tally (methods_p (suc turn.fuel) s names last here) r pool B
      → Does layout (grammar s) cap comps left t (methods_p (turns s) s [] 0 at) r pool₀ B

pub methods_first : {s pool : List ℕ} {cap comps left : ℕ} {at : Place} {t : Tally} → Ready s pool cap at t → MethodTurns s pool cap comps left at t pool at t 0
methods_first g = record { same = refl; ready = g; turn = turn_first g.stands; names = []; listed = listed_none; rest = λ r B d. d }

module _ {s pool₀ : List ℕ} {cap comps left : ℕ} {at : Place} {t : Tally} {pool : List ℕ} {here : Place} {tally : Tally} {last : ℕ} (v : MethodTurns s pool₀ cap comps left at t pool here tally last)
    {l : Looked} (e : l ≡ close_of s here 125) where
  close_leads : CloseOn s here l
  close_leads = subst⁻¹ (CloseOn s here) e (close_on s here 125 v.ready.stands)

  pub methods_halts : (from : Place) (name parent : ℕ) {k : Refusal} {q : Place} → l ≡ failed k q
      → Reads s cap comps left at t (class_as s from name (opens_class parent at)) (Refused k q tally) pool₀ pool
  unfolding methods_p
  methods_halts from name parent f = refuses (stops (v.rest _ _ (by_halted e f)))

  -- the closing sign
  pub methods_ends : (from : Place) (name parent : ℕ) {h n : Place} {r : Got} {after : List ℕ} → l ≡ found h n
      → Acts cap n tally (class_end_p from name parent (plain last n) n) r pool after
      → Reads s cap comps left at t (class_as s from name (opens_class parent at)) r pool₀ after
  unfolding methods_p
  methods_ends from name parent f m =
      let a = subst (CloseOn s here) f close_leads in
      let i = a.further in
      let j = v.turn.place.further in
      reads_on (then (v.rest _ _ (by_found e f by_done))) (omega arith) (m.reads s (ready_at v.ready a.stands) comps left)

  -- a method
  module _ {h : Place} (f : l ≡ missing h) where
    method_led : Reached s here h
    method_led = (subst (CloseOn s here) f close_leads).0

    pub methods_here : Ready s pool cap h tally × Well Methods pool tally last
    methods_here = (ready_at v.ready method_led.stands, listed_well v.listed)

    module _ {o : Got} {mid : List ℕ} (d : MethodRead s cap comps left last h tally o pool mid) where
      -- by the names that were read
      method_reads : Reads s cap comps left (on_by 1 h) tally (method_p s v.names last h) o pool mid
      method_reads =
          subst (λ (x : List Span). Reads s cap comps left (on_by 1 h) tally (method_p s x last h) o pool mid) v.listed.names
          (record { does = d.method.does; ends = d.moves })

      pub methods_refused : (from : Place) (name parent : ℕ) {k : Refusal} {p : Place} {u : Tally} → o ≡ Refused k p u
          → Reads s cap comps left at t (class_as s from name (opens_class parent at)) o pool₀ mid
      unfolding methods_p
      methods_refused from name parent g = reads_refused g (stops (v.rest _ _ (by_missing e f (stops (refused_of g method_reads.does)))))

      module _ {q : Place} {u : Tally} (g : o ≡ Read q u) where
        pub methods_further : Advanced s here q
        methods_further = advanced_on method_led (moved_on (read_ends g method_reads).reached)

        pub methods_on : MethodTurns s pool₀ cap comps left at t mid q u u.records
        unfolding methods_p
        methods_on =
            let w = methods_further in
            let names : List Span = with_name (name s h) v.names in
            record {
              same = does_length method_reads.does ∙ v.same;
              ready = ready_then methods_here.0 g method_reads;
              turn = turn_on v.turn w;
              names = names;
              listed = subst (λ (x : List Span). Listed Methods mid u u.records (with_name (name s h) x)) v.listed.names (d.method.listed g);
              rest = λ r B x.
                  v.rest r B
                  (by_missing e f
                  (then (read_of g method_reads.does)
                  (same_turns (λ f. methods_p f s names u.records q) (turn_fuel v.turn w) x)));
            }

-- ---- the class

module _ {s : Text} {pool : List ℕ} {cap : ℕ} {at : Place} {t : Tally} (g : Ready s pool cap at t) {l : Must} (e : l ≡ name_of s at) {h q : Place} (f : l ≡ taken h q) where
  class_name : NameOn s at (taken h q)
  class_name = subst (NameOn s at) (sym e ∙ f) (name_of_on s at g.stands)

  pub class_packs : (h.offset ≤ 65535) × (q.offset ≤ 65535)
  class_packs =
      let a = g.short in
      let b = class_name.1.stands.inside in
      let c = class_name.1.further in
      (omega arith, omega arith)

-- no name
pub class_unnamed : {s : Text} {pool : List ℕ} {cap comps left : ℕ} (from : Place) {at : Place} (ks : List Span) {t : Tally} {l : Must} → l ≡ name_of s at
    → {j : Refusal} {q : Place} → l ≡ failed j q
    → Reads s cap comps left at t (class_p s from ks at) (Refused j q t) pool pool
unfolding class_p
class_unnamed from ks e f = refuses (by_failed e f)

module _ {s : Text} {pool : List ℕ} {cap comps : ℕ} {from at : Place} {ks : List Span} {t : Tally} (g : Ready s pool cap at t) {l : Must} (e : l ≡ name_of s at) {h q : Place}
    (f : l ≡ taken h q) {o : Got} (c : Unique Classes s comps t q from (name_span h q) ks o) {kept : List ℕ} (z : kept ≡ pool) where
  -- one that stands there already
  pub class_clashes : {left : ℕ} {j : Refusal} {p : Place} {u : Tally} → o ≡ Refused j p u → Reads s cap comps left at t (class_p s from ks at) o pool kept
  unfolding class_p
  class_clashes {left} x =
      subst⁻¹ (λ (A : List ℕ). Reads s cap comps left at t (class_p s from ks at) o pool A) z
      (reads_refused x (by_taken e f (name_stops Classes refl _ c x)))

  module _ {p : Place} {u : Tally} (x : o ≡ Read p u) where
    -- what its head is read with
    pub class_ready : Ready s kept cap q u
    class_ready = subst⁻¹ (λ (A : List ℕ). Ready s A cap q u) z (ready_kept g (c.kept x) (class_name g e f).1.stands)

    module _ {k : Result ClassHead struct.Refused} (y : k ≡ class_of s q) where
      pub class_wrong : {left : ℕ} {j : Refusal} {r : Place} → k ≡ failed j r
          → Reads s cap comps left at t (class_p s from ks at) (Refused j r u) pool kept
      unfolding class_p
      class_wrong {left} {j} {r} i =
          subst⁻¹ (λ (A : List ℕ). Reads s cap comps left at t (class_p s from ks at) (Refused j r u) pool A) z
          (refuses (by_taken e f (name_then Classes refl c x (along (class_as s from (name_word h q)) (sym i ∙ y) by_stop))))

      module _ {parent : ℕ} {n : Place} (i : k ≡ opens_class parent n) where
        head_on : Advanced s q n
        head_on = subst (ClassOn s q) (sym y ∙ i) (class_on s q class_ready.stands)

        -- what its methods are read with
        pub class_body : Ready s kept cap n u
        class_body = ready_at class_ready head_on.stands

        pub class_read : {left word : ℕ} {r : Got} {after : List ℕ} → word ≡ name_word h q
            → Reads s cap comps left n u (class_as s from word (opens_class parent n)) r kept after
            → Reads s cap comps left at t (class_p s from ks at) r pool after
        unfolding class_p
        class_read {left} {word} {r} {after} m d =
            let a = (class_name g e f).0.further in
            let b = (class_name g e f).1.further in
            let j = head_on.further in
            let d' =
            subst (λ (w : ℕ). Reads s cap comps left n u (class_as s from w (opens_class parent n)) r pool after) m
            (subst (λ (A : List ℕ). Reads s cap comps left n u (class_as s from word (opens_class parent n)) r A after) z d)
            in
            reads_on (λ o. by_taken e f (name_then Classes refl c x (along (class_as s from (name_word h q)) (sym i ∙ y) o))) (omega arith) d'

-- its level
module _ {s : Text} {cap comps left : ℕ} {from at : Place} {ks : List Span} {t : Tally} where
  pub class_deep : {pool : List ℕ} → left ≡ 0 → Reads s cap comps left at t (call (class from ks) at) (Refused TooDeep at t) pool pool
  class_deep z = refuses (too_deep z)

  pub class_entered : {r : Got} {A B : List ℕ} → (left ≡ 0 → ⊥) → Reads s cap comps (left - 1) at t (class_p s from ks at) r A B
      → Reads s cap comps left at t (call (class from ks) at) r A B
  unfolding grammar
  class_entered z d = reads_on {from = at} {low = at} (enter z) (omega arith) d
