-- THE LAWS OF NAMES THAT ARE COMPARED: the rule of a new name, a name at a time; the pool determines the names of a list, laying records
-- keeps every list before them, and laying an item prolongs its list. Assumes nothing.
use Rattle.std.specs.Prelude.{◌≡◌, Bool, true, false, ◌&&◌, ltb, eqb, length}
use Rattle.std.proofs.Math.Path.{refl, sym, ap, subst⁻¹}
use Rattle.std.proofs.Common.{subst, ◌∙◌, arith, ltb-true, ltb-false}
use mathlib.Core.List.{List, [], ◌∷◌, ◌++◌}
use Prim.Native.Nat.{ℕ, zero, suc, ◌+◌, ◌*◌, ◌≤◌, ◌<◌}
use Rattle.characters.specs.declared.place.Place.{Place}
use Rattle.characters.specs.declared.place.Span.{Span}
use Rattle.characters.specs.declared.refusal.Refusal.{Refusal}
use Rattle.characters.specs.declared.refusal.Refusal.TheVariants.{Duplicate, TooManyComparisons}
use Rattle.characters.specs.Text.{Text, Stands}
use Rattle.literals.specs.Strings.{same_key}
use Rattle.reading.specs.declared.node.Node.{Node}
use Rattle.reading.specs.declared.tally.Tally.{Tally}
use Rattle.reading.specs.Gots.{Got, Read, Refused}
use Rattle.reading.specs.Outs.{Out}
use Rattle.reading.specs.Outs as out
use Rattle.reading.specs.Events.{with_comparison}
use Rattle.reading.specs.Process.{Process, Grammar, stop, compare, test, bind}
use Rattle.reading.specs.Says.{laid, Does}
use Rattle.reading.proofs.Laws.Does.{compares_one, compares_none, by_stop, by_compare, then, stops, told, yes_way, no_way, does_more}
use Rattle.records.specs.declared.kind.Kind.TheVariants as kinds
use Rattle.records.specs.declared.row.Row.{Row}
use Rattle.records.specs.Kinds.{number_of}
use Rattle.records.specs.Rows.{Lent, layout, record_of}
use Rattle.records.specs.Words.{span_of}
use Rattle.records.specs.Nodes.{Keeps, kind_at, held_at, before_at, out_of, MakesRow}
use Rattle.records.proofs.Laws.Rows.{laid_length}
use Rattle.records.proofs.Laws.Nodes.{keeps_layout, held_kept, kind_kept, node_kept, held_laid, row_read, row_refused, row_unique, does_keeps, does_length}
use Rattle.grammar.specs.Expressions.{Routine, Rule, new_key}
use Rattle.grammar.specs.Functions.{same_name, new_name}
use Rattle.grammar.specs.Units.{is_function, declared_name}
use Rattle.grammar.specs.Reads.{Ready}
use Rattle.makers.specs.declared.names.Naming.{Naming}
use Rattle.makers.specs.declared.names.Naming.TheVariants.{Keys, Parameters, Methods, Functions, Classes}
use Rattle.makers.specs.Names.{
  held_if,
  held_by,
  names_at,
  names_by,
  names_of,
  Refers,
  Linked,
  Chained,
  none,
  more,
  Listed,
  spells,
  bytes_by,
  alike_by,
  same_by,
  new_as,
  Kept,
  Unique,
  Well,
}

-- An answer is read, or refused.
pub read_or_refused : {r : Got} {k : Refusal} {p q : Place} {t u : Tally} → r ≡ Refused k p t → r ≡ Read q u → ⊥
read_or_refused e f = let z : ◌≡◌ {A = ℕ} 0 1 = cc in omega arith

-- ---- the rule of a new name

-- that of a dictionary's key, with a refusal where the key ends,
pub as_key : (s : Text) (q : Place) (new : Span) (ks : List Span) (next : Rule) → new_as Keys s q q new ks next ≡ new_key s q new ks next
unfolding new_as new_key same_key
as_key s q new [] next = refl
as_key s q new (k ∷ ks) next = λ i. bind (compare q) (λ p n. test (same_key s new k) (stop Duplicate q) (as_key s q new ks next i))

by_name : (nm : Naming) (s : Text) (a b : Span) → spells nm ≡ false → same_by nm s a b ≡ same_name s a b
unfolding same_name
by_name nm s a b e = ap (λ (x : Bool). alike_by x (bytes_by x s a) (bytes_by x s b)) e

-- and that of any other name
pub as_name : (nm : Naming) (s : Text) (q at : Place) (new : Span) (ks : List Span) (next : Rule) → spells nm ≡ false
    → new_as nm s q at new ks next ≡ new_name s q at new ks next
unfolding new_as new_name
as_name nm s q at new [] next e = refl
as_name nm s q at new (k ∷ ks) next e =
    λ i. bind (compare q) (λ p n. test (by_name nm s new k e i) (stop Duplicate at) (as_name nm s q at new ks next e i))

module _ {nm : Naming} {s : Text} {comps : ℕ} {t : Tally} {q at : Place} {name : Span} where
  -- no name is left
  pub unique_none : Unique nm s comps t q at name [] (Read q t)
  unfolding new_as
  unique_none =
      record {
        goes = λ G cap left next e d. go e d;
        stops = λ G cap left next e pool. absurd (read_or_refused e refl);
        kept = λ e. let a = ap place_of e in let b = ap tally_of e in record { place = sym a; records = sym (ap (λ (x : Tally). x.records) b); ids = sym (ap (λ (x : Tally). x.ids) b) };
      }
    where
      place_of : Got → Place
      place_of (Read p u) = p
      place_of (Refused k p u) = p

      tally_of : Got → Tally
      tally_of (Read p u) = u
      tally_of (Refused k p u) = u

      go : {G : Grammar Routine} {cap left : ℕ} {next : Rule} {p : Place} {u : Tally} {a : Out} {before later : List ℕ} → Read q t ≡ Read p u
          → Does layout G cap comps left u next a before later
          → Does layout G cap comps left t next a before later
      go {G} {cap} {left} {next} {a = a} {before = before} {later = later} e d =
          subst⁻¹ (λ (x : Tally). Does layout G cap comps left x next a before later) (ap tally_of e) d

  module _ {k : Span} {ks : List Span} where
    -- no comparison is left
    pub unique_over : comps ≤ t.comparisons → Unique nm s comps t q at name (k ∷ ks) (Refused TooManyComparisons q t)
    unfolding new_as
    unique_over h =
        record {
          goes = λ G cap left next e d. absurd (read_or_refused refl e);
          stops = λ G cap left next e pool. told (ap (out_of []) e) (stops (by_compare (compares_none h)));
          kept = λ e. absurd (read_or_refused refl e);
        }

    module _ (h : t.comparisons < comps) where
      -- the name stands there already
      pub unique_same : same_by nm s name k ≡ true → Unique nm s comps t q at name (k ∷ ks) (Refused Duplicate at (with_comparison t))
      unfolding new_as
      unique_same b =
          record {
            goes = λ G cap left next e d. absurd (read_or_refused refl e);
            stops = λ G cap left next e pool. told (ap (out_of []) e) (then (by_compare (compares_one h)) (yes_way b by_stop));
            kept = λ e. absurd (read_or_refused refl e);
          }

      -- it is another
      pub unique_on : {r : Got} → same_by nm s name k ≡ false → Unique nm s comps (with_comparison t) q at name ks r
          → Unique nm s comps t q at name (k ∷ ks) r
      unfolding new_as
      unique_on b w =
          record {
            goes = λ G cap left next e d. then (by_compare (compares_one h)) (no_way b (w.goes G cap left next e d));
            stops = λ G cap left next e pool. then (by_compare (compares_one h)) (no_way b (w.stops G cap left next e pool));
            kept = λ e. let x = w.kept e in record { place = x.place; records = x.records; ids = x.ids };
          }

-- The rule goes on after a new key, or stops there; and after any other name.
module _ {s : Text} {comps : ℕ} {t : Tally} {q : Place} {name : Span} {ks : List Span} {r : Got} {G : Grammar Routine} {cap left : ℕ} {p : Place} {u : Tally} where
  pub key_then : {next : Rule} {a : Out} {A B : List ℕ} → Unique Keys s comps t q q name ks r → r ≡ Read p u → Does layout G cap comps left u next a A B
      → Does layout G cap comps left t (new_key s q name ks next) a A B
  key_then {next} {a} {A} {B} w e d =
      subst (λ (x : Rule). Does layout G cap comps left t x a A B) (as_key s q name ks next) (w.goes G cap left next e d)

  pub key_stops : (next : Rule) {k : Refusal} {A : List ℕ} → Unique Keys s comps t q q name ks r → r ≡ Refused k p u
      → Does layout G cap comps left t (new_key s q name ks next) (out.Refused k p u) A A
  key_stops next {k} {A} w e =
      subst (λ (x : Rule). Does layout G cap comps left t x (out.Refused k p u) A A) (as_key s q name ks next) (w.stops G cap left next e A)

  module _ (nm : Naming) {at : Place} (f : spells nm ≡ false) where
    pub name_then : {next : Rule} {a : Out} {A B : List ℕ} → Unique nm s comps t q at name ks r → r ≡ Read p u → Does layout G cap comps left u next a A B
        → Does layout G cap comps left t (new_name s q at name ks next) a A B
    name_then {next} {a} {A} {B} w e d =
        subst (λ (x : Rule). Does layout G cap comps left t x a A B) (as_name nm s q at name ks next f) (w.goes G cap left next e d)

    pub name_stops : (next : Rule) {k : Refusal} {A : List ℕ} → Unique nm s comps t q at name ks r → r ≡ Refused k p u
        → Does layout G cap comps left t (new_name s q at name ks next) (out.Refused k p u) A A
    name_stops next {k} {A} w e =
        subst (λ (x : Rule). Does layout G cap comps left t x (out.Refused k p u) A A) (as_name nm s q at name ks next f) (w.stops G cap left next e A)

-- What the next reader may be called with after a new name.
pub ready_kept : {s pool : List ℕ} {cap : ℕ} {at q p : Place} {t u : Tally} → Ready s pool cap at t → Kept q t p u → Stands s q → Ready s pool cap q u
ready_kept g k h =
    let a = k.records in
    let b = k.ids in
    let c = g.room in
    let d = g.ids in
    record { short = g.short; small = g.small; lent = g.lent; stands = h; room = omega arith; ids = omega arith }

-- ---- the names of a list, an item at a time

names_more : (nm : Naming) (f : ℕ) (pool : List ℕ) (item : ℕ) → 1 ≤ item
    → names_by nm (suc f) pool item ≡ names_at nm pool item ++ names_by nm f pool (before_at pool item)
unfolding names_by
names_more nm f pool zero h = absurd (omega arith)
names_more nm f pool (suc i) h = refl

-- Turns that are enough are as good as others.
names_fuel : {nm : Naming} {pool : List ℕ} {item : ℕ} (f g : ℕ) → item ≤ f → item ≤ g → Chained nm pool item → names_by nm f pool item ≡ names_by nm g pool item
unfolding names_by
names_fuel zero zero h k c = refl
names_fuel zero (suc g) h k none = refl
names_fuel zero (suc g) h k (more l c) = let z = l.stored.some in absurd (omega arith)
names_fuel (suc f) zero h k none = refl
names_fuel (suc f) zero h k (more l c) = let z = l.stored.some in absurd (omega arith)
names_fuel (suc f) (suc g) h k none = refl
names_fuel {nm} {pool} {item} (suc f) (suc g) h k (more l c) =
    let z = l.earlier in
    let e : names_by nm f pool (before_at pool item) ≡ names_by nm g pool (before_at pool item) = names_fuel {item = before_at pool item} f g (omega arith) (omega arith) c in
    names_more nm f pool item l.stored.some
    ∙ ap (λ (x : List Span). names_at nm pool item ++ x) e
    ∙ sym (names_more nm g pool item l.stored.some)

-- One item: what it holds, and what is left.
pub record Walked (nm : Naming) (pool : List ℕ) (item : ℕ) : Type 0 where
  pub linked : Linked nm pool item
  pub rest : Chained nm pool (before_at pool item)
  pub names : names_of nm pool item ≡ names_at nm pool item ++ names_of nm pool (before_at pool item)

pub walked : {nm : Naming} {pool : List ℕ} {item : ℕ} → Chained nm pool item → (item ≡ 0 → ⊥) → Walked nm pool item
unfolding names_of
walked none z = absurd (z refl)
walked {nm} {pool} {item} (more l c) z =
    let i = l.earlier in
    let e : names_by nm item pool (before_at pool item) ≡ names_by nm (before_at pool item) pool (before_at pool item) =
    names_fuel item (before_at pool item) (omega arith) (omega arith) c
    in
    record {
      linked = l;
      rest = c;
      names =
          names_fuel item (suc item) (omega arith) (omega arith) (more l c)
          ∙ names_more nm item pool item l.stored.some
          ∙ ap (λ (x : List Span). names_at nm pool item ++ x) e;
    }

-- ---- what stands as it stood

module _ {made : ℕ} {x y : List ℕ} (h : Keeps made x y) where
  -- what an item holds by its fields
  held_same : (nm : Naming) (a c item : ℕ) → Refers nm a item → item ≤ made + 1 → held_by nm y a c ≡ held_by nm x a c
  held_same Keys a c item r l = refl
  held_same Parameters a c item r l = refl
  held_same Methods a c item r l = ap (λ (w : ℕ). span_of w ∷ []) (held_kept h a 1 (omega arith) (omega arith))
  held_same Functions a c item r l =
      ap (λ (n : Node). held_if (is_function n) (declared_name n)) (node_kept h a (omega arith))
  held_same Classes a c item r l =
      let k = kind_kept h a (omega arith) in
      let e : held_at y a 0 ≡ held_at x a 0 = held_kept h a 0 (omega arith) (omega arith) in
      let b : Bool = eqb (kind_at x a) (number_of kinds.ClassDecl) in
      let o : ℕ = held_at x a 0 in
      (λ i. held_if (eqb (k i) (number_of kinds.ClassDecl) && (ltb 0 (e i) && ltb (e i) a)) (span_of (held_at y (e i) 1))) ∙ class_same b (ltb 0 o) (ltb o a) refl
    where
      class_same : (b d e : Bool) → ltb (held_at x a 0) a ≡ e
          → held_if (b && (d && e)) (span_of (held_at y (held_at x a 0) 1)) ≡ held_if (b && (d && e)) (span_of (held_at x (held_at x a 0) 1))
      class_same true true true f =
          let z = ltb-true (held_at x a 0) a f in ap (λ (w : ℕ). span_of w ∷ []) (held_kept h (held_at x a 0) 1 (omega arith) (omega arith))
      class_same true true false f = refl
      class_same true false e f = refl
      class_same false d e f = refl

  module _ {nm : Naming} {item : ℕ} (l : item ≤ made) where
    at_same : Linked nm x item → names_at nm y item ≡ names_at nm x item
    unfolding names_at
    at_same k =
        (λ i. held_by nm y (held_kept h item 0 l (omega arith) i) (held_kept h item 2 l (omega arith) i))
        ∙ held_same nm (held_at x item 0) (held_at x item 2) item k.refers (omega arith)

    linked_same : length y ≡ length x → Linked nm x item → Linked nm y item
    linked_same same k =
        let r = k.stored.room in
        record {
          stored = record { some = k.stored.some; room = omega arith };
          earlier = rw (held_kept h item 1 l (omega arith)) k.earlier;
          refers = subst⁻¹ (λ (a : ℕ). Refers nm a item) (held_kept h item 0 l (omega arith)) k.refers;
        }

  before_same : (item : ℕ) → item ≤ made → before_at y item ≡ before_at x item
  before_same item l = held_kept h item 1 l (omega arith)

  -- Two pools that agree on the rows up to here have the same lists there.
  chained_same : {nm : Naming} {item : ℕ} → length y ≡ length x → item ≤ made → Chained nm x item → Chained nm y item
  chained_same same l none = none
  chained_same {nm} {item} same l (more k c) =
      let z = k.earlier in
      more (linked_same l same k) (subst⁻¹ (Chained nm y) (before_same item l) (chained_same same (omega arith) c))

  names_same : {nm : Naming} {item : ℕ} (f : ℕ) → item ≤ made → Chained nm x item → names_by nm f y item ≡ names_by nm f x item
  unfolding names_by
  names_same zero l c = refl
  names_same (suc f) l none = refl
  names_same {nm} {item} (suc f) l (more k c) =
      let z = k.earlier in
      names_more nm f y item k.stored.some
      ∙ (λ i. at_same l k i ++ names_by nm f y (before_same item l i))
      ∙ ap (λ (w : List Span). names_at nm x item ++ w) (names_same {item = before_at x item} f (omega arith) c)
      ∙ sym (names_more nm f x item k.stored.some)

  pub names_kept : {nm : Naming} {last : ℕ} → last ≤ made → Chained nm x last → names_of nm y last ≡ names_of nm x last
  unfolding names_of
  names_kept {last = last} l c = names_same last l c

-- ---- an item more

-- its row: it names the item before it, and what it refers to is made
pub record Joins (nm : Naming) (w : Row) (last made : ℕ) : Type 0 where
  pub before : w.b ≡ last
  pub refers : Refers nm w.a (made + 1)

module _ {nm : Naming} (pool : List ℕ) {made last : ℕ} {w : Row} (k : Joins nm w last made) (room : made * 8 + 8 ≤ length pool) (l : last ≤ made) where
  item_length : length (layout pool made (record_of w)) ≡ length pool
  unfolding laid
  item_length = laid_length (record_of w ∷ []) pool made

  item_before : before_at (layout pool made (record_of w)) (made + 1) ≡ last
  item_before = held_laid pool made w room 1 (omega arith) ∙ k.before

  item_linked : Linked nm (layout pool made (record_of w)) (made + 1)
  item_linked =
      let b = item_before in
      let e = item_length in
      record {
        stored = record { some = omega arith; room = omega arith };
        earlier = omega arith;
        refers = subst⁻¹ (λ (a : ℕ). Refers nm a (made + 1)) (held_laid pool made w room 0 (omega arith)) k.refers;
      }

  item_names : names_at nm (layout pool made (record_of w)) (made + 1) ≡ held_by nm pool w.a w.c
  unfolding names_at
  item_names =
      (λ i. held_by nm (layout pool made (record_of w)) (held_laid pool made w room 0 (omega arith) i) (held_laid pool made w room 2 (omega arith) i))
      ∙ held_same (keeps_layout pool made (record_of w)) nm w.a w.c (made + 1) k.refers (omega arith)

  -- Laying an item prolongs its list.
  pub chained_more : Chained nm pool last → Chained nm (layout pool made (record_of w)) (made + 1)
  chained_more c =
      more item_linked
      (subst⁻¹ (Chained nm (layout pool made (record_of w))) item_before (chained_same (keeps_layout pool made (record_of w)) item_length l c))

  pub names_laid : Chained nm pool last → names_of nm (layout pool made (record_of w)) (made + 1) ≡ held_by nm pool w.a w.c ++ names_of nm pool last
  names_laid c =
      let later : List ℕ = layout pool made (record_of w) in
      (walked (chained_more c) (λ z. omega arith)).names
      ∙ (λ i. item_names i ++ names_of nm later (item_before i))
      ∙ ap (λ (x : List Span). held_by nm pool w.a w.c ++ x) (names_kept (keeps_layout pool made (record_of w)) l c)

-- ---- what a reader of a list holds, from step to step

-- before its first item
pub listed_none : {nm : Naming} {pool : List ℕ} {t : Tally} → Listed nm pool t 0 []
unfolding names_of names_by
listed_none = record { chained = none; names = refl; made = omega arith }

-- what the next item may be read with, and the names then
pub listed_well : {nm : Naming} {pool : List ℕ} {t : Tally} {last : ℕ} {ks : List Span} → Listed nm pool t last ks → Well nm pool t last
listed_well h = record { chained = h.chained; made = h.made }

pub well_own : {nm : Naming} {pool : List ℕ} {t : Tally} {last : ℕ} → Well nm pool t last → Listed nm pool t last (names_of nm pool last)
well_own h = record { chained = h.chained; names = refl; made = h.made }

-- after a new name
pub listed_kept : {nm : Naming} {pool : List ℕ} {q p : Place} {t u : Tally} {last : ℕ} {ks : List Span} → Kept q t p u → Listed nm pool t last ks
    → Listed nm pool u last ks
listed_kept k h = let e = k.records in let m = h.made in record { chained = h.chained; names = h.names; made = omega arith }

-- after whatever was read
pub listed_does : {N : Type 0} {G : Grammar N} {cap comps left : ℕ} {t u : Tally} {P : Process N} {r : Got} {p : Place} {A B : List ℕ} {nm : Naming} {last : ℕ} {ks : List Span}
    → Does layout G cap comps left t P (out_of B r) A B → r ≡ Read p u → Listed nm A t last ks → Listed nm B u last ks
listed_does {B = B} d e h =
    let k = does_keeps d in
    let m = h.made in
    let n = does_more (told (ap (out_of B) e) d) in
    record {
      chained = chained_same k (does_length d) h.made h.chained;
      names = names_kept k h.made h.chained ∙ h.names;
      made = omega arith;
    }

-- A record that was made had room.
pub made_room : {cap : ℕ} {t : Tally} {p : Place} {w : Row} {r : Got} {A B : List ℕ} {q : Place} {u : Tally} → MakesRow cap t p w r A B → r ≡ Read q u
    → t.records < cap
made_room {cap} {t} m e = go (ltb t.records cap) refl
  where
    go : (b : Bool) → ltb t.records cap ≡ b → t.records < cap
    go true h = ltb-true t.records cap h
    go false h = absurd (read_or_refused (row_unique m (row_refused (ltb-false t.records cap h))).0 e)

-- after its item was made: the list goes on from the last record
pub listed_made : {nm : Naming} {cap : ℕ} {t u : Tally} {p q : Place} {w : Row} {r : Got} {A B : List ℕ} {last : ℕ} {ks : List Span}
    → Joins nm w last t.records → MakesRow cap t p w r A B → r ≡ Read q u → Lent A cap
    → Listed nm A t last ks → Listed nm B u u.records (held_by nm A w.a w.c ++ ks)
listed_made {nm} {cap} {t} {u} {w = w} {A = A} {B = B} {last = last} {ks = ks} k m e lent h =
    let d = row_read m e in
    let f : u.records ≡ t.records + 1 = ap (λ (x : Tally). x.records) d.tally in
    let room : cap * 8 ≤ length A = lent.room in
    let o = made_room m e in
    let z : t.records * 8 + 8 ≤ length A = omega arith in
    let c : Chained nm (layout A t.records (record_of w)) (t.records + 1) = chained_more A k z h.made h.chained in
    let n : names_of nm (layout A t.records (record_of w)) (t.records + 1) ≡ held_by nm A w.a w.c ++ ks =
    names_laid A k z h.made h.chained ∙ ap (λ (x : List Span). held_by nm A w.a w.c ++ x) h.names
    in
    rw (d.pool, f) (record { chained = c; names = n; made = omega arith })
