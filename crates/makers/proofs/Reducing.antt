-- The loop of `reduce`, one binary at a time: what is left of the rule answers for the whole. Assumes nothing.
use mathlib.Core.Path.{◌≡◌, refl, sym, ap, subst, subst⁻¹, ◌∙◌}
use mathlib.Core.List.{List, [], ◌∷◌}
use Prim.Native.Nat.{ℕ, suc, ◌+◌, ◌-◌, ◌≤◌, ◌<◌}
use native.Mathlib.Omega.{arith}
use lib.ListN.{length, get_or}
use borrow.Author.Tests.{le-leb, lt-leb}
use Rattle.characters.specs.declared.place.Place.{Place}
use Rattle.characters.specs.declared.refusal.Refusal.{Refusal}
use Rattle.reading.specs.declared.node.Node.{Node}
use Rattle.reading.specs.declared.tally.Tally.{Tally}
use Rattle.reading.specs.Gots.{Got, Read, Refused}
use Rattle.reading.specs.Outs.{Out}
use Rattle.reading.specs.Outs as out
use Rattle.reading.specs.Process.{Grammar}
use Rattle.reading.specs.Says.{Does}
use Rattle.reading.proofs.Laws.Does.{by_make, then, stops, yes_way, no_way, does_within}
use Rattle.records.specs.declared.kind.Kind.TheVariants as kinds
use Rattle.records.specs.Rows.{layout}
use Rattle.records.specs.Nodes.{Keeps, MakesRow, row_like}
use Rattle.records.proofs.Laws.Nodes.{row_read, keeps_layout, read_of, refused_of, does_length}
use Rattle.grammar.specs.Operators.{strength_of}
use Rattle.grammar.specs.Expressions.{Routine, Rule, Waiting, Pending, reduce_p}
use Rattle.grammar.specs.Grammar.{grammar}
use Rattle.makers.specs.declared.chains.Pends.{Pends}
use Rattle.makers.specs.declared.chains.Chain.{Chain}
use Rattle.makers.specs.Duties.{last_of}
use Rattle.makers.specs.Chains.{nothing, waits_at, entries, pending_of, Rising, bottom, above, Sides, Reduces}
use Rattle.makers.specs.Laws.Chains.{rising_from, sides_on, pending_kept}

-- ---- an array as a list

-- the newest of some, as the code reads it at the last place
entries_top : (pool : List ℕ) (ws : List Pends) (n : ℕ) → 0 < n → entries pool ws n ≡ waits_at pool (get_or ws (n - 1) nothing) ∷ entries pool ws (n - 1)
unfolding entries
entries_top pool ws n h = let e : n ≡ suc (n - 1) = omega arith in ap (entries pool ws) e

entries_none : (pool : List ℕ) (ws : List Pends) (n : ℕ) → n ≤ 0 → entries pool ws n ≡ []
unfolding entries
entries_none pool ws n h = let e : n ≡ 0 = omega arith in ap (entries pool ws) e

-- ---- what is left is rising

topped : {a b : ℕ} {x : Waiting} {xs : Pending} → a < strength_of x.op → Rising b (x ∷ xs) → Rising (suc a) (x ∷ xs)
topped {a} {b} {x} l (above h r) = let z : suc a ≤ strength_of x.op = omega arith in above z r

rested : {b : ℕ} {x : Waiting} {xs : Pending} → Rising b (x ∷ xs) → Rising b xs
rested {b} {x} (above h r) = let z : b ≤ suc (strength_of x.op) = omega arith in rising_from z r

-- ---- what the loop keeps

pub record Reducing (cap new : ℕ) (at : Place) (c : Chain) (before : List ℕ) (t : Tally) (pool : List ℕ) (len : ℕ) (u : Tally) : Type 0 where
  pub same : length pool ≡ length before
  pub ten : len ≤ 10
  pub rising : Rising 3 (entries pool c.waiting len)
  pub sides : Sides c.waiting len u.records
  pub more : t.records ≤ u.records
  pub room : u.records ≤ cap
  pub ids : u.ids ≡ t.ids
  pub rest : (G : Grammar Routine) (comps left : ℕ) (next : Pending → Node → Rule) (a : Out) (last : List ℕ)
      → Does layout G cap comps left u (reduce_p new at (entries pool c.waiting len) (last_of pool u) next) a pool last
      → Does layout G cap comps left t (reduce_p new at (pending_of before c) (last_of before t) next) a before last

-- ---- the steps of the rule

module _ {G : Grammar Routine} {cap comps left : ℕ} {t : Tally} {A : List ℕ} (new : ℕ) (at : Place) (right : Node) (next : Pending → Node → Rule) where
  stay_empty : {a : Out} {Z : List ℕ} → Does layout G cap comps left t (next [] right) a A Z → Does layout G cap comps left t (reduce_p new at [] right next) a A Z
  unfolding reduce_p
  stay_empty d = d

  stay_top : {a : Out} {Z : List ℕ} (x : Waiting) (xs : Pending) → new < strength_of x.op → Does layout G cap comps left t (next (x ∷ xs) right) a A Z
      → Does layout G cap comps left t (reduce_p new at (x ∷ xs) right next) a A Z
  unfolding reduce_p
  stay_top x xs h d = no_way (lt-leb (strength_of x.op) new h) d

-- the binary of the newest, at its left side's position
abbrev Joins : ℕ → Tally → Place → Pends → Got → List ℕ → List ℕ → Type 0
Joins cap u at x r pool later = MakesRow cap u at (row_like pool kinds.Binary x.left x.op x.left u.records) r pool later

module _ {G : Grammar Routine} {cap comps left : ℕ} {u : Tally} {pool later : List ℕ} (new : ℕ) (at : Place) (x : Pends) (xs : Pending) (next : Pending → Node → Rule)
    (h : strength_of x.op ≤ new) {r : Got} (m : Joins cap u at x r pool later) where
  one_made : {a : Out} {Z : List ℕ} {q : Place} {w : Tally} → r ≡ Read q w
      → Does layout G cap comps left w (reduce_p new at xs (last_of later w) next) a later Z
      → Does layout G cap comps left u (reduce_p new at (waits_at pool x ∷ xs) (last_of pool u) next) a pool Z
  unfolding reduce_p
  one_made e d = yes_way (le-leb (strength_of x.op) new h) (then (read_of e (by_make m.makes)) d)

  one_full : {k : Refusal} {q : Place} {w : Tally} → r ≡ Refused k q w
      → Does layout G cap comps left u (reduce_p new at (waits_at pool x ∷ xs) (last_of pool u) next) (out.Refused k q w) pool later
  unfolding reduce_p
  one_full e = yes_way (le-leb (strength_of x.op) new h) (stops (refused_of e (by_make m.makes)))

-- ---- the ways out, and a turn

never_read : {A : Type 0} {k : Refusal} {p q : Place} {t u : Tally} → Refused k p t ≡ Read q u → A
never_read e = absurd (let z : ◌≡◌ {A = ℕ} 0 1 = cc in omega arith)

never_refused : {A : Type 0} {k : Refusal} {p q : Place} {t u : Tally} → Read q u ≡ Refused k p t → A
never_refused e = absurd (let z : ◌≡◌ {A = ℕ} 0 1 = cc in omega arith)

read_place : {p q : Place} {t u : Tally} → Read p t ≡ Read q u → q ≡ p
read_place e = cc

read_tally : {p q : Place} {t u : Tally} → Read p t ≡ Read q u → t ≡ u
read_tally e = cc

module _ {cap new : ℕ} {at : Place} {c : Chain} {before : List ℕ} {t : Tally} {pool : List ℕ} {len : ℕ} {u : Tally} (v : Reducing cap new at c before t pool len u) where
  -- no operator is left that has to be reduced
  reduced : ((G : Grammar Routine) (comps left : ℕ) (next : Pending → Node → Rule) (a : Out) (last : List ℕ)
      → Does layout G cap comps left u (next (entries pool c.waiting len) (last_of pool u)) a pool last
      → Does layout G cap comps left u (reduce_p new at (entries pool c.waiting len) (last_of pool u) next) a pool last)
      → Rising (suc new) (entries pool c.waiting len)
      → Reduces cap t at new c (record { len = len; got = Read at u }) before pool
  reduced stay r =
      record {
        goes = λ G comps left next f {a} {last} d.
            v.rest G comps left next a last
            (stay G comps left next a last
            (subst⁻¹ (λ (x : Tally). Does layout G cap comps left x (next (entries pool c.waiting len) (last_of pool x)) a pool last) (read_tally f) d));
        stops = λ G comps left next f. never_refused f;
        rising = λ f. r;
        sides = λ f. subst (λ (x : Tally). Sides c.waiting len x.records) (read_tally f) v.sides;
        stays = λ f. read_place f;
        made = λ f. subst (λ (x : Tally). (t.records ≤ x.records) × (x.records ≤ cap) × (x.ids ≡ t.ids)) (read_tally f) (v.more, v.room, v.ids);
        none = λ f. never_refused f;
      }

  pub reduced_empty : len ≤ 0 → Reduces cap t at new c (record { len = len; got = Read at u }) before pool
  reduced_empty h =
      let e = entries_none pool c.waiting len h in
      reduced
      (λ G comps left next a last.
      subst⁻¹ (λ (xs : Pending). Does layout G cap comps left u (next xs (last_of pool u)) a pool last → Does layout G cap comps left u (reduce_p new at xs (last_of pool u) next) a pool last) e
      (stay_empty new at (last_of pool u) next))
      (subst⁻¹ (Rising (suc new)) e bottom)

  module _ (h : 0 < len) where
    first : Pends
    first = get_or c.waiting (len - 1) nothing

    others : Pending
    others = entries pool c.waiting (len - 1)

    at_top : entries pool c.waiting len ≡ waits_at pool first ∷ others
    unfolding first others
    at_top = entries_top pool c.waiting len h

    -- what is left below the newest
    below : Sides c.waiting (len - 1) u.records
    below = sides_on (omega arith) (omega arith) v.sides

    pub reduced_top : {s : ℕ} → s ≡ strength_of (get_or c.waiting (len - 1) nothing).op → new < s
        → Reduces cap t at new c (record { len = len; got = Read at u }) before pool
    unfolding first others
    reduced_top {s} e g =
        let k : new < strength_of first.op = subst (λ (x : ℕ). new < x) e g in
        reduced
        (λ G comps left next a last.
        subst⁻¹ (λ (xs : Pending). Does layout G cap comps left u (next xs (last_of pool u)) a pool last → Does layout G cap comps left u (reduce_p new at xs (last_of pool u) next) a pool last) at_top
        (stay_top new at (last_of pool u) next (waits_at pool first) others k))
        (subst⁻¹ (Rising (suc new)) at_top (topped k (subst (Rising 3) at_top v.rising)))

    module _ {s : ℕ} {r : Got} {later : List ℕ} (e : s ≡ strength_of (get_or c.waiting (len - 1) nothing).op) (g : s ≤ new)
        (m : Joins cap u at (get_or c.waiting (len - 1) nothing) r pool later) where
      tight : strength_of (get_or c.waiting (len - 1) nothing).op ≤ new
      tight = subst (λ (x : ℕ). x ≤ new) e g

      pub reducing_on : {q : Place} {w : Tally} → r ≡ Read q w → Reducing cap new at c before t later (len - 1) w
      unfolding first others
      reducing_on {q} {w} f =
          let z = row_read m f in
          let a : w.records ≡ u.records + 1 = ap (λ (x : Tally). x.records) z.tally in
          let b : w.ids ≡ u.ids = ap (λ (x : Tally). x.ids) z.tally in
          let o = v.more in
          let l : Keeps u.records pool later = subst⁻¹ (Keeps u.records pool) z.pool (keeps_layout pool u.records _) in
          let y : entries later c.waiting (len - 1) ≡ others = pending_kept l c.waiting (len - 1) below in
          record {
            same = does_length (by_make {G = grammar []} {comps = 0} {left = 0} m.makes) ∙ v.same;
            ten = let x : len ≤ 10 = v.ten in omega arith;
            rising = subst⁻¹ (Rising 3) y (rested (subst (Rising 3) at_top v.rising));
            sides = sides_on (omega arith) (omega arith) v.sides;
            more = omega arith;
            room = does_within (read_of f (by_make {G = grammar []} {comps = 0} {left = 0} m.makes)) v.room;
            ids = b ∙ v.ids;
            rest = λ G comps left next d last i.
                v.rest G comps left next d last
                (subst⁻¹ (λ (xs : Pending). Does layout G cap comps left u (reduce_p new at xs (last_of pool u) next) d pool last) at_top
                (one_made new at first others next tight m f
                (subst (λ (xs : Pending). Does layout G cap comps left w (reduce_p new at xs (last_of later w) next) d later last) y i)));
          }

      pub reduced_full : {k : Refusal} {q : Place} {w : Tally} → r ≡ Refused k q w → Reduces cap t at new c (record { len = 0; got = Refused k q w }) before later
      unfolding first others
      reduced_full {k} {q} {w} f =
          subst (λ (x : Got). Reduces cap t at new c (record { len = 0; got = x }) before later) f
          (record {
            goes = λ G comps left next x d. never_read (sym f ∙ x);
            stops = λ G comps left next {k = j} {p = p} {u = y} x.
                v.rest G comps left next (out.Refused j p y) later
                (subst⁻¹ (λ (xs : Pending). Does layout G cap comps left u (reduce_p new at xs (last_of pool u) next) (out.Refused j p y) pool later) at_top
                (one_full new at first others next tight m x));
            rising = λ x. never_read (sym f ∙ x);
            sides = λ x. never_read (sym f ∙ x);
            stays = λ x. never_read (sym f ∙ x);
            made = λ x. never_read (sym f ∙ x);
            none = λ x. refl;
          })
