-- The laws of `Says`: one for each step of a process, and that an answer and every word of the pool are determined. Laying composes,
-- since an outcome holds only the records that are new. Assumes nothing.
use Rattle.std.specs.Prelude.{◌≡◌, ℕ, suc, ◌+◌, length}
use Rattle.std.proofs.Math.Path.{refl, sym, ap, subst}
use Rattle.std.proofs.Common.{◌∙◌, arith}
use mathlib.Core.List.{List, [], ◌∷◌, ◌++◌}
use Rattle.characters.specs.declared.place.Place.{Place}
use Rattle.characters.specs.declared.refusal.Refusal.{Refusal}
use Rattle.characters.specs.declared.refusal.Refusal.TheVariants.{TooDeep}
use Rattle.reading.specs.declared.node.Node.{Node}
use Rattle.reading.specs.declared.tally.Tally.{Tally}
use Rattle.reading.specs.Outs.{Out, Read, Refused}
use Rattle.reading.specs.Events.{Rec, Event, compared, End, Done, Stop, Crossed, Spent, Outcome, ended, records_of, comparisons_of, start, steps}
use Rattle.reading.specs.Limits.{Limits, limited, Verdict, goes, over, judge, judged, guarded}
use Rattle.reading.specs.Process.{Process, bind, Grammar, plain, joined, making, comparing, under, run}
use Rattle.reading.specs.Answers.{answer_of, answer_from, Tells}
use Rattle.reading.specs.Says.{Layout, laid, Says, Makes, Compares}
use Rattle.reading.proofs.Laws.Grows.{records_append}
use Rattle.reading.proofs.Laws.Counts.{steps_append, tally_records, tally_comparisons}

-- Laying some records, and then more.
pub laid_append : {M : Type 0} (w : Layout M) (pool : M) (made : ℕ) (a b : List Rec)
    → laid w pool made (a ++ b) ≡ laid w (laid w pool made a) (made + length a) b
unfolding laid
laid_append w pool made [] b = ap (λ (k : ℕ). laid w pool k b) (omega arith)
laid_append w pool made (r ∷ a) b = laid_append w (w pool made r) (made + 1) a b ∙ ap (λ (k : ℕ). laid w (laid w (w pool made r) (made + 1) a) k b) (omega arith)

-- An ending with nothing before it leaves the pool.
pub says_ended : {M : Type 0} (w : Layout M) (e : End) (t : Tally) (r : Out) (A : M) → Tells e t r → Says w (ended e) t r A A
unfolding steps records_of laid
says_ended w e t r A h = record { tells = h; pool = refl }

-- No answer is two things.
pub read_refused : {p q : Place} {n : Node} {k : Refusal} {t u : Tally} → Read p n t ≡ Refused k q u → ⊥
read_refused e = let z : ◌≡◌ {A = ℕ} 0 1 = cc in omega arith

pub refused_read : {p q : Place} {n : Node} {k : Refusal} {t u : Tally} → Refused k q u ≡ Read p n t → ⊥
refused_read e = let z : ◌≡◌ {A = ℕ} 0 1 = cc in omega arith

module _ {M : Type 0} (w : Layout M) where
  join_go : (t u : Tally) (end : End) (es : List Event) (f : Place → Node → Tally → Outcome) (p : Place) (n : Node) (r : Out) (A B Z : M)
      → Tells end (steps es t) (Read p n u)
      → B ≡ laid w A t.records (records_of es) → Says w (f p n u) u r B Z → Says w (joined t end es f) t r A Z
  unfolding joined
  join_go t u (Done p' n') es f p n r A B Z e q s =
      let u' : u ≡ steps es t = cc in
      let p'' : p ≡ p' = cc in
      let n'' : n ≡ n' = cc in
      let s' : Says w (f p' n' (steps es t)) (steps es t) r B Z =
      subst (λ (x : Tally). Says w (f p' n' x) x r B Z) u' (subst (λ (x : Place). Says w (f x n' u) u r B Z) p'' (subst (λ (x : Node). Says w (f p x u) u r B Z) n'' s))
      in
      let fs : List Event = (f p' n' (steps es t)).events in
      record {
        tells = subst (λ (x : Tally). Tells (f p' n' (steps es t)).end x r) (sym (steps_append es fs t)) s'.tells;
        pool =
            s'.pool
            ∙ ap (λ (x : M). laid w x (steps es t).records (records_of fs)) q
            ∙ ap (λ (k : ℕ). laid w (laid w A t.records (records_of es)) k (records_of fs)) (tally_records es t)
            ∙ sym (laid_append w A t.records (records_of es) (records_of fs))
            ∙ ap (laid w A t.records) (sym (records_append es fs));
      }
  join_go t u (Stop k q) es f p n r A B Z e h s = absurd (read_refused e)
  join_go t u (Crossed k q) es f p n r A B Z e h s = absurd (read_refused e)
  join_go t u (Spent q) es f p n r A B Z e h s = absurd e

  join_stop : (t u : Tally) (end : End) (es : List Event) (f : Place → Node → Tally → Outcome) (k : Refusal) (p : Place) (A B : M)
      → Tells end (steps es t) (Refused k p u)
      → B ≡ laid w A t.records (records_of es) → Says w (joined t end es f) t (Refused k p u) A B
  unfolding joined
  join_stop t u (Done p' n') es f k p A B e h = absurd (refused_read e)
  join_stop t u (Stop j q) es f k p A B e h = record { tells = e; pool = h }
  join_stop t u (Crossed j q) es f k p A B e h = record { tells = e; pool = h }
  join_stop t u (Spent q) es f k p A B e h = absurd e

  module _ {N : Type 0} (sub : N → Place → Tally → Outcome) (L : Limits) (t : Tally) (x : Process N) (k : Place → Node → Process N) where
    -- One after the other: the first was read.
    pub says_bind : {p : Place} {n : Node} {u : Tally} {r : Out} {A B Z : M} → Says w (under sub L t x) t (Read p n u) A B
        → Says w (under sub L u (k p n)) u r B Z → Says w (under sub L t (bind x k)) t r A Z
    unfolding under
    says_bind {p = p} {n = n} {u = u} {r = r} {A = A} {B = B} {Z = Z} s s' =
        join_go t u (under sub L t x).end (under sub L t x).events (λ p n u. under sub L u (k p n)) p n r A B Z s.tells s.pool s'

    -- The first was refused, and so is the whole.
    pub says_bind_stop : {j : Refusal} {p : Place} {u : Tally} {A B : M} → Says w (under sub L t x) t (Refused j p u) A B
        → Says w (under sub L t (bind x k)) t (Refused j p u) A B
    unfolding under
    says_bind_stop {j = j} {p = p} {u = u} {A = A} {B = B} s =
        join_stop t u (under sub L t x).end (under sub L t x).events (λ p n u. under sub L u (k p n)) j p A B s.tells s.pool

  -- A level: with none left 5 is given, and else the rule is read with one less. The answer does not tell at which level it stands.
  module _ {N : Type 0} (G : Grammar N) (L : Limits) (d : ℕ) (nt : N) (p : Place) (t : Tally) where
    pub says_deep : (A : M) → Says w (run G L 0 d nt p t) t (Refused TooDeep p t) A A
    unfolding run steps records_of laid
    says_deep A = record { tells = refl; pool = refl }

    pub says_level : (left : ℕ) {r : Out} {A B : M} → Says w (under (run G L left (suc d)) L t (G nt p)) t r A B
        → Says w (run G L (suc left) d nt p t) t r A B
    unfolding run steps records_of
    says_level left s = record { tells = s.tells; pool = s.pool }

-- A comparison touches no pool.
compared_none : (L : Limits) (t : Tally) (p : Place) (v : Verdict) (e : End) → records_of (judged v (compared p) (ended e)).events ≡ []
unfolding judged records_of
compared_none L t p goes e = refl
compared_none L t p (over w q) e = refl

pub says_compared : {M : Type 0} (w : Layout M) (nest cap comps : ℕ) (t : Tally) (p : Place) (r : Out) (A : M) → Compares comps t p r
    → Says w (comparing (limited nest cap comps) t p) t r A A
unfolding laid guarded
says_compared w nest cap comps t p r A h =
    let L : Limits = limited nest cap comps in
    record { tells = h.tells nest cap; pool = sym (ap (laid w A t.records) (compared_none L t p (judge L t (compared p)) (Done p (plain 0 p)))) }

tells_unique : (e : End) (t : Tally) (r r' : Out) → Tells e t r → Tells e t r' → r ≡ r'
tells_unique (Done p n) t r r' a b = a ∙ sym b
tells_unique (Stop k p) t r r' a b = a ∙ sym b
tells_unique (Crossed w p) t r r' a b = a ∙ sym b
tells_unique (Spent p) t r r' a b = absurd a

-- What is said determines the answer and every word of the pool.
pub says_unique : {M : Type 0} (w : Layout M) (o : Outcome) (t : Tally) (r r' : Out) (A B B' : M) → Says w o t r A B → Says w o t r' A B'
    → (r ≡ r') × (B ≡ B')
says_unique w o t r r' A B B' s s' = (tells_unique o.end (steps o.events t) r r' s.tells s'.tells, s.pool ∙ sym s'.pool)

-- The same of the two leaves.
pub makes_unique : {M : Type 0} {w : Layout M} {cap : ℕ} {t : Tally} {p : Place} {rec : Rec} {v : ℕ} {r r' : Out} {A B B' : M}
    → Makes w cap t p rec v r A B → Makes w cap t p rec v r' A B' → (r ≡ r') × (B ≡ B')
makes_unique {w = w} {cap = cap} {t = t} {p = p} {rec = rec} {v = v} {r = r} {r' = r'} {A = A} {B = B} {B' = B'} h k =
    says_unique w (making (limited 0 cap 0) t p rec v) t r r' A B B' (h.says 0 0) (k.says 0 0)

pub compares_unique : {comps : ℕ} {t : Tally} {p : Place} {r r' : Out} → Compares comps t p r → Compares comps t p r' → r ≡ r'
compares_unique {comps} {t} {p} {r} {r'} h k =
    let o : Outcome = comparing (limited 0 0 comps) t p in
    tells_unique o.end (steps o.events t) r r' (h.tells 0 0) (k.tells 0 0)

-- What the caller is told, of code that answers for a whole reading.
pub says_answer : {M : Type 0} (w : Layout M) (o : Outcome) (r : Out) (A B : M) → Says w o start r A B → answer_from r ≡ answer_of o
says_answer w o r A B s = go o.end o.events (tally_records o.events start ∙ omega arith) (tally_comparisons o.events start ∙ omega arith) s.tells
  where
    go : (e : End) (es : List Event) → (steps es start).records ≡ length (records_of es) → (steps es start).comparisons ≡ comparisons_of es
        → Tells e (steps es start) r → answer_from r ≡ answer_of (record { end = e; events = es })
    go (Done p n) es a b h = rw (h, a, b)
    go (Stop k p) es a b h = rw (h, a, b)
    go (Crossed v p) es a b h = rw (h, a, b)
    go (Spent p) es a b h = absurd h
