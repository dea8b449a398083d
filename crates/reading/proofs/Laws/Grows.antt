-- LIMITS: of two readings of one text, the second's limits each at least the first's, the second keeps what the first has. A cut is
-- the whole, or it ends by a limit and its events open the whole's; by EXACT the first reading is a cut of the second. Assumes nothing.
use Rattle.std.specs.Prelude.{◌≡◌, refl, ◌⊎◌, List, [], ◌∷◌, ◌++◌, Bool, true, false, ◌≤◌, length}
use Rattle.std.proofs.Common.{sym, ap, subst, ◌∙◌, inl, inr, append-nil, arith, length-append}
use Rattle.reading.specs.declared.tally.Tally.{Tally}
use Rattle.reading.specs.Events.{Rec, Event, entered, recorded, compared, numbered, End, Outcome, cons, records_of, comparisons_of, deepest, start, step}
use Rattle.reading.specs.Limits.{Limits, Verdict, goes, over, judge, judged, cutting, cut}
use Rattle.reading.specs.Process.{Process, Grammar, reading}
use Rattle.reading.specs.Demands.{Below, by_limit, Opens, Grows}
use Rattle.reading.proofs.Laws.Exact.{exact}

-- The same, or cut off by a limit.
abbrev pub Agree : Outcome → Outcome → Type 0
Agree o o' = (o ≡ o') ⊎ ((by_limit o.end ≡ true) × Opens o.events o'.events)

cons_agree : (e : Event) (o o' : Outcome) → Agree o o' → Agree (cons e o) (cons e o')
cons_agree e o o' (inl h) = inl (ap (cons e) h)
cons_agree e o o' (inr h) = inr (h.0, (h.1.0, ap (λ (l : List Event). e ∷ l) h.1.1))

cutting_agrees : (L : Limits) (t : Tally) (end : End) (es : List Event) → Agree (cutting L t end es) (record { end = end; events = es })
unfolding cutting
cutting_agrees L t end [] = inl refl
cutting_agrees L t end (e ∷ es) = go (judge L t e) (cutting_agrees L (step e t) end es)
  where
    go : (v : Verdict) → Agree (cutting L (step e t) end es) (record { end = end; events = es })
        → Agree (judged v e (cutting L (step e t) end es)) (record { end = end; events = e ∷ es })
    go goes h = cons_agree e (cutting L (step e t) end es) (record { end = end; events = es }) h
    go (over w p) h = inr (refl, (e ∷ es, refl))

-- A cut agrees with the whole.
pub cut_agrees : (L : Limits) (t : Tally) (o : Outcome) → Agree (cut L t o) o
unfolding cut
cut_agrees L t o = cutting_agrees L t o.end o.events

pub records_append : (a b : List Event) → records_of (a ++ b) ≡ records_of a ++ records_of b
unfolding records_of
records_append [] b = refl
records_append (entered n p ∷ a) b = records_append a b
records_append (recorded r p ∷ a) b = ap (λ (l : List Rec). r ∷ l) (records_append a b)
records_append (compared p ∷ a) b = records_append a b
records_append (numbered p ∷ a) b = records_append a b

comparisons_append : (a b : List Event) → comparisons_of a ≤ comparisons_of (a ++ b)
unfolding comparisons_of
comparisons_append [] b = omega arith
comparisons_append (entered n p ∷ a) b = comparisons_append a b
comparisons_append (recorded r p ∷ a) b = comparisons_append a b
comparisons_append (compared p ∷ a) b = let h = comparisons_append a b in omega arith
comparisons_append (numbered p ∷ a) b = comparisons_append a b

deepest_append : (a b : List Event) → deepest a ≤ deepest (a ++ b)
unfolding deepest
deepest_append [] b = omega arith
deepest_append (entered n p ∷ a) b = let h = deepest_append a b in omega arith
deepest_append (recorded r p ∷ a) b = deepest_append a b
deepest_append (compared p ∷ a) b = deepest_append a b
deepest_append (numbered p ∷ a) b = deepest_append a b

-- A reading keeps what it has itself.
pub grows_same : (o : Outcome) → Grows o o
grows_same o =
    record {
      same = λ h. refl;
      opens = ([], sym (append-nil (records_of o.events)));
      no_fewer_records = omega arith;
      no_fewer_comparisons = omega arith;
      no_shallower = omega arith;
    }

agree_grows : (o o' : Outcome) → Agree o o' → Grows o o'
agree_grows o o' (inl e) = subst (λ (x : Outcome). Grows o x) e (grows_same o)
agree_grows o o' (inr h) =
    let more : List Event = h.1.0 in
    let e : o'.events ≡ o.events ++ more = h.1.1 in
    let r : records_of o'.events ≡ records_of o.events ++ records_of more = ap records_of e ∙ records_append o.events more in
    record {
      same = λ l. let z : ◌≡◌ {A = Bool} true false = sym h.0 ∙ l in cc;
      opens = (records_of more, r);
      no_fewer_records = let n = ap length r ∙ length-append (records_of o.events) (records_of more) in omega arith;
      no_fewer_comparisons = subst (λ (l : List Event). comparisons_of o.events ≤ comparisons_of l) (sym e) (comparisons_append o.events more);
      no_shallower = subst (λ (l : List Event). deepest o.events ≤ deepest l) (sym e) (deepest_append o.events more);
    }

pub reading_grows : {N : Type 0} (G : Grammar N) (P : Process N) (L L' : Limits) → Below L L' → Grows (reading G L P) (reading G L' P)
reading_grows G P L L' b = agree_grows (reading G L P) (reading G L' P) (rw (exact L L' b G P) (cut_agrees L start (reading G L' P)))
