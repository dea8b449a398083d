-- COUNTS: the tally that is carried holds the counts of the events, and no count passes its limit. What a cut keeps is inside the
-- limits, and by EXACT each reading is its own cut. Assumes nothing.
use Rattle.std.specs.Prelude.{◌≡◌, refl, List, [], ◌∷◌, ◌++◌, Bool, true, false, ℕ, ◌+◌, ◌-◌, ◌≤◌, length, leb}
use Rattle.std.proofs.Common.{sym, ◌∙◌, arith, ltb-true, leb-true}
use Rattle.std.proofs.Math.Path.{subst}
use Rattle.characters.specs.declared.place.Place.{Place}
use Rattle.reading.specs.declared.tally.Tally.{Tally}
use Rattle.reading.specs.Events.{Event, entered, recorded, compared, numbered, Which, End, Outcome, records_of, comparisons_of, deepest, start, step, steps}
use Rattle.reading.specs.Limits.{Bound, upto, none, Limits, limited, room, Verdict, goes, over, verdict, judge, judged, cutting, cut}
use Rattle.reading.specs.Process.{Process, Grammar, under, run, reading}
use Rattle.reading.specs.Demands.{Below, Inside, AtMost, Counted}
use Rattle.reading.proofs.Laws.Exact.{below_same, under_cut, run_cut, exact}

pub steps_append : (a b : List Event) (t : Tally) → steps (a ++ b) t ≡ steps b (steps a t)
unfolding steps
steps_append [] b t = refl
steps_append (e ∷ a) b t = steps_append a b (step e t)

pub tally_records : (es : List Event) (t : Tally) → (steps es t).records ≡ t.records + length (records_of es)
unfolding steps records_of
tally_records [] t = omega arith
tally_records (entered n p ∷ es) t = tally_records es t
tally_records (recorded r p ∷ es) t =
    let z : (steps es (step (recorded r p) t)).records ≡ t.records + 1 + length (records_of es) = tally_records es (step (recorded r p) t) in
    omega arith
tally_records (compared p ∷ es) t = tally_records es (step (compared p) t)
tally_records (numbered p ∷ es) t = tally_records es (step (numbered p) t)

pub tally_comparisons : (es : List Event) (t : Tally) → (steps es t).comparisons ≡ t.comparisons + comparisons_of es
unfolding steps comparisons_of
tally_comparisons [] t = omega arith
tally_comparisons (entered n p ∷ es) t = tally_comparisons es t
tally_comparisons (recorded r p ∷ es) t = tally_comparisons es (step (recorded r p) t)
tally_comparisons (compared p ∷ es) t =
    let z : (steps es (step (compared p) t)).comparisons ≡ t.comparisons + 1 + comparisons_of es = tally_comparisons es (step (compared p) t) in
    omega arith
tally_comparisons (numbered p ∷ es) t = tally_comparisons es (step (numbered p) t)

cutting_kept : (L : Limits) (t : Tally) (end : End) (es : List Event) → Inside L t (cutting L t end es).events
unfolding cutting
cutting_kept L t end [] = tt
cutting_kept L t end (e ∷ es) = go (judge L t e) refl (cutting_kept L (step e t) end es)
  where
    go : (v : Verdict) → judge L t e ≡ v → Inside L (step e t) (cutting L (step e t) end es).events
        → Inside L t (judged v e (cutting L (step e t) end es)).events
    go goes j h = (j, h)
    go (over w p) j h = tt

below_itself : (L : Limits) → Below L L
below_itself L = record { levels = omega arith; records = below_same L.records; comparisons = below_same L.comparisons }

-- Every event of a reading is within its limits.
pub reading_inside : {N : Type 0} (G : Grammar N) (L : Limits) (P : Process N) → Inside L start (reading G L P).events
unfolding cut
reading_inside G L P =
    subst (λ (o : Outcome). Inside L start o.events) (sym (exact L L (below_itself L) G P))
    (cutting_kept L start (reading G L P).end (reading G L P).events)

passed : (b : Bool) (w : Which) (p : Place) → verdict b w p ≡ goes → b ≡ true
unfolding verdict
passed true w p h = refl
passed false w p h = cc

inside_levels : (L : Limits) (t : Tally) (es : List Event) → Inside L t es → deepest es ≤ L.levels
unfolding deepest judge step
inside_levels L t [] h = omega arith
inside_levels L t (entered n p ∷ es) h =
    let a = inside_levels L t es h.1 in
    let b = leb-true n L.levels (passed (leb n L.levels) _ p h.0) in
    omega arith
inside_levels L t (recorded r p ∷ es) h = inside_levels L (step (recorded r p) t) es h.1
inside_levels L t (compared p ∷ es) h = inside_levels L (step (compared p) t) es h.1
inside_levels L t (numbered p ∷ es) h = inside_levels L (step (numbered p) t) es h.1

-- Where there is room for one more, one more is within.
one_more : (b : Bound) (k : ℕ) → room b k ≡ true → AtMost (k + 1) b
unfolding room
one_more (upto n) k h = let l = ltb-true k n h in omega arith
one_more none k h = tt

none_yet : (b : Bound) → AtMost 0 b
none_yet (upto n) = omega arith
none_yet none = tt

inside_records : (L : Limits) (t : Tally) (es : List Event) → AtMost t.records L.records → Inside L t es
    → AtMost (steps es t).records L.records
unfolding steps judge
inside_records L t [] l h = l
inside_records L t (entered k p ∷ es) l h = inside_records L t es l h.1
inside_records L t (recorded r p ∷ es) l h =
    inside_records L (step (recorded r p) t) es (one_more L.records t.records (passed (room L.records t.records) _ p h.0)) h.1
inside_records L t (compared p ∷ es) l h = inside_records L (step (compared p) t) es l h.1
inside_records L t (numbered p ∷ es) l h = inside_records L (step (numbered p) t) es l h.1

inside_comparisons : (L : Limits) (t : Tally) (es : List Event) → AtMost t.comparisons L.comparisons → Inside L t es
    → AtMost (steps es t).comparisons L.comparisons
unfolding steps judge
inside_comparisons L t [] l h = l
inside_comparisons L t (entered k p ∷ es) l h = inside_comparisons L t es l h.1
inside_comparisons L t (recorded r p ∷ es) l h = inside_comparisons L (step (recorded r p) t) es l h.1
inside_comparisons L t (compared p ∷ es) l h =
    inside_comparisons L (step (compared p) t) es (one_more L.comparisons t.comparisons (passed (room L.comparisons t.comparisons) _ p h.0)) h.1
inside_comparisons L t (numbered p ∷ es) l h = inside_comparisons L (step (numbered p) t) es l h.1

-- Events within their limits, from the beginning on.
pub inside_counted : (L : Limits) (o : Outcome) → Inside L start o.events → Counted L o
inside_counted L o i =
    let r : (steps o.events start).records ≡ length (records_of o.events) = tally_records o.events start ∙ omega arith in
    let c : (steps o.events start).comparisons ≡ comparisons_of o.events = tally_comparisons o.events start ∙ omega arith in
    record {
      records = r;
      comparisons = c;
      records_within = rw r at (inside_records L start o.events (none_yet L.records) i);
      comparisons_within = rw c at (inside_comparisons L start o.events (none_yet L.comparisons) i);
      levels_within = inside_levels L start o.events i;
    }

-- A process begun at any tally, where all the levels of its limit are left.
module _ {N : Type 0} (G : Grammar N) (cap comps left : ℕ) (t : Tally) (P : Process N) where
  abbrev pub at_first : Outcome
  at_first = under (run G (limited left cap comps) left (left - left)) (limited left cap comps) t P

  first_inside : Inside (limited left cap comps) t at_first.events
  unfolding cut
  first_inside =
      let L : Limits = limited left cap comps in
      let same : at_first ≡ cut L t at_first =
      under_cut L L (below_itself L) (run G L left (left - left)) (run G L left (left - left))
      (run_cut L L (below_itself L) G left left (left - left) (omega arith) (omega arith)) P t
      in
      subst (λ (o : Outcome). Inside L t o.events) (sym same) (cutting_kept L t at_first.end at_first.events)

  -- Records that were within their limit stay so.
  pub first_records : t.records ≤ cap → (steps at_first.events t).records ≤ cap
  first_records h = inside_records (limited left cap comps) t at_first.events h first_inside
