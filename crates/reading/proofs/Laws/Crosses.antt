-- A cut ends by a limit exactly where the whole first crosses it. Every list of events is inside the limits, where the cut is the
-- whole, or has a first event over one, where the cut ends. Assumes nothing.
use Rattle.std.specs.Prelude.{◌≡◌, ◌⊎◌, ◌↔◌, Bool, true, false, ℕ}
use Rattle.std.proofs.Math.Path.{refl, ap}
use Rattle.std.proofs.Common.{sym, subst, ◌∙◌, arith}
use Rattle.std.proofs.Math.Logic.{inl, inr}
use mathlib.Core.List.{List, [], ◌∷◌, ◌++◌}
use Rattle.characters.specs.declared.place.Place.{Place}
use Rattle.reading.specs.declared.tally.Tally.{Tally}
use Rattle.reading.specs.Events.{Event, Which, End, Crossed, Outcome, cons, step, steps}
use Rattle.reading.specs.Limits.{Limits, Verdict, goes, over, judge, cutting, cut}
use Rattle.reading.specs.Demands.{by_limit, Inside, Crosses}

module _ (L : Limits) where
  crossed_cut : (t : Tally) (end : End) (w : Which) (p : Place) (before : List Event) (e : Event) (rest : List Event) → Inside L t before
      → judge L (steps before t) e ≡ over w p → (cutting L t end (before ++ (e ∷ rest))).end ≡ Crossed w p
  unfolding cutting steps
  crossed_cut t end w p [] e rest i c = rw c
  crossed_cut t end w p (x ∷ xs) e rest i c = rw i.0 (crossed_cut (step x t) end w p xs e rest i.1 c)

  pub crosses_cut : (t : Tally) (o : Outcome) (w : Which) (p : Place) → Crosses L t o.events w p → (cut L t o).end ≡ Crossed w p
  unfolding cut
  crosses_cut t o w p c = rw c.split (crossed_cut t o.end w p c.before c.event c.rest c.inside c.crossing)

  pub inside_or_crosses : (t : Tally) (es : List Event) → Inside L t es ⊎ ((w : Which) × (p : Place) × Crosses L t es w p)
  unfolding steps
  inside_or_crosses t [] = inl tt
  inside_or_crosses t (e ∷ es) = go (judge L t e) refl (inside_or_crosses (step e t) es)
    where
      go : (v : Verdict) → judge L t e ≡ v → Inside L (step e t) es ⊎ ((w : Which) × (p : Place) × Crosses L (step e t) es w p)
          → Inside L t (e ∷ es) ⊎ ((w : Which) × (p : Place) × Crosses L t (e ∷ es) w p)
      go (over w p) j h = inr (w, p, record { before = []; event = e; rest = es; split = refl; inside = tt; crossing = j })
      go goes j (inl i) = inl (j, i)
      go goes j (inr c) =
          inr (
            c.0,
            c.1,
            record {
              before = e ∷ c.2.before;
              event = c.2.event;
              rest = c.2.rest;
              split = ap (λ (m : List Event). e ∷ m) c.2.split;
              inside = (j, c.2.inside);
              crossing = c.2.crossing;
            },
          )

  cutting_inside : (t : Tally) (end : End) (es : List Event) → Inside L t es → cutting L t end es ≡ record { end = end; events = es }
  unfolding cutting
  cutting_inside t end [] i = refl
  cutting_inside t end (e ∷ es) i = rw i.0 (ap (cons e) (cutting_inside (step e t) end es i.1))

  -- What is inside is not cut.
  pub cut_inside : (t : Tally) (o : Outcome) → Inside L t o.events → cut L t o ≡ o
  unfolding cut
  cut_inside t o i = cutting_inside t o.end o.events i

  -- The first crossing, where the whole does not itself end by a limit.
  pub cut_exactly : (t : Tally) (o : Outcome) (w : Which) (p : Place) → by_limit o.end ≡ false
      → ((cut L t o).end ≡ Crossed w p) ↔ Crosses L t o.events w p
  cut_exactly t o w p l = (λ e. go (inside_or_crosses t o.events) e, crosses_cut t o w p)
    where
      go : Inside L t o.events ⊎ ((v : Which) × (q : Place) × Crosses L t o.events v q) → (cut L t o).end ≡ Crossed w p
          → Crosses L t o.events w p
      go (inl i) e =
          let whole : o.end ≡ Crossed w p = ap (λ (x : Outcome). x.end) (sym (cut_inside t o i)) ∙ e in
          absurd (let z : ◌≡◌ {A = Bool} true false = sym (ap by_limit whole) ∙ l in let y : ◌≡◌ {A = ℕ} 0 1 = cc in omega arith)
      go (inr c) e =
          let x : Crossed c.0 c.1 ≡ Crossed w p = sym (crosses_cut t o c.0 c.1 c.2) ∙ e in
          let a : c.0 ≡ w = cc in
          let b : c.1 ≡ p = cc in
          subst (λ (v : Which). Crosses L t o.events v p) a (subst (λ (q : Place). Crosses L t o.events c.0 q) b c.2)
