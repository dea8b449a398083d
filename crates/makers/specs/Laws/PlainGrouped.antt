-- A process of three parts reads the same whichever two are grouped: what follows an operand may be taken with the operand or with what
-- comes after it. Assumes nothing.
use Rattle.std.specs.Prelude.{◌≡◌, refl, List, ◌++◌, ℕ, ◌-◌}
use Rattle.std.proofs.Common.{ap, ◌∙◌, append_assoc}
use Rattle.std.proofs.Math.Path.{subst⁻¹}
use Rattle.characters.specs.declared.place.Place.{Place}
use Rattle.reading.specs.declared.node.Node.{Node}
use Rattle.reading.specs.declared.tally.Tally.{Tally}
use Rattle.reading.specs.Outs.{Out}
use Rattle.reading.specs.Events.{Event, End, Done, Stop, Crossed, Spent, Outcome, steps}
use Rattle.reading.specs.Limits.{Limits, limited}
use Rattle.reading.specs.Process.{Process, Grammar, bind, joined, after, under, run}
use Rattle.reading.specs.Says.{Layout, Says, Does}
use Rattle.reading.proofs.Laws.Counts.{steps_append}

-- after some events an outcome goes on as it does without them
more_events : (t : Tally) (es : List Event) (e : End) (fs : List Event) (g : Place → Node → Tally → Outcome)
    → joined t e (es ++ fs) g
    ≡ record { end = (joined (steps es t) e fs g).end; events = es ++ (joined (steps es t) e fs g).events }
unfolding joined
more_events t es (Done p n) fs g =
    let u : Tally = steps fs (steps es t) in
    ap (λ (v : Tally). record { end = (g p n v).end; events = (es ++ fs) ++ (g p n v).events }) (steps_append es fs t)
    ∙ ap (λ (l : List Event). record { end = (g p n u).end; events = l }) (append_assoc es fs (g p n u).events)
more_events t es (Stop k p) fs g = refl
more_events t es (Crossed w p) fs g = refl
more_events t es (Spent p) fs g = refl

joined_grouped : (t : Tally) (e : End) (es : List Event) (f g : Place → Node → Tally → Outcome)
    → after t (joined t e es f) g ≡ joined t e es (λ p n u. after u (f p n u) g)
unfolding after joined
joined_grouped t (Done p n) es f g = more_events t es (f p n (steps es t)).end (f p n (steps es t)).events g
joined_grouped t (Stop k p) es f g = refl
joined_grouped t (Crossed w p) es f g = refl
joined_grouped t (Spent p) es f g = refl

under_grouped : {N : Type 0} (sub : N → Place → Tally → Outcome) (L : Limits) (t : Tally) (x : Process N) (k l : Place → Node → Process N)
    → under sub L t (bind (bind x k) l) ≡ under sub L t (bind x (λ p n. bind (k p n) l))
unfolding under after
under_grouped sub L t x k l =
    joined_grouped t (under sub L t x).end (under sub L t x).events (λ p n u. under sub L u (k p n)) (λ p n u. under sub L u (l p n))

pub grouped : {M N : Type 0} {w : Layout M} {G : Grammar N} {cap comps left : ℕ} {t : Tally} {x : Process N} {k l : Place → Node → Process N} {r : Out} {A B : M}
    → Does w G cap comps left t (bind x (λ p n. bind (k p n) l)) r A B → Does w G cap comps left t (bind (bind x k) l) r A B
grouped {w = w} {G = G} {cap = cap} {comps = comps} {left = left} {t = t} {x = x} {k = k} {l = l} {r = r} {A = A} {B = B} d =
    record {
      says = λ nest i.
          subst⁻¹ (λ (o : Outcome). Says w o t r A B)
          (under_grouped (run G (limited nest cap comps) left (nest - left)) (limited nest cap comps) t x k l)
          (d.says nest i);
    }
