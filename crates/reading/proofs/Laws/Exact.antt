-- EXACT: a reading with lower limits is the reading with higher limits, or with none, cut. By induction over the process, and over
-- the levels left: cutting goes through each event and through one process after another. Assumes nothing.
use Rattle.std.specs.Prelude.{◌≡◌, ◌⊎◌, Bool, Err, Ok}
use Rattle.std.proofs.Math.Path.{refl, sym, ap}
use Rattle.std.proofs.Common.{◌∙◌, inl, inr, arith, ltb-true, lt-ltb, leb-true, le-leb}
use mathlib.Core.List.{List, [], ◌∷◌}
use Rattle.std.proofs.Math.Bool.{true, false}
use Prim.Native.Nat.{ℕ, zero, suc, ◌+◌, ◌≤◌, ◌<◌}
use Rattle.std.proofs.lemmas.Bool.{lt-leb}
use Rattle.characters.specs.declared.place.Place.{Place}
use Rattle.characters.specs.Answers.{found, missing}
use Rattle.reading.specs.declared.node.Node.{Node}
use Rattle.reading.specs.declared.tally.Tally.{Tally}
use Rattle.reading.specs.Events.{Event, entered, recorded, compared, numbered, Which, levels, records, comparisons, End, Done, Stop, Crossed, Spent, Outcome, ended, cons, start, step, steps}
use Rattle.reading.specs.Limits.{Bound, upto, none, Limits, free, room, Verdict, goes, over, verdict, judge, judged, guarded, cutting, cut}
use Rattle.reading.specs.Process.{Process, done, stop, spent, make, compare, fresh, call, test, look, must, bind, Grammar, node_of, plain, joined, after, under, run, outside, reading}
use Rattle.reading.specs.Demands.{◌⊑◌, Below}

-- A bound that is no lower has room where the first has.
room_more : (a b : Bound) → a ⊑ b → (k : ℕ) → room a k ≡ true → room b k ≡ true
unfolding room
room_more (upto a) (upto b) h k e = let l : k < a = ltb-true k a e in lt-ltb k b (omega arith)
room_more (upto a) none h k e = refl
room_more none (upto b) h k e = absurd h
room_more none none h k e = refl

pub below_none : (b : Bound) → b ⊑ none
below_none (upto a) = tt
below_none none = tt

pub below_same : (b : Bound) → b ⊑ b
below_same (upto a) = omega arith
below_same none = tt

-- Limits without any bound but on levels are no lower, if their levels are not.
pub below_free : (L : Limits) (n : ℕ) → L.levels ≤ n → Below L (free n)
below_free L n h = record { levels = h; records = below_none L.records; comparisons = below_none L.comparisons }

verdict_below : (a b : Bool) (w : Which) (p : Place) → (a ≡ true → b ≡ true) → (verdict b w p ≡ goes) ⊎ (verdict a w p ≡ verdict b w p)
unfolding verdict
verdict_below a true w p h = inl refl
verdict_below true false w p h = let z : ◌≡◌ {A = Bool} false true = h refl in inl (cc)
verdict_below false false w p h = inr refl

-- The higher limits let an event pass, or judge it as the lower do.
judge_below : (L L' : Limits) → Below L L' → (t : Tally) (e : Event) → (judge L' t e ≡ goes) ⊎ (judge L t e ≡ judge L' t e)
unfolding judge
judge_below L L' b t (entered n p) =
    verdict_below _ _ levels p (λ e. le-leb n L'.levels (let l = leb-true n L.levels e in let m = b.levels in omega arith))
judge_below L L' b t (recorded r p) = verdict_below _ _ records p (room_more L.records L'.records b.records t.records)
judge_below L L' b t (compared p) =
    verdict_below _ _ comparisons p (room_more L.comparisons L'.comparisons b.comparisons t.comparisons)
judge_below L L' b t (numbered p) = inl refl

module _ (L : Limits) where
  cut_judged : (t : Tally) (e : Event) (o : Outcome) (v : Verdict) → (v ≡ goes) ⊎ (judge L t e ≡ v)
      → cut L t (judged v e o) ≡ guarded L t e (cut L (step e t) o)
  unfolding cut judged
  cut_judged t e o goes h = refl
  cut_judged t e o (over w p) (inl h) = cc
  cut_judged t e o (over w p) (inr h) = rw h

  -- Cutting what one event begins.
  cut_guarded : (L' : Limits) → Below L L' → (t : Tally) (e : Event) (o : Outcome)
      → cut L t (guarded L' t e o) ≡ guarded L t e (cut L (step e t) o)
  unfolding guarded
  cut_guarded L' b t e o = cut_judged t e o (judge L' t e) (judge_below L L' b t e)

  joined_cons : (t : Tally) (e : Event) (end : End) (es : List Event) (f : Place → Node → Tally → Outcome)
      → joined t end (e ∷ es) f ≡ cons e (joined (step e t) end es f)
  unfolding joined
  joined_cons t e (Done p n) es f = refl
  joined_cons t e (Stop k p) es f = refl
  joined_cons t e (Crossed w p) es f = refl
  joined_cons t e (Spent p) es f = refl

  after_judged : (t : Tally) (e : Event) (o : Outcome) (f : Place → Node → Tally → Outcome) (v : Verdict)
      → judged v e (after (step e t) o f) ≡ after t (judged v e o) f
  unfolding judged after
  after_judged t e o f goes = sym (joined_cons t e o.end o.events f)
  after_judged t e o f (over w p) = refl

  -- Cutting one after the other.
  cut_joined : (t : Tally) (end : End) (es : List Event) (f : Place → Node → Tally → Outcome)
      → cut L t (joined t end es f) ≡ after t (cutting L t end es) (λ p n u. cut L u (f p n u))
  unfolding cut after
  cut_joined t (Done p n) [] f = refl
  cut_joined t (Stop k p) [] f = refl
  cut_joined t (Crossed w p) [] f = refl
  cut_joined t (Spent p) [] f = refl
  cut_joined t end (e ∷ es) f =
      ap (cut L t) (joined_cons t e end es f)
      ∙ ap (guarded L t e) (cut_joined (step e t) end es f)
      ∙ after_judged t e (cutting L (step e t) end es) (λ p n u. cut L u (f p n u)) (judge L t e)

joined_same : (t : Tally) (end : End) (es : List Event) (f g : Place → Node → Tally → Outcome)
    → ((p : Place) (n : Node) (u : Tally) → f p n u ≡ g p n u) → joined t end es f ≡ joined t end es g
unfolding joined
joined_same t (Done p n) es f g h = rw (h p n (steps es t))
joined_same t (Stop k p) es f g h = refl
joined_same t (Crossed w p) es f g h = refl
joined_same t (Spent p) es f g h = refl

after_same : (t : Tally) (o : Outcome) (f g : Place → Node → Tally → Outcome) → ((p : Place) (n : Node) (u : Tally) → f p n u ≡ g p n u)
    → after t o f ≡ after t o g
unfolding after
after_same t o f g h = joined_same t o.end o.events f g h

module _ {N : Type 0} (L L' : Limits) (b : Below L L') where
  module _ (sub sub' : N → Place → Tally → Outcome) (h : (nt : N) (p : Place) (t : Tally) → sub nt p t ≡ cut L t (sub' nt p t)) where
    pub under_cut : (P : Process N) (t : Tally) → under sub L t P ≡ cut L t (under sub' L' t P)
    unfolding under cut
    under_cut (done p n) t = refl
    under_cut (stop k p) t = refl
    under_cut (spent p) t = refl
    under_cut (make p r v) t = sym (cut_guarded L L' b t (recorded r p) (ended (Done p (node_of t r v))))
    under_cut (compare p) t = sym (cut_guarded L L' b t (compared p) (ended (Done p (plain 0 p))))
    under_cut (fresh p) t = sym (cut_guarded L L' b t (numbered p) (ended (Done p (plain (t.ids + 1) p))))
    under_cut (call nt p) t = h nt p t
    under_cut (test true x y) t = under_cut x t
    under_cut (test false x y) t = under_cut y t
    under_cut (look (found q n) f g) t = under_cut (f q n) t
    under_cut (look (missing q) f g) t = under_cut (g q) t
    under_cut (look (Err e) f g) t = refl
    under_cut (must (Ok x) f) t = under_cut (f x.here x.next) t
    under_cut (must (Err e) f) t = refl
    under_cut (bind x k) t =
        ap (λ (o : Outcome). after t o (λ p n u. under sub L u (k p n))) (under_cut x t)
        ∙ after_same t (cut L t (under sub' L' t x)) (λ p n u. under sub L u (k p n)) (λ p n u. cut L u (under sub' L' u (k p n))) (λ p n u. under_cut (k p n) u)
        ∙ sym (cut_joined L t (under sub' L' t x).end (under sub' L' t x).events (λ p n u. under sub' L' u (k p n)))

  module _ (G : Grammar N) where
    -- Both readers stand at level d, each with what its limit leaves.
    pub run_cut : (left left' d : ℕ) → d + left ≡ L.levels → d + left' ≡ L'.levels → (nt : N) (p : Place) (t : Tally)
        → run G L left d nt p t ≡ cut L t (run G L' left' d nt p t)
    unfolding run cut
    run_cut zero zero d e e' nt p t = refl
    run_cut zero (suc m) d e e' nt p t = rw (lt-leb (suc d) L.levels (omega arith))
    run_cut (suc k) zero d e e' nt p t = let m = b.levels in absurd (omega arith)
    run_cut (suc k) (suc m) d e e' nt p t =
        rw (le-leb (suc d) L.levels (omega arith))
        (ap (cons (entered (suc d) p))
        (under_cut (run G L k (suc d)) (run G L' m (suc d)) (run_cut k m (suc d) (omega arith) (omega arith)) (G nt p) t))

    -- Between any two sets of limits, the second's each at least the first's.
    pub exact : (P : Process N) → reading G L P ≡ cut L start (reading G L' P)
    unfolding reading
    exact P =
        let both = run_cut L.levels L'.levels outside (omega arith) (omega arith) in
        under_cut (run G L L.levels outside) (run G L' L'.levels outside) both P start
