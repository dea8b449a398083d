-- What follows for the unlimited reading of a grammar that suits: it ends by no limit and by no loop that ran out, with a proper
-- refusal or none, and each of its records is fine after those before it. By induction over the process, and over the levels left,
-- which the measure stays below. Assumes nothing.
use Rattle.std.specs.Prelude.{◌≡◌, refl, T, length, Err, Ok}
use Rattle.std.proofs.Common.{sym, ◌∙◌, arith, length-append}
use Rattle.std.proofs.Math.Path.{ap, subst}
use mathlib.Core.List.{List, [], ◌∷◌, ◌++◌, append-nil, append_assoc}
use Rattle.std.proofs.Math.Bool.{true, false}
use Prim.Native.Nat.{ℕ, zero, suc, ◌+◌, ◌≤◌, ◌<◌}
use Rattle.characters.specs.declared.place.Place.{Place}
use Rattle.characters.specs.Answers.{found, missing}
use Rattle.reading.specs.declared.node.Node.{Node}
use Rattle.reading.specs.declared.tally.Tally.{Tally}
use Rattle.reading.specs.Events.{Rec, Event, End, Done, Stop, Crossed, Spent, Outcome, records_of, steps}
use Rattle.reading.specs.Limits.{free}
use Rattle.reading.specs.Process.{Process, done, stop, spent, make, compare, fresh, call, test, look, must, bind, Grammar, node_as, joined, under, run}
use Rattle.reading.specs.Suits.{proper, Since, With, Claim, Choice, Meets, AllFine}
use Rattle.reading.proofs.Laws.Grows.{records_append}
use Rattle.reading.proofs.Laws.Counts.{tally_records}

-- Nothing made yet; one made; and one after the other.
pub since_same : (before : List Rec) → Since before before
since_same before = record { more = []; opens = sym (append-nil before); longer = omega arith }

pub since_append : (before more : List Rec) → Since before (before ++ more)
since_append before more = record { more = more; opens = refl; longer = let l = length-append before more in omega arith }

pub since_with : {before now : List Rec} {r : Rec} → With before r now → Since before now
since_with {before} {now} {r} w = record { more = r ∷ []; opens = w.is; longer = omega arith }

pub since_trans : {a b c : List Rec} → Since a b → Since b c → Since a c
since_trans {a} {b} {c} x y =
    record {
      more = x.more ++ y.more;
      opens = y.opens ∙ ap (λ (l : List Rec). l ++ y.more) x.opens ∙ append_assoc a x.more y.more;
      longer = omega arith;
    }

with_one : (before : List Rec) (r : Rec) → With before r (before ++ (r ∷ []))
with_one before r = record { is = refl; longer = let l = length-append before (r ∷ []) in omega arith }

-- How a process that meets a claim ends.
abbrev pub Ends : List Rec → Claim → End → Type 0
Ends now Q (Done p n) = Q now p n
Ends now Q (Stop k p) = T (proper k)
Ends now Q (Crossed w p) = ⊥
Ends now Q (Spent p) = ⊥

module _ {N : Type 0} (C : Choice N) where
  -- What is promised of an outcome that begins after these records.
  pub record Holds (before : List Rec) (Q : Claim) (end : End) (es : List Event) : Type 0 where
    pub ends : Ends (before ++ records_of es) Q end
    pub fine : AllFine C before (records_of es)

  fine_append : (before xs ys : List Rec) → AllFine C before xs → AllFine C (before ++ xs) ys → AllFine C before (xs ++ ys)
  fine_append before [] ys h k = rw append-nil at k
  fine_append before (r ∷ xs) ys h k =
      let k' = subst (λ (l : List Rec). AllFine C l ys) (sym (append_assoc before (r ∷ []) xs)) k in
      (h.0, fine_append (before ++ (r ∷ [])) xs ys h.1 k')

  pub fine_open : (before xs ys : List Rec) → AllFine C before (xs ++ ys) → AllFine C before xs
  fine_open before [] ys h = tt
  fine_open before (r ∷ xs) ys h = (h.0, fine_open (before ++ (r ∷ [])) xs ys h.1)

  -- A weaker claim.
  weaken : (before : List Rec) (Q R : Claim) (end : End) (es : List Event)
      → ((now : List Rec) (q : Place) (n : Node) → Since before now → Q now q n → R now q n) → Holds before Q end es → Holds before R end es
  weaken before Q R (Done p n) es f h = record { ends = f (before ++ records_of es) p n (since_append before (records_of es)) h.ends; fine = h.fine }
  weaken before Q R (Stop k p) es f h = record { ends = h.ends; fine = h.fine }
  weaken before Q R (Crossed w p) es f h = absurd h.ends
  weaken before Q R (Spent p) es f h = absurd h.ends

  -- The tally's count of records, after these events.
  counted : (before : List Rec) (es : List Event) (t : Tally) → t.records ≡ length before
      → (steps es t).records ≡ length (before ++ records_of es)
  counted before es t e = let a = tally_records es t in let b = length-append before (records_of es) in omega arith

  -- One after the other.
  holds_joined : (before : List Rec) (t : Tally) (Q R : Claim) (end : End) (es : List Event) (f : Place → Node → Tally → Outcome)
      → t.records ≡ length before → Holds before R end es
      → ((now : List Rec) (u : Tally) (p : Place) (n : Node) → u.records ≡ length now → R now p n → Holds now Q (f p n u).end (f p n u).events)
      → Holds before Q (joined t end es f).end (joined t end es f).events
  unfolding joined
  holds_joined before t Q R (Done p n) es f e h g =
      let u : Tally = steps es t in
      let k = g (before ++ records_of es) u p n (counted before es t e) h.ends in
      let fs : List Event = (f p n u).events in
      let r : records_of (es ++ fs) ≡ records_of es ++ records_of fs = records_append es fs in
      let a : (before ++ records_of es) ++ records_of fs ≡ before ++ records_of (es ++ fs) =
      append_assoc before (records_of es) (records_of fs) ∙ ap (λ (l : List Rec). before ++ l) (sym r)
      in
      record {
        ends = subst (λ (l : List Rec). Ends l Q (f p n u).end) a k.ends;
        fine = subst (AllFine C before) (sym r) (fine_append before (records_of es) (records_of fs) h.fine k.fine);
      }
  holds_joined before t Q R (Stop k p) es f e h g = record { ends = h.ends; fine = h.fine }
  holds_joined before t Q R (Crossed w p) es f e h g = absurd h.ends
  holds_joined before t Q R (Spent p) es f e h g = absurd h.ends

  nothing : (before : List Rec) (Q : Claim) (end : End) → Ends before Q end → Holds before Q end []
  unfolding records_of
  nothing before Q end h = record { ends = subst (λ (l : List Rec). Ends l Q end) (sym (append-nil before)) h; fine = tt }

  -- What is done a level deeper holds to the routines' claims, for routines of a measure below m.
  abbrev Deeper : ℕ → (N → Place → Tally → Outcome) → Type 0
  Deeper m sub =
      (nt : N) (p : Place) (before : List Rec) (t : Tally) → t.records ≡ length before → C.asks nt p before → C.measure nt p < m
      → Holds before (C.claim nt p before) (sub nt p t).end (sub nt p t).events

  module _ (lv m : ℕ) (sub : N → Place → Tally → Outcome) (h : Deeper m sub) where
    under_meets : (P : Process N) (before : List Rec) (t : Tally) (Q : Claim) → t.records ≡ length before → Meets C m before Q P
        → Holds before Q (under sub (free lv) t P).end (under sub (free lv) t P).events
    unfolding under steps records_of
    under_meets (done p n) before t Q e k = nothing before Q (Done p n) k
    under_meets (stop j p) before t Q e k = nothing before Q (Stop j p) k
    under_meets (spent p) before t Q e k = absurd k
    under_meets (make p r v) before t Q e k =
        record {
          ends = subst (λ (i : ℕ). Q (before ++ (r ∷ [])) p (node_as (i + 1) r v)) (sym e) (k.1 (before ++ (r ∷ [])) (with_one before r));
          fine = (k.0, tt);
        }
    under_meets (compare p) before t Q e k = record { ends = rw append-nil k; fine = tt }
    under_meets (fresh p) before t Q e k = record { ends = rw append-nil (k (t.ids + 1)); fine = tt }
    under_meets (call nt p) before t Q e k = weaken before (C.claim nt p before) Q (sub nt p t).end (sub nt p t).events k.2 (h nt p before t e k.0 k.1)
    under_meets (test true x y) before t Q e k = under_meets x before t Q e k
    under_meets (test false x y) before t Q e k = under_meets y before t Q e k
    under_meets (look (found q n) f g) before t Q e k = under_meets (f q n) before t Q e k
    under_meets (look (missing q) f g) before t Q e k = under_meets (g q) before t Q e k
    under_meets (look (Err x) f g) before t Q e k = nothing before Q (Stop x.refusal x.at) k
    under_meets (must (Ok x) f) before t Q e k = under_meets (f x.here x.next) before t Q e k
    under_meets (must (Err x) f) before t Q e k = nothing before Q (Stop x.refusal x.at) k
    under_meets (bind x f) before t Q e k =
        holds_joined before t Q (λ now q n. Meets C m now Q (f q n)) (under sub (free lv) t x).end (under sub (free lv) t x).events (λ p n u. under sub (free lv) u (f p n)) e
        (under_meets x before t (λ now q n. Meets C m now Q (f q n)) e k)
        (λ now u p n e' r. under_meets (f p n) now u Q e' r)

  -- What each rule has to meet.
  abbrev Rules : Grammar N → Type 0
  Rules G = (nt : N) (p : Place) (before : List Rec) → C.asks nt p before → Meets C (C.measure nt p) before (C.claim nt p before) (G nt p)

  module _ (G : Grammar N) (rules : Rules G) where
    run_meets : (lv left d : ℕ) (nt : N) (p : Place) (before : List Rec) (t : Tally) → t.records ≡ length before
        → C.asks nt p before → C.measure nt p < left
        → Holds before (C.claim nt p before) (run G (free lv) left d nt p t).end (run G (free lv) left d nt p t).events
    unfolding run records_of
    run_meets lv zero d nt p before t e a l = absurd (omega arith)
    run_meets lv (suc left) d nt p before t e a l =
        let deeper : Deeper (C.measure nt p) (run G (free lv) left (suc d)) =
        λ nt' p' before' t' e' a' l'.
        let x : C.measure nt' p' < C.measure nt p = l' in
        let y : C.measure nt p < suc left = l in
        run_meets lv left (suc d) nt' p' before' t' e' a' (omega arith)
        in
        let u = under_meets lv (C.measure nt p) (run G (free lv) left (suc d)) deeper (G nt p) before t (C.claim nt p before) e (rules nt p before a) in
        record { ends = u.ends; fine = u.fine }

    -- A process that calls only routines of a measure below `bound`, with so many levels left or more.
    pub whole_meets : (bound lv d : ℕ) (P : Process N) (before : List Rec) (t : Tally) (Q : Claim) → bound ≤ lv → t.records ≡ length before
        → Meets C bound before Q P
        → Holds before Q (under (run G (free lv) lv d) (free lv) t P).end (under (run G (free lv) lv d) (free lv) t P).events
    whole_meets bound lv d P before t Q b e h =
        under_meets lv bound (run G (free lv) lv d)
        (λ nt p before' t' e' a l. run_meets lv lv d nt p before' t' e' a (let x : C.measure nt p < bound = l in omega arith))
        P before t Q e h
